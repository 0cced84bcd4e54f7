-- `comparison::order_lent` meets its contract: what a `&[u8]` holds are bytes.
-- Assumes nothing.
use Rattle.file_records.proofs.Records.{bytes-make}
use Rattle.comparison.proofs.order_lent.Goals as goal

pub returns : goal.returns
returns c = record { ordered = c.order_rows.ensures; first-bytes = bytes-make c.args.first.now (λ i. (c.type_inv.first i).fits); second-bytes = bytes-make c.args.second.now (λ i. (c.type_inv.second i).fits) }
