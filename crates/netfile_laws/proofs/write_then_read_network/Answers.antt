-- `netfile_laws::write_then_read_network` meets its contract, by what the writer and the reader promise.
-- Assumes nothing.
use Rattle.network.specs.declared.Refusal.{Refusal}
use Rattle.std.specs.Prelude.{Ok, Result, ℕ}
use mathlib.Core.Path.{subst}
use Rattle.network.specs.Networks.{Network}
use Rattle.tables.specs.Rows.{net_of}
use Rattle.netfile_format.specs.Answers.{NetworkWritten}
use Rattle.netfile_laws.proofs.RoundTrips.{rows-read-again}
use Rattle.netfile_laws.proofs.write_then_read_network.Goals as goal

pub returns : goal.returns
returns c =
    let net : Network = net_of c.args.basins c.args.kinds.now c.args.a.now c.args.b.now in
    let Wrote : Result ℕ Refusal → Type 0 = λ r. NetworkWritten (net) c.args.out.now r c.write_network.new.out in
    let wrote : Wrote (Ok c.in_ok-n.n) = subst (Wrote) c.in_ok-n.was c.write_network.ensures in
    rows-read-again (net) (wrote) c.read_network.ensures
