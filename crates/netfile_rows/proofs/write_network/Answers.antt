-- `netfile_rows::write_network` meets its contract: the check of the table, the room, and then the bytes, stored one after the other.
-- Assumes nothing.
use Prim.Native.Nat.{◌≤◌}
use mathlib.Core.Path.{◌≡◌, sym, ◌∙◌}
use lib.ListN.{length}
use Rattle.network.specs.Networks.{Network, Accepted, table_fault, max_reaches}
use Rattle.network.proofs.Networks.{accepted}
use Rattle.tables.specs.Rows.{net_of}
use Rattle.netfile_format.specs.Files.{file_of}
use Rattle.tables.proofs.Faults.{answer-accepted}
use Rattle.netfile_format.proofs.Calls.{write_done}
use Rattle.netfile_rows.proofs.write_network.Goals as goal

pub file_length-size-requires : goal.file_length-size-requires
file_length-size-requires c =
    let net : Network = net_of c.args.basins c.args.kinds.now c.args.a.now c.args.b.now in
    let sound : Accepted (net) = answer-accepted (table_fault (net)) (sym c.table_check.ensures.answer ∙ c.in_ok-table_check.was) in
    let few : length (net).reaches ≤ max_reaches = (accepted (net) (sound)).few-reaches in
    few

pub returns : goal.returns
returns c =
    let net : Network = net_of c.args.basins c.args.kinds.now c.args.a.now c.args.b.now in
    let sound : Accepted (net) = answer-accepted (table_fault (net)) (sym c.table_check.ensures.answer ∙ c.in_ok-table_check.was) in
    let size : c.file_length-size.result ≡ length (file_of (net)) = c.file_length-size.ensures in
    write_done (net) c.args.out.now (sound) c.file_length-size.result (size) c.put_word.new.out c.put_reaches.new.out
    c.if-out-size.false c.put_word.ensures c.put_reaches.ensures
