-- `netfile_writing::file_length` meets its contract. The loop's invariant: the length of a file that ends after the reaches so far.
-- Assumes nothing.
use Prim.Native.Nat.{◌<◌}
use native.Mathlib.Omega.{arith}
use mathlib.Core.Path.{◌≡◌, sym, ap, ◌∙◌}
use lib.ListN.{length, take}
use lib.Seq.{length-take-le}
use Rattle.std.proofs.lemmas.List.{get_or-take}
use Rattle.network.specs.Tables.{state_of}
use Rattle.tables.specs.Rows.{net_of}
use Rattle.tables.proofs.Cuts.{cut-kinds}
use Rattle.netfile_format.specs.Answers.{state_length}
use Rattle.netfile_format.proofs.Writing.{measuring-more, measuring-all}
use Rattle.netfile_writing.proofs.file_length.Goals as goal

pub slice_bounds-state-items-end : goal.slice_bounds-state-items-end
slice_bounds-state-items-end c =
    sym (length-take-le c.row_count-n.result c.args.kinds.now (cut-kinds c.args.kinds.now c.args.a.now c.args.b.now c.row_count-n.result c.row_count-n.ensures))

pub loop-state-preserved : goal.loop-state-preserved
loop-state-preserved c =
    let cut : length (take c.row_count-n.result c.args.kinds.now) ≡ c.row_count-n.result =
    length-take-le c.row_count-n.result c.args.kinds.now (cut-kinds c.args.kinds.now c.args.a.now c.args.b.now c.row_count-n.result c.row_count-n.ensures) in
    let within : c.loop-state.state-index < c.row_count-n.result = omega (arith, cut) in
    measuring-more c.args.kinds.now c.args.a.now c.args.b.now c.loop-state.invariant (omega (arith, within, c.row_count-n.ensures)) c.state_length-size.result
    (c.state_length-size.ensures ∙ ap (λ k. state_length (state_of k)) (get_or-take c.row_count-n.result c.args.kinds.now c.loop-state.state-index 0 within))

pub returns : goal.returns
returns c =
    let cut : length (take c.row_count-n.result c.args.kinds.now) ≡ c.row_count-n.result =
    length-take-le c.row_count-n.result c.args.kinds.now (cut-kinds c.args.kinds.now c.args.a.now c.args.b.now c.row_count-n.result c.row_count-n.ensures) in
    measuring-all (net_of 0 c.args.kinds.now c.args.a.now c.args.b.now) c.loop-state.state-index c.loop-state.size c.loop-state.invariant (omega (arith, cut, c.row_count-n.ensures))
