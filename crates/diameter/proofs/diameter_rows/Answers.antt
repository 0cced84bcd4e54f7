-- `diameter_rows` meets its contract: what is refused, and then the diameter by the rows cut to the table's length.
-- Assumes nothing.
use mathlib.Core.Path.{◌≡◌, sym, ap, ◌∙◌}
use mathlib.Core.Option.{none}
use lib.Seq.{length-take-le}
use Rattle.std.proofs.lemmas.Result.{err_from_is_err_and}
use Rattle.network.specs.Networks.{Network}
use Rattle.network.specs.Replies.{check_fault}
use Rattle.tables.specs.Rows.{net_of}
use Rattle.tables.proofs.Faults.{answer-refused, answer-accepted}
use Rattle.tables.proofs.Cuts.{cut-kinds, cut-a, cut-b, cut-net}
use Rattle.refusals.proofs.Dues.{unrefused-fits}
use Rattle.seeking.proofs.Levels.{cut_level}
use Rattle.distances.specs.Diameters.{diameter}
use Rattle.distances.proofs.Answers.{diameter-refused, diameter-given}
use Rattle.diameter.proofs.diameter_rows.Goals as goal

pub returns-in_err-check_refusal : goal.returns-in_err-check_refusal
returns-in_err-check_refusal c =
    let net : Network = net_of c.args.basins c.args.kinds.now c.args.a.now c.args.b.now in
    let p = err_from_is_err_and c.from_residual.result c.from_residual.ensures.1 in
    rw (p.1, p.2) (diameter-refused (net) c.args.setting.now (answer-refused (check_fault (net) c.args.setting.now) _ (sym c.check_refusal.ensures ∙ c.in_err-check_refusal.was)))

pub slice_bounds-diameter_accepted-end : goal.slice_bounds-diameter_accepted-end
slice_bounds-diameter_accepted-end c =
    sym (length-take-le _ c.args.kinds.now (cut-kinds c.args.kinds.now c.args.a.now c.args.b.now c.row_count-m.result c.row_count-m.ensures))

pub slice_bounds-diameter_accepted-end-2 : goal.slice_bounds-diameter_accepted-end-2
slice_bounds-diameter_accepted-end-2 c =
    sym (length-take-le _ c.args.a.now (cut-a c.args.kinds.now c.args.a.now c.args.b.now c.row_count-m.result c.row_count-m.ensures))

pub slice_bounds-diameter_accepted-end-3 : goal.slice_bounds-diameter_accepted-end-3
slice_bounds-diameter_accepted-end-3 c =
    sym (length-take-le _ c.args.b.now (cut-b c.args.kinds.now c.args.a.now c.args.b.now c.row_count-m.result c.row_count-m.ensures))

pub diameter_accepted-requires : goal.diameter_accepted-requires
diameter_accepted-requires c =
    let net : Network = net_of c.args.basins c.args.kinds.now c.args.a.now c.args.b.now in
    let clear : check_fault (net) c.args.setting.now ≡ none = answer-accepted _ (sym c.check_refusal.ensures ∙ c.in_ok-check_refusal.was) in
    cut_level c.args.basins c.args.kinds.now c.args.a.now c.args.b.now c.row_count-m.result c.row_count-m.ensures (unrefused-fits (net) c.args.setting.now (clear)).0

pub returns : goal.returns
returns c =
    let net : Network = net_of c.args.basins c.args.kinds.now c.args.a.now c.args.b.now in
    let clear : check_fault (net) c.args.setting.now ≡ none = answer-accepted _ (sym c.check_refusal.ensures ∙ c.in_ok-check_refusal.was) in
    let fit = unrefused-fits (net) c.args.setting.now (clear) in
    diameter-given (net) c.args.setting.now fit.0 fit.1
    (c.diameter_accepted.ensures ∙ ap (λ (N : Network). diameter N c.args.setting.now) (cut-net c.args.kinds.now c.args.a.now c.args.b.now c.row_count-m.result c.row_count-m.ensures c.args.basins)) c.longest_or_8.ensures
