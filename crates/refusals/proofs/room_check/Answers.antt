-- `refusals::room_check` meets its contract: the plan buffer, and then the marks buffer.
-- Assumes nothing.
use native.Mathlib.Omega.{arith}
use mathlib.Core.Path.{◌≡◌, sym, ap, ◌∙◌}
use lib.Seq.{length-take-le}
use Rattle.network.specs.Networks.{Network}
use Rattle.network.specs.Settings.{gate_count}
use Rattle.tables.specs.Rows.{net_of}
use Rattle.tables.specs.Answers.{table_answer}
use Rattle.tables.proofs.Cuts.{cut-kinds, cut-gates}
use Rattle.refusals.proofs.Dues.{plan-short, marks-short, long-enough}
use Rattle.refusals.proofs.room_check.Goals as goal

pub slice_bounds-count_gates-end : goal.slice_bounds-count_gates-end
slice_bounds-count_gates-end c =
    sym (length-take-le _ c.args.kinds.now (cut-kinds c.args.kinds.now c.args.a.now c.args.b.now c.row_count-m.result c.row_count-m.ensures))

pub returns-then-plan-count_gates : goal.returns-then-plan-count_gates
returns-then-plan-count_gates c =
    let net : Network = net_of 0 c.args.kinds.now c.args.a.now c.args.b.now in
    let counted : c.count_gates.result ≡ gate_count (net) = c.count_gates.ensures ∙ cut-gates c.args.kinds.now c.args.a.now c.args.b.now c.row_count-m.result c.row_count-m.ensures 0 in
    sym (ap table_answer (plan-short (net) c.args.plan c.args.marks (omega (arith, counted, c.if-plan-count_gates.true))))

pub returns-then-marks-lt-MARK_BYTES : goal.returns-then-marks-lt-MARK_BYTES
returns-then-marks-lt-MARK_BYTES c =
    let net : Network = net_of 0 c.args.kinds.now c.args.a.now c.args.b.now in
    let counted : c.count_gates.result ≡ gate_count (net) = c.count_gates.ensures ∙ cut-gates c.args.kinds.now c.args.a.now c.args.b.now c.row_count-m.result c.row_count-m.ensures 0 in
    sym (ap table_answer (marks-short (net) c.args.plan c.args.marks (omega (arith, counted, c.if-plan-count_gates.false)) (omega (arith, c.if-marks-lt-MARK_BYTES.true))))

pub returns : goal.returns
returns c =
    let net : Network = net_of 0 c.args.kinds.now c.args.a.now c.args.b.now in
    let counted : c.count_gates.result ≡ gate_count (net) = c.count_gates.ensures ∙ cut-gates c.args.kinds.now c.args.a.now c.args.b.now c.row_count-m.result c.row_count-m.ensures 0 in
    sym (ap table_answer (long-enough (net) c.args.plan c.args.marks (omega (arith, counted, c.if-plan-count_gates.false)) (omega (arith, c.if-marks-lt-MARK_BYTES.false))))
