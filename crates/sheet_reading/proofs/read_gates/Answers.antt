-- `sheet_reading::read_gates` meets its contract. The loop's invariant: the reading of what is left decides that of the whole.
-- The measure is what is left of the sheet. Assumes nothing.
use Rattle.std.proofs.lemmas.Result.{err_from_is_err_and}
use Prim.Native.Nat.{◌+◌, ◌≤◌}
use native.Mathlib.Omega.{arith}
use mathlib.Core.Path.{sym, ◌∙◌}
use lib.ListN.{length, drop}
use Rattle.sheet_format.proofs.Steps.{GateStood}
use Rattle.sheet_format.proofs.Scan.{sheet-scan-broken, sheet-scan-early, sheet-scan-over, sheet-scan-end, sheet-scan-fits, sheet-scan-after, sheet-scan-other, sheet-scan-next}
use Rattle.sheet_reading.proofs.read_gates.Goals as goal

pub returns-in_err-kind : goal.returns-in_err-kind
returns-in_err-kind c =
    let p = err_from_is_err_and c.from_residual.result c.from_residual.ensures.1 in
    rw (p.1, p.2) (sheet-scan-broken c.loop-kind.invariant c.in_err-kind.field-0.0 (sym c.gate_or_end.ensures ∙ c.in_err-kind.was))

pub returns-then-i-kinds : goal.returns-then-i-kinds
returns-then-i-kinds c =
    let here : GateStood (drop c.loop-kind.at c.args.sheet.now) c.in_ok-kind.kind = sym c.gate_or_end.ensures ∙ c.in_ok-kind.was in
    sheet-scan-early c.loop-kind.invariant (here) c.next_gate-i.ensures c.if-kind-eq-END.true (omega (arith, c.if-i-kinds.true))

pub returns-then-at-sheet : goal.returns-then-at-sheet
returns-then-at-sheet c =
    let here : GateStood (drop c.loop-kind.at c.args.sheet.now) c.in_ok-kind.kind = sym c.gate_or_end.ensures ∙ c.in_ok-kind.was in
    sheet-scan-over c.loop-kind.invariant (here) c.next_gate-i.ensures c.if-kind-eq-END.true (omega (arith, c.if-i-kinds.false)) (omega (arith, c.if-at-sheet.true))

pub returns-then-kind-eq-END : goal.returns-then-kind-eq-END
returns-then-kind-eq-END c =
    let here : GateStood (drop c.loop-kind.at c.args.sheet.now) c.in_ok-kind.kind = sym c.gate_or_end.ensures ∙ c.in_ok-kind.was in
    sheet-scan-end c.loop-kind.invariant (here) c.next_gate-i.ensures c.if-kind-eq-END.true (omega (arith, c.if-i-kinds.false)) (omega (arith, c.if-at-sheet.false))
    c.requires.kinds_in_bounds

pub returns-then-kinds-i : goal.returns-then-kinds-i
returns-then-kinds-i c =
    let here : GateStood (drop c.loop-kind.at c.args.sheet.now) c.in_ok-kind.kind = sym c.gate_or_end.ensures ∙ c.in_ok-kind.was in
    sheet-scan-after c.loop-kind.invariant (here) c.next_gate-i.ensures c.if-kind-eq-END.false c.if-kinds-i.true

pub word_at-requires : goal.word_at-requires
word_at-requires c =
    let here : GateStood (drop c.loop-kind.at c.args.sheet.now) c.in_ok-kind.kind = sym c.gate_or_end.ensures ∙ c.in_ok-kind.was in
    let reach : c.loop-kind.at + 3 ≤ length c.args.sheet.now = sheet-scan-fits c.loop-kind.invariant (here) c.next_gate-i.ensures c.if-kind-eq-END.false in
    omega (arith, reach)

pub returns-then-word_at-i : goal.returns-then-word_at-i
returns-then-word_at-i c =
    let here : GateStood (drop c.loop-kind.at c.args.sheet.now) c.in_ok-kind.kind = sym c.gate_or_end.ensures ∙ c.in_ok-kind.was in
    sheet-scan-other c.loop-kind.invariant (here) c.next_gate-i.ensures c.if-kind-eq-END.false c.if-kinds-i.false
    c.word_at.result c.word_at.ensures (λ e. omega (arith, c.if-word_at-i.true))

pub loop-kind-preserved : goal.loop-kind-preserved
loop-kind-preserved c =
    let here : GateStood (drop c.loop-kind.at c.args.sheet.now) c.in_ok-kind.kind = sym c.gate_or_end.ensures ∙ c.in_ok-kind.was in
    sheet-scan-next c.loop-kind.invariant (here) c.next_gate-i.ensures c.if-kind-eq-END.false c.if-kinds-i.false
    c.word_at.result c.word_at.ensures c.if-word_at-i.false c.requires.kinds_in_bounds c.byte_in.result c.byte_in.ensures
