-- `sheet_reading::read_records` meets its contract: the head, its number, and then the records.
-- Assumes nothing.
use Rattle.std.proofs.lemmas.Result.{err_from_is_err_and}
use Rattle.std.specs.Prelude.{Ok}
use native.Mathlib.Omega.{arith}
use mathlib.Core.Path.{◌≡◌, sym, ◌∙◌}
use Rattle.file_records.specs.Records.{take_record, taken_answer}
use Rattle.sheet_format.specs.Readings.{plan_head_due}
use Rattle.sheet_format.specs.Rows.{gates_row}
use Rattle.sheet_format.proofs.Gates.{count-row}
use Rattle.sheet_format.proofs.Steps.{sheet-head-at, sheet-head-broken}
use Rattle.sheet_format.proofs.Scan.{held-refused}
use Rattle.sheet_format.proofs.Heads.{head-wrong, head-right}
use Rattle.sheet_reading.proofs.read_records.Goals as goal

pub word_at-requires : goal.word_at-requires
word_at-requires c =
    let head : taken_answer (take_record plan_head_due c.args.sheet.now) ≡ Ok c.in_ok-take_record.field-0 = sym c.take_record.ensures ∙ c.in_ok-take_record.was in
    omega (arith, (sheet-head-at (gates_row 0 c.args.kinds.now) c.args.sheet.now _ (head)).fits)

pub returns-then-word_at-count_gates : goal.returns-then-word_at-count_gates
returns-then-word_at-count_gates c =
    let head : taken_answer (take_record plan_head_due c.args.sheet.now) ≡ Ok c.in_ok-take_record.field-0 = sym c.take_record.ensures ∙ c.in_ok-take_record.was in
    head-wrong (gates_row 0 c.args.kinds.now) c.args.sheet.now _ (head) c.word_at.result c.word_at.ensures c.args.held.now
    (λ e. omega (arith, c.if-word_at-count_gates.true, count-row 0 c.args.kinds.now, c.count_gates.ensures))

pub read_gates-requires : goal.read_gates-requires
read_gates-requires c =
    let head : taken_answer (take_record plan_head_due c.args.sheet.now) ≡ Ok c.in_ok-take_record.field-0 = sym c.take_record.ensures ∙ c.in_ok-take_record.was in
    record { in_bounds = (sheet-head-at (gates_row 0 c.args.kinds.now) c.args.sheet.now _ (head)).fits; kinds_in_bounds = c.requires }

pub returns-in_err-take_record : goal.returns-in_err-take_record
returns-in_err-take_record c =
    let p = err_from_is_err_and c.from_residual.result c.from_residual.ensures.1 in
    rw (p.1, p.2) (held-refused _ c.args.held.now (sheet-head-broken (gates_row 0 c.args.kinds.now) c.args.sheet.now _ (sym c.take_record.ensures ∙ c.in_err-take_record.was)))

pub returns : goal.returns
returns c =
    let head : taken_answer (take_record plan_head_due c.args.sheet.now) ≡ Ok c.in_ok-take_record.field-0 = sym c.take_record.ensures ∙ c.in_ok-take_record.was in
    head-right (gates_row 0 c.args.kinds.now) c.args.sheet.now _ (head) c.word_at.result c.word_at.ensures c.read_gates.result c.read_gates.new.held
    (c.if-word_at-count_gates.false ∙ c.count_gates.ensures ∙ sym (count-row 0 c.args.kinds.now)) c.read_gates.ensures
