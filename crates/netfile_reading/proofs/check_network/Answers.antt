-- `netfile_reading::check_network` meets its contract: the head, its value, and then the reaches.
-- Assumes nothing.
use Rattle.std.specs.Prelude.{Ok}
use Rattle.std.proofs.lemmas.Result.{err_from_is_err_and}
use native.Mathlib.Omega.{arith}
use mathlib.Core.Path.{◌≡◌, sym, ap, ◌∙◌}
use Rattle.file_records.specs.Records.{take_record, taken_answer}
use Rattle.netfile_format.specs.Files.{head_due}
use Rattle.netfile_format.specs.Answers.{read_answer}
use Rattle.netfile_format.proofs.Steps.{head_at, head-broken, head-bad, head-good}
use Rattle.netfile_reading.proofs.check_network.Goals as goal

pub word_at-basins-requires : goal.word_at-basins-requires
word_at-basins-requires c =
    let head : taken_answer (take_record head_due c.args.file.now) ≡ Ok c.in_ok-take_record.field-0 = sym c.take_record.ensures ∙ c.in_ok-take_record.was in
    omega (arith, (head_at c.args.file.now _ (head)).fits)

pub returns-then-basins-eq0 : goal.returns-then-basins-eq0
returns-then-basins-eq0 c =
    let head : taken_answer (take_record head_due c.args.file.now) ≡ Ok c.in_ok-take_record.field-0 = sym c.take_record.ensures ∙ c.in_ok-take_record.was in
    sym
    (ap read_answer
    (head-bad c.args.file.now _ (head) c.word_at-basins.result c.word_at-basins.ensures
    (λ p _. omega (arith, c.if-basins-eq0.true))))

pub returns-then-basins-gt-MAX_BASINS : goal.returns-then-basins-gt-MAX_BASINS
returns-then-basins-gt-MAX_BASINS c =
    let head : taken_answer (take_record head_due c.args.file.now) ≡ Ok c.in_ok-take_record.field-0 = sym c.take_record.ensures ∙ c.in_ok-take_record.was in
    sym
    (ap read_answer
    (head-bad c.args.file.now _ (head) c.word_at-basins.result
    c.word_at-basins.ensures (λ _ p. omega (arith, c.if-basins-gt-MAX_BASINS.true))))

pub check_reaches-requires : goal.check_reaches-requires
check_reaches-requires c =
    let head : taken_answer (take_record head_due c.args.file.now) ≡ Ok c.in_ok-take_record.field-0 = sym c.take_record.ensures ∙ c.in_ok-take_record.was in
    omega (arith, (head_at c.args.file.now _ (head)).fits)

pub returns-in_err-take_record : goal.returns-in_err-take_record
returns-in_err-take_record c =
    let p = err_from_is_err_and c.from_residual.result c.from_residual.ensures.1 in
    rw (p.1, p.2) (sym (ap read_answer (head-broken c.args.file.now _ (sym c.take_record.ensures ∙ c.in_err-take_record.was))))

pub returns : goal.returns
returns c =
    let head : taken_answer (take_record head_due c.args.file.now) ≡ Ok c.in_ok-take_record.field-0 = sym c.take_record.ensures ∙ c.in_ok-take_record.was in
    c.check_reaches.ensures
    ∙ sym
    (ap read_answer
    (head-good c.args.file.now _ (head) c.word_at-basins.result c.word_at-basins.ensures (omega (arith, c.if-basins-eq0.false))
    (omega (arith, c.if-basins-gt-MAX_BASINS.false))))
