-- `netfile_reading::check_reaches` meets its contract. The loop's invariant: the reading of what is left decides that of the whole.
-- The measure is what is left of the file. Assumes nothing.
use Rattle.std.proofs.lemmas.Result.{err_from_is_err_and}
use Prim.Native.Nat.{◌+◌, ◌≤◌}
use native.Mathlib.Omega.{arith}
use Rattle.std.specs.Prelude.{Err}
use Rattle.std.proofs.Common.{rules}
use Rattle.network.specs.declared.Refusal.{Refusal}
use mathlib.Core.Path.{◌≡◌, sym, ap, ◌∙◌}
use mathlib.Core.Bool.{true, false}
use lib.ListN.{length, drop}
use Rattle.netfile_format.specs.Files.{good_inner}
use Rattle.netfile_format.proofs.Steps.{record-long, ReachAt, reach-at}
use Rattle.netfile_format.proofs.Scan.{ReachStood, scan-broken, scan-over, scan-end, scan-values, scan-full, scan-stray, scan-next}
use Rattle.netfile_reading.proofs.check_reaches.Goals as goal

pub returns-in_err-kind : goal.returns-in_err-kind
returns-in_err-kind c =
    let p = err_from_is_err_and c.from_residual.result c.from_residual.ensures.1 in
    rw (p.1, p.2) (scan-broken c.loop-kind.invariant c.in_err-kind.field-0.0 (sym c.reach_or_end.ensures ∙ c.in_err-kind.was))

pub returns-then-at-file : goal.returns-then-at-file
returns-then-at-file c =
    let here : ReachStood c.args.file.now c.loop-kind.at c.in_ok-kind.kind = sym c.reach_or_end.ensures ∙ c.in_ok-kind.was in
    scan-over c.loop-kind.invariant (here) c.if-kind-eq-END.true c.if-at-file.true

pub returns-then-kind-eq-END : goal.returns-then-kind-eq-END
returns-then-kind-eq-END c =
    let here : ReachStood c.args.file.now c.loop-kind.at c.in_ok-kind.kind = sym c.reach_or_end.ensures ∙ c.in_ok-kind.was in
    scan-end c.loop-kind.invariant (here) c.if-kind-eq-END.true c.if-at-file.false

pub known_length-requires : goal.known_length-requires
known_length-requires c =
    let here : ReachStood c.args.file.now c.loop-kind.at c.in_ok-kind.kind = sym c.reach_or_end.ensures ∙ c.in_ok-kind.was in
    let reach : ReachAt c.args.basins c.args.file.now c.loop-kind.at c.in_ok-kind.kind = reach-at c.args.basins c.args.file.now c.loop-kind.at c.in_ok-kind.kind (here) c.if-kind-eq-END.false in
    reach.fits

pub returns-in_default : goal.returns-in_default
returns-in_default c =
    let here : ReachStood c.args.file.now c.loop-kind.at c.in_ok-kind.kind = sym c.reach_or_end.ensures ∙ c.in_ok-kind.was in
    ap (λ (r : Refusal). Err r) (search rules)
    ∙ sym (scan-values c.loop-kind.invariant (here) c.if-kind-eq-END.false {g = false} (sym c.in_default.ensures))

pub returns-then-reaches-eq-MAX_REACHES : goal.returns-then-reaches-eq-MAX_REACHES
returns-then-reaches-eq-MAX_REACHES c =
    let here : ReachStood c.args.file.now c.loop-kind.at c.in_ok-kind.kind = sym c.reach_or_end.ensures ∙ c.in_ok-kind.was in
    let good : good_inner c.in_ok-kind.kind
    (drop (c.loop-kind.at + 1) c.args.file.now)
    ≡ true = c.in-Some.ensures.0 in
    scan-full c.loop-kind.invariant (here) c.if-kind-eq-END.false
    (good) c.if-reaches-eq-MAX_REACHES.true

pub word_at-requires : goal.word_at-requires
word_at-requires c =
    let here : ReachStood c.args.file.now c.loop-kind.at c.in_ok-kind.kind = sym c.reach_or_end.ensures ∙ c.in_ok-kind.was in
    let reach : ReachAt c.args.basins c.args.file.now c.loop-kind.at c.in_ok-kind.kind = reach-at c.args.basins c.args.file.now c.loop-kind.at c.in_ok-kind.kind (here) c.if-kind-eq-END.false in
    let whole : c.loop-kind.at + 5 ≤ length c.args.file.now = omega (arith, reach.fits, record-long c.in_ok-kind.kind) in
    omega (arith, whole)

pub returns-then-basins-word_at : goal.returns-then-basins-word_at
returns-then-basins-word_at c =
    let here : ReachStood c.args.file.now c.loop-kind.at c.in_ok-kind.kind = sym c.reach_or_end.ensures ∙ c.in_ok-kind.was in
    let good : good_inner c.in_ok-kind.kind
    (drop (c.loop-kind.at + 1) c.args.file.now)
    ≡ true = c.in-Some.ensures.0 in
    scan-stray c.loop-kind.invariant
    (here) c.if-kind-eq-END.false
    (good) c.if-reaches-eq-MAX_REACHES.false
    (λ p _. omega (arith, c.word_at.ensures, c.if-basins-word_at.true))

pub word_at-requires-in-loop-kind : goal.word_at-requires-in-loop-kind
word_at-requires-in-loop-kind c =
    let here : ReachStood c.args.file.now c.loop-kind.at c.in_ok-kind.kind = sym c.reach_or_end.ensures ∙ c.in_ok-kind.was in
    let reach : ReachAt c.args.basins c.args.file.now c.loop-kind.at c.in_ok-kind.kind = reach-at c.args.basins c.args.file.now c.loop-kind.at c.in_ok-kind.kind (here) c.if-kind-eq-END.false in
    let whole : c.loop-kind.at + 5 ≤ length c.args.file.now = omega (arith, reach.fits, record-long c.in_ok-kind.kind) in
    omega (arith, whole)

pub returns-then-basins-word_at-2 : goal.returns-then-basins-word_at-2
returns-then-basins-word_at-2 c =
    let here : ReachStood c.args.file.now c.loop-kind.at c.in_ok-kind.kind = sym c.reach_or_end.ensures ∙ c.in_ok-kind.was in
    let good : good_inner c.in_ok-kind.kind
    (drop (c.loop-kind.at + 1) c.args.file.now)
    ≡ true = c.in-Some.ensures.0 in
    scan-stray c.loop-kind.invariant
    (here) c.if-kind-eq-END.false
    (good) c.if-reaches-eq-MAX_REACHES.false
    (λ _ p. omega (arith, c.word_at-in-loop-kind.ensures, c.if-basins-word_at-2.true))

pub loop-kind-preserved : goal.loop-kind-preserved
loop-kind-preserved c =
    let here : ReachStood c.args.file.now c.loop-kind.at c.in_ok-kind.kind = sym c.reach_or_end.ensures ∙ c.in_ok-kind.was in
    let good : good_inner c.in_ok-kind.kind
    (drop (c.loop-kind.at + 1) c.args.file.now)
    ≡ true = c.in-Some.ensures.0 in
    scan-next c.loop-kind.invariant
    (here) c.if-kind-eq-END.false
    (good) c.if-reaches-eq-MAX_REACHES.false
    (omega (arith, c.word_at.ensures, c.if-basins-word_at.false))
    (omega (arith, c.word_at-in-loop-kind.ensures, c.if-basins-word_at-2.false))
    c.in-Some.size c.in-Some.ensures.1
