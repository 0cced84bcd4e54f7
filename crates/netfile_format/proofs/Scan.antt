-- The scan of a file's reaches: what is known of the reading after i of them.
-- Assumes nothing.
use Rattle.network.specs.declared.Counts.{Counts}
use Rattle.std.specs.Prelude.{Err, Ok, Result}
use Prim.Native.Nat.{ℕ, suc, ◌+◌, ◌-◌, ◌≤◌, ◌<◌}
use native.Mathlib.Omega.{arith}
use mathlib.Core.Path.{◌≡◌, refl, sym, ap, ◌∙◌}
use mathlib.Core.Bool.{Bool, true, false, cond, not}
use mathlib.Core.List.{List, [], ◌∷◌}
use lib.ListN.{length, drop, length-drop, drop_of_length-le}
use lib.Seq.{drop-drop}
use lib.Dec.{eqb}
use borrow.Author.Tests.{eqb-true}
use Rattle.network.specs.declared.Refusal.{Refusal}
use Rattle.network.specs.declared.Refusal.TheVariants.{TooManyReaches, EndOutOfRange, UnknownKind, TrailingBytes}
use Rattle.network.specs.declared.Reach.{Reach}
use Rattle.network.specs.Networks.{max_reaches, counts}
use Rattle.network.proofs.Networks.{ends_below}
use Rattle.tables.proofs.Faults.{ends-good, ends-bad}
use Rattle.file_records.specs.Records.{take_record, taken_answer}
use Rattle.netfile_format.specs.Files.{reach_due, Reading, refused, read, at_end, good_inner, with_reach, read_reaches}
use Rattle.netfile_format.specs.Answers.{read_answer, record_length}
use Rattle.netfile_format.proofs.Steps.{reach_from, step-broken, step_end, reach-at}

-- a whole record of kind k stands at a position
abbrev pub ReachStood : List ℕ → ℕ → ℕ → Type 0
ReachStood file at k = taken_answer (take_record reach_due (drop at file)) ≡ Ok k

-- an answer with so many reaches more
abbrev counted : ℕ → Result Counts Refusal → Result Counts Refusal
counted i (Err r) = Err r
counted i (Ok c) = Ok (counts c.basins (i + c.reaches))

counted_none : (x : Result Counts Refusal) → x ≡ counted 0 x
counted_none (Err r) = refl
counted_none (Ok c) = ap (λ (m : ℕ). Ok (counts c.basins m)) (omega arith)

counted-one : (i : ℕ) (r : Reach) (x : Reading) → counted i (read_answer (with_reach r x)) ≡ counted (i + 1) (read_answer x)
counted-one i r (refused e) = refl
counted-one i r (read N) = ap (λ (m : ℕ). Ok (counts N.basins m)) (omega arith)

at-end-over : (n : ℕ) (f : List ℕ) → 0 < length f → at_end n f ≡ refused TrailingBytes
at-end-over n [] l = absurd (omega arith)
at-end-over n (x ∷ f) l = refl

-- the ends of one reach, as those of a table with one row
module _ (n : ℕ) (r : Reach) where
  one-good : r.a < n → r.b < n → ends_below n r ≡ true
  one-good = ends-good n 0 (0 ∷ []) (r.a ∷ []) (r.b ∷ []) (omega arith)

  one-bad : (r.a < n → r.b < n → ⊥) → ends_below n r ≡ false
  one-bad = ends-bad n 0 (0 ∷ []) (r.a ∷ []) (r.b ∷ []) (omega arith)

-- the reading of the whole, by what is left at a position where i reaches have been passed
pub record FileScanned (n : ℕ) (file : List ℕ) (at i : ℕ) : Type 0 where
  pub below : at ≤ length file
  pub few : i ≤ max_reaches
  pub reading : read_answer (read_reaches n max_reaches (drop 3 file)) ≡ counted i (read_answer (read_reaches n (max_reaches - i) (drop at file)))

pub scan-start : (n : ℕ) (file : List ℕ) → 3 ≤ length file → FileScanned n file 3 0
scan-start n file l = record { below = l; few = omega arith; reading = counted_none _ }

module _ {n : ℕ} {file : List ℕ} {at i : ℕ} (s : FileScanned n file at i) where
  -- what is left decides the whole
  decides :
      (x : Reading) → read_reaches n (max_reaches - i) (drop at file) ≡ x
      → counted i (read_answer x) ≡ read_answer (read_reaches n max_reaches (drop 3 file))
  decides x e = sym (s.reading ∙ ap (λ y. counted i (read_answer y)) e)

  pub scan-broken :
      (r : Refusal) → taken_answer (take_record reach_due (drop at file)) ≡ Err r
      → Err r ≡ read_answer (read_reaches n max_reaches (drop 3 file))
  scan-broken r e = decides (refused r) (step-broken n (max_reaches - i) (drop at file) r e)

  module _ {k : ℕ} (e : ReachStood file at k) where
    ends : k ≡ 9 → read_reaches n (max_reaches - i) (drop at file) ≡ at_end n (drop (at + 1) file)
    ends q = step_end n (max_reaches - i) (drop at file) (e ∙ ap Ok q) ∙ rw drop-drop

    pub scan-over : k ≡ 9 → at + 1 < length file → Err TrailingBytes ≡ read_answer (read_reaches n max_reaches (drop 3 file))
    scan-over q l = decides (refused TrailingBytes) (ends q ∙ at-end-over n (drop (at + 1) file) (simp length-drop (omega arith)))

    pub scan-end : k ≡ 9 → length file ≤ at + 1 → Ok (counts n i) ≡ read_answer (read_reaches n max_reaches (drop 3 file))
    scan-end q l =
        ap (λ (m : ℕ). Ok (counts n m)) (omega arith) ∙ decides (read (record { basins = n; reaches = [] })) (ends q ∙ rw (drop_of_length-le file l))

    -- the inner kind, which only a shut reach has
    abbrev inner : Bool
    inner = good_inner k (drop (at + 1) file)

    scan-unknown : (k ≡ 9 → ⊥) → inner ≡ false → Err UnknownKind ≡ read_answer (read_reaches n max_reaches (drop 3 file))
    scan-unknown q g = decides (refused UnknownKind) ((reach-at n file at k e q).unknown (max_reaches - i) g)

    module _ (q : k ≡ 9 → ⊥) (g : inner ≡ true) where
      pub scan-full : i ≡ max_reaches → Err TooManyReaches ≡ read_answer (read_reaches n max_reaches (drop 3 file))
      scan-full h =
          let none : max_reaches - i ≡ 0 = omega arith in
          decides (refused TooManyReaches) (rw none ((reach-at n file at k e q).full g))

      module _ (h : i ≡ max_reaches → ⊥) where
        more : max_reaches - i ≡ suc (max_reaches - (i + 1))
        more = let few = s.few in omega arith

        abbrev passed : Reach
        passed = reach_from k (drop (at + 1) file) (drop (at + 3) file)

        pub scan-stray : (passed.a < n → passed.b < n → ⊥) → Err EndOutOfRange ≡ read_answer (read_reaches n max_reaches (drop 3 file))
        scan-stray o =
            decides (refused EndOutOfRange)
            (rw more ((reach-at n file at k e q).next (max_reaches - (i + 1)) g ∙ rw (one-bad n passed o)))

        goes_on :
            passed.a < n → passed.b < n
            → read_reaches n (max_reaches - i) (drop at file) ≡ with_reach passed (read_reaches n (max_reaches - (i + 1)) (drop (at + record_length k) file))
        goes_on la lb = rw more ((reach-at n file at k e q).next (max_reaches - (i + 1)) g ∙ rw (one-good n passed la lb))

        pub scan-next : passed.a < n → passed.b < n → (m : ℕ) → m ≡ record_length k → FileScanned n file (at + m) (i + 1)
        scan-next la lb m is =
            rw is
            (record {
              below = (reach-at n file at k e q).fits;
              few = let few = s.few in omega arith;
              reading =
                  sym (decides (with_reach passed (read_reaches n (max_reaches - (i + 1)) (drop (at + record_length k) file))) (goes_on la lb))
                  ∙ counted-one i passed (read_reaches n (max_reaches - (i + 1)) (drop (at + record_length k) file));
            })

    -- which refusal a reach's values give first: 5 by its inner kind, then 2 by its number
    pub scan-values :
        (k ≡ 9 → ⊥) → {g : Bool} → g ≡ inner
        → let answer = read_answer (read_reaches n max_reaches (drop 3 file)) in
        answer ≡ cond (not g) (Err UnknownKind) (cond (eqb i max_reaches) (Err TooManyReaches) answer)
    scan-values q {g} is = go g is (eqb i max_reaches) refl
      where
        go : (g : Bool) → g ≡ inner → (f : Bool) → eqb i max_reaches ≡ f
            → read_answer (read_reaches n max_reaches (drop 3 file)) ≡ cond (not g) (Err UnknownKind) (cond f (Err TooManyReaches) (read_answer (read_reaches n max_reaches (drop 3 file))))
        go false e f h = sym (scan-unknown q (sym e))
        go true e true h = sym (scan-full q (sym e) (eqb-true i max_reaches h))
        go true e false h = refl
