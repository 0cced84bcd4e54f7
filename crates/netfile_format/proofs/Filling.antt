-- The second pass of the reader: rows that are filled from the front, and the reaches of a file by number.
-- Assumes nothing.
use Prim.Native.Nat.{ℕ, zero, suc, ◌+◌, ◌-◌, ◌≤◌, ◌<◌}
use native.Mathlib.Nat.{sub-zero}
use native.Mathlib.Omega.{arith}
use mathlib.Core.Path.{◌≡◌, refl, sym, ap, ◌∙◌}
use mathlib.Core.List.{List, ◌∷◌}
use lib.ListN.{length, get_or, take, drop, set}
use lib.Seq.{drop-drop, get_or-drop}
use Rattle.lists.proofs.Lists.{drop-one}
use Rattle.network.specs.declared.Reach.{Reach}
use Rattle.network.specs.Bridges.{no_reach}
use Rattle.network.specs.Tables.{state_number}
use Rattle.lists.specs.Words.{word_of}
use Rattle.tables.specs.Rows.{RowsFilled}
use Rattle.tables.proofs.Filling.{RowFilled, row-none, row_more, row-all}
use Rattle.netfile_format.specs.Files.{record_state}
use Rattle.netfile_format.specs.Answers.{record_length, reaches_at, span_of, Fills}
use Rattle.netfile_format.proofs.Steps.{reach_from, front_ends}

length-reaches : (n : ℕ) (f : List ℕ) → length (reaches_at n f) ≡ n
length-reaches zero f = refl
length-reaches (suc n) f = ap suc (length-reaches n (drop (record_length (get_or f 0 0)) f))

-- the three rows after i reaches, the next of which stands at a position: the records that are left are those from there on, and the file has them whole
pub record RowsFilling (file : List ℕ) (n : ℕ) (kinds₀ a₀ b₀ kinds a b : List ℕ) (i at : ℕ) : Type 0 where
  pub below : i ≤ n
  pub left : drop i (reaches_at n (drop 3 file)) ≡ reaches_at (n - i) (drop at file)
  pub records : at + span_of (n - i) (drop at file) ≤ length file
  pub kind_row : RowFilled (λ r. state_number r.state) (reaches_at n (drop 3 file)) kinds₀ kinds i
  pub a-row : RowFilled (λ r. r.a) (reaches_at n (drop 3 file)) a₀ a i
  pub b-row : RowFilled (λ r. r.b) (reaches_at n (drop 3 file)) b₀ b i

module _ (file : List ℕ) (n : ℕ) (kinds₀ a₀ b₀ : List ℕ) (room : Fills file n kinds₀ a₀ b₀) where
  pub filling-none : RowsFilling file n kinds₀ a₀ b₀ kinds₀ a₀ b₀ 0 3
  filling-none =
      record {
        below = omega arith;
        left = rw sub-zero;
        records = rw sub-zero room.records;
        kind_row = row-none _ _ _ kinds₀;
        a-row = row-none _ _ _ a₀;
        b-row = row-none _ _ _ b₀;
      }

  module _ {kinds a b : List ℕ} {i at : ℕ} (f : RowsFilling file n kinds₀ a₀ b₀ kinds a b i at) (l : i < n) where
    abbrev t : List Reach
    t = reaches_at n (drop 3 file)

    -- the next record: its kind byte, its reach, and what stands after it
    abbrev kind : ℕ
    kind = get_or file at 0

    abbrev reach : Reach
    reach = reach_from kind (drop (at + 1) file) (drop (at + 3) file)

    abbrev rest : List ℕ
    rest = drop (at + record_length kind) file

    front : get_or (drop at file) 0 0 ≡ kind
    front = get_or-drop at file 0 0 ∙ ap (λ j. get_or file j 0) (omega arith)

    more : n - i ≡ suc (n - (i + 1))
    more = omega arith

    next-records : at + (record_length kind + span_of (n - (i + 1)) rest) ≤ length file
    next-records = simp (front, drop-drop) at (rw more at f.records)

    within : i < length t
    within = rw length-reaches l

    next-left : get_or t i no_reach ∷ drop (i + 1) t ≡ reach ∷ reaches_at (n - (i + 1)) rest
    next-left =
        sym (drop-one t i no_reach within)
        ∙ f.left
        ∙ rw more (ap (λ r. r ∷ reaches_at (n - (i + 1)) (drop (record_length (get_or (drop at file) 0 0)) (drop at file))) (front_ends (drop at file)) ∙ simp (front, drop-drop))

    here : get_or t i no_reach ≡ reach
    here = let e = next-left in cc

    -- it is whole
    pub filling-fits : at + record_length kind ≤ length file
    filling-fits = omega (arith, next-records)

    -- its reach goes to the rows
    pub filling-more :
        (k x y m : ℕ) → k ≡ state_number (record_state kind (drop (at + 1) file)) → x ≡ word_of (take 2 (drop (at + 1) file)) → y ≡ word_of (take 2 (drop (at + 3) file))
        → m ≡ record_length kind → RowsFilling file n kinds₀ a₀ b₀ (set kinds i k) (set a i x) (set b i y) (i + 1) (at + m)
    filling-more k x y m p q r e =
        rw e
        (record {
          below = omega arith;
          left = let e = next-left in cc;
          records = omega (arith, next-records);
          kind_row = row_more _ t kinds₀ kinds i k f.kind_row within (omega (arith, room.kind-room)) (p ∙ sym (ap (λ r. state_number r.state) here));
          a-row = row_more _ t a₀ a i x f.a-row within (omega (arith, room.a-room)) (q ∙ sym (ap (λ r. r.a) here));
          b-row = row_more _ t b₀ b i y f.b-row within (omega (arith, room.b-room)) (r ∙ sym (ap (λ r. r.b) here));
        })

  pub filling-all :
      {kinds a b : List ℕ} {i at : ℕ} → RowsFilling file n kinds₀ a₀ b₀ kinds a b i at → n ≤ i
      → RowsFilled (reaches_at n (drop 3 file)) kinds₀ a₀ b₀ kinds a b
  filling-all {kinds} {a} {b} {i} f l =
      record { kind_row = row-all _ _ kinds₀ kinds i f.kind_row all; a-row = row-all _ _ a₀ a i f.a-row all; b-row = row-all _ _ b₀ b i f.b-row all }
    where
      all : i ≡ length (reaches_at n (drop 3 file))
      all = let e = length-reaches n (drop 3 file) in let b = f.below in omega arith
