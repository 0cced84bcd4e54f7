-- The part of the earlier sheet, by its place in the lent sheet. Document 02, item 5, its second half.
-- Assumes nothing.
use Rattle.std.specs.declared.cmp.Ordering.{Ordering}
use Rattle.network.specs.declared.Refusal.{Refusal}
use Rattle.std.specs.declared.cmp.Ordering.TheVariants.{Greater, Equal, Less}
use Rattle.std.specs.Prelude.{ℕ, suc, ◌+◌, ◌-◌, ◌*◌, ◌≡◌, cond, List, [], ◌∷◌, eqb, length, take, drop, Err, Ok, Result}
use Rattle.std.specs.Borrow.{Bor}
use Rattle.network.specs.Networks.{Network}
use Rattle.sheet_format.specs.Readings.{read_sheet}
use Rattle.sheet_format.specs.Answers.{setting_read}

-- The length of the longest common prefix of two rows: the place of the first entry in which they differ.
abbrev pub common_prefix : List ℕ → List ℕ → ℕ
common_prefix [] ys = 0
common_prefix (x ∷ xs) [] = 0
common_prefix (x ∷ xs) (y ∷ ys) = cond (eqb x y) (suc (common_prefix xs ys)) 0

-- The first gate, counted from 0 among the gated reaches, at which the settings that two sheets say differ.
abbrev pub differing_gate : Network → List ℕ → List ℕ → ℕ
differing_gate N f g = common_prefix (setting_read (read_sheet N f)) (setting_read (read_sheet N g))

-- The byte of a sheet at which the record of gate k begins: behind the head, of 3 bytes, and k records of 3 bytes.
abbrev pub record_place : ℕ → ℕ
record_place k = 3 + 3 * k

-- "The first differing record", by its place on both sheets.
abbrev pub differing_record : Network → List ℕ → List ℕ → ℕ
differing_record N f g = record_place (differing_gate N f g)

-- r is the part of the lent sheet s from byte `from` up to byte `to`: it lies in the same block of memory, `from` bytes behind the start of s, and holds
-- what s holds there. So an empty part too has its place.
pub record Part (s : Bor (List ℕ)) (from to : ℕ) (r : Bor (List ℕ)) : Type 0 where
  pub block : r.ref_ptr.0 ≡ s.ref_ptr.0
  pub place : r.ref_ptr.1 ≡ s.ref_ptr.1 + from
  pub bytes : r.now ≡ take (to - from) (drop from s.now)

-- "It hands back the part of the earlier sheet from the first differing record to that sheet's end. If equal, that is the empty part at the end of the
-- first; on a refusal, the empty part at its start": where the sheets differ from byte k on.
abbrev pub PartFrom : ℕ → Result Ordering Refusal → Bor (List ℕ) → Bor (List ℕ) → Bor (List ℕ) → Type 0
PartFrom k (Err x) first second r = Part first 0 0 r
PartFrom k (Ok Equal) first second r = Part first (length first.now) (length first.now) r
PartFrom k (Ok Less) first second r = Part first k (length first.now) r
PartFrom k (Ok Greater) first second r = Part second k (length second.now) r
