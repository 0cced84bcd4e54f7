-- File records: their kinds, their body lengths, and what stands at the front of a file's bytes.
-- Assumes nothing.
use Rattle.std.specs.Prelude.{ℕ, ◌/◌, ◌%◌, true, false, cond, List, [], ◌∷◌, length, take, drop, eqb, leb, Err, Ok, Some, None, Result, Option}
use Rattle.network.specs.declared.Refusal.{Refusal}
use Rattle.network.specs.declared.Refusal.TheVariants.{Truncated, UnknownKind}
use Rattle.lists.specs.Lists.{elem}

-- What stands beside the number k in a table of two columns.
abbrev pub lookup : ℕ → List (ℕ × ℕ) → Option ℕ
lookup k [] = None
lookup k (e ∷ es) = elim (eqb k e.0) [ true ↦ Some e.1 | false ↦ lookup k es ]

-- "One byte of kind, then a body whose length the kind fixes." Each listed kind with its body length: 1 network head; 2, 3, 4 gated, flap, two-way;
-- 5 a shut reach (document 02, item 1: "Kind 5, body 5 bytes"); 9 end; 16 plan head; 17, 18 as drawn, turned; 20 shut in; 21 lone.
abbrev pub bodies : List (ℕ × ℕ)
bodies = (1, 2) ∷ (2, 4) ∷ (3, 4) ∷ (4, 4) ∷ (5, 5) ∷ (9, 0) ∷ (16, 2) ∷ (17, 2) ∷ (18, 2) ∷ (20, 32) ∷ (21, 34) ∷ []

-- The body length of a kind; "kinds not listed here have none and are unknown", those from 0 to 31 and all above.
unfoldable pub body_of : ℕ → Option ℕ
body_of k = lookup k bodies

-- The kind byte of the end, with which each file and sheet ends.
abbrev pub end_kind : ℕ
end_kind = 9

-- "Two-byte values are low byte first." A value is below 65,536, so both numbers are bytes; `word_of` reads them.
abbrev pub two_bytes : ℕ → List ℕ
two_bytes n = n % 256 ∷ n / 256 ∷ []

-- What stands at the front of a file's bytes: a refusal, or a whole record (its kind, its body) and the bytes after it.
pub data Front : Type 0 where
  broken : Refusal → Front
  whole : ℕ → List ℕ → List ℕ → Front

-- A kind and its body: 5 where the kind is unknown, 4 where "the file ends where .. part of a body is due".
abbrev pub with_body : ℕ → Option ℕ → List ℕ → Front
with_body k None f = broken UnknownKind
with_body k (Some n) f = cond (leb n (length f)) (whole k (take n f) (drop n f)) (broken Truncated)

-- "Per record the kind (5) comes first, then the whole body (4)"; 4 too where "the file ends where a kind byte .. is due". Refusal 5, unknown mark: "the
-- kind byte may not come at this place", where only these kinds may come.
abbrev pub take_record : List ℕ → List ℕ → Front
take_record kinds [] = broken Truncated
take_record kinds (k ∷ f) = cond (elem k kinds) (with_body k (body_of k) f) (broken UnknownKind)

-- As the functions answer: the length of a body, or that the kind is unknown;

-- the kind of a whole record, or the refusal.
abbrev pub taken_answer : Front → Result ℕ Refusal
taken_answer (broken r) = Err r
taken_answer (whole k body rest) = Ok k
