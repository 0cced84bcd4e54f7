-- The network file: "a head, its reaches, an end". The bytes that a network is written as, and what a file is read as.
-- Assumes nothing.
use Rattle.std.specs.Prelude.{ℕ, zero, suc, Bool, true, cond, ◌&&◌, List, [], ◌∷◌, ◌++◌, get_or, take, drop, eqb, leb, ltb}
use Rattle.network.specs.declared.Kind.{Kind}
use Rattle.network.specs.declared.Kind.TheVariants.{Gated, Flap, TwoWay}
use Rattle.network.specs.declared.State.{State}
use Rattle.network.specs.declared.State.TheVariants.{InService, Shut}
use Rattle.network.specs.declared.Reach.{Reach}
use Rattle.network.specs.declared.Refusal.{Refusal}
use Rattle.network.specs.declared.Refusal.TheVariants.{BasinCount, TooManyReaches, EndOutOfRange, UnknownKind, TrailingBytes}
use Rattle.network.specs.Networks.{Network, max_basins, max_reaches}
use Rattle.lists.specs.Lists.{elem}
use Rattle.lists.specs.Words.{word_of}
use Rattle.file_records.specs.Records.{end_kind, two_bytes, Front, broken, whole, take_record}

-- The kind bytes: 1 head; 2, 3, 4 "gated, flap, two-way"; 5 a shut reach; the end is `end_kind`, 9.
abbrev pub head_kind : ℕ
head_kind = 1

abbrev pub reach_kind : Kind → ℕ
reach_kind Gated = 2
reach_kind Flap = 3
reach_kind TwoWay = 4

abbrev pub reach_kinds : List ℕ
reach_kinds = 2 ∷ 3 ∷ 4 ∷ []

-- The byte is the kind of a reach in service.
abbrev pub known_kind : ℕ → Bool
known_kind k = elem k reach_kinds

abbrev pub shut_kind : ℕ
shut_kind = 5

-- The kind of a reach whose kind byte is k, which is 2, 3 or 4.
abbrev pub record_kind : ℕ → Kind
record_kind k = cond (eqb k 2) Gated (cond (eqb k 3) Flap TwoWay)

-- The bytes of a reach's record: "ends A, B". Document 02, item 1, of a shut one: "Kind 5, body 5 bytes: ends A and B, then the kind 2, 3 or 4 it goes back to."
abbrev pub state_record : State → List ℕ → List ℕ
state_record (InService k) ends = reach_kind k ∷ ends
state_record (Shut k) ends = shut_kind ∷ (ends ++ (reach_kind k ∷ []))

abbrev pub reach_record : Reach → List ℕ
reach_record r = state_record r.state (two_bytes r.a ++ two_bytes r.b)

abbrev pub reach_records : List Reach → List ℕ
reach_records [] = []
reach_records (r ∷ t) = reach_record r ++ reach_records t

-- The bytes of a network file: "network head: basin count", the reaches "in file order", the end, which has no body.
abbrev pub file_of : Network → List ℕ
file_of N = (head_kind ∷ two_bytes N.basins) ++ (reach_records N.reaches ++ (end_kind ∷ []))

-- What a file is read as: a refusal, or a network.
pub data Reading : Type 0 where
  refused : Refusal → Reading
  read : Network → Reading

-- The kinds that may come: where the head is due only it, after that a reach or the end.
abbrev pub head_due : List ℕ
head_due = head_kind ∷ []

abbrev pub reach_due : List ℕ
reach_due = 2 ∷ 3 ∷ 4 ∷ shut_kind ∷ end_kind ∷ []

-- The record at the front, if there is a whole one, is read by g.
abbrev pub on_record : Front → (ℕ → List ℕ → List ℕ → Reading) → Reading
on_record (broken r) g = refused r
on_record (whole k body rest) g = g k body rest

-- The end. Refusal 6, overrun: "a byte follows the end record".
abbrev pub at_end : ℕ → List ℕ → Reading
at_end n [] = read (record { basins = n; reaches = [] })
at_end n (x ∷ rest) = refused TrailingBytes

-- The inner kind of a shut reach, behind its ends: "the kind 2, 3 or 4 it goes back to".
abbrev pub inner_kind : List ℕ → ℕ
inner_kind body = get_or body 4 0

-- The state of a reach whose kind byte is k, which is 2, 3, 4 or 5.
abbrev pub record_state : ℕ → List ℕ → State
record_state k body = cond (eqb k shut_kind) (Shut (record_kind (inner_kind body))) (InService (record_kind k))

-- Item 1: "a wrong inner kind is refusal 5". Only a shut reach has an inner kind.
abbrev pub good_inner : ℕ → List ℕ → Bool
good_inner k body = cond (eqb k shut_kind) (known_kind (inner_kind body)) true

-- The reach of a record: "ends A, B".
abbrev pub record_reach : ℕ → List ℕ → Reach
record_reach k body = record { state = record_state k body; a = word_of (take 2 body); b = word_of (take 2 (drop 2 body)) }

-- The reading with one reach more, in front of the others.
abbrev pub with_reach : Reach → Reading → Reading
with_reach r (refused e) = refused e
with_reach r (read N) = read (record { basins = N.basins; reaches = r ∷ N.reaches })

-- A record after the head: the end, or a reach, which g takes with the bytes after it. "A wrong inner kind is refusal 5, after 4 and before 2."
abbrev pub inside : ℕ → (Reach → List ℕ → Reading) → List ℕ → Reading
inside n g f =
    on_record (take_record reach_due f)
    (λ k body rest. cond (eqb k end_kind) (at_end n rest) (cond (good_inner k body) (g (record_reach k body) rest) (refused UnknownKind)))

-- The reaches and the end, where so many reaches may still come: "2 then 3 for a reach, low end first". A reach too many is 2, whatever its ends;
-- of two stray ends either gives 3, so which is looked at first does not show.
unfoldable pub read_reaches : ℕ → ℕ → List ℕ → Reading
read_reaches n zero = inside n (λ r rest. refused TooManyReaches)
read_reaches n (suc left) =
    inside n (λ r rest. cond (ltb r.a n && ltb r.b n) (with_reach r (read_reaches n left rest)) (refused EndOutOfRange))

-- "Then the values: 1 for the head". What stands after a head that is refused does not count.
abbrev pub read_basins : ℕ → List ℕ → Reading
read_basins n rest = cond (leb 1 n && leb n max_basins) (read_reaches n max_reaches rest) (refused BasinCount)

-- The whole file, record by record: the first refusal decides.
unfoldable pub read_file : List ℕ → Reading
read_file f = on_record (take_record head_due f) (λ k body rest. read_basins (word_of body) rest)
