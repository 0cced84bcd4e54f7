-- What a writer answers, and what it leaves in the buffer that it is lent: a refusal, or bytes.
-- Assumes nothing.
use Rattle.std.specs.Prelude.{ℕ, ◌≡◌, cond, List, [], ◌++◌, length, drop, leb, Err, Ok, Result}
use Rattle.std.proofs.Math.Option.{Option, none, some}
use Rattle.network.specs.declared.Refusal.{Refusal}
use Rattle.network.specs.declared.Refusal.TheVariants.{ShortBuffer}
use Rattle.network.specs.Replies.{refusal_number, fault_number}

-- Document 01's number of the writer's answer, 0 where the bytes are written.
abbrev pub write_number : Result ℕ Refusal → ℕ
write_number (Err r) = refusal_number r
write_number (Ok n) = 0

-- The writer's answer where the bytes f are to be written: the refusal, or "the length written".
abbrev pub write_answer : Option Refusal → List ℕ → Result ℕ Refusal
write_answer (some r) f = Err r
write_answer none f = Ok (length f)

-- The bytes that are written; none where there is a refusal: refusals "write nothing".
abbrev pub bytes_written : Option Refusal → List ℕ → List ℕ
bytes_written (some r) f = []
bytes_written none f = f

-- What a writer of the bytes f answers, its number, and what it leaves in the buffer: the bytes first; "all beyond is untouched".
pub record Wrote (o : Option Refusal) (f out : List ℕ) (r : Result ℕ Refusal) (out' : List ℕ) : Type 0 where
  pub answer : r ≡ write_answer o f
  pub number : write_number r ≡ fault_number o
  pub bytes : out' ≡ bytes_written o f ++ drop (length (bytes_written o f)) out

-- 7: writers need "the length of what they write".
abbrev pub room_for : List ℕ → ℕ → Option Refusal
room_for f room = cond (leb (length f) room) none (some ShortBuffer)

-- The bytes f are written where there is room for them.
abbrev pub WroteWhole : List ℕ → List ℕ → Result ℕ Refusal → List ℕ → Type 0
WroteWhole f out r out' = Wrote (room_for f (length out)) f out r out'
