-- A text put into a lent buffer.
-- Assumes nothing.
use Rattle.std.specs.Prelude.{ℕ, min, ◌≡◌, List, ◌++◌, length, take, drop}

-- The first bytes of a text, as many as the buffer holds, stand at its front; "all beyond is untouched".
pub record Put (text out out' : List ℕ) (n : ℕ) : Type 0 where
  pub count : n ≡ min (length text) (length out)
  pub bytes : out' ≡ take n text ++ drop n out
