-- What is still to be printed in a state of the lister, and what its calls promise. Both hold of every state and of all rows, also where no start made
-- them: such a state prints the lines that next replies to its bytes.
-- Assumes nothing.
use Rattle.std.specs.Prelude.{ℕ, ◌≡◌, List, [], ◌++◌, length, take, drop}
use Rattle.network.specs.Networks.{Network, max_reaches}
use Rattle.network.specs.Marks.{mark_bytes}
use Rattle.network.specs.Replies.{next_reply}
use Rattle.tables.specs.Rows.{net_of, gates_held, room_of, RowsFilled}
use Rattle.netfile_format.specs.Files.{Reading, read_file}
use Rattle.netfile_format.specs.Answers.{with_room, reaches_read}
use Rattle.lines.specs.declared.Due.{Due}
use Rattle.lines.specs.declared.Due.TheVariants as D
use Rattle.lines.specs.Listings.{max_bytes, line, plan_text, end_text, more_text, refused_text, reply_lines, reading_lines}
use Rattle.lines.specs.Puts.{Put}
use Rattle.listing_state.specs.declared.Lister.{Lister}
use Rattle.listing_state.specs.declared.Line.{Line}
use Rattle.listing_state.specs.declared.Started.{Started}
use Rattle.listing_state.specs.declared.Filled.{Filled}

-- The state of a line and a plan in hand that is lent beside it.
abbrev pub holding : Line → List ℕ → Lister
holding l s = record { basins = l.basins; due = l.due; at = l.at; setting = s }

-- The line that is being printed; s is the plan in hand.
abbrev pub line_of : Due → List ℕ → List ℕ
line_of (D.Plan left) s = line (plan_text s)
line_of D.More s = line more_text
line_of D.End s = line end_text
line_of (D.Refused n) s = line (refused_text n)

-- The lines after it.
abbrev pub lines_after : Network → Due → List ℕ → List ℕ
lines_after N (D.Plan left) s = reply_lines N left (next_reply N s max_reaches mark_bytes)
lines_after N D.More s = []
lines_after N D.End s = []
lines_after N (D.Refused n) s = []

-- The plan in hand: the first bytes of the state's, one for each gated reach.
abbrev pub plan_in_hand : Network → Lister → List ℕ
plan_in_hand N l = take (gates_held N) l.setting

-- What is left of the line, and the lines after it.
unfoldable pub rest_of : Network → Lister → List ℕ
rest_of N l = drop l.at (line_of l.due (plan_in_hand N l))

unfoldable pub pending_of : Network → Lister → List ℕ
pending_of N l = rest_of N l ++ lines_after N l.due (plan_in_hand N l)

-- The network of a state and the rows that it is lent, and what is still to be printed.
abbrev pub state_net : Lister → List ℕ → List ℕ → List ℕ → Network
state_net l kinds a b = net_of l.basins kinds a b

abbrev pub pending : Lister → List ℕ → List ℕ → List ℕ → List ℕ
pending l kinds a b = pending_of (state_net l kinds a b) l

-- ---- the calls

-- The start reads the first 8,000 bytes of a file into the rows, and all lines for it are to be printed. Rows too short for its reaches are 7.
abbrev pub file_read : List ℕ → List ℕ → List ℕ → List ℕ → Reading
file_read file kinds a b = with_room (room_of kinds a b) (read_file (take max_bytes file))

pub record Starting (file kinds a b : List ℕ) (r : Started) (kinds' a' b' : List ℕ) : Type 0 where
  pub rows : RowsFilled (reaches_read (file_read file kinds a b)) kinds a b kinds' a' b'
  pub counted : r.reaches ≡ length (reaches_read (file_read file kinds a b))
  pub to-print : pending r.lister (take r.reaches kinds') (take r.reaches a') (take r.reaches b') ≡ reading_lines (file_read file kinds a b)

-- Filling a buffer prints the first bytes of what is to be printed; the others are to be printed in the state after it.
pub record Filling (l : Lister) (kinds a b out out' : List ℕ) (r : Filled) : Type 0 where
  pub printed : Put (pending l kinds a b) out out' r.count
  pub to-print : pending r.lister kinds a b ≡ drop r.count (pending l kinds a b)
