-- Document 01's replies: their numbers and values, and what first and next reply.
-- Assumes nothing.
use Rattle.std.specs.Prelude.{ℕ, ◌≡◌, cond, not, ◌&&◌, List, [], ◌++◌, length, drop, leb}
use Rattle.std.proofs.Math.Option.{Option, none, some, get_or}
use Rattle.network.specs.declared.Refusal.{Refusal}
use Rattle.network.specs.declared.Refusal.TheVariants.{BasinCount, TooManyReaches, EndOutOfRange, Truncated, UnknownKind, TrailingBytes, ShortBuffer, BadSetting, LastPlan}
use Rattle.lists.specs.Lists.{find, keep, elem}
use Rattle.network.specs.Networks.{Network, basins_of, lowest_basin, table_fault}
use Rattle.network.specs.Settings.{gate_count, setting_fault}
use Rattle.network.specs.Orientations.{arcs_under, reached, unoriented}
use Rattle.network.specs.Plans.{reaches_all, is_plan, passable, first_plan, next_plan}
use Rattle.network.specs.Bridges.{sides, is_cut, crosses_alone, lowest_bridge}
use Rattle.network.specs.Marks.{mark_bytes, marks_of, mark_count}

-- The number of a refusal that returns the number only.
abbrev pub refusal_number : Refusal → ℕ
refusal_number BasinCount = 1
refusal_number TooManyReaches = 2
refusal_number EndOutOfRange = 3
refusal_number Truncated = 4
refusal_number UnknownKind = 5
refusal_number TrailingBytes = 6
refusal_number ShortBuffer = 7
refusal_number BadSetting = 8
refusal_number LastPlan = 11

-- The same of a refusal if there is one, else 0.
abbrev pub fault_number : Option Refusal → ℕ
fault_number (some r) = refusal_number r
fault_number none = 0

-- A reply: "a plan or one of two findings, a lone one with its reach", or a refusal by number only.
-- The findings hold the marks and "a count", the lone one its reach first.
pub data Outcome : Type 0 where
  plan : List ℕ → Outcome
  shut_in : List ℕ → ℕ → Outcome
  lone : ℕ → List ℕ → ℕ → Outcome
  refused : Refusal → Outcome

-- The number of a reply, 0 for a plan; and what it holds, 0 or nothing where it has none.
abbrev pub number : Outcome → ℕ
number (plan s) = 0
number (shut_in m c) = 9
number (lone i m c) = 10
number (refused r) = refusal_number r

abbrev pub plan_in : Outcome → List ℕ
plan_in (plan s) = s
plan_in (shut_in m c) = []
plan_in (lone i m c) = []
plan_in (refused r) = []

abbrev pub reach_in : Outcome → ℕ
reach_in (plan s) = 0
reach_in (shut_in m c) = 0
reach_in (lone i m c) = i
reach_in (refused r) = 0

abbrev pub marks_in : Outcome → List ℕ
marks_in (plan s) = []
marks_in (shut_in m c) = m
marks_in (lone i m c) = m
marks_in (refused r) = []

abbrev pub count_in : Outcome → ℕ
count_in (plan s) = 0
count_in (shut_in m c) = c
count_in (lone i m c) = c
count_in (refused r) = 0

-- "Two replies are equal if both give the same plan, or both the same number with the same reach, marks and count, as far as
-- that number has them." proofs/Replies.antt: exactly the equality of `Outcome`.
pub record SameReply (r s : Outcome) : Type 0 where
  pub same_number : number r ≡ number s
  pub same-plan : plan_in r ≡ plan_in s
  pub same-reach : reach_in r ≡ reach_in s
  pub same-marks : marks_in r ≡ marks_in s
  pub same_count : count_in r ≡ count_in s

-- For 9: "the basins reached, itself among them, from the lowest-numbered basin that doesn't reach all, gates usable either way". Document 02, item 3: the
-- lowest-numbered wet basin that doesn't reach all wet basins.
unfoldable pub shut_in_basin : Network → Option ℕ
shut_in_basin N = find (λ u. not (reaches_all (basins_of N) (arcs_under N (unoriented N)) u)) (basins_of N)

unfoldable pub shut_in_side : Network → List ℕ
shut_in_side N = keep (reached (arcs_under N (unoriented N)) (get_or (shut_in_basin N) 0)) (basins_of N)

-- For 10: "the side of it without basin 0", "read as without the lowest wet basin".
unfoldable pub bridge_side : Network → ℕ → List ℕ
bridge_side N i = get_or (find (λ S. not (elem (lowest_basin N) S) && (is_cut (basins_of N) S && crosses_alone N S i)) (sides (basins_of N))) []

-- The two findings. "Both replies also hold a count: the count of marked basins."
unfoldable pub shut_in_finding : Network → Outcome
shut_in_finding N = let m = marks_of (shut_in_side N) in shut_in m (mark_count m)

unfoldable pub lone_finding : Network → ℕ → Outcome
lone_finding N i = let m = marks_of (bridge_side N i) in lone i m (mark_count m)

-- 9 "the network is not passable", 10 "it is passable and has a lone reach", else the plan that is asked for, or 11 if there is none.
abbrev pub chosen : Option (List ℕ) → Outcome
chosen (some s) = plan s
chosen none = refused LastPlan

abbrev pub or_lone : Network → Option ℕ → Option (List ℕ) → Outcome
or_lone N (some i) p = lone_finding N i
or_lone N none p = chosen p

unfoldable pub answer : Network → Option (List ℕ) → Outcome
answer N p = cond (passable N) (or_lone N (lowest_bridge N) p) (shut_in_finding N)

-- What first and next reply on an accepted network, next of one of its settings, with lent buffers long enough.
unfoldable pub first_answer : Network → Outcome
first_answer N = answer N (first_plan N)

unfoldable pub next_answer : Network → List ℕ → Outcome
next_answer N s = answer N (next_plan N s)

-- The first refusal of two that there is.
abbrev pub first_of : Option Refusal → Option Refusal → Option Refusal
first_of (some r) o = some r
first_of none o = o

-- What the check of a setting refuses: it "answers yes or no after 1, 2, 3, 8".
unfoldable pub check_fault : Network → List ℕ → Option Refusal
check_fault N s = first_of (table_fault N) (setting_fault N s)

-- Refusal 8 of calls that need a plan, as the writers do: "the setting (8 also if it isn't a plan)". A plan has the right length and no byte over 1.
abbrev pub plan_fault : Network → List ℕ → Option Refusal
plan_fault N s = cond (is_plan N s) none (some BadSetting)

-- A refusal if there is one, else the reply.
abbrev pub unless : Option Refusal → Outcome → Outcome
unless (some r) o = refused r
unless none o = o

-- Refusal 7, short buffer: "First and next plan need a plan buffer of as many bytes as gated reaches and a marks buffer of 32."
unfoldable pub room_fault : Network → ℕ → ℕ → Option Refusal
room_fault N plan_length marks_length = cond (leb (gate_count N) plan_length && leb mark_bytes marks_length) none (some ShortBuffer)

-- What first and next reply to any input, in the order 1, 2, 3, 8, 7, 9, 10, 11, with lent buffers of these lengths.
unfoldable pub first_reply : Network → ℕ → ℕ → Outcome
first_reply N plan_length marks_length = unless (table_fault N) (unless (room_fault N plan_length marks_length) (first_answer N))

unfoldable pub next_reply : Network → List ℕ → ℕ → ℕ → Outcome
next_reply N s plan_length marks_length =
    unless (table_fault N) (unless (setting_fault N s) (unless (room_fault N plan_length marks_length) (next_answer N s)))

-- What a reply leaves in the plan buffer and in the marks buffer: a plan is written to the first bytes of the one, the marks of a
-- finding to the first bytes of the other; "all beyond is untouched", and so is what the reply does not write.
abbrev pub plan_after : Outcome → List ℕ → List ℕ
plan_after o buffer = plan_in o ++ drop (length (plan_in o)) buffer

abbrev pub marks_after : Outcome → List ℕ → List ℕ
marks_after o buffer = marks_in o ++ drop (length (marks_in o)) buffer
