-- "The lister": all bytes that it prints for the bytes of its input. Characters are their ASCII codes.
-- Assumes nothing.
use Rattle.std.specs.Prelude.{ℕ, zero, suc, ◌+◌, ◌/◌, ◌%◌, cond, List, [], ◌∷◌, ◌++◌, map, take, eqb, ltb}
use Rattle.std.proofs.Math.Option.{Option, none, some}
use Rattle.network.specs.Networks.{Network}
use Rattle.network.specs.Plans.{next_plan}
use Rattle.network.specs.Replies.{Outcome, plan, shut_in, lone, refused, refusal_number, first_answer}
use Rattle.netfile_format.specs.Files.{Reading, refused as unread, read, read_file}

-- "It reads at most the first 8,000 bytes"; "at most 1,000 plans".
abbrev pub max_bytes : ℕ
max_bytes = 8000

abbrev pub max_plans : ℕ
max_plans = 1000

-- Every line ends with one newline.
abbrev pub line : List ℕ → List ℕ
line text = text ++ (10 ∷ [])

-- "A character 0 or 1 for each gated reach (`-` if there is none)."
abbrev pub character : ℕ → ℕ
character zero = 48
character (suc x) = 49

abbrev pub plan_text : List ℕ → List ℕ
plan_text [] = 45 ∷ []
plan_text (x ∷ s) = map character (x ∷ s)

-- `end` and `more`
abbrev pub end_text : List ℕ
end_text = 101 ∷ 110 ∷ 100 ∷ []

abbrev pub more_text : List ℕ
more_text = 109 ∷ 111 ∷ 114 ∷ 101 ∷ []

-- The decimal digits of a number below 100.
abbrev pub decimal : ℕ → List ℕ
decimal n = cond (ltb n 10) ((48 + n) ∷ []) ((48 + n / 10) ∷ (48 + n % 10) ∷ [])

-- "`refused ` and the number."
abbrev pub refused_text : ℕ → List ℕ
refused_text n = (114 ∷ 101 ∷ 102 ∷ 117 ∷ 115 ∷ 101 ∷ 100 ∷ 32 ∷ []) ++ decimal n

-- The lines from a plan on, if there is one, where n plans may still be printed: "each plan on a line", "in order"; "then `end` if no plan is later,
-- else `more`".
abbrev pub or_end : Option (List ℕ) → (List ℕ → List ℕ) → List ℕ
or_end none g = line end_text
or_end (some p) g = g p

unfoldable pub plans_from : Network → ℕ → Option (List ℕ) → List ℕ
plans_from N zero p = or_end p (λ s. line more_text)
plans_from N (suc n) p = or_end p (λ s. line (plan_text s) ++ plans_from N n (next_plan N s))

-- "Only one line" for a refusal by number only. 11 says that no plan is later.
abbrev pub refusal_line : ℕ → List ℕ
refusal_line r = cond (eqb r 11) (line end_text) (line (refused_text r))

-- The lines for a reply of first or of next.
abbrev pub reply_lines : Network → ℕ → Outcome → List ℕ
reply_lines N n (plan p) = plans_from N n (some p)
reply_lines N n (shut_in m c) = line (refused_text 9)
reply_lines N n (lone i m c) = line (refused_text 10)
reply_lines N n (refused r) = refusal_line (refusal_number r)

-- The lines for what a file is read as. A network that is read is accepted.
abbrev pub reading_lines : Reading → List ℕ
reading_lines (unread r) = refusal_line (refusal_number r)
reading_lines (read N) = reply_lines N max_plans (first_answer N)

-- "It reads at most the first 8,000 bytes of a network file on standard input; these fix the reply."
unfoldable pub listing : List ℕ → List ℕ
listing file = reading_lines (read_file (take max_bytes file))
