-- The bytes of plan sheets and finding sheets, and of the sheet that a network's reply is put down as.
-- Assumes nothing.
use Rattle.std.specs.Prelude.{ℕ, zero, suc, List, [], ◌∷◌, ◌++◌, length}
use Rattle.network.specs.Networks.{Network}
use Rattle.network.specs.Settings.{gates}
use Rattle.network.specs.Replies.{Outcome, plan, shut_in, lone, refused, first_answer}
use Rattle.file_records.specs.Records.{two_bytes, end_kind}

-- The kind bytes: 16 "plan head"; 17, 18 "as drawn, turned"; 20 "shut in"; 21 "lone". The end is that of a network file, 9.
abbrev pub plan_kind : ℕ
plan_kind = 16

abbrev pub as_drawn_kind : ℕ
as_drawn_kind = 17

abbrev pub turned_kind : ℕ
turned_kind = 18

abbrev pub shut_in_kind : ℕ
shut_in_kind = 20

abbrev pub lone_kind : ℕ
lone_kind = 21

-- The kind byte of a gated reach by its byte in the setting: "0 as drawn, 1 turned".
abbrev pub gate_kind : ℕ → ℕ
gate_kind zero = as_drawn_kind
gate_kind (suc x) = turned_kind

-- The record of the gated reach with this number: "as drawn, turned: reach number".
abbrev pub gate_record : ℕ → ℕ → List ℕ
gate_record i x = gate_kind x ∷ two_bytes i

-- "One record for each gated reach in order": the gated reaches by their numbers, and a setting.
abbrev pub gate_records : List ℕ → List ℕ → List ℕ
gate_records [] s = []
gate_records (i ∷ gs) [] = []
gate_records (i ∷ gs) (x ∷ s) = gate_record i x ++ gate_records gs s

-- The records of a plan sheet and the end, which come after the head.
abbrev pub sheet_records : List ℕ → List ℕ → List ℕ
sheet_records gs s = gate_records gs s ++ (end_kind ∷ [])

-- "A plan sheet is kind 16, one record for each gated reach in order, an end"; "plan head: number of gated reaches".
abbrev pub plan_sheet : List ℕ → List ℕ → List ℕ
plan_sheet gs s = (plan_kind ∷ two_bytes (length gs)) ++ sheet_records gs s

-- The plan sheet of a network. Document 02, item 1: a shut reach has no "record on a sheet"; it is none of the gated reaches.
abbrev pub sheet_of : Network → List ℕ → List ℕ
sheet_of N s = plan_sheet (gates N) s

-- "A finding sheet is kind 20 or 21 and an end": "shut in: marks"; "lone: reach number, marks".
abbrev pub shut_in_sheet : List ℕ → List ℕ
shut_in_sheet m = shut_in_kind ∷ (m ++ (end_kind ∷ []))

abbrev pub lone_sheet : ℕ → List ℕ → List ℕ
lone_sheet i m = (lone_kind ∷ two_bytes i) ++ (m ++ (end_kind ∷ []))

-- A reply "as a plan or finding sheet"; a refusal has none.
abbrev pub outcome_sheet : Network → Outcome → List ℕ
outcome_sheet N (plan s) = sheet_of N s
outcome_sheet N (shut_in m c) = shut_in_sheet m
outcome_sheet N (lone i m c) = lone_sheet i m
outcome_sheet N (refused r) = []

-- "The reply writer puts down a network's first-plan reply as a plan or finding sheet."
unfoldable pub reply_sheet : Network → List ℕ
reply_sheet N = outcome_sheet N (first_answer N)
