-- Sheets put into a buffer: findings, the sheet of a setting, and the rows cut to the length of the table.
-- Assumes nothing.
use Rattle.network.specs.declared.Refusal.{Refusal}
use Rattle.std.specs.Prelude.{Err, Ok, Result}
use Prim.Native.Nat.{ℕ, ◌+◌, ◌*◌, ◌-◌, ◌≤◌, ◌<◌}
use native.Mathlib.Omega.{arith}
use mathlib.Core.Path.{◌≡◌, sym, ap, subst, ◌∙◌}
use mathlib.Core.List.{List, [], ◌∷◌, ◌++◌, append_assoc}
use lib.ListN.{length, take, drop, set, length-append}
use lib.Seq.{sets, length-sets, length-take-le}
use Rattle.network.specs.declared.Refusal.TheVariants.{ShortBuffer}
use Rattle.network.specs.Networks.{max_reaches}
use Rattle.network.specs.Tables.{table_of}
use Rattle.network.specs.Settings.{gates_from}
use Rattle.tables.specs.Rows.{gates_in}
use Rattle.tables.proofs.Cuts.{cut-kinds}
use Rattle.file_records.specs.Records.{two_bytes}
use Rattle.file_records.specs.Puts.{WroteWhole}
use Rattle.file_records.proofs.Writing.{part-back}
use Rattle.lists.proofs.Lists.{sets-after, set-sets-long}
use Rattle.sheet_format.specs.Sheets.{gate_records, plan_sheet}
use Rattle.sheet_format.specs.Rows.{gates_row, Records, Fitting, Roomy, first_bytes_sheet}
use Rattle.file_records.proofs.Puts.{put-short, put_whole}
use Rattle.sheet_format.proofs.Gates.{gates-row, gates-few, count-row}
use Rattle.sheet_format.proofs.Sheets.{length-sheet}

-- ---- a finding: its kind and its values, the marks, the end

module _ (front marks out : List ℕ) where
  abbrev finding : List ℕ
  finding = front ++ (marks ++ (9 ∷ []))

  pub finding-size : length finding ≡ length front + length marks + 1
  finding-size = omega (arith, length-append front (marks ++ (9 ∷ [])), length-append marks (9 ∷ []))

  module _ (n j : ℕ) (e : n ≡ length front + length marks + 1) (at : j ≡ length front) (l₁ l₂ : List ℕ) (p : l₁ ≡ sets out 0 front) (q : l₂ ≡ sets l₁ j marks) where
    pub finding-done : n ≤ length out → WroteWhole finding out (Ok n) (set l₂ (n - 1) 9)
    finding-done l = put_whole finding out n (set l₂ (n - 1) 9) (omega (arith, finding-size)) l whole
      where
        values : l₂ ≡ sets out 0 (front ++ marks)
        values = q ∙ ap (λ l. sets l j marks) p ∙ sets-after out 0 j front marks (omega arith)

        place : n - 1 ≡ 0 + length (front ++ marks)
        place = omega (arith, length-append front marks)

        whole : set l₂ (n - 1) 9 ≡ sets out 0 finding
        whole =
            ap (λ l. set l (n - 1) 9) values
            ∙ sets-after out 0 (n - 1) (front ++ marks) (9 ∷ []) place
            ∙ ap (sets out 0) (append_assoc front marks (9 ∷ []))

-- ---- a setting that fits a row of kinds

module _ (ks s : List ℕ) (fit : Records ks s) where
  abbrev sheet : List ℕ
  sheet = plan_sheet (gates_row 0 ks) s

  pub sheet-few : length s ≤ max_reaches
  sheet-few = omega (arith, fit.few, fit.full, gates-few 0 ks)

  size : length sheet ≡ 3 * length s + 4
  size = length-sheet (gates_row 0 ks) s fit.full

  module _ (out : List ℕ) where
    pub sheet-short : length out < 3 * length s + 4 → WroteWhole sheet out (Err ShortBuffer) out
    sheet-short l = put-short sheet out (omega (arith, size))

    module _ (l : 3 * length s + 4 ≤ length out) (l₁ : List ℕ) (p : l₁ ≡ sets (set out 0 16) 1 (two_bytes (length s))) where
      -- the head keeps the buffer's length
      pub head-long : length l₁ ≡ length out
      head-long = set-sets-long out l₁ 0 16 1 (two_bytes (length s)) p

      module _ (part : List ℕ) (q : part ≡ sets (take (length l₁ - 3) (drop 3 l₁)) 0 (gate_records (gates_row 0 ks) s ++ (9 ∷ []))) where
        whole : take 3 l₁ ++ (part ++ drop (length l₁ - 3) (drop 3 l₁)) ≡ sets out 0 sheet
        whole =
            let records = gate_records (gates_row 0 ks) s ++ (9 ∷ []) in
            part-back 3 l₁ part records (omega (arith, size, head-long)) q
            ∙ ap (λ l. sets l 3 records) p
            ∙ sets-after out 0 3 (16 ∷ two_bytes (length s)) records (omega arith)
            ∙ ap (λ n. sets out 0 ((16 ∷ two_bytes n) ++ records)) fit.full

        pub sheet-long : length (take 3 l₁ ++ (part ++ drop (length l₁ - 3) (drop 3 l₁))) ≡ length out
        sheet-long = ap length whole ∙ length-sets out 0 sheet

        pub sheet-done : WroteWhole sheet out (Ok (3 * length s + 4)) (take 3 l₁ ++ (part ++ drop (length l₁ - 3) (drop 3 l₁)))
        sheet-done = put_whole sheet out (3 * length s + 4) _ (sym size) l whole

-- the rows cut to the length of the table
module _ (ks xs ys : List ℕ) (m : ℕ) (e : m ≡ length (table_of ks xs ys)) where
  pub cut-gates-row : gates_row 0 (take m ks) ≡ gates_from 0 (table_of ks xs ys)
  cut-gates-row = rw e (gates-row 0 ks xs ys)

  pub cut_fits : (s : List ℕ) → Fitting (table_of ks xs ys) s → Records (take m ks) s
  cut_fits s f =
      record { few = omega (arith, length-take-le m ks (cut-kinds ks xs ys m e), f.few); full = f.full ∙ sym (ap length cut-gates-row) }

  pub cut-sheet :
      (s out : List ℕ) (r : Result ℕ Refusal) (out' : List ℕ)
      → WroteWhole (plan_sheet (gates_row 0 (take m ks)) s) out r out'
      → WroteWhole (plan_sheet (gates_from 0 (table_of ks xs ys)) s) out r out'
  cut-sheet s out r out' = subst (λ gs. WroteWhole (plan_sheet gs s) out r out') cut-gates-row

  -- the first bytes of a plan buffer, one for each gated reach
  module _ (plan : List ℕ) (roomy : Roomy (table_of ks xs ys) plan) (g : ℕ) (count : g ≡ gates_in (take m ks)) where
    gate-count : g ≡ length (gates_from 0 (table_of ks xs ys))
    gate-count = count ∙ sym (count-row 0 (take m ks)) ∙ ap length cut-gates-row

    pub cut-room : g ≤ length plan
    cut-room = omega (arith, gate-count, roomy.room)

    pub cut-plan : Fitting (table_of ks xs ys) (take g plan)
    cut-plan = record { few = roomy.few; full = length-take-le g plan cut-room ∙ gate-count }

    pub cut-first :
        (out : List ℕ) (r : Result ℕ Refusal) (out' : List ℕ)
        → WroteWhole (plan_sheet (gates_from 0 (table_of ks xs ys)) (take g plan)) out r out'
        → WroteWhole (first_bytes_sheet (table_of ks xs ys) plan) out r out'
    cut-first out r out' =
        subst (λ n. WroteWhole (plan_sheet (gates_from 0 (table_of ks xs ys)) (take n plan)) out r out') gate-count
