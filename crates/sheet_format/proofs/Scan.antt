-- The scan of a sheet's records: what is known of the reading after k of them.
-- Assumes nothing.
use Rattle.std.specs.Prelude.{Err, Ok}
use Prim.Native.Nat.{ℕ, suc, ◌+◌, ◌≤◌, ◌<◌}
use native.Mathlib.Omega.{arith}
use mathlib.Core.Path.{◌≡◌, refl, sym, ap, ◌∙◌}
use mathlib.Core.Bool.{cond}
use mathlib.Core.List.{List, [], ◌∷◌, ◌++◌, append-nil, append_assoc}
use lib.ListN.{length, take, drop, set, length-set, length-drop, drop_of_length-le}
use lib.Seq.{drop-drop, take-suc-set, length-take-le}
use lib.Dec.{eqb}
use borrow.Author.Tests.{eq-eqb, ne_eqb}
use Rattle.network.specs.declared.Refusal.{Refusal}
use Rattle.network.specs.declared.Refusal.TheVariants.{BadSetting, TrailingBytes}
use Rattle.lists.specs.Words.{word_of}
use Rattle.file_records.specs.Records.{take_record, taken_answer}
use Rattle.sheet_format.specs.Readings.{gate_due, SheetReading, sheet_refused, sheet_says, at_sheet_end, byte_in, with_byte, read_gates}
use Rattle.sheet_format.specs.Rows.{gates_row, due, NextGate}
use Rattle.sheet_format.specs.Answers.{Held}
use Rattle.sheet_format.proofs.Steps.{GateStood, sheet-step-broken, sheet-step-end, sheet-step-early, GateStep, gate-front}

-- the reading with bytes more, in front of the others
abbrev with_bytes : List ℕ → SheetReading → SheetReading
with_bytes s (sheet_refused r) = sheet_refused r
with_bytes s (sheet_says t) = sheet_says (s ++ t)

with_none : (x : SheetReading) → x ≡ with_bytes [] x
with_none (sheet_refused r) = refl
with_none (sheet_says s) = refl

with-more : (s : List ℕ) (b : ℕ) (x : SheetReading) → with_bytes s (with_byte b x) ≡ with_bytes (s ++ (b ∷ [])) x
with-more s b (sheet_refused r) = refl
with-more s b (sheet_says t) = ap sheet_says (sym (append_assoc s (b ∷ []) t))

at-end-over : (f : List ℕ) → 0 < length f → at_sheet_end f ≡ sheet_refused TrailingBytes
at-end-over [] l = absurd (omega arith)
at-end-over (x ∷ f) l = refl

pub held-refused : {x : SheetReading} (r : Refusal) (held : List ℕ) → x ≡ sheet_refused r → Held x (Err r) held
held-refused r held e = rw e (record { answer = refl; bytes = refl })

-- the reading of the whole, by what is left at a position where k records have been passed, the last of a reach before i
pub record SheetScanned (ks sheet held₀ held : List ℕ) (at i k : ℕ) : Type 0 where
  pub below : at ≤ length sheet
  pub within : i ≤ length ks
  pub count : k + length (due ks i) ≡ length (gates_row 0 ks)
  pub reading : read_gates (gates_row 0 ks) (drop 3 sheet) ≡ with_bytes (take k held) (read_gates (due ks i) (drop at sheet))
  pub long : length held ≡ length held₀

pub sheet-scan-start : (ks sheet held : List ℕ) → 3 ≤ length sheet → SheetScanned ks sheet held held 3 0 0
sheet-scan-start ks sheet held l = record { below = l; within = omega arith; count = omega arith; reading = with_none _; long = refl }

module _ {ks sheet held₀ held : List ℕ} {at i k : ℕ} (s : SheetScanned ks sheet held₀ held at i k) where
  -- a refusal of what is left is one of the whole
  fails : (r : Refusal) → read_gates (due ks i) (drop at sheet) ≡ sheet_refused r → Held (read_gates (gates_row 0 ks) (drop 3 sheet)) (Err r) held
  fails r e = held-refused r held (s.reading ∙ ap (with_bytes (take k held)) e)

  pub sheet-scan-broken : (r : Refusal) → taken_answer (take_record gate_due (drop at sheet)) ≡ Err r → Held (read_gates (gates_row 0 ks) (drop 3 sheet)) (Err r) held
  sheet-scan-broken r e = fails r (sheet-step-broken (drop at sheet) (due ks i) r e)

  module _ {kind : ℕ} (e : GateStood (drop at sheet) kind) {r : ℕ} (g : NextGate ks i r) where
    -- the end comes before all have theirs
    pub sheet-scan-early : kind ≡ 9 → r < length ks → Held (read_gates (gates_row 0 ks) (drop 3 sheet)) (Err BadSetting) held
    sheet-scan-early q l =
        fails BadSetting
        (ap (λ gs. read_gates gs (drop at sheet)) (g.is-next l) ∙ sheet-step-early (drop at sheet) (e ∙ ap Ok q) r (due ks (suc r)))

    ends : kind ≡ 9 → length ks ≤ r → read_gates (due ks i) (drop at sheet) ≡ at_sheet_end (drop (at + 1) sheet)
    ends q l = ap (λ gs. read_gates gs (drop at sheet)) (g.none_left l) ∙ sheet-step-end (drop at sheet) (e ∙ ap Ok q) ∙ ap at_sheet_end (drop-drop 1 at sheet)

    pub sheet-scan-over : kind ≡ 9 → length ks ≤ r → at + 1 < length sheet → Held (read_gates (gates_row 0 ks) (drop 3 sheet)) (Err TrailingBytes) held
    sheet-scan-over q l o = fails TrailingBytes (ends q l ∙ at-end-over (drop (at + 1) sheet) (simp length-drop (omega arith)))

    pub sheet-scan-end :
        kind ≡ 9 → length ks ≤ r → length sheet ≤ at + 1 → length (gates_row 0 ks) ≤ length held₀
        → Held (read_gates (gates_row 0 ks) (drop 3 sheet)) (Ok k) held
    sheet-scan-end q l o room =
        let size : length (take k held) ≡ k = length-take-le k held (omega (arith, s.count, s.long)) in
        let done : read_gates (due ks i) (drop at sheet) ≡ sheet_says [] = ends q l ∙ rw (drop_of_length-le sheet o) in
        let whole : read_gates (gates_row 0 ks) (drop 3 sheet) ≡ sheet_says (take k held) =
        s.reading ∙ ap (with_bytes (take k held)) done ∙ ap sheet_says (append-nil (take k held)) in
        rw whole (record { answer = ap Ok (sym size); bytes = ap (λ n. take n held) size })

    module _ (q : kind ≡ 9 → ⊥) where
      step : GateStep (drop at sheet) kind
      step = gate-front (drop at sheet) kind e q

      -- it fits
      pub sheet-scan-fits : at + 3 ≤ length sheet
      sheet-scan-fits = let f : 3 ≤ length (drop at sheet) = step.fits in omega (arith, length-drop at sheet)

      -- a record comes after all have theirs
      pub sheet-scan-after : length ks ≤ r → Held (read_gates (gates_row 0 ks) (drop 3 sheet)) (Err BadSetting) held
      sheet-scan-after l = fails BadSetting (ap (λ gs. read_gates gs (drop at sheet)) (g.none_left l) ∙ step.over)

      module _ (l : r < length ks) (n : ℕ) (w : n ≡ word_of (take 2 (drop (at + 1) sheet))) where
        here :
            read_gates (due ks i) (drop at sheet)
            ≡ cond (eqb n r) (with_byte (byte_in kind) (read_gates (due ks (suc r)) (drop (at + 3) sheet))) (sheet_refused BadSetting)
        here =
            ap (λ gs. read_gates gs (drop at sheet)) (g.is-next l)
            ∙ step.next r (due ks (suc r))
            ∙ rw (drop-drop 1 at sheet, drop-drop 3 at sheet, ← w)

        -- a record is not the next gated reach
        pub sheet-scan-other : (n ≡ r → ⊥) → Held (read_gates (gates_row 0 ks) (drop 3 sheet)) (Err BadSetting) held
        sheet-scan-other d = fails BadSetting (here ∙ rw (ne_eqb n r d))

        pub sheet-scan-room : length (gates_row 0 ks) ≤ length held₀ → k < length held
        sheet-scan-room room = let c = ap length (g.is-next l) in omega (arith, s.count, s.long)

        pub sheet-scan-next :
            n ≡ r → length (gates_row 0 ks) ≤ length held₀ → (b : ℕ) → b ≡ byte_in kind
            → SheetScanned ks sheet held₀ (set held k b) (at + 3) (r + 1) (k + 1)
        sheet-scan-next d room b v =
            let after-r : r + 1 ≡ suc r = omega arith in
            let after-k : k + 1 ≡ suc k = omega arith in
            let goes : read_gates (due ks i) (drop at sheet) ≡ with_byte (byte_in kind) (read_gates (due ks (suc r)) (drop (at + 3) sheet)) =
            here ∙ rw (eq-eqb n r d) in
            record {
              below = sheet-scan-fits;
              within = omega arith;
              count = rw after-r (let c = ap length (g.is-next l) in omega (arith, s.count));
              reading =
                  s.reading
                  ∙ ap (with_bytes (take k held)) goes
                  ∙ with-more (take k held) (byte_in kind) (read_gates (due ks (suc r)) (drop (at + 3) sheet))
                  ∙ rw (after-r, after-k, take-suc-set held k b (sheet-scan-room room), v);
              long = length-set held k b ∙ s.long;
            }
