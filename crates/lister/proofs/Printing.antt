-- What is written of a text whose first bytes stand in a buffer, and what is left of it.
-- Assumes nothing.
use Rattle.std.proofs.Common.{◌≡◌, ℕ, List, ◌++◌, take, drop, ap, subst, ◌∙◌, arith, append_assoc, length-take-le, take-append-drop, None, Some, IfSome}
use lib.Seq.{take_at, take-take}
use Rattle.std.specs.declared.option.Option.{Option}
use Rattle.netfile_format.specs.Files.{read_file}
use Rattle.lines.specs.Listings.{max_bytes, reading_lines, listing}
use Rattle.listing_state.specs.declared.Lister.{Lister}
use Rattle.listing_state.specs.declared.Filled.{Filled}
use Rattle.listing_state.specs.Pending.{pending, Filling}

module _ {l : Lister} {kinds a b out out' : List ℕ} {r : Filled} (f : Filling l kinds a b out out' r) where
  -- the bytes in the buffer are the first of what was to be printed
  filled-bytes : take r.count out' ≡ take r.count (pending l kinds a b)
  filled-bytes =
      let text = pending l kinds a b in
      ap (take r.count) f.printed.bytes ∙ take_at (take r.count text) (drop r.count out) r.count (length-take-le r.count text (omega (arith, f.printed.count)))

  -- they and what is then to be printed make what was to be printed
  pub printed-on : (done : List ℕ) {all : List ℕ} → done ++ pending l kinds a b ≡ all → (done ++ take r.count out') ++ pending r.lister kinds a b ≡ all
  printed-on done before =
      let text = pending l kinds a b in
      append_assoc done (take r.count out') (pending r.lister kinds a b)
      ∙ ap (λ (t : List ℕ). done ++ t)
      (ap (λ (t : List ℕ). t ++ pending r.lister kinds a b) filled-bytes ∙ ap (λ (t : List ℕ). take r.count text ++ t) f.to-print ∙ take-append-drop r.count text)
      ∙ before

-- what is listed of the first bytes of a file is its listing
pub listed : (known : Option (List ℕ)) (front : List ℕ) (P : List ℕ → Type 0) → IfSome known (λ file. front ≡ take max_bytes file) → P (listing front) → IfSome known (λ file. P (listing file))
unfolding listing
listed None front P e p = tt
listed (Some file) front P e p =
    subst (λ (t : List ℕ). P (reading_lines (read_file t))) (ap (take max_bytes) e ∙ take-take max_bytes max_bytes file (omega arith)) p
