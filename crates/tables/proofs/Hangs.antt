-- Ways that are written reach by reach under a setting.
-- Assumes nothing.
use Prim.Native.Nat.{ℕ, ◌+◌, ◌≤◌, ◌<◌}
use mathlib.Core.Path.{◌≡◌, refl, sym, ◌∙◌}
use mathlib.Core.List.{List, ◌++◌, append-nil}
use native.Mathlib.Omega.{arith}
use lib.ListN.{length, get_or, take, drop, set, length-set, drop_of_length-le}
use lib.Seq.{take_all, drop-drop}
use Rattle.network.specs.Tables.{state_of}
use Rattle.network.specs.Orientations.{way, after}
use Rattle.tables.specs.Rows.{ways_row}
use Rattle.lists.proofs.Lists.{drop-one, take-stored}
use Rattle.network.proofs.Networks.{not-gated, state-shut}
use Rattle.network.proofs.Ways.{plain_here, plain-after, shut-plain, shut-way}

-- The ways of the first i reaches are written, with k gates among them.
pub record WaysWritten (ks s ws₀ ws : List ℕ) (k i : ℕ) : Type 0 where
  pub whole : take i ws ++ ways_row (drop i ks) (drop k s) ≡ ways_row ks s
  pub gates : k ≤ i
  pub below : i ≤ length ks
  pub kept : length ws ≡ length ws₀

pub ways-none : (ks s ws : List ℕ) → WaysWritten ks s ws ws 0 0
ways-none ks s ws = record { whole = refl; gates = omega arith; below = omega arith; kept = refl }

-- the way of a gate with a byte, of a gate without one, of a two-way reach, and of a shut reach
pub way-byte : (d k : ℕ) (s : List ℕ) → d ≡ 0 → k < length s → get_or s k 0 ≡ way (state_of d) (drop k s)
way-byte d k s e l = rw (e, drop-one s k 0 l)

pub way-free : (d k : ℕ) (s : List ℕ) → d ≡ 0 → length s ≤ k → 2 ≡ way (state_of d) (drop k s)
way-free d k s e l = rw (e, drop_of_length-le s l)

pub way-two : (d : ℕ) (h : List ℕ) → d ≡ 2 → 2 ≡ way (state_of d) h
way-two d h e = rw e

pub way-shut : (d : ℕ) (h : List ℕ) → 3 ≤ d → 3 ≡ way (state_of d) h
way-shut d h l = let e = state-shut d l in sym (plain_here (state_of d) h (shut-plain (state_of d) e) ∙ shut-way (state_of d) e)

-- the bytes after a gate, and after another reach
pub after-gate : (d k : ℕ) (s : List ℕ) → d ≡ 0 → after (state_of d) (drop k s) ≡ drop (k + 1) s
after-gate d k s e = rw e (drop-drop 1 k s)

pub after-other : (d : ℕ) (h : List ℕ) → (d ≡ 0 → ⊥) → after (state_of d) h ≡ h
after-other d h n = plain-after (state_of d) h (not-gated d n)

module _ (ks s ws₀ ws : List ℕ) (k i : ℕ) (room : length ws₀ ≡ length ks) (h : WaysWritten ks s ws₀ ws k i) where
  -- one more way: of the reach i, with the byte k if it is a gate
  pub ways-more : (w k' : ℕ) → i < length ks → k' ≤ k + 1 → w ≡ way (state_of (get_or ks i 0)) (drop k s) → after (state_of (get_or ks i 0)) (drop k s) ≡ drop k' s → WaysWritten ks s ws₀ (set ws i w) k' (i + 1)
  ways-more w k' l g e f =
      let m : i < length ws = omega (arith, h.kept) in
      record {
        whole = rw (take-stored ws i w _ m, e, ← f) (rw (drop-one ks i 0 l) at h.whole);
        gates = omega (arith, h.gates);
        below = omega arith;
        kept = simp length-set h.kept;
      }

  -- at the end the ways are all written
  pub ways-all : length ks ≤ i → ws ≡ ways_row ks s
  ways-all l = rw (drop_of_length-le ks l, take_all i ws (omega (arith, h.kept)), append-nil) at h.whole
