-- Bytes of gated reaches that are written reach by reach to the front of a plan.
-- Assumes nothing.
use Prim.Native.Nat.{ℕ, ◌+◌, ◌≤◌, ◌<◌}
use mathlib.Core.Path.{◌≡◌, refl}
use mathlib.Core.List.{List, ◌++◌, append-nil}
use native.Mathlib.Omega.{arith}
use lib.ListN.{length, get_or, take, drop, set, length-set, drop_of_length-le, take-append-drop}
use lib.Seq.{drop-set-lt, drop-drop}
use Rattle.tables.specs.Rows.{gates_in, bytes_row}
use Rattle.tables.proofs.Turns.{gates-gate, gates-other, gates-done}
use Rattle.lists.proofs.Lists.{drop-one, take-stored}
use Rattle.network.proofs.Networks.{not-gated}

-- The bytes of the gates among the first i reaches are the first k of the plan, and the others are as they were.
pub record Gathered (ks ws plan₀ plan : List ℕ) (k i : ℕ) : Type 0 where
  pub whole : take k plan ++ bytes_row (drop i ks) (drop i ws) ≡ bytes_row ks ws
  pub count : k + gates_in (drop i ks) ≡ gates_in ks
  pub rest : drop k plan ≡ drop k plan₀
  pub below : i ≤ length ks
  pub kept : length plan ≡ length plan₀

pub gathered_none : (ks ws plan : List ℕ) → Gathered ks ws plan plan 0 0
gathered_none ks ws plan = record { whole = refl; count = omega arith; rest = refl; below = omega arith; kept = refl }

module _ (ks ws plan₀ plan : List ℕ) (k i : ℕ) (paired : length ws ≡ length ks) (room : gates_in ks ≤ length plan₀) (h : Gathered ks ws plan₀ plan k i) where
  -- a gate has a place in the plan
  pub gate-room : i < length ks → get_or ks i 0 ≡ 0 → k < length plan
  gate-room l e = omega (arith, h.count, h.kept, gates-gate ks i l e)

  -- one more reach: the byte of a gate is written, of another reach nothing
  pub gathered-gate : i < length ks → get_or ks i 0 ≡ 0 → (new : List ℕ) → new ≡ set plan k (get_or ws i 0) → Gathered ks ws plan₀ new (k + 1) (i + 1)
  gathered-gate l e new stored =
      let m : k < length plan = gate-room l e in
      rw stored
      (record {
        whole = rw (take-stored plan k (get_or ws i 0) _ m) (rw (drop-one ks i 0 l, drop-one ws i 0 (omega arith), e) at h.whole);
        count = omega (arith, h.count, gates-gate ks i l e);
        rest = rw (drop-set-lt (k + 1) plan k (get_or ws i 0) (omega arith), ← drop-drop 1 k plan, ← drop-drop 1 k plan₀, h.rest);
        below = omega arith;
        kept = simp length-set h.kept;
      })

  pub gathered-other : i < length ks → (get_or ks i 0 ≡ 0 → ⊥) → Gathered ks ws plan₀ plan k (i + 1)
  gathered-other l n =
      record {
        whole = rw (drop-one ks i 0 l, drop-one ws i 0 (omega arith), not-gated (get_or ks i 0) n) at h.whole;
        count = omega (arith, h.count, gates-other ks i l n);
        rest = h.rest;
        below = omega arith;
        kept = h.kept;
      }

  -- at the end the bytes of all gates are written, and no more
  pub gathered-all : length ks ≤ i → plan ≡ bytes_row ks ws ++ drop (gates_in ks) plan₀
  gathered-all l =
      let bytes : take k plan ≡ bytes_row ks ws = rw (drop_of_length-le ks l, append-nil) at h.whole in
      let all : k ≡ gates_in ks = omega (arith, h.count, gates-done ks i l) in
      cc (take-append-drop k plan, h.rest)
