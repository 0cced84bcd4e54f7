-- How an index grows by one half-edge.
-- Assumes nothing.
use Prim.Native.Nat.{ℕ, ◌+◌, ◌*◌, ◌≤◌, ◌<◌}
use mathlib.Core.Path.{◌≡◌, sym, ◌∙◌}
use mathlib.Core.List.{List, ◌++◌}
use native.Mathlib.Decide.{ℕ_discrete}
use native.Mathlib.Omega.{arith}
use borrow.Author.Count.{below_more}
use lib.ListN.{length, get_or, set, drop, replicate, length-append, length-drop, length-set, length-replicate, get_or-replicate, get_or-append}
use lib.Seq.{get_or-set_same, get_or-set_other}
use Rattle.half_edges.specs.Ends.{halves, end_of}
use Rattle.half_edges.specs.Chains.{no_half, Last, nothing, last, Linked, Table}
use Rattle.half_edges.proofs.Halves.{end-even, end-odd}

module _ (n : ℕ) (xs ys : List ℕ) where
  -- a half-edge at another basin changes nothing
  last-passed : (x v c : ℕ) → (end_of xs ys x ≡ v → ⊥) → Last xs ys x v c → Last xs ys (x + 1) v c
  last-passed x v c other (nothing e f) = nothing e (below_more (λ h. end_of xs ys h ≡ v → ⊥) x f other)
  last-passed x v c other (last b e f) =
      last (omega arith) e (λ h l m. below_more (λ k. c < k → end_of xs ys k ≡ v → ⊥) x (λ k s t. f k t s) (λ _. other) h m l)

  -- with no half-edge linked, every basin has none
  pub linked-none : (head next : List ℕ) → n ≤ length head → halves xs ≤ length next → Linked 0 n xs ys (replicate n no_half ++ drop n head) next
  linked-none head next hr nr =
      record {
        heads = λ v l. nothing (get_or-append (replicate n no_half) (drop n head) 0 v (rw length-replicate l) ∙ get_or-replicate n v no_half 0 l) (λ h b. absurd (omega arith));
        nexts = λ h b. absurd (omega arith);
        head-room = simp (length-append, length-replicate, length-drop) (omega arith);
        next-room = nr;
      }

  -- half-edge x, which stands at v, is put before the others there
  pub linked-more : (x v : ℕ) (head next : List ℕ) → v ≡ end_of xs ys x → v < n → x < halves xs → Linked x n xs ys head next
      → Linked (x + 1) n xs ys (set head v x) (set next x (get_or head v 0))
  linked-more x v head next e b m k =
      record {
        heads = λ w l. at w l (ℕ_discrete w v);
        nexts = below_more (λ h. Last xs ys h (end_of xs ys h) (get_or (set next x (get_or head v 0)) h 0)) x
            (λ h l. rw (get_or-set_other next x h (get_or head v 0) 0 (omega arith)) (k.nexts h l))
            (rw (get_or-set_same next x (get_or head v 0) 0 (omega arith), ← e) (k.heads v b));
        head-room = simp length-set k.head-room;
        next-room = simp length-set k.next-room;
      }
    where
      at : (w : ℕ) → w < n → Dec (w ≡ v) → Last xs ys (x + 1) w (get_or (set head v x) w 0)
      at w l (yes q) =
          rw (q, get_or-set_same head v x 0 (omega arith)) (last (omega arith) (sym e) (λ h s t. absurd (omega arith)))
      at w l (no q) = rw (get_or-set_other head v w x 0 q) (last-passed x w (get_or head w 0) (λ r. q (sym r ∙ sym e)) (k.heads w l))

  -- the two half-edges of reach i are put before the others at its ends
  pub linked-reach : (i : ℕ) (head next head₁ next₁ head₂ next₂ : List ℕ) → Table n xs ys → i < length xs → Linked (2 * i) n xs ys head next
      → head₁ ≡ set head (get_or xs i 0) (2 * i) → next₁ ≡ set next (2 * i) (get_or head (get_or xs i 0) 0)
      → head₂ ≡ set head₁ (get_or ys i 0) (2 * i + 1) → next₂ ≡ set next₁ (2 * i + 1) (get_or head₁ (get_or ys i 0) 0)
      → Linked (2 * (i + 1)) n xs ys head₂ next₂
  linked-reach i head next head₁ next₁ head₂ next₂ t l k p₁ q₁ p₂ q₂ =
      let two : 2 * (i + 1) ≡ 2 * i + 1 + 1 = omega arith in
      let k₁ : Linked (2 * i + 1) n xs ys head₁ next₁ = rw (p₁, q₁) (linked-more (2 * i) (get_or xs i 0) head next (sym (end-even xs ys i)) (t.ends-a i l) (omega arith) k) in
      rw (two, p₂, q₂) (linked-more (2 * i + 1) (get_or ys i 0) head₁ next₁ (sym (end-odd xs ys i)) (t.ends-b i l) (omega arith) k₁)
