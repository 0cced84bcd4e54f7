-- The first bytes of a text put to the front of a buffer, byte by byte.
-- Assumes nothing.
use Prim.Native.Nat.{ℕ, zero, suc, ◌+◌, ◌≤◌, min}
use native.Mathlib.Omega.{arith}
use mathlib.Core.Path.{◌≡◌, refl, sym, subst, ap, ◌∙◌}
use mathlib.Core.List.{List, [], ◌∷◌, ◌++◌}
use lib.ListN.{length, take, drop, set, length-append}
use lib.Seq.{take-append-le, get_or_at}
use Rattle.lists.proofs.Lists.{Copied, copied-length, copied_more}
use Rattle.lines.specs.Listings.{character}
use Rattle.lines.specs.Puts.{Put}

module _ {text old new : List ℕ} {i : ℕ} (c : Copied text old new i) where
  -- as many bytes as there are, or as the buffer holds
  pub copied-end : {n : ℕ} → n ≡ min (length text) (length old) → n ≤ i → Put text old new n
  copied-end {n} e l =
      let same : i ≡ n = omega (arith, c.within, c.room) in
      record { count = e; bytes = c.bytes ∙ ap (λ (k : ℕ). take k text ++ drop k old) same }

-- the character of a byte that is 0, and of one that is not
pub character-0 : (x : ℕ) → x ≡ 0 → 48 ≡ character x
character-0 x e = rw e

pub character-other : (x : ℕ) → (x ≡ 0 → ⊥) → 49 ≡ character x
character-other zero n = absurd (n refl)
character-other (suc x) n = refl

-- ---- texts put

module _ {text old new : List ℕ} where
  pub put_same : {other : List ℕ} {n : ℕ} → text ≡ other → Put text old new n → Put other old new n
  put_same {n} e p = subst (λ (t : List ℕ). Put t old new n) e p

pub put-nothing : {text : List ℕ} (old : List ℕ) → text ≡ [] → Put text old old 0
put-nothing old e = record { count = omega (arith, ap length e); bytes = refl }

module _ {text old new : List ℕ} {n : ℕ} (p : Put text old new n) where
  pub put-copied : Copied text old new n
  put-copied = record { within = omega (arith, p.count); room = omega (arith, p.count); bytes = p.bytes }

  -- a full buffer holds the first bytes of any longer text
  pub put_full : (more : List ℕ) → n ≡ length new → Put (text ++ more) old new n
  put_full more e =
      record {
        count = omega (arith, p.count, copied-length put-copied, length-append text more);
        bytes = p.bytes ∙ ap (λ (t : List ℕ). t ++ drop n old) (sym (take-append-le n text more (omega (arith, p.count))));
      }

  -- a buffer with room left takes one byte more
  pub put_last : (x : ℕ) → (n ≡ length new → ⊥) → Put (text ++ (x ∷ [])) old (set new n x) (n + 1)
  put_last x l =
      let whole : n ≡ length text = omega (arith, p.count, copied-length put-copied) in
      let size = length-append text (x ∷ []) in
      let begun : Copied (text ++ (x ∷ [])) old new n =
      record {
        within = omega arith;
        room = omega (arith, p.count);
        bytes = p.bytes ∙ ap (λ (t : List ℕ). t ++ drop n old) (sym (take-append-le n text (x ∷ []) (omega arith)));
      } in
      copied-end (copied_more begun (omega arith) (omega (arith, p.count, copied-length put-copied)) x (sym (get_or_at text x [] 0 n (sym whole)))) (omega (arith, p.count, copied-length put-copied)) (omega arith)
