-- `read_full` reads the first bytes: those before and those that were read stand at the front of the buffer.
-- Assumes nothing.
use Rattle.std.proofs.Common.{◌≡◌, ℕ, ◌+◌, ◌-◌, ◌≤◌, List, ◌++◌, rules, arith, length, take, drop, sym, ap, ◌∙◌, subst, le_refl, drop_at, length-take-le}
use Rattle.std.proofs.lemmas.Slice.{take-put_mid_below}
use Rattle.std.specs.Io.KnownBytes.{Consumes}
use Rattle.std.proofs.KnownBytes.{Consumes-trans}
use borrow.Rule.Slice.PartMut.{put_mid, post_of}
use lib.Seq.{take-add, take-append-le}
use Rattle.lister.proofs.read_full.Goals as goal

-- after a read into the rest of the buffer, its first bytes are those before and those that were read
read-on : (a n : ℕ) (xs ys : List ℕ) → a ≤ length xs → n ≤ length ys → take a xs ++ take n ys ≡ take (a + n) (put_mid a (length xs - a) xs ys)
read-on a n xs ys within fits =
    let k = length xs - a in
    let after = post_of a k xs in
    sym
    (take-add a n (put_mid a k xs ys)
    ∙ ap (λ (l : List ℕ). l ++ take n (drop a (put_mid a k xs ys))) (take-put_mid_below a k xs ys a (le_refl a) within)
    ∙ ap (λ (l : List ℕ). take a xs ++ take n l) (drop_at (take a xs) (ys ++ after) a (length-take-le a xs within))
    ∙ ap (λ (l : List ℕ). take a xs ++ l) (take-append-le n ys after fits))

pub loop-done-preserved : goal.loop-done-preserved
loop-done-preserved g c =
    let (same, within, taken) = c.loop-done.invariant in (
      search rules,
      search rules,
      subst (Consumes _ _) (read-on c.loop-done.done c.in_ok-n.n c.loop-done.buf c.read.new.buf within (omega (arith, c.in_ok-n.ensures.bound)))
          (Consumes-trans _ _ _ _ _ taken c.in_ok-n.ensures.bytes.0),
    )
