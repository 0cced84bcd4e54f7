-- `listing::fill_in` meets its contract: what is printed does not depend on whether the working memory stands at the plan in hand.
-- Assumes nothing.
use Prim.Native.Nat.{ℕ, ◌≤◌}
use native.Mathlib.Omega.{arith}
use mathlib.Core.Path.{◌≡◌, sym, ap, ◌∙◌}
use mathlib.Core.List.{List}
use lib.ListN.{length, take}
use lib.Seq.{length-take-le}
use Rattle.network.specs.Networks.{max_reaches}
use Rattle.priming.specs.Priming.{Spare}
use Rattle.listing.proofs.Steps.{primed-kept, primed-findable}
use Rattle.listing.proofs.fill_in.Goals as goal

-- a row that is cut to what the table needs
cut : (m : ℕ) (xs : List ℕ) → length xs ≡ max_reaches → m ≤ max_reaches → length (take m xs) ≡ m
cut m xs e h = length-take-le m xs (omega arith)

pub find_if-k-requires : goal.find_if-k-requires
find_if-k-requires c =
    let few : c.least-m.result ≤ max_reaches = omega (arith, c.least-m.ensures) in
    let spare : Spare c.args.kinds.now (take c.least-m.result c.args.ways.now) c.args.head.now c.args.next.now = record {
      ways-spare = cut c.least-m.result c.args.ways.now c.requires.space.ways-space (few) ∙ c.least-m.ensures;
      head-spare = c.requires.space.head-space;
      next-spare = c.requires.space.next-space;
    } in
    primed-findable (spare) (omega (arith, cut c.least-m.result c.args.ways.now c.requires.space.ways-space (few), few, c.requires.guide_len)) c.prime-standing.ensures

pub print_lines-requires-clause-kept : goal.print_lines-requires-clause-kept
print_lines-requires-clause-kept c =
    let few : c.least-m.result ≤ max_reaches = omega (arith, c.least-m.ensures) in
    let spare : Spare c.args.kinds.now (take c.least-m.result c.args.ways.now) c.args.head.now c.args.next.now = record {
      ways-spare = cut c.least-m.result c.args.ways.now c.requires.space.ways-space (few) ∙ c.least-m.ensures;
      head-spare = c.requires.space.head-space;
      next-spare = c.requires.space.next-space;
    } in
    let ways-cut = cut c.least-m.result c.args.ways.now c.requires.space.ways-space (few) in primed-kept c.args.l.due (spare) c.prime-standing.auto.ways (cut c.least-m.result c.args.under.now c.requires.under_len (few) ∙ sym (c.prime-standing.auto.ways ∙ ways-cut))
    (c.copy_from_slice.ensures.after ∙ ap (λ (k : ℕ). take k c.args.kinds.now) (sym ways-cut)) c.prime-standing.ensures
