-- `fill_kept` meets its contract. The loop's invariant, for every basin count that fits: `KeptFilling`.
-- Assumes nothing.
use mathlib.Core.Path.{sym, ap, ◌∙◌}
use native.Mathlib.Omega.{arith}
use lib.ListN.{set}
use Rattle.contracting.proofs.Turns.{Places, kept-filling-none, kept-filling-all, places, kept-filling-drop, kept-filling-stay}
use Rattle.contracting.proofs.fill_kept.Goals as goal

pub loop-i-init : goal.loop-i-init
loop-i-init c =
    λ n p. kept-filling-none n c.args.kinds.now c.args.a.now c.args.b.now c.args.labels.now c.args.notes.now c.args.kinds2.now c.args.a2.now c.args.b2.now p

pub bounds-notes-c : goal.bounds-notes-c
bounds-notes-c c =
    let turn : Places c.args.a.now c.args.b.now c.args.labels.now c.loop-i.notes c.loop-i.kinds2 c.loop-i.a2 c.loop-i.b2 c.loop-i.k c.loop-i.i = places c.requires.n c.args.kinds.now c.args.a.now c.args.b.now c.args.labels.now c.args.notes.now c.args.kinds2.now c.args.a2.now c.args.b2.now c.requires.fits
    (c.loop-i.invariant c.requires.n c.requires.fits) c.loop-i-test.true in
    omega (arith, turn)

pub slice_copy_out-note : goal.slice_copy_out-note
slice_copy_out-note c =
    let turn : Places c.args.a.now c.args.b.now c.args.labels.now c.loop-i.notes c.loop-i.kinds2 c.loop-i.a2 c.loop-i.b2 c.loop-i.k c.loop-i.i = places c.requires.n c.args.kinds.now c.args.a.now c.args.b.now c.args.labels.now c.args.notes.now c.args.kinds2.now c.args.a2.now c.args.b2.now c.requires.fits
    (c.loop-i.invariant c.requires.n c.requires.fits) c.loop-i-test.true in
    omega (arith, turn)

pub loop-i-preserved-then-not-stays : goal.loop-i-preserved-then-not-stays
loop-i-preserved-then-not-stays c =
    λ n p. kept-filling-drop n c.args.kinds.now c.args.a.now c.args.b.now c.args.labels.now c.args.notes.now c.args.kinds2.now c.args.a2.now c.args.b2.now p
    (c.loop-i.invariant n p) c.loop-i-test.true c.note_after.result c.note_after.ensures (sym c.if-not-stays.true ∙ c.stays.ensures)

pub bounds-kinds2-k : goal.bounds-kinds2-k
bounds-kinds2-k c =
    let turn : Places c.args.a.now c.args.b.now c.args.labels.now c.loop-i.notes c.loop-i.kinds2 c.loop-i.a2 c.loop-i.b2 c.loop-i.k c.loop-i.i = places c.requires.n c.args.kinds.now c.args.a.now c.args.b.now c.args.labels.now c.args.notes.now c.args.kinds2.now c.args.a2.now c.args.b2.now c.requires.fits
    (c.loop-i.invariant c.requires.n c.requires.fits) c.loop-i-test.true in
    omega (arith, turn)

pub offset_bounds-a2-k : goal.offset_bounds-a2-k
offset_bounds-a2-k c =
    let turn : Places c.args.a.now c.args.b.now c.args.labels.now c.loop-i.notes c.loop-i.kinds2 c.loop-i.a2 c.loop-i.b2 c.loop-i.k c.loop-i.i = places c.requires.n c.args.kinds.now c.args.a.now c.args.b.now c.args.labels.now c.args.notes.now c.args.kinds2.now c.args.a2.now c.args.b2.now c.requires.fits
    (c.loop-i.invariant c.requires.n c.requires.fits) c.loop-i-test.true in
    omega (arith, turn)

pub bounds-a2-k : goal.bounds-a2-k
bounds-a2-k c =
    let turn : Places c.args.a.now c.args.b.now c.args.labels.now c.loop-i.notes c.loop-i.kinds2 c.loop-i.a2 c.loop-i.b2 c.loop-i.k c.loop-i.i = places c.requires.n c.args.kinds.now c.args.a.now c.args.b.now c.args.labels.now c.args.notes.now c.args.kinds2.now c.args.a2.now c.args.b2.now c.requires.fits
    (c.loop-i.invariant c.requires.n c.requires.fits) c.loop-i-test.true in
    omega (arith, turn)

pub offset_bounds-b2-k : goal.offset_bounds-b2-k
offset_bounds-b2-k c =
    let turn : Places c.args.a.now c.args.b.now c.args.labels.now c.loop-i.notes c.loop-i.kinds2 c.loop-i.a2 c.loop-i.b2 c.loop-i.k c.loop-i.i = places c.requires.n c.args.kinds.now c.args.a.now c.args.b.now c.args.labels.now c.args.notes.now c.args.kinds2.now c.args.a2.now c.args.b2.now c.requires.fits
    (c.loop-i.invariant c.requires.n c.requires.fits) c.loop-i-test.true in
    omega (arith, turn)

pub bounds-b2-k : goal.bounds-b2-k
bounds-b2-k c =
    let turn : Places c.args.a.now c.args.b.now c.args.labels.now c.loop-i.notes c.loop-i.kinds2 c.loop-i.a2 c.loop-i.b2 c.loop-i.k c.loop-i.i = places c.requires.n c.args.kinds.now c.args.a.now c.args.b.now c.args.labels.now c.args.notes.now c.args.kinds2.now c.args.a2.now c.args.b2.now c.requires.fits
    (c.loop-i.invariant c.requires.n c.requires.fits) c.loop-i-test.true in
    omega (arith, turn)

pub overflow_add-k : goal.overflow_add-k
overflow_add-k c =
    let turn : Places c.args.a.now c.args.b.now c.args.labels.now c.loop-i.notes c.loop-i.kinds2 c.loop-i.a2 c.loop-i.b2 c.loop-i.k c.loop-i.i = places c.requires.n c.args.kinds.now c.args.a.now c.args.b.now c.args.labels.now c.args.notes.now c.args.kinds2.now c.args.a2.now c.args.b2.now c.requires.fits
    (c.loop-i.invariant c.requires.n c.requires.fits) c.loop-i-test.true in
    omega (arith, turn)

pub loop-i-preserved : goal.loop-i-preserved
loop-i-preserved c =
    λ n p. kept-filling-stay n c.args.kinds.now c.args.a.now c.args.b.now c.args.labels.now c.args.notes.now c.args.kinds2.now c.args.a2.now c.args.b2.now p
    (c.loop-i.invariant n p) c.loop-i-test.true (sym c.if-not-stays.false ∙ c.stays.ensures) c.note_after.result c.note_after.ensures
    (ap (λ v. set c.loop-i.a2 c.loop-i.k v) (omega arith)) (ap (λ v. set c.loop-i.b2 c.loop-i.k v) (omega arith))

pub returns : goal.returns
returns c =
    record { of = λ n p. kept-filling-all n c.args.kinds.now c.args.a.now c.args.b.now c.args.labels.now c.args.notes.now c.args.kinds2.now c.args.a2.now c.args.b2.now p (c.loop-i.invariant n p) c.loop-i-test.false }
