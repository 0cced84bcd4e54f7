-- `netfile_reading::fill_rows` meets its contract. The loop's invariant: the first i entries of each row are those of the file's first i reaches.
-- The measure is how many reaches are left. Assumes nothing.
use Prim.Native.Nat.{◌+◌, ◌≤◌, ◌<◌}
use native.Mathlib.Omega.{arith}
use lib.ListN.{length, get_or}
use Rattle.netfile_format.specs.Answers.{record_length}
use Rattle.netfile_format.proofs.Steps.{record-long}
use Rattle.netfile_format.proofs.Filling.{filling-fits, filling-more, filling-all}
use Rattle.netfile_reading.proofs.fill_rows.Goals as goal

pub bounds-file-at : goal.bounds-file-at
bounds-file-at c =
    let room : (c.loop-i.i < length c.loop-i.kinds) × (c.loop-i.i < length c.loop-i.a) × (c.loop-i.i < length c.loop-i.b) = (omega (arith, c.loop-i.invariant.kind_row.long, c.requires.kind-room), omega (arith, c.loop-i.invariant.a-row.long, c.requires.a-room), omega (arith, c.loop-i.invariant.b-row.long, c.requires.b-room)) in
    let stands : c.loop-i.at + record_length (get_or c.args.file.now c.loop-i.at 0) ≤ length c.args.file.now = filling-fits c.args.file.now c.args.n c.args.kinds.now c.args.a.now c.args.b.now c.requires c.loop-i.invariant c.loop-i-test.true in
    let ends : c.loop-i.at + 5 ≤ length c.args.file.now = omega (arith, stands, record-long (get_or c.args.file.now c.loop-i.at 0)) in
    omega (arith, ends)

pub record_front-front-requires : goal.record_front-front-requires
record_front-front-requires c =
    let room : (c.loop-i.i < length c.loop-i.kinds) × (c.loop-i.i < length c.loop-i.a) × (c.loop-i.i < length c.loop-i.b) = (omega (arith, c.loop-i.invariant.kind_row.long, c.requires.kind-room), omega (arith, c.loop-i.invariant.a-row.long, c.requires.a-room), omega (arith, c.loop-i.invariant.b-row.long, c.requires.b-room)) in
    let stands : c.loop-i.at + record_length (get_or c.args.file.now c.loop-i.at 0) ≤ length c.args.file.now = filling-fits c.args.file.now c.args.n c.args.kinds.now c.args.a.now c.args.b.now c.requires c.loop-i.invariant c.loop-i-test.true in
    stands

pub word_at-requires : goal.word_at-requires
word_at-requires c =
    let room : (c.loop-i.i < length c.loop-i.kinds) × (c.loop-i.i < length c.loop-i.a) × (c.loop-i.i < length c.loop-i.b) = (omega (arith, c.loop-i.invariant.kind_row.long, c.requires.kind-room), omega (arith, c.loop-i.invariant.a-row.long, c.requires.a-room), omega (arith, c.loop-i.invariant.b-row.long, c.requires.b-room)) in
    let stands : c.loop-i.at + record_length (get_or c.args.file.now c.loop-i.at 0) ≤ length c.args.file.now = filling-fits c.args.file.now c.args.n c.args.kinds.now c.args.a.now c.args.b.now c.requires c.loop-i.invariant c.loop-i-test.true in
    let ends : c.loop-i.at + 5 ≤ length c.args.file.now = omega (arith, stands, record-long (get_or c.args.file.now c.loop-i.at 0)) in
    omega (arith, ends)

pub word_at-requires-in-loop-i : goal.word_at-requires-in-loop-i
word_at-requires-in-loop-i c =
    let room : (c.loop-i.i < length c.loop-i.kinds) × (c.loop-i.i < length c.loop-i.a) × (c.loop-i.i < length c.loop-i.b) = (omega (arith, c.loop-i.invariant.kind_row.long, c.requires.kind-room), omega (arith, c.loop-i.invariant.a-row.long, c.requires.a-room), omega (arith, c.loop-i.invariant.b-row.long, c.requires.b-room)) in
    let stands : c.loop-i.at + record_length (get_or c.args.file.now c.loop-i.at 0) ≤ length c.args.file.now = filling-fits c.args.file.now c.args.n c.args.kinds.now c.args.a.now c.args.b.now c.requires c.loop-i.invariant c.loop-i-test.true in
    let ends : c.loop-i.at + 5 ≤ length c.args.file.now = omega (arith, stands, record-long (get_or c.args.file.now c.loop-i.at 0)) in
    omega (arith, ends)

pub loop-i-preserved : goal.loop-i-preserved
loop-i-preserved c =
    filling-more c.args.file.now c.args.n c.args.kinds.now c.args.a.now c.args.b.now c.requires
    c.loop-i.invariant c.loop-i-test.true
    c.record_front-front.result.state c.word_at.result c.word_at-in-loop-i.result c.record_front-front.result.size c.record_front-front.ensures.state_value c.word_at.ensures c.word_at-in-loop-i.ensures c.record_front-front.ensures.size_value

pub returns : goal.returns
returns c =
    filling-all c.args.file.now c.args.n c.args.kinds.now c.args.a.now c.args.b.now c.requires c.loop-i.invariant c.loop-i-test.false
