-- `netfile_writing::put_reaches` meets its contract. The loop's invariant: the records of the reaches so far stand behind the head.
-- Assumes nothing.
use Prim.Native.Nat.{◌+◌, ◌<◌}
use native.Mathlib.Omega.{arith}
use mathlib.Core.Path.{ap, ◌∙◌}
use lib.ListN.{length, get_or}
use lib.Seq.{sets}
use Rattle.network.specs.Tables.{state_of, table_of}
use Rattle.netfile_format.specs.Files.{reach_record}
use Rattle.netfile_format.specs.Answers.{state_length}
use Rattle.netfile_format.proofs.Writing.{putting-fits, putting-more, putting-all}
use Rattle.netfile_writing.proofs.Rows.{RowAt, rows-turn, rows-end, row-reach, one-more}
use Rattle.netfile_writing.proofs.put_reaches.Goals as goal

pub put_reach-requires : goal.put_reach-requires
put_reach-requires c =
    let row : RowAt c.args.kinds.now c.args.a.now c.args.b.now (length c.loop-state.yielded) c.in-Some.field-0-0-0.now c.in-Some.field-0-0-1.now c.in-Some.field-0-1.now =
    rows-turn _ _ _ c.into_iter-state-iterator.result (cc) (cc) (cc) c.loop-state.yielded c.loop-state.state-iterator c.loop-state.yielded_by c.next.result c.next.new.self _ c.in-Some.is c.next.ensures.steps in
    let fits : c.loop-state.at + state_length (state_of (get_or c.args.kinds.now (length c.loop-state.yielded) 0)) < length c.loop-state.out = putting-fits c.args.kinds.now c.args.a.now c.args.b.now c.loop-state.invariant row.within c.requires in
    omega (arith, fits, ap (λ k. state_length (state_of k)) row.kind)

pub overflow_add-at : goal.overflow_add-at
overflow_add-at c =
    let row : RowAt c.args.kinds.now c.args.a.now c.args.b.now (length c.loop-state.yielded) c.in-Some.field-0-0-0.now c.in-Some.field-0-0-1.now c.in-Some.field-0-1.now =
    rows-turn _ _ _ c.into_iter-state-iterator.result (cc) (cc) (cc) c.loop-state.yielded c.loop-state.state-iterator c.loop-state.yielded_by c.next.result c.next.new.self _ c.in-Some.is c.next.ensures.steps in
    let fits : c.loop-state.at + state_length (state_of (get_or c.args.kinds.now (length c.loop-state.yielded) 0)) < length c.loop-state.out = putting-fits c.args.kinds.now c.args.a.now c.args.b.now c.loop-state.invariant row.within c.requires in
    omega (arith, fits, c.state_length-at.ensures, ap (λ k. state_length (state_of k)) row.kind)

pub loop-state-preserved : goal.loop-state-preserved
loop-state-preserved c =
    let row : RowAt c.args.kinds.now c.args.a.now c.args.b.now (length c.loop-state.yielded) c.in-Some.field-0-0-0.now c.in-Some.field-0-0-1.now c.in-Some.field-0-1.now =
    rows-turn _ _ _ c.into_iter-state-iterator.result (cc) (cc) (cc) c.loop-state.yielded c.loop-state.state-iterator c.loop-state.yielded_by c.next.result c.next.new.self _ c.in-Some.is c.next.ensures.steps in
    rw one-more
    (putting-more c.args.kinds.now c.args.a.now c.args.b.now c.loop-state.invariant row.within c.put_reach.new.out c.state_length-at.result
    (c.put_reach.ensures ∙ ap (λ r. sets c.loop-state.out c.loop-state.at (reach_record r)) (row-reach row))
    (c.state_length-at.ensures ∙ ap (λ k. state_length (state_of k)) row.kind))

pub returns : goal.returns
returns c =
    putting-all (table_of c.args.kinds.now c.args.a.now c.args.b.now) c.args.out.now c.loop-state.out (length c.loop-state.yielded) c.loop-state.at c.loop-state.invariant
    (omega (arith, rows-end c.args.kinds.now c.args.a.now c.args.b.now c.into_iter-state-iterator.result (cc) (cc) (cc) c.loop-state.yielded c.loop-state.state-iterator c.loop-state.yielded_by c.next.result c.next.new.self c.in-None.is c.next.ensures.steps))
