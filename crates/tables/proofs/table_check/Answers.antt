-- `table_check` meets its contract: the first test that fails decides.
-- Assumes nothing.
use mathlib.Core.Path.{◌≡◌, ◌∙◌}
use mathlib.Core.Bool.{true}
use native.Mathlib.Omega.{arith}
use lib.ListN.{length}
use borrow.Author.Tests.{le-leb, lt-leb, eq-eqb, ne_eqb}
use Rattle.network.specs.Networks.{Network, good_count, max_reaches}
use Rattle.tables.specs.Rows.{net_of}
use Rattle.network.proofs.Networks.{fault-none}
use Rattle.tables.proofs.Faults.{count-good, count-bad, fault-count, fault-length, fault-ends, table-checked}
use Rattle.tables.proofs.table_check.Goals as goal
use Rattle.tables.proofs.table_check.Goals.{then-basins-eq0-via-else-basins-eq0+then-basins-gt-MAX_BASINS, then-basins-eq0-via-then-basins-eq0}

pub returns-then-basins-eq0 : goal.returns-then-basins-eq0
returns-then-basins-eq0 c =
    let net : Network = net_of c.args.basins c.args.kinds.now c.args.a.now c.args.b.now in
    let N = net in
    let bad = count-bad N in
    table-checked N (fault-count N
    (elim c.then-basins-eq0.branch [ then-basins-eq0-via-then-basins-eq0 w ↦ bad (λ p q. omega arith) | then-basins-eq0-via-else-basins-eq0+then-basins-gt-MAX_BASINS w ↦ bad (λ p q. omega (arith, w.if-basins-gt-MAX_BASINS.true)) ]))

pub returns-then-n-gt-MAX_REACHES : goal.returns-then-n-gt-MAX_REACHES
returns-then-n-gt-MAX_REACHES c =
    let net : Network = net_of c.args.basins c.args.kinds.now c.args.a.now c.args.b.now in
    let counted : good_count (net) ≡ true = let N = net in
    count-good N (omega arith) (c.if-basins-gt-MAX_BASINS.false) in
    let N = net in
    table-checked N (fault-length N (counted) (lt-leb (length N.reaches) max_reaches (omega (arith, c.row_count-n.ensures, c.stray_end-i.ensures.within, c.if-n-gt-MAX_REACHES.true))))

pub returns-then-i-n : goal.returns-then-i-n
returns-then-i-n c =
    let net : Network = net_of c.args.basins c.args.kinds.now c.args.a.now c.args.b.now in
    let counted : good_count (net) ≡ true = let N = net in
    count-good N (omega arith) (c.if-basins-gt-MAX_BASINS.false) in
    let N = net in
    table-checked N
    (fault-ends N (counted) (le-leb (length N.reaches) max_reaches (omega (arith, c.row_count-n.ensures, c.if-n-gt-MAX_REACHES.false)))
    (c.stray_end-i.ensures.good ∙ ne_eqb c.stray_end-i.result (length N.reaches) (λ e. omega (arith, c.row_count-n.ensures, c.if-i-n.true))))

pub returns : goal.returns
returns c =
    let net : Network = net_of c.args.basins c.args.kinds.now c.args.a.now c.args.b.now in
    let counted : good_count (net) ≡ true = let N = net in
    count-good N (omega arith) (c.if-basins-gt-MAX_BASINS.false) in
    let N = net in
    table-checked N
    (fault-none N (counted) (le-leb (length N.reaches) max_reaches (omega (arith, c.row_count-n.ensures, c.if-n-gt-MAX_REACHES.false, c.if-i-n.false)))
    (c.stray_end-i.ensures.good ∙ eq-eqb c.stray_end-i.result (length N.reaches) (omega (arith, c.row_count-n.ensures, c.stray_end-i.ensures.within, c.if-i-n.false))))
