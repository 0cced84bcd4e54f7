-- From an accepted table with working memory to one that can be indexed and searched, and working memory for any table cut to one.
-- Assumes nothing.
use Prim.Native.Nat.{ℕ, ◌≤◌}
use native.Mathlib.Omega.{arith}
use mathlib.Core.Path.{◌≡◌, sym, ap, ◌∙◌}
use mathlib.Core.List.{List}
use lib.ListN.{length, take}
use lib.Seq.{length-take-le}
use Rattle.network.specs.Networks.{max_basins, max_reaches}
use Rattle.network.proofs.Networks.{accepted}
use Rattle.half_edges.specs.declared.Graph.{Graph}
use Rattle.half_edges.specs.Chains.{Indexable, Table}
use Rattle.tables.specs.Rows.{net_of}
use Rattle.tables.proofs.Laws.{row-length}
use Rattle.orienting.specs.Ready.{Ready}
use Rattle.seeking.specs.Levels.{Level}
use Rattle.seeking.proofs.Levels.{level-table}
use Rattle.finder.specs.Rooms.{Room, Space}

module _ {n : ℕ} {ks xs ys ws head next : List ℕ} (r : Room n ks xs ys ws head next) where
  pub room-level : Level n ks xs ys
  room-level = record { accepted = r.accepted; ends-a = r.ends-a; ends-b = r.ends-b }

  pub room-index : {head' next' : List ℕ} → length head' ≡ length head → length next' ≡ length next → Indexable n xs ys head' next'
  room-index e f = record { table = level-table room-level; head-room = omega (arith, r.head-room); next-room = omega (arith, r.next-room) }

  -- a graph of the table is ready: with ways of the right number, and room for a search of any network
  pub room-ready : (g : Graph) → g.basins ≡ n → g.a.now ≡ xs → {ws' seen queue : List ℕ} → length ws' ≡ length ws → max_basins ≤ length seen → length seen ≤ length queue → Ready g ws' seen queue
  room-ready g e f w h k =
      let facts = accepted (net_of n ks xs ys) r.accepted in
      record {
        some-basin = omega (arith, e, facts.some-basin);
        few-basins = omega (arith, e, facts.few-basins);
        ways-full = w ∙ r.ways-room ∙ sym r.ends-a ∙ sym (ap length f);
        seen-room = omega (arith, e, facts.few-basins, h);
        queue-room = k;
      }

  pub room-table : Table n xs ys
  room-table = level-table room-level

-- ---- working memory for the largest table, cut to the rows

pub level-few : {n : ℕ} {ks xs ys : List ℕ} → Level n ks xs ys → length ks ≤ max_reaches
level-few {n} {ks} {xs} {ys} l = omega (arith, (accepted (net_of n ks xs ys) l.accepted).few-reaches, row-length ks xs ys l.ends-a l.ends-b)

pub level-room : {n : ℕ} {ks xs ys ws head next : List ℕ} → Level n ks xs ys → Space ws head next → Room n ks xs ys (take (length ks) ws) head next
level-room {n} {ks} {xs} {ys} {ws} l s =
    let facts = accepted (net_of n ks xs ys) l.accepted in
    let few = level-few l in
    record {
      accepted = l.accepted;
      ends-a = l.ends-a;
      ends-b = l.ends-b;
      ways-room = length-take-le (length ks) ws (omega (arith, s.ways-space));
      head-room = omega (arith, facts.few-basins, s.head-space);
      next-room = omega (arith, s.next-space, l.ends-a);
    }
