-- The bytes of bound gates, put gate by gate where those of a plan stand.
-- Assumes nothing.
use Prim.Native.Nat.{ℕ, zero, suc, ◌+◌, ◌-◌, ◌≤◌, ◌<◌}
use native.Mathlib.Numerals.{add-one}
use native.Mathlib.Omega.{arith}
use mathlib.Core.Path.{◌≡◌, refl, sym, ap, ◌∙◌}
use mathlib.Core.Bool.{Bool, true, false, cond, not}
use mathlib.Core.List.{List, [], ◌∷◌, ◌++◌}
use lib.ListN.{length, get_or, take, drop, set, length-take}
use lib.Seq.{take_all, get_or-take, set-get_or, set-set}
use Rattle.lists.proofs.Lists.{get_d_any, get_or-back, drop-one, Copied, copied_none, copied-length, copied_more}
use Rattle.network.specs.Networks.{Network}
use Rattle.network.specs.Tables.{table_of}
use Rattle.network.specs.Settings.{gates_from, gates, gate_count}
use Rattle.network.specs.Orientations.{arcs, unoriented}
use Rattle.network.specs.Bridges.{no_reach}
use Rattle.network.specs.Choices.{bound_byte, bound_bytes}
use Rattle.network.proofs.Networks.{not-gated, gates-below}
use Rattle.network.proofs.Order.{setting-length, plan-setting}
use Rattle.network.proofs.Theorem.{setting-byte, arcs_without}
use Rattle.network.proofs.Ways.{gate-way}
use Rattle.network.proofs.Choices.{bound-length, bound-get_or, bound-drawn, bound-turned}
use Rattle.tables.specs.Rows.{net_of, gates_in}
use Rattle.tables.proofs.Laws.{row-length, row-gates, row-ways, ways-unoriented}
use Rattle.tables.proofs.Turns.{gates-gate, gates-other, gates-done}
use Rattle.orienting.specs.Tries.{left_out, led_round, Tried, oriented, undecided}
use Rattle.orienting.proofs.Readies.{kind-gate}
use Rattle.orienting.proofs.Rows.{row_below, row-led, row-led-turned, row-gated}
use Rattle.binding.specs.Tellings.{Tellable}

-- what a try of a gate's other way shows
pub bound-tried :
    {xs ys ws ws₁ ws' : List ℕ} {i x : ℕ} (other : ℕ) {r₁ r : Bool} → x ≡ other → Tried xs ys ws i x ws₁ r₁ → ws' ≡ set ws₁ i 2 → r ≡ not r₁
    → (ws' ≡ set ws i 2) × (r ≡ not (led_round (left_out xs ys ws i) xs ys i other))
bound-tried {xs} {ys} {ws = ws} {i = i} {x} other same (oriented led e q) f g = (f ∙ ap (λ (l : List ℕ). set l i 2) e ∙ set-set ws i x 2, g ∙ ap not (q ∙ sym led) ∙ ap (λ (w : ℕ). not (led_round (left_out xs ys ws i) xs ys i w)) same)
bound-tried {xs} {ys} {ws = ws} {i = i} {x} other same (undecided lost e q) f g = (f ∙ ap (λ (l : List ℕ). set l i 2) e ∙ set-set ws i 2 2, g ∙ ap not (q ∙ sym lost) ∙ ap (λ (w : ℕ). not (led_round (left_out xs ys ws i) xs ys i w)) same)

-- The bytes of the gates among the first i reaches stand in the first k places, and the others are as they were.
pub record Telling (n : ℕ) (ks xs ys bytes₀ bytes : List ℕ) (k i : ℕ) : Type 0 where
  pub copied : Copied (bound_bytes (net_of n ks xs ys)) bytes₀ bytes k
  pub gates-left : drop k (gates (net_of n ks xs ys)) ≡ gates_from i (drop i (table_of ks xs ys))
  pub count : k + gates_in (drop i ks) ≡ gates_in ks
  pub below : i ≤ length ks

pub telling-none : (n : ℕ) (ks xs ys bytes : List ℕ) → Telling n ks xs ys bytes bytes 0 0
telling-none n ks xs ys bytes = record { copied = copied_none (bound_bytes (net_of n ks xs ys)) bytes; gates-left = refl; count = omega arith; below = omega arith }

-- the byte of a gate, by whether it can be hung the other way
other_way : (b : Bool) (w : ℕ) → cond (not b) w 2 ≡ cond b 2 w
other_way true w = refl
other_way false w = refl

module _ {n : ℕ} {ks xs ys ws bytes₀ : List ℕ} (t : Tellable n ks xs ys ws bytes₀) where
  abbrev N : Network
  N = net_of n ks xs ys

  abbrev p : List ℕ
  p = take (gates_in ks) bytes₀

  count-is : gate_count N ≡ gates_in ks
  count-is = row-gates ks xs ys t.planned.ends-a t.planned.ends-b 0

  room : gates_in ks ≤ length bytes₀
  room = omega (arith, length-take (gates_in ks) bytes₀, setting-length N p (plan-setting N p t.planned.is-plan), count-is)

  -- without reach i, as the network says it and as the ways do
  left_out-is : (i : ℕ) → arcs_without N (unoriented N) i ≡ arcs (table_of ks xs ys) (set ws i 3)
  left_out-is i =
      ap (λ (v : List ℕ). arcs (table_of ks xs ys) (set v i 3))
      (ways-unoriented (table_of ks xs ys) (gate_count N) ∙ row-ways ks xs ys t.planned.ends-a t.planned.ends-b _ ∙ sym t.unoriented)

  module _ {bytes : List ℕ} {k i : ℕ} (h : Telling n ks xs ys bytes₀ bytes k i) where
    module _ (l : i < length ks) (g : get_or ks i 0 ≡ 0) where
      place : k < gate_count N
      place = omega (arith, h.count, gates-gate ks i l g, count-is)

      -- there is room for its byte
      pub telling-room : k < length bytes
      telling-room = omega (arith, copied-length h.copied, place, room, count-is)

      pub telling-few : k < length ks
      telling-few = omega (arith, place, gates-below 0 (table_of ks xs ys), row-length ks xs ys t.planned.ends-a t.planned.ends-b)

      -- it is the k-th gate
      gate-here : (get_or (gates N) k 0 ≡ i) × (drop (k + 1) (gates N) ≡ gates_from (i + 1) (drop (i + 1) (table_of ks xs ys)))
      gate-here =
          let left : drop k (gates N) ≡ i ∷ gates_from (i + 1) (drop (i + 1) (table_of ks xs ys)) =
          h.gates-left ∙ rw (drop-one (table_of ks xs ys) i no_reach (row_below n ks xs ys t.planned.ends-a t.planned.ends-b i l), row-gated n ks xs ys t.planned.ends-a t.planned.ends-b i true l (kind-gate (get_or ks i 0) g), add-one) in
          let first = drop-one (gates N) k 0 place in
          (cc, cc)

      -- and what stands in its place is the plan's byte, 0 or 1
      byte-is : get_or bytes k 0 ≡ get_or p k 2
      byte-is =
          ap (λ (l : List ℕ). get_or l k 0) h.copied.bytes
          ∙ get_or-back (bound_bytes N) bytes₀ k k 0 h.copied.within (omega arith)
          ∙ get_d_any bytes₀ k 0 2 (omega (arith, place, room, count-is))
          ∙ sym (get_or-take (gates_in ks) bytes₀ k 2 (omega (arith, place, count-is)))

      pub telling-small : get_or bytes k 0 ≤ 1
      telling-small = rw byte-is (setting-byte N p (plan-setting N p t.planned.is-plan) k place)

      -- whether its other way can be had decides its byte
      pub telling-due : (way : ℕ) (r : Bool) → way ≡ get_or bytes k 0 → r ≡ not (led_round (left_out xs ys ws i) xs ys i (1 - way)) → cond r way 2 ≡ bound_byte N k
      telling-due way r e f = go way r (e ∙ byte-is) (omega (arith, telling-small, e)) f
        where
          go : (way : ℕ) (r : Bool) → way ≡ get_or p k 2 → way ≤ 1 → r ≡ not (led_round (left_out xs ys ws i) xs ys i (1 - way)) → cond r way 2 ≡ bound_byte N k
          go zero r e s f =
              let byte : bound_byte N k ≡ cond (led_round (left_out xs ys ws i) xs ys i 1) 2 0 =
              bound-drawn N t.planned.accepted p t.planned.is-plan k place (sym e) ∙ rw (gate-here.0, left_out-is i, row-led-turned n ks xs ys t.planned.ends-a t.planned.ends-b ws i l) in
              rw (f, byte) (other_way (led_round (left_out xs ys ws i) xs ys i 1) 0)
          go (suc zero) r e s f =
              let byte : bound_byte N k ≡ cond (led_round (left_out xs ys ws i) xs ys i 0) 2 1 =
              bound-turned N t.planned.accepted p t.planned.is-plan k place (sym e) ∙ rw (gate-here.0, left_out-is i, row-led n ks xs ys t.planned.ends-a t.planned.ends-b ws i l) in
              rw (f, byte) (other_way (led_round (left_out xs ys ws i) xs ys i 0) 1)
          go (suc (suc way)) r e s f = absurd (omega arith)

      -- its way is that of a gate that is not oriented
      pub telling-ways : set ws i 2 ≡ ws
      telling-ways = ap (λ (x : ℕ). set ws i x) (sym free) ∙ set-get_or ws i 3
        where
          free : get_or ws i 3 ≡ 2
          free =
              ap (λ (v : List ℕ). get_or v i 3) (t.unoriented ∙ sym (row-ways ks xs ys t.planned.ends-a t.planned.ends-b []))
              ∙ (gate-way (table_of ks xs ys) [] i (row_below n ks xs ys t.planned.ends-a t.planned.ends-b i l) (row-gated n ks xs ys t.planned.ends-a t.planned.ends-b i true l (kind-gate (get_or ks i 0) g))).byte

      -- one more reach: the byte of a gate is put in its place, of another reach nothing
      pub telling-gate : {x : ℕ} → x ≡ bound_byte N k → Telling n ks xs ys bytes₀ (set bytes k x) (k + 1) (i + 1)
      telling-gate {x} e =
          record {
            copied = copied_more h.copied (omega (arith, place, bound-length N)) (omega (arith, place, room, count-is)) x (e ∙ sym (bound-get_or N k place) ∙ get_d_any (bound_bytes N) k 2 0 (omega (arith, place, bound-length N)));
            gates-left = gate-here.1;
            count = omega (arith, h.count, gates-gate ks i l g);
            below = omega arith;
          }

    pub telling-other : i < length ks → (get_or ks i 0 ≡ 0 → ⊥) → Telling n ks xs ys bytes₀ bytes k (i + 1)
    telling-other l no-gate =
        record {
          copied = h.copied;
          gates-left = h.gates-left ∙ rw (drop-one (table_of ks xs ys) i no_reach (row_below n ks xs ys t.planned.ends-a t.planned.ends-b i l), row-gated n ks xs ys t.planned.ends-a t.planned.ends-b i false l (not-gated (get_or ks i 0) no-gate), add-one);
          count = omega (arith, h.count, gates-other ks i l no-gate);
          below = omega arith;
        }

    -- at the end all bytes are told, and no more
    pub telling-all : length ks ≤ i → bytes ≡ bound_bytes N ++ drop (gates_in ks) bytes₀
    telling-all l =
        let all : k ≡ gates_in ks = omega (arith, h.count, gates-done ks i l) in
        h.copied.bytes ∙ rw (all, take_all (gates_in ks) (bound_bytes N) (omega (arith, bound-length N, count-is)))

-- ---- the loop over all reaches

-- The ways are as they were, and so are the lengths of what a search notes.
pub record TellingOn (n : ℕ) (ks xs ys ws₀ bytes₀ seen₀ queue₀ ws bytes seen queue : List ℕ) (k i : ℕ) : Type 0 where
  pub ways-kept : ws ≡ ws₀
  pub seen-kept : length seen ≡ length seen₀
  pub queue-kept : length queue ≡ length queue₀
  pub telling : Telling n ks xs ys bytes₀ bytes k i

pub telling-on-none : (n : ℕ) (ks xs ys ws bytes seen queue : List ℕ) → TellingOn n ks xs ys ws bytes seen queue ws bytes seen queue 0 0
telling-on-none n ks xs ys ws bytes seen queue = record { ways-kept = refl; seen-kept = refl; queue-kept = refl; telling = telling-none n ks xs ys bytes }

module _ {n : ℕ} {ks xs ys ws₀ bytes₀ seen₀ queue₀ ws bytes seen queue : List ℕ} {k i : ℕ} (t : Tellable n ks xs ys ws₀ bytes₀) (h : TellingOn n ks xs ys ws₀ bytes₀ seen₀ queue₀ ws bytes seen queue k i) (l : i < length ks) where
  pub telling-on-gate :
      get_or ks i 0 ≡ 0 → {ws' seen' queue' : List ℕ} {r : Bool} {x : ℕ}
      → ws' ≡ set ws i 2 → r ≡ not (led_round (left_out xs ys ws i) xs ys i (1 - get_or bytes k 0)) → length seen' ≡ length seen → length queue' ≡ length queue
      → x ≡ cond r (get_or bytes k 0) 2 → TellingOn n ks xs ys ws₀ bytes₀ seen₀ queue₀ ws' (set bytes k x) seen' queue' (k + 1) (i + 1)
  telling-on-gate g {r = r} e f seen_same queue-same told =
      record {
        ways-kept = e ∙ ap (λ (v : List ℕ). set v i 2) h.ways-kept ∙ telling-ways t h.telling l g;
        seen-kept = seen_same ∙ h.seen-kept;
        queue-kept = queue-same ∙ h.queue-kept;
        telling = telling-gate t h.telling l g (told ∙ telling-due t h.telling l g (get_or bytes k 0) r refl (f ∙ rw h.ways-kept));
      }

  pub telling-on-other : (get_or ks i 0 ≡ 0 → ⊥) → TellingOn n ks xs ys ws₀ bytes₀ seen₀ queue₀ ws bytes seen queue k (i + 1)
  telling-on-other no-gate = record { ways-kept = h.ways-kept; seen-kept = h.seen-kept; queue-kept = h.queue-kept; telling = telling-other t h.telling l no-gate }
