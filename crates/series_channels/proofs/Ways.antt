-- Channels followed from half-edge to half-edge, and the row that they fill.
-- Assumes nothing.
use Prim.Native.Nat.{ℕ, zero, suc, ◌+◌, ◌*◌, ◌/◌, ◌%◌, ◌≤◌, ◌<◌}
use native.Mathlib.Omega.{arith}
use native.Mathlib.Decide.{ℕ_discrete, dec_lt}
use mathlib.Core.Path.{◌≡◌, refl, sym, ap, subst, subst⁻¹, ◌∙◌}
use mathlib.Core.Bool.{Bool, true, false, cond, not, beq}
use mathlib.Core.Logic.{◌⊎◌, inl, inr, ⊎_elim, ◌≢◌}
use mathlib.Core.List.{List, ◌++◌}
use lib.ListN.{length, get_or, set, replicate, length-set, length-append}
use lib.Seq.{get_or-set_same, get_or-set_other, take_all, take-append-le}
use lib.Dec.{eqb}
use borrow.Author.Tests.{eqb-true, eq-eqb, ne_eqb}
use mathlib.Mathlib.Data.Bool.Basic.{Bool-eq-false, and_elim_left, and_elim_right}
use Rattle.lists.proofs.Bools.{clash, or_cases}
use Rattle.network.specs.Networks.{Network, in_service, ends_at}
use Rattle.network.specs.Bridges.{reach_at}
use Rattle.network.proofs.Networks.{state-in-service, state-shut}
use Rattle.tables.specs.Rows.{net_of}
use Rattle.tables.proofs.Laws.{row-length, row-state, row-a, row-b}
use Rattle.half_edges.specs.Ends as H
use Rattle.half_edges.proofs.Halves.{end-even, end-odd}
use Rattle.series.specs.Pairs.{CutPair, reach_end, TwoAt, Channel, begins, goes_on}
use Rattle.series.specs.Guides.{unguided, GuidedBy, Guides}
use Rattle.series.proofs.Channels.{channel-pair}
use Rattle.basins.specs.Wet.{Tabled}
use Rattle.series_channels.specs.Channels.{Partner, nobody, partner, other_half, guide_of, Guiding, GuideNoted, noted, unchanged, GuidesFound}

-- the end of a half-edge's reach at which it stands: A if it is even, else B
abbrev pub odd : ℕ → Bool
odd h = not (eqb (h % 2) 0)

-- the half-edge h is where the channel from `start` goes on: it is start itself, or a channel came to its reach at the other end
pub data Came (N : Network) (start h : ℕ) : Type 0 where
  at-start : h ≡ start → Came N start h
  along : Channel N (start / 2) (odd start) (h / 2) (not (odd h)) → Came N start h

module _ {n : ℕ} {ks xs ys head next : List ℕ} (c : Tabled n ks xs ys head next) (m : ℕ) where
  abbrev N : Network
  N = net_of m ks xs ys

  ea : length xs ≡ length ks
  ea = sym c.kinds-full

  eb : length ys ≡ length ks
  eb = c.table.paired ∙ sym c.kinds-full

  reach-below : (h : ℕ) → h < H.halves xs → h / 2 < length ks
  reach-below h l = omega (arith, c.kinds-full)

  in_table : (i : ℕ) → i < length ks → i < length N.reaches
  in_table i l = omega (arith, row-length ks xs ys ea eb)

  -- a half-edge stands at that end of its reach
  here : (h : ℕ) → h < H.halves xs → reach_end (reach_at N (h / 2)) (odd h) ≡ H.end_of xs ys h
  here h l = go (ℕ_discrete (h % 2) 0)
    where
      go : Dec (h % 2 ≡ 0) → reach_end (reach_at N (h / 2)) (odd h) ≡ H.end_of xs ys h
      go (yes e) = rw (eq-eqb (h % 2) 0 e) (row-a ks xs ys ea eb (h / 2) (reach-below h l) ∙ rw e)
      go (no d) = let e : h % 2 ≡ 1 = omega (arith, d) in rw (ne_eqb (h % 2) 0 d) (row-b ks xs ys ea eb (h / 2) (reach-below h l) ∙ rw e)

  -- the other half-edge of the same reach
  half_back : (h : ℕ) → h < H.halves xs → (other_half h < H.halves xs) × (other_half h / 2 ≡ h / 2) × (other_half h ≢ h) × (odd (other_half h) ≡ not (odd h))
  half_back h l = (omega arith, omega arith, (λ q. absurd (omega (arith, q))), go (ℕ_discrete (h % 2) 0))
    where
      go : Dec (h % 2 ≡ 0) → odd (other_half h) ≡ not (odd h)
      go (yes e) = rw (ne_eqb (other_half h % 2) 0 (λ q. absurd (omega (arith, q, e))), eq-eqb (h % 2) 0 e)
      go (no d) = rw (eq-eqb (other_half h % 2) 0 (omega (arith, d)), ne_eqb (h % 2) 0 d)

  -- two half-edges in service alone at a basin, of two reaches
  module _ (h r : ℕ) (l : h < H.halves xs) (serves : get_or ks (h / 2) 0 ≤ 2) (rl : r < H.halves xs) (same : H.end_of xs ys r ≡ H.end_of xs ys h) (apart : r / 2 ≢ h / 2) (serves' : get_or ks (r / 2) 0 ≤ 2)
      (only : (k : ℕ) → k < H.halves xs → H.end_of xs ys k ≡ H.end_of xs ys h → get_or ks (k / 2) 0 ≤ 2 → (k ≡ h) ⊎ (k ≡ r)) where
    serving : (k : ℕ) → k < H.halves xs → get_or ks (k / 2) 0 ≤ 2 → in_service (reach_at N (k / 2)).state ≡ true
    serving k kl s = ap in_service (row-state ks xs ys ea eb (k / 2) (reach-below k kl)) ∙ state-in-service (get_or ks (k / 2) 0) (omega (arith, s))

    away : (k : ℕ) → k < H.halves xs → (k ≡ h) ⊎ (k ≡ r) → reach_end (reach_at N (k / 2)) (not (odd k)) ≢ H.end_of xs ys h
    away k kl is q =
        let o = half_back k kl in
        let stands : H.end_of xs ys (other_half k) ≡ H.end_of xs ys h =
        sym (here (other_half k) o.0) ∙ subst⁻¹ (λ (i : ℕ). reach_end (reach_at N i) (odd (other_half k)) ≡ H.end_of xs ys h) o.1 (subst⁻¹ (λ (x : Bool). reach_end (reach_at N (k / 2)) x ≡ H.end_of xs ys h) o.3 q) in
        ⊎_elim
        (λ y. ⊎_elim (λ z. o.2 (y ∙ sym z)) (λ z. apart (ap (λ (x : ℕ). x / 2) (sym z) ∙ sym o.1 ∙ ap (λ (x : ℕ). x / 2) y)) is)
        (λ y. ⊎_elim (λ z. apart (ap (λ (x : ℕ). x / 2) (sym y) ∙ o.1 ∙ ap (λ (x : ℕ). x / 2) z)) (λ z. o.2 (y ∙ sym z)) is)
        (only (other_half k) o.0 stands (subst⁻¹ (λ (i : ℕ). get_or ks i 0 ≤ 2) o.1 (⊎_elim (λ y. rw y serves) (λ y. rw y serves') is)))

    two_at : TwoAt N (H.end_of xs ys h) (h / 2) (odd h) (r / 2) (odd r)
    two_at =
        record {
          below-i = in_table (h / 2) (reach-below h l);
          below-j = in_table (r / 2) (reach-below r rl);
          apart = λ e. apart (sym e);
          serves-i = serving h l serves;
          serves-j = serving r rl serves';
          here-i = here h l;
          here-j = here r rl ∙ same;
          away-i = away h l (inl refl);
          away-j = away r rl (inr refl);
          others = others;
        }
      where
        -- an end of another reach in service there would be a third half-edge
        third : (k h' : ℕ) → k ≢ h / 2 → k ≢ r / 2 → get_or ks k 0 ≤ 2 → h' < H.halves xs → h' / 2 ≡ k → H.end_of xs ys h' ≡ H.end_of xs ys h → ⊥
        third k h' n n' z hl e s = ⊎_elim (λ y. n (sym e ∙ ap (λ (x : ℕ). x / 2) y)) (λ y. n' (sym e ∙ ap (λ (x : ℕ). x / 2) y)) (only h' hl s (rw e z))

        others : (k : ℕ) → k < length N.reaches → k ≢ h / 2 → k ≢ r / 2 → ends_at (H.end_of xs ys h) (reach_at N k) ≡ false
        others k kl n n' =
            Bool-eq-false {b = ends_at (H.end_of xs ys h) (reach_at N k)}
            (λ e. found (served (dec_lt 2 (get_or ks k 0)) (and_elim_left _ _ e)) (or_cases (eqb (reach_at N k).a (H.end_of xs ys h)) _ (and_elim_right (in_service (reach_at N k).state) _ e)))
          where
            kb : k < length ks
            kb = omega (arith, row-length ks xs ys ea eb)

            -- its kind says that it is in service
            served : Dec (2 < get_or ks k 0) → in_service (reach_at N k).state ≡ true → get_or ks k 0 ≤ 2
            served (yes y) e = clash e (ap in_service (row-state ks xs ys ea eb k kb) ∙ state-shut (get_or ks k 0) (omega arith))
            served (no y) e = omega arith

            found : get_or ks k 0 ≤ 2 → (eqb (reach_at N k).a (H.end_of xs ys h) ≡ true) ⊎ (eqb (reach_at N k).b (H.end_of xs ys h) ≡ true) → ⊥
            found z (inl e) = third k (2 * k) n n' z (omega (arith, kb, c.kinds-full)) (omega arith) (end-even xs ys k ∙ sym (row-a ks xs ys ea eb k kb) ∙ eqb-true _ _ e)
            found z (inr e) = third k (2 * k + 1) n n' z (omega (arith, kb, c.kinds-full)) (omega arith) (end-odd xs ys k ∙ sym (row-b ks xs ys ea eb k kb) ∙ eqb-true _ _ e)

  -- ---- following

  not-not : (x : Bool) → not (not x) ≡ x
  not-not true = refl
  not-not false = refl

  -- one basin more
  comes-to : (start h r : ℕ) → h < H.halves xs → get_or ks (h / 2) 0 ≤ 2 → Came N start h → Partner ks xs ys h r → r < unguided → r / 2 ≢ start / 2
      → Channel N (start / 2) (odd start) (r / 2) (odd r) × (r < H.halves xs) × (get_or ks (r / 2) 0 ≤ 2)
  comes-to start h r l s w (nobody z) few far = absurd (omega arith)
  comes-to start h r l s (at-start e) (partner rl same apart s' only) few far =
      (begins (subst (λ (x : ℕ). TwoAt N (H.end_of xs ys h) (x / 2) (odd x) (r / 2) (odd r)) e (two_at h r l s rl same apart s' only)), rl, s')
  comes-to start h r l s (along d) (partner rl same apart s' only) few far =
      (goes_on d (subst⁻¹ (λ (x : Bool). TwoAt N (H.end_of xs ys h) (h / 2) x (r / 2) (odd r)) (not-not (odd h)) (two_at h r l s rl same apart s' only)) (λ e. far (sym e)), rl, s')

  -- and the half-edge at its far end
  goes-from : (start r : ℕ) → r < H.halves xs → get_or ks (r / 2) 0 ≤ 2 → Channel N (start / 2) (odd start) (r / 2) (odd r) → Came N start (other_half r) × (other_half r < H.halves xs) × (get_or ks (other_half r / 2) 0 ≤ 2)
  goes-from start r rl s d =
      let o = half_back r rl in (
        along (subst⁻¹ (λ (i : ℕ). Channel N (start / 2) (odd start) i (not (odd (other_half r)))) o.1
            (subst⁻¹ (λ (x : Bool). Channel N (start / 2) (odd start) (r / 2) x) (ap not o.3 ∙ not-not (odd r)) d)),
        o.0,
        subst⁻¹ (λ (i : ℕ). get_or ks i 0 ≤ 2) o.1 s,
      )

  -- ---- the row

  -- odd exactly if both half-edges stand at ends A or both at ends B
  parity : (start o : ℕ) → guide_of start o % 2 ≡ cond (beq (odd start) (odd o)) 1 0
  parity start o = go (ℕ_discrete (start % 2) 0) (ℕ_discrete (o % 2) 0)
    where
      go : Dec (start % 2 ≡ 0) → Dec (o % 2 ≡ 0) → guide_of start o % 2 ≡ cond (beq (odd start) (odd o)) 1 0
      go (yes p) (yes q) = rw (eq-eqb (start % 2) 0 p, eq-eqb (o % 2) 0 q) (omega arith)
      go (yes p) (no q) = rw (eq-eqb (start % 2) 0 p, ne_eqb (o % 2) 0 q) (omega (arith, q))
      go (no p) (yes q) = rw (ne_eqb (start % 2) 0 p, eq-eqb (o % 2) 0 q) (omega (arith, p))
      go (no p) (no q) = rw (ne_eqb (start % 2) 0 p, ne_eqb (o % 2) 0 q) (omega (arith, p, q))

  guided-by : (start o : ℕ) → Channel N (start / 2) (odd start) (o / 2) (odd o) → GuidedBy N (guide_of start o) (o / 2)
  guided-by start o d =
      let p = channel-pair N (start / 2) (odd start) (o / 2) (odd o) d in
      record {
        side = p.0;
        end-i = odd start;
        end-j = odd o;
        pair = subst (λ (i : ℕ). CutPair N p.0 i (odd start) (o / 2) (odd o)) (omega arith) p.1;
        parity = parity start o;
      }

  guides-set : (guide : List ℕ) (k v : ℕ) → Guides N guide → GuidedBy N v k → Guides N (set guide k v)
  guides-set guide k v all by j l few = go (ℕ_discrete j k)
    where
      jl : j < length guide
      jl = omega (arith, length-set guide k v)

      go : Dec (j ≡ k) → GuidedBy N (get_or (set guide k v) j 0) j
      go (yes e) = subst⁻¹ (λ (x : ℕ). GuidedBy N x j) (ap (λ (i : ℕ). get_or (set guide k v) i 0) e ∙ get_or-set_same guide k v 0 (subst (λ (i : ℕ). i < length guide) e jl)) (subst⁻¹ (λ (i : ℕ). GuidedBy N v i) e by)
      go (no n) =
          let same : get_or (set guide k v) j 0 ≡ get_or guide j 0 = get_or-set_other guide k j v 0 n in
          subst⁻¹ (λ (x : ℕ). GuidedBy N x j) same (all j jl (subst (λ (x : ℕ). x < unguided) same few))

-- what is noted at a reach to which the channel came is true
guide-noted-on : {n : ℕ} {ks xs ys head next : List ℕ} → Tabled n ks xs ys head next → (start o : ℕ) (guide guide' : List ℕ) → ((m : ℕ) → Channel (net_of m ks xs ys) (start / 2) (odd start) (o / 2) (odd o))
    → GuideNoted guide start o guide' → Guiding ks xs ys guide → Guiding ks xs ys guide'
guide-noted-on {ks = ks} {xs} {ys} c start o guide guide' d (noted e) all m = subst⁻¹ (λ (l : List ℕ). Guides (net_of m ks xs ys) l) e (guides-set c m guide (o / 2) (guide_of start o) (all m) (guided-by c m start o (d m)))
guide-noted-on {ks = ks} {xs} {ys} c start o guide guide' d (unchanged e) all m = subst⁻¹ (λ (l : List ℕ). Guides (net_of m ks xs ys) l) e (all m)

-- one turn of the loop
pub follow-more : {n : ℕ} {ks xs ys head next : List ℕ} → Tabled n ks xs ys head next → (start h o h' : ℕ) (guide₀ guide guide' : List ℕ) → h < H.halves xs → get_or ks (h / 2) 0 ≤ 2 → ((m : ℕ) → Came (net_of m ks xs ys) start h)
    → Partner ks xs ys h o → o < unguided → o / 2 ≢ start / 2 → h' ≡ other_half o → GuideNoted guide start o guide' → (Guiding ks xs ys guide₀ → Guiding ks xs ys guide)
    → (h' < H.halves xs) × (get_or ks (h' / 2) 0 ≤ 2) × ((m : ℕ) → Came (net_of m ks xs ys) start h') × (Guiding ks xs ys guide₀ → Guiding ks xs ys guide')
follow-more {ks = ks} {xs} {ys} c start h o h' guide₀ guide guide' hl s came p few far q w still = (
  subst⁻¹ (λ (x : ℕ). x < H.halves xs) q (goes-from c 0 start o (to 0).1 (to 0).2 (to 0).0).1,
  subst⁻¹ (λ (x : ℕ). get_or ks (x / 2) 0 ≤ 2) q (goes-from c 0 start o (to 0).1 (to 0).2 (to 0).0).2,
  (λ m. subst⁻¹ (λ (x : ℕ). Came (net_of m ks xs ys) start x) q (goes-from c m start o (to m).1 (to m).2 (to m).0).0),
  (λ all. guide-noted-on c start o guide guide' (λ m. (to m).0) w (still all)),
)
  where
    to : (m : ℕ) → Channel (net_of m ks xs ys) (start / 2) (odd start) (o / 2) (odd o) × (o < H.halves xs) × (get_or ks (o / 2) 0 ≤ 2)
    to m = comes-to c m start h o hl s (came m) p few far

-- the reach of a half-edge of reach i
pub kind-even : (ks : List ℕ) (i k : ℕ) → get_or ks i 0 ≡ k → k ≤ 2 → get_or ks (2 * i / 2) 0 ≤ 2
kind-even ks i k e l = let q : 2 * i / 2 ≡ i = omega arith in rw q (omega arith)

pub kind-odd : (ks : List ℕ) (i k : ℕ) → get_or ks i 0 ≡ k → k ≤ 2 → get_or ks ((2 * i + 1) / 2) 0 ≤ 2
kind-odd ks i k e l = let q : (2 * i + 1) / 2 ≡ i = omega arith in rw q (omega arith)

-- a row of nothing
filled_at : (x : ℕ) (n j : ℕ) (l : List ℕ) → j < n → get_or (replicate n x ++ l) j 0 ≡ x
filled_at x zero j l k = absurd (omega arith)
filled_at x (suc n) zero l k = refl
filled_at x (suc n) (suc j) l k = filled_at x n j l (omega arith)

pub none-noted : (ks xs ys guide guide' rest : List ℕ) → length guide ≡ length xs → guide' ≡ replicate (length xs) unguided ++ rest → length guide' ≡ length guide → Guiding ks xs ys guide'
none-noted ks xs ys guide guide' rest e q f m j l few =
    let z : get_or guide' j 0 ≡ unguided = ap (λ (v : List ℕ). get_or v j 0) q ∙ filled_at unguided (length xs) j rest (omega (arith, l, f, e)) in
    absurd (omega (arith, few, z))

-- all entries of the row count, or none
pub all_found : {ks xs ys guide : List ℕ} {k : ℕ} → k ≡ length guide → Guiding ks xs ys guide → GuidesFound ks xs ys guide k
all_found {ks} {xs} {ys} {guide} {k} e all = record { within = omega arith; guiding = subst⁻¹ (λ (v : List ℕ). Guiding ks xs ys v) (take_all k guide (omega arith)) all }

pub none_found : {ks xs ys guide : List ℕ} → GuidesFound ks xs ys guide 0
none_found = record { within = omega arith; guiding = λ n j l few. absurd (omega arith) }

-- those of the first part of a row
pub part-found : {ks xs ys part : List ℕ} (rest : List ℕ) {k : ℕ} → GuidesFound ks xs ys part k → GuidesFound ks xs ys (part ++ rest) k
part-found {ks} {xs} {ys} {part} rest {k} f =
    record {
      within = omega (arith, f.within, length-append part rest);
      guiding = subst⁻¹ (λ (v : List ℕ). Guiding ks xs ys v) (take-append-le k part rest f.within) f.guiding;
    }
