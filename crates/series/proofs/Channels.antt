-- Channels: the reaches along one alone cross the division between its inner basins and all others.
-- Assumes nothing.
use Prim.Native.Nat.{ℕ, ◌<◌}
use native.Mathlib.Nat.{not-suc-le-zero}
use native.Mathlib.Decide.{ℕ_discrete}
use mathlib.Core.Path.{◌≡◌, refl, sym, subst, subst⁻¹, ◌∙◌}
use mathlib.Core.Bool.{Bool, true, false, not, ◌&&◌, ◌||◌}
use mathlib.Core.Logic.{◌≢◌}
use mathlib.Core.List.{List, []}
use lib.ListN.{length, get_or}
use lib.Dec.{eqb}
use borrow.Author.Tests.{eq-eqb, ne_eqb}
use mathlib.Mathlib.Data.Bool.Basic.{or_inl, or_inr}
use Rattle.network.specs.declared.Reach.{Reach}
use Rattle.network.specs.Networks.{Network, in_service, ends_at, Accepted}
use Rattle.network.specs.Settings.{is_gated}
use Rattle.network.specs.Orientations.{ways}
use Rattle.network.specs.Plans.{is_plan}
use Rattle.network.specs.Bridges.{crosses_by, reach_at}
use Rattle.lists.proofs.Bools.{clash}
use Rattle.network.proofs.Bridges.{uncrossed, uncrossed-ends}
use Rattle.series.specs.Pairs.{reach_end, CutPair, guided_way, TwoAt, Channel, begins, goes_on}
use Rattle.series.specs.Guides.{Guides}
use Rattle.series.proofs.Pairs.{pair-plan}

-- a reach in service without an end at v has neither end there
neither-end : (v : ℕ) (r : Reach) → ends_at v r ≡ false → in_service r.state ≡ true → (eqb r.a v ≡ false) × (eqb r.b v ≡ false)
neither-end v r e s = go (eqb r.a v) (eqb r.b v) refl refl (subst (λ (t : Bool). t && (eqb r.a v || eqb r.b v) ≡ false) s e)
  where
    go : (x y : Bool) → eqb r.a v ≡ x → eqb r.b v ≡ y → eqb r.a v || eqb r.b v ≡ false → (eqb r.a v ≡ false) × (eqb r.b v ≡ false)
    go true y ea eb f = clash (or_inl _ _ ea) f
    go false true ea eb f = clash (or_inr (eqb r.a v) _ eb) f
    go false false ea eb f = (ea, eb)

end-apart : (v : ℕ) (r : Reach) → ends_at v r ≡ false → in_service r.state ≡ true → (x : Bool) → eqb (reach_end r x) v ≡ false
end-apart v r e s false = (neither-end v r e s).0
end-apart v r e s true = (neither-end v r e s).1

-- A basin at which just two reaches end is a side by itself.
pair-basin : (N : Network) (v i : ℕ) (x : Bool) (j : ℕ) (y : Bool) → TwoAt N v i x j y → CutPair N (λ b. eqb b v) i x j y
pair-basin N v i x j y t =
    record {
      below-i = t.below-i;
      below-j = t.below-j;
      apart = t.apart;
      one = record { serves = t.serves-i; inside = eq-eqb _ v t.here-i; outside = ne_eqb _ v t.away-i };
      two = record { serves = t.serves-j; inside = eq-eqb _ v t.here-j; outside = ne_eqb _ v t.away-j };
      others = λ k l n m. uncrossed (λ b. eqb b v) (reach_at N k) (λ s. let e = neither-end v (reach_at N k) (t.others k l n m) s in e.0 ∙ sym e.1);
    }

-- One basin more: where a channel that came to reach j goes on to reach k.
pair-more : (N : Network) (S : ℕ → Bool) (i : ℕ) (x : Bool) (j : ℕ) (y : Bool) (v k : ℕ) (z : Bool) → CutPair N S i x j y → TwoAt N v j (not y) k z → i ≢ k → CutPair N (λ b. S b || eqb b v) i x k z
pair-more N S i x j y v k z p t far =
    record {
      below-i = p.below-i;
      below-j = t.below-j;
      apart = far;
      one = record { serves = p.one.serves; inside = or_inl _ _ p.one.inside; outside = rw (p.one.outside, end-apart v (reach_at N i) apart-i p.one.serves (not x)) };
      two = record { serves = t.serves-j; inside = or_inr (S (reach_end (reach_at N k) z)) _ (eq-eqb _ v t.here-j); outside = rw (k-out, ne_eqb _ v t.away-j) };
      others = others;
    }
  where
    -- the basin v is not yet inside
    v-out : S v ≡ false
    v-out = subst (λ (b : ℕ). S b ≡ false) t.here-i p.two.outside

    -- reach i does not end there
    apart-i : ends_at v (reach_at N i) ≡ false
    apart-i = t.others i p.below-i p.apart far

    k-ends : S (reach_at N k).a ≡ S (reach_at N k).b
    k-ends = uncrossed-ends S (reach_at N k) (p.others k t.below-j (λ e. far (sym e)) (λ e. t.apart (sym e))) t.serves-j

    -- both ends of reach k are outside, as v is
    k-both : (w : Bool) → S (reach_end (reach_at N k) (not w)) ≡ S (reach_end (reach_at N k) w)
    k-both true = k-ends
    k-both false = sym k-ends

    k-out : S (reach_end (reach_at N k) (not z)) ≡ false
    k-out = k-both z ∙ subst⁻¹ (λ (b : ℕ). S b ≡ false) t.here-j v-out

    -- reach j has both its ends inside now
    j-in : (w : Bool) → S (reach_end (reach_at N j) w) ≡ true → reach_end (reach_at N j) (not w) ≡ v → (S (reach_at N j).a || eqb (reach_at N j).a v ≡ true) × (S (reach_at N j).b || eqb (reach_at N j).b v ≡ true)
    j-in true h q = (or_inr (S (reach_at N j).a) _ (eq-eqb _ v q), or_inl _ _ h)
    j-in false h q = (or_inl _ _ h, or_inr (S (reach_at N j).b) _ (eq-eqb _ v q))

    others : (m : ℕ) → m < length N.reaches → m ≢ i → m ≢ k → crosses_by (λ b. S b || eqb b v) (reach_at N m) ≡ false
    others m l n n' = go (ℕ_discrete m j)
      where
        go : Dec (m ≡ j) → crosses_by (λ b. S b || eqb b v) (reach_at N m) ≡ false
        go (yes q) = rw q (uncrossed (λ b. S b || eqb b v) (reach_at N j) (λ s. let e = j-in y p.two.inside t.here-i in e.0 ∙ sym e.1))
        go (no o) =
            uncrossed (λ b. S b || eqb b v) (reach_at N m)
            (λ s. let e = neither-end v (reach_at N m) (t.others m l o n') s in rw (e.0, e.1, uncrossed-ends S (reach_at N m) (p.others m l n o) s))

-- The first and the last reach of a channel are in series.
pub channel-pair : (N : Network) (i : ℕ) (x : Bool) (j : ℕ) (y : Bool) → Channel N i x j y → (S : ℕ → Bool) × CutPair N S i x j y
channel-pair N i x j y (begins {v} t) = (λ b. eqb b v, pair-basin N v i x j y t)
channel-pair N i x k z (goes_on {v} {j} {y = y} c t far) = let p = channel-pair N i x j y c in (λ b. p.0 b || eqb b v, pair-more N p.0 i x j y v k z p.1 t far)

-- In every plan the gates of a channel hang together.
pub channel-plan : (N : Network) → Accepted N → (i : ℕ) (x : Bool) (j : ℕ) (y : Bool) → Channel N i x j y → is_gated (reach_at N i).state ≡ true → is_gated (reach_at N j).state ≡ true
    → (q : List ℕ) → is_plan N q ≡ true → get_or (ways N.reaches q) j 3 ≡ guided_way x y (get_or (ways N.reaches q) i 3)
channel-plan N ok i x j y c = let p = channel-pair N i x j y c in pair-plan N ok p.0 i x j y p.1

-- An empty row says nothing.
pub none-guided : (N : Network) → Guides N []
none-guided N j l = absurd (not-suc-le-zero l)
