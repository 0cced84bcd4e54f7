-- Ways oriented as a setting has them up to a reach: what a looser list keeps, where no later plan parts, and from where the gates can be decided on.
-- Assumes nothing.
use Prim.Native.Nat.{ℕ, zero, suc, ◌≤◌, ◌<◌}
use native.Mathlib.Nat.{not-suc-le-zero}
use native.Mathlib.Omega.{arith}
use native.Mathlib.Decide.{ℕ_discrete, dec_lt}
use mathlib.Core.Path.{◌≡◌, refl, sym, ap, subst, subst⁻¹, ◌∙◌}
use mathlib.Core.Bool.{true, false}
use mathlib.Core.Logic.{◌⊎◌, inl, inr, ⊎_elim}
use mathlib.Core.List.{List, []}
use lib.ListN.{length, get_or, set}
use lib.Seq.{get_or-set_other, set-get_or, set-set}
use Rattle.network.specs.Networks.{Network, Accepted}
use Rattle.network.specs.Settings.{is_gated, is_setting}
use Rattle.network.specs.Orientations.{ways}
use Rattle.network.specs.Bridges.{reach_at}
use Rattle.lists.proofs.Bools.{decide, clash}
use Rattle.network.proofs.Ways.{length-ways, plain-way, gate-way}
use Rattle.orientations.specs.Least.{is_tried, NoneFrom}
use Rattle.orientations.specs.Partials.{StronglyConnected, NotStronglyConnected, Tries, Begun, Binds, up_to, NoPart}
use Rattle.orientations.proofs.Least.{looser-ways-strong, same-plain}
use Rattle.orientations.proofs.Goings.{begun-oriented}
use Rattle.orientations.proofs.Nexts.{gate-byte, oriented-length, oriented-below, oriented-tried, oriented-held, oriented-all, oriented-more, oriented-plain, oriented-shaped, none-held, none-turned, none-lost}

module _ (N : Network) where
  -- a gate that is left either way again loses nothing
  pub connected-free : (ws : List ℕ) (i x : ℕ) → get_or ws i 3 ≡ 2 → StronglyConnected N (set ws i x) → StronglyConnected N ws
  connected-free ws i x free = looser-ways-strong N (set ws i x) ws at
    where
      at : (j : ℕ) → j < length N.reaches → (get_or ws j 3 ≡ 2) ⊎ (get_or ws j 3 ≡ get_or (set ws i x) j 3)
      at j l = go (ℕ_discrete j i)
        where
          go : Dec (j ≡ i) → (get_or ws j 3 ≡ 2) ⊎ (get_or ws j 3 ≡ get_or (set ws i x) j 3)
          go (yes e) = inl (ap (λ (k : ℕ). get_or ws k 3) e ∙ free)
          go (no n) = inr (sym (get_or-set_other ws i j x 3 n))

  -- the row that tries all gates
  pub all-tried : (fs : List ℕ) → length fs ≡ length N.reaches → ((j : ℕ) → j < length N.reaches → is_tried fs j ≡ is_gated (reach_at N j).state) → Tries N fs
  all-tried fs e all = record { row-full = e; only-gates = λ j l y. sym (all j l) ∙ y }

  -- what it does not try is no gate, and has its way in every plan
  pub all-bind : (fs s us : List ℕ) → us ≡ ways N.reaches s → length fs ≡ length N.reaches → ((j : ℕ) → j < length N.reaches → is_tried fs j ≡ is_gated (reach_at N j).state) → Binds N fs us
  all-bind fs s us is e all =
      record {
        tries = all-tried fs e all;
        bound = λ j l n q p. same-plain N q s j l (sym (all j l) ∙ n) ∙ ap (λ (v : List ℕ). get_or v j 3) (sym is);
      }

  -- with no gate decided yet, all can be
  pub open_none : (fs : List ℕ) → length fs ≡ length N.reaches → ((j : ℕ) → j < length N.reaches → is_tried fs j ≡ is_gated (reach_at N j).state)
      → StronglyConnected N (ways N.reaches []) → Begun N fs (ways N.reaches []) 0
  open_none fs e all str =
      record {
        tries = all-tried fs e all;
        full = length-ways N.reaches [];
        shaped = λ j l n. plain-way N.reaches [] j l n;
        decided = λ j l g. absurd (not-suc-le-zero l);
        held = λ j l g n. clash g (sym (all j l) ∙ n);
        undecided = λ j l k y. (gate-way N.reaches [] j (omega (arith, e)) (sym (all j (omega (arith, e))) ∙ y)).byte;
        connected = str;
      }

-- the ways us are those under s
module _ (N : Network) (s us : List ℕ) (is : us ≡ ways N.reaches s) (fs : List ℕ) (tries : Tries N fs) where
  pub up-length : (i : ℕ) → i ≤ length N.reaches → length (up_to fs us i) ≡ length N.reaches
  up-length i l = ap (λ (v : List ℕ). length (up_to fs v i)) is ∙ oriented-length N s fs tries i l

  -- all reaches have their ways
  pub up-all : up_to fs us (length N.reaches) ≡ us
  up-all = ap (λ (v : List ℕ). up_to fs v (length N.reaches)) is ∙ oriented-all N s fs tries ∙ sym is

  -- one reach more: it gets its way under s
  pub up_more : (i x : ℕ) → i < length N.reaches → get_or us i 3 ≡ x → set (up_to fs us i) i x ≡ up_to fs us (suc i)
  up_more i x l e = rw (sym e) (subst⁻¹ (λ (v : List ℕ). set (up_to fs v i) i (get_or v i 3) ≡ up_to fs v (suc i)) is (oriented-more N s fs tries i l))

  -- a reach that is not tried: nothing changes
  pub up-plain : (i : ℕ) → i < length N.reaches → is_tried fs i ≡ false → up_to fs us (suc i) ≡ up_to fs us i
  up-plain i l n = subst⁻¹ (λ (v : List ℕ). up_to fs v (suc i) ≡ up_to fs v i) is (oriented-plain N s fs tries i l n)

  -- whether reach i has its way yet does not matter once it is set
  pub up-again : (i x : ℕ) → i < length N.reaches → set (up_to fs us (suc i)) i x ≡ set (up_to fs us i) i x
  up-again i x l = ap (λ (v : List ℕ). set v i x) (sym (up_more i (get_or us i 3) l refl)) ∙ set-set (up_to fs us i) i (get_or us i 3) x

  -- a gate from i on that is tried is usable either way
  pub up-free : (i : ℕ) → i < length N.reaches → is_tried fs i ≡ true → get_or (up_to fs us i) i 3 ≡ 2
  up-free i l g = ap (λ (v : List ℕ). get_or (up_to fs v i) i 3) is ∙ oriented-tried N s fs tries i i (omega arith) (omega arith) l g

  pub up-either : (i : ℕ) → i < length N.reaches → is_tried fs i ≡ true → set (up_to fs us i) i 2 ≡ up_to fs us i
  up-either i l g = ap (λ (x : ℕ). set (up_to fs us i) i x) (sym (up-free i l g)) ∙ set-get_or (up_to fs us i) i 3

  -- with fewer gates oriented no less is reached
  pub connected-lower : (i j : ℕ) → StronglyConnected N (up_to fs us i) → j ≤ i → i ≤ length N.reaches → StronglyConnected N (up_to fs us j)
  connected-lower i j str k l = subst⁻¹ (λ (v : List ℕ). StronglyConnected N (up_to fs v j)) is (looser-ways-strong N (up_to fs (ways N.reaches s) i) (up_to fs (ways N.reaches s) j) at (subst (λ (v : List ℕ). StronglyConnected N (up_to fs v i)) is str))
    where
      at : (m : ℕ) → m < length N.reaches → (get_or (up_to fs (ways N.reaches s) j) m 3 ≡ 2) ⊎ (get_or (up_to fs (ways N.reaches s) j) m 3 ≡ get_or (up_to fs (ways N.reaches s) i) m 3)
      at m ml = go (dec_lt m j) (decide (is_tried fs m))
        where
          go : Dec (m < j) → (is_tried fs m ≡ true) ⊎ (is_tried fs m ≡ false) → (get_or (up_to fs (ways N.reaches s) j) m 3 ≡ 2) ⊎ (get_or (up_to fs (ways N.reaches s) j) m 3 ≡ get_or (up_to fs (ways N.reaches s) i) m 3)
          go (yes y) d = inr (oriented-below N s fs tries j m (omega arith) y ∙ sym (oriented-below N s fs tries i m l (omega arith)))
          go (no n) (inl g) = inl (oriented-tried N s fs tries j m (omega arith) (omega arith) ml g)
          go (no n) (inr p) = inr (oriented-held N s fs tries j m (omega arith) ml p ∙ sym (oriented-held N s fs tries i m l ml p))

  module _ (fit : is_setting N s ≡ true) where
    pub byte-under : (j : ℕ) → j < length N.reaches → is_gated (reach_at N j).state ≡ true → get_or us j 3 ≤ 1
    byte-under j l g = subst⁻¹ (λ (v : List ℕ). get_or v j 3 ≤ 1) is (gate-byte N s fit j l g)

    -- the gates below i are decided, as s has them
    pub open_up : (i : ℕ) → i ≤ length N.reaches → StronglyConnected N (up_to fs us i) → Begun N fs (up_to fs us i) i
    open_up i l str = subst⁻¹ (λ (v : List ℕ). Begun N fs (up_to fs v i) i) is begun
      where
        begun : Begun N fs (up_to fs (ways N.reaches s) i) i
        begun =
            record {
              tries = tries;
              full = oriented-length N s fs tries i l;
              shaped = oriented-shaped N s fs tries i l;
              decided = λ j k g. subst⁻¹ (λ (x : ℕ). x ≤ 1) (oriented-below N s fs tries i j l k) (gate-byte N s fit j (omega arith) g);
              held = λ j jl g n. subst⁻¹ (λ (x : ℕ). x ≤ 1) (oriented-held N s fs tries i j l jl n) (gate-byte N s fit j jl g);
              undecided = λ j k jl y. oriented-tried N s fs tries i j l k (omega (arith, tries.row-full)) y;
              connected = subst (λ (v : List ℕ). StronglyConnected N (up_to fs v i)) is str;
            }

    -- with the gate r turned, those after it can be decided
    pub open_at : Accepted N → (r : ℕ) → r < length N.reaches → is_tried fs r ≡ true → StronglyConnected N (set (up_to fs us r) r 1) → Begun N fs (set (up_to fs us r) r 1) (suc r)
    open_at ok r l g str = begun-oriented N ok fs (up_to fs us r) r l (open_up r (omega arith) (connected-free N (up_to fs us r) r 1 (up-free r l g) str)) g 1 (omega arith) str

-- the same where what is not tried is bound
module _ (N : Network) (s us : List ℕ) (is : us ≡ ways N.reaches s) (fs : List ℕ) (binds : Binds N fs us) (fit : is_setting N s ≡ true) where
  along : Binds N fs (ways N.reaches s)
  along = subst (λ (v : List ℕ). Binds N fs v) is binds

  -- one reach less, if no plan parts there
  none-step : (j : ℕ) → j < length N.reaches → NoPart N fs us j → NoneFrom N s (suc j) → NoneFrom N s j
  none-step j l f more = ⊎_elim tried (none-held N s fit fs along j l more) (decide (is_tried fs j))
    where
      tried : is_tried fs j ≡ true → NoneFrom N s j
      tried y = go (ℕ_discrete (get_or us j 3) 0)
        where
          g : is_gated (reach_at N j).state ≡ true
          g = binds.tries.only-gates j l y

          go : Dec (get_or us j 3 ≡ 0) → NoneFrom N s j
          go (yes e) = none-lost N s fit fs along j l more g (subst (λ (v : List ℕ). NotStronglyConnected N (set (up_to fs v j) j 1)) is (f y e))
          go (no n) = none-turned N s fit j l more g (ap (λ (v : List ℕ). get_or v j 3) (sym is) ∙ omega (arith, byte-under N s us is fs binds.tries fit j l g))

  -- where no plan parts from i on below `to`, nor from `to` on, none parts from i on
  pub none-back : (i to : ℕ) → i ≤ to → to ≤ length N.reaches → ((j : ℕ) → i ≤ j → j < to → NoPart N fs us j) → NoneFrom N s to → NoneFrom N s i
  none-back i zero k l f more = subst (λ (m : ℕ). NoneFrom N s m) (omega arith) more
  none-back i (suc to) k l f more = go (ℕ_discrete i (suc to)) (λ k'. none-back i to k' (omega arith) (λ j p q. f j p (omega arith)))
    where
      go : Dec (i ≡ suc to) → (i ≤ to → NoneFrom N s to → NoneFrom N s i) → NoneFrom N s i
      go (yes e) lower = rw e more
      go (no n) lower = lower (omega arith) (none-step to (omega arith) (f to (omega arith) (omega arith)) more)
