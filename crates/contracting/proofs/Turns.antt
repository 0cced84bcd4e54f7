-- The loop of the filling: what one turn asks, what it leaves, and what stands at its end.
-- Assumes nothing.
use Prim.Native.Nat.{ℕ, ◌+◌, ◌≤◌, ◌<◌}
use native.Mathlib.Numerals.{add-one}
use native.Mathlib.Omega.{arith}
use mathlib.Core.Path.{◌≡◌, refl, sym, ap, ◌∙◌}
use mathlib.Core.Logic.{⊎_elim}
use mathlib.Core.Bool.{true, false}
use mathlib.Core.List.{List}
use lib.ListN.{length, get_or, set, length-set}
use lib.Seq.{get_or-set_same, get_or-set_other}
use Rattle.lists.proofs.Bools.{decide, clash}
use Rattle.network.specs.Networks.{Network, max_basins}
use Rattle.network.specs.Bridges.{no_reach, reach_at}
use Rattle.network.specs.Tables.{state_of, state_number}
use Rattle.tables.specs.Rows.{net_of}
use Rattle.tables.proofs.Laws.{row-length, row-state, row-a, row-b}
use Rattle.tables.proofs.Filling.{RowFilled, row-none, row_more, row-all}
use Rattle.components.specs.Components.{connected, component_number}
use Rattle.components.specs.Contracted.{contracted, contracted_reach}
use Rattle.components.specs.Labels.{note_at}
use Rattle.components.specs.declared.Note.{Note}
use Rattle.components.specs.declared.Note.TheVariants.{One}
use Rattle.contracting.specs.Filling.{stays_by, note_after, FillableOf, KeptFilledOf}
use Rattle.components.proofs.Components.{number_same, same_number, number-below, count-few}
use Rattle.contracting.proofs.Numbers.{number-kept}
use Rattle.contracting.proofs.Notes.{note-here, note-there, note-alike, stays_by-noted}
use Rattle.contracting.proofs.Parts.{kept_to, kept-none, few-kept, kept-all, staying, kept-drops, kept-stays, staying-below, staying-at}

-- After i reaches: k of them stay, and stand in the new rows; the notes are those after these reaches.
pub record KeptFilling (n : ℕ) (ks xs ys : List ℕ) (notes₀ : List Note) (ks₀ xs₀ ys₀ : List ℕ) (notes : List Note) (ks₂ xs₂ ys₂ : List ℕ) (k i : ℕ) : Type 0 where
  pub below : i ≤ length ks
  pub kept : k ≡ length (kept_to (net_of n ks xs ys) i)
  pub note : (v : ℕ) → v < n → get_or notes (component_number (net_of n ks xs ys) v) One ≡ note_at (net_of n ks xs ys) i v
  pub long : length notes ≡ length notes₀
  pub kind_row : RowFilled (λ r. state_number r.state) (contracted (net_of n ks xs ys)).reaches ks₀ ks₂ k
  pub a-row : RowFilled (λ r. r.a) (contracted (net_of n ks xs ys)).reaches xs₀ xs₂ k
  pub b-row : RowFilled (λ r. r.b) (contracted (net_of n ks xs ys)).reaches ys₀ ys₂ k

-- What a turn reads and writes has its place: the ends, their labels, the note of the first, and the next entries of the new rows. The numbers are small.
pub record Places (xs ys labels : List ℕ) (notes : List Note) (ks₂ xs₂ ys₂ : List ℕ) (k i : ℕ) : Type 0 where
  pub a-here : i < length xs
  pub b_here : i < length ys
  pub a_small : get_or xs i 0 < max_basins
  pub b-small : get_or ys i 0 < max_basins
  pub a-labelled : get_or xs i 0 < length labels
  pub b-labelled : get_or ys i 0 < length labels
  pub c-small : get_or labels (get_or xs i 0) 0 < max_basins
  pub c-noted : get_or labels (get_or xs i 0) 0 < length notes
  pub few : k ≤ i
  pub kind-room : k < length ks₂
  pub a-room : k < length xs₂
  pub b-room : k < length ys₂

module _ (n : ℕ) (ks xs ys labels : List ℕ) (notes₀ : List Note) (ks₀ xs₀ ys₀ : List ℕ) (p : FillableOf n ks xs ys labels notes₀ ks₀ xs₀ ys₀) where
  abbrev N : Network
  N = net_of n ks xs ys

  long : length N.reaches ≡ length ks
  long = row-length ks xs ys p.table.rows.a-full p.table.rows.b-full

  pub kept-filling-none : KeptFilling n ks xs ys notes₀ ks₀ xs₀ ys₀ notes₀ ks₀ xs₀ ys₀ 0 0
  kept-filling-none =
      record {
        below = omega arith;
        kept = sym (ap length (kept-none N));
        note = p.labelled.note;
        long = refl;
        kind_row = row-none _ _ _ ks₀;
        a-row = row-none _ _ _ xs₀;
        b-row = row-none _ _ _ ys₀;
      }

  module _ {notes : List Note} {ks₂ xs₂ ys₂ : List ℕ} {k i : ℕ} (f : KeptFilling n ks xs ys notes₀ ks₀ xs₀ ys₀ notes ks₂ xs₂ ys₂ k i) where
    pub kept-filling-all : length ks ≤ i → KeptFilledOf n ks xs ys ks₀ xs₀ ys₀ k ks₂ xs₂ ys₂
    kept-filling-all l =
        record {
          counted = all;
          rows = record { kind_row = row-all _ _ ks₀ ks₂ k f.kind_row all; a-row = row-all _ _ xs₀ xs₂ k f.a-row all; b-row = row-all _ _ ys₀ ys₂ k f.b-row all };
        }
      where
        all : k ≡ length (contracted N).reaches
        all = f.kept ∙ ap length (kept-all N i (omega (arith, long)))

    module _ (l : i < length ks) where
      abbrev kind : ℕ
      kind = get_or ks i 0

      abbrev a : ℕ
      a = get_or xs i 0

      abbrev b : ℕ
      b = get_or ys i 0

      abbrev c : ℕ
      c = get_or labels a 0

      abbrev d : ℕ
      d = get_or labels b 0

      state-is : (reach_at N i).state ≡ state_of kind
      state-is = row-state ks xs ys p.table.rows.a-full p.table.rows.b-full i l

      a-is : (reach_at N i).a ≡ a
      a-is = row-a ks xs ys p.table.rows.a-full p.table.rows.b-full i l

      b-is : (reach_at N i).b ≡ b
      b-is = row-b ks xs ys p.table.rows.a-full p.table.rows.b-full i l

      -- the ends, and the numbers of their components
      a-below : a < n
      a-below = p.table.rows.a-below i (omega (arith, p.table.rows.a-full))

      b-below : b < n
      b-below = p.table.rows.b-below i (omega (arith, p.table.rows.b-full))

      c-is : c ≡ component_number N a
      c-is = p.labelled.label a a-below

      d-is : d ≡ component_number N b
      d-is = p.labelled.label b b-below

      numbered : c < n
      numbered = omega (arith, c-is, number-below N a a-below, count-few N)

      pub places : Places xs ys labels notes ks₂ xs₂ ys₂ k i
      places =
          let few : k ≤ i = rw f.kept (few-kept N i) in
          record {
            a-here = omega (arith, p.table.rows.a-full);
            b_here = omega (arith, p.table.rows.b-full);
            a_small = omega (arith, a-below, p.table.rows.few);
            b-small = omega (arith, b-below, p.table.rows.few);
            a-labelled = omega (arith, a-below, p.labels-room);
            b-labelled = omega (arith, b-below, p.labels-room);
            c-small = omega (arith, numbered, p.table.rows.few);
            c-noted = omega (arith, numbered, p.notes-room, f.long);
            few = few;
            kind-room = omega (arith, f.kind_row.long, p.table.kind-room);
            a-room = omega (arith, f.a-row.long, p.table.a-room);
            b-room = omega (arith, f.b-row.long, p.table.b-room);
          }

      -- the note, what it decides, and what it becomes
      abbrev note : Note
      note = get_or notes c One

      note-is : note ≡ note_at N i a
      note-is = ap (λ j. get_or notes j One) c-is ∙ f.note a a-below

      stay-is : staying N i ≡ stays_by (state_of kind) c d note
      stay-is = rw (state-is, a-is, b-is, c-is, d-is, f.note a a-below) (sym (stays_by-noted N i (state_of kind) a b a-below b-below))

      note-next : note_after (state_of kind) note ≡ note_at N (i + 1) a
      note-next = rw (note-is, add-one) (sym (rw (state-is, a-is) at (note-here N i (rw long l))))

      -- in the component where it has its end A, and in another
      noted_here : (x : Note) → x ≡ note_after (state_of kind) note → (v : ℕ) → v < n → connected N a v ≡ true → get_or (set notes c x) (component_number N v) One ≡ note_at N (i + 1) v
      noted_here x e v m h =
          ap (λ j. get_or (set notes c x) j One) (sym (c-is ∙ number_same N a v h))
          ∙ get_or-set_same notes c x One places.c-noted
          ∙ e
          ∙ note-next
          ∙ note-alike N (i + 1) a v a-below m h

      noted-there : (x : Note) (v : ℕ) → v < n → connected N a v ≡ false → get_or (set notes c x) (component_number N v) One ≡ note_at N (i + 1) v
      noted-there x v m h =
          get_or-set_other notes c (component_number N v) x One (λ q. clash (same_number N a v a-below m (sym (q ∙ c-is))) h)
          ∙ f.note v m
          ∙ rw add-one (sym (note-there N i (rw long l) v (rw a-is h)))

      noted-next : (x : Note) → x ≡ note_after (state_of kind) note → (v : ℕ) → v < n → get_or (set notes c x) (component_number N v) One ≡ note_at N (i + 1) v
      noted-next x e v m = ⊎_elim (noted_here x e v m) (noted-there x v m) (decide (connected N a v))

      -- the reach drops, or goes to the rows
      pub kept-filling-drop :
          (x : Note) → x ≡ note_after (state_of kind) note → false ≡ stays_by (state_of kind) c d note
          → KeptFilling n ks xs ys notes₀ ks₀ xs₀ ys₀ (set notes c x) ks₂ xs₂ ys₂ k (i + 1)
      kept-filling-drop x e drops =
          record {
            below = omega arith;
            kept = f.kept ∙ sym (kept-drops N i (rw long l) (stay-is ∙ sym drops));
            note = noted-next x e;
            long = length-set notes c x ∙ f.long;
            kind_row = f.kind_row;
            a-row = f.a-row;
            b-row = f.b-row;
          }

      module _ (stayed : true ≡ stays_by (state_of kind) c d note) where
        within : k < length (contracted N).reaches
        within = rw f.kept (staying-below N i (rw long l) (stay-is ∙ sym stayed))

        there : get_or (contracted N).reaches k no_reach ≡ contracted_reach N (reach_at N i)
        there = rw f.kept (staying-at N i (rw long l) (stay-is ∙ sym stayed))

        kind-there : kind ≡ state_number (get_or (contracted N).reaches k no_reach).state
        kind-there = number-kept kind c d note (sym stayed) ∙ sym (ap (λ r. state_number r.state) there ∙ ap state_number state-is)

        pub kept-filling-stay :
            (x : Note) → x ≡ note_after (state_of kind) note → {xs' ys' : List ℕ} → xs' ≡ set xs₂ k c → ys' ≡ set ys₂ k d
            → KeptFilling n ks xs ys notes₀ ks₀ xs₀ ys₀ (set notes c x) (set ks₂ k kind) xs' ys' (k + 1) (i + 1)
        kept-filling-stay x e a-stored b-stored =
            rw (a-stored, b-stored)
            (record {
              below = omega arith;
              kept = ap (λ j. j + 1) f.kept ∙ sym (kept-stays N i (rw long l) (stay-is ∙ sym stayed));
              note = noted-next x e;
              long = length-set notes c x ∙ f.long;
              kind_row = row_more _ _ ks₀ ks₂ k kind f.kind_row within (omega (arith, places, f.kind_row.long)) kind-there;
              a-row = row_more _ _ xs₀ xs₂ k c f.a-row within (omega (arith, places, f.a-row.long)) (c-is ∙ sym (ap (λ r. r.a) there ∙ ap (component_number N) a-is));
              b-row = row_more _ _ ys₀ ys₂ k d f.b-row within (omega (arith, places, f.b-row.long)) (d-is ∙ sym (ap (λ r. r.b) there ∙ ap (component_number N) b-is));
            })
