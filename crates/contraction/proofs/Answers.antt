-- What a contraction is refused for, and the call over rows: what is promised where it is refused, and where it is not.
-- Assumes nothing.
use Rattle.network.specs.declared.Counts.{Counts}
use Rattle.std.specs.Prelude.{Err, Ok, Result}
use Prim.Native.Nat.{ℕ, ◌≤◌, ◌<◌}
use native.Mathlib.Omega.{arith}
use mathlib.Core.Path.{◌≡◌, refl, sym, ap, ap₂, subst, subst⁻¹, ◌∙◌}
use mathlib.Core.Option.{Option, none, some}
use mathlib.Core.List.{List}
use lib.ListN.{length, take, length-take}
use borrow.Author.Tests.{le-leb, lt-leb}
use Rattle.network.specs.declared.Refusal.{Refusal}
use Rattle.network.specs.declared.Refusal.TheVariants.{ShortBuffer}
use Rattle.network.specs.Networks.{Network, table_fault, Accepted, counts}
use Rattle.network.specs.Tables.{table_of}
use Rattle.network.specs.Replies.{fault_number}
use Rattle.network.proofs.Networks.{Facts, accepted}
use Rattle.tables.specs.Rows.{net_of, room_of, RowsFilled}
use Rattle.tables.proofs.Laws.{table-short, row-length, row-a, row-b}
use Rattle.tables.proofs.Cuts.{cut-ends-a, cut-ends-b, cut-net}
use Rattle.components.specs.Contracted.{contracted}
use Rattle.components.specs.Components.{component_count}
use Rattle.components.specs.Labels.{Joinable, Labelled}
use Rattle.components.specs.declared.Note.{Note}
use Rattle.contracting.specs.Filling.{Contractible, FillableOf, KeptFilledOf}
use Rattle.contraction.specs.Calls.{contract_fault, contract_answer, contract_number, reaches_given, ContractRows, ContractGiven}

module _ (N : Network) (room : ℕ) where
  -- the table's refusal comes first
  pub fault-table : {r : Refusal} → table_fault N ≡ some r → contract_fault N room ≡ some r
  unfolding contract_fault
  fault-table e = rw e

  pub fault-short : Accepted N → room < length N.reaches → contract_fault N room ≡ some ShortBuffer
  unfolding contract_fault
  fault-short ok l = rw (ok, lt-leb (length N.reaches) room l)

  pub fault-clear : Accepted N → length N.reaches ≤ room → contract_fault N room ≡ none
  unfolding contract_fault
  fault-clear ok l = rw (ok, le-leb (length N.reaches) room l)

-- ---- the call over rows

module _ (N : Network) {ks xs ys : List ℕ} where
  -- a refusal, which writes nothing
  pub rows-refused : {r : Refusal} → contract_fault N (room_of ks xs ys) ≡ some r → ContractRows N ks xs ys (Err r) ks xs ys
  rows-refused e =
      record {
        answer = sym (ap (λ (o : Option Refusal). contract_answer o (contracted N)) e);
        number = sym (ap fault_number e);
        rows = subst⁻¹ (λ (o : Option Refusal). RowsFilled (reaches_given o (contracted N)) ks xs ys ks xs ys) e (record { kind_row = refl; a-row = refl; b-row = refl });
      }

  -- what is given
  pub rows-given : {r : Result Counts Refusal} {ks' xs' ys' : List ℕ} → contract_fault N (room_of ks xs ys) ≡ none → ContractGiven N ks xs ys r ks' xs' ys' → ContractRows N ks xs ys r ks' xs' ys'
  rows-given {r} {ks'} {xs'} {ys'} e g =
      record {
        answer = g.answer ∙ sym (ap (λ (o : Option Refusal). contract_answer o (contracted N)) e);
        number = ap contract_number g.answer ∙ sym (ap fault_number e);
        rows = subst⁻¹ (λ (o : Option Refusal). RowsFilled (reaches_given o (contracted N)) ks xs ys ks' xs' ys') e g.rows;
      }

-- ---- an accepted table, cut to its length

module _ (n : ℕ) (ks xs ys : List ℕ) (m : ℕ) (e : m ≡ length (table_of ks xs ys)) (ok : Accepted (net_of n ks xs ys)) where
  abbrev M : Network
  M = net_of n (take m ks) (take m xs) (take m ys)

  facts : Facts M
  facts = accepted M (subst⁻¹ (λ (N : Network). Accepted N) (cut-net ks xs ys m e n) ok)

  long : length M.reaches ≡ length (take m ks)
  long = row-length (take m ks) (take m xs) (take m ys) (cut-ends-a ks xs ys m e) (cut-ends-b ks xs ys m e)

  joinable : Joinable n (take m ks) (take m xs) (take m ys)
  joinable =
      let f = cut-ends-a ks xs ys m e in
      let g = cut-ends-b ks xs ys m e in
      record {
        few = facts.few-basins;
        a-full = f;
        b-full = g;
        a-below = λ i l. subst (λ x. x < n) (row-a (take m ks) (take m xs) (take m ys) f g i (omega arith)) (facts.end-a i (omega (arith, long)));
        b-below = λ i l. subst (λ x. x < n) (row-b (take m ks) (take m xs) (take m ys) f g i (omega arith)) (facts.end-b i (omega (arith, long)));
      }

  module _ (ks₂ xs₂ ys₂ : List ℕ) (k : ℕ) (c : k ≡ length (table_of ks₂ xs₂ ys₂)) where
    room-is : k ≡ room_of ks₂ xs₂ ys₂
    room-is = c ∙ table-short ks₂ xs₂ ys₂

    -- new rows that are too short
    pub cut_short : k < m → ContractRows (net_of n ks xs ys) ks₂ xs₂ ys₂ (Err ShortBuffer) ks₂ xs₂ ys₂
    cut_short l = rows-refused (net_of n ks xs ys) (fault-short (net_of n ks xs ys) (room_of ks₂ xs₂ ys₂) ok (omega (arith, room-is)))

    -- and new rows with room
    module _ (l : m ≤ k) where
      pub contractible : Contractible n (take m ks) (take m xs) (take m ys) ks₂ xs₂ ys₂
      contractible =
          let cut = length-take m ks in
          record { rows = joinable; kind-room = omega (arith, cut, room-is); a-room = omega (arith, cut, room-is); b-room = omega (arith, cut, room-is) }

      pub cut-given : {r : Result Counts Refusal} {ks' xs' ys' : List ℕ} → ContractGiven M ks₂ xs₂ ys₂ r ks' xs' ys' → ContractRows (net_of n ks xs ys) ks₂ xs₂ ys₂ r ks' xs' ys'
      cut-given {r} {ks'} {xs'} {ys'} g =
          rows-given (net_of n ks xs ys) (fault-clear (net_of n ks xs ys) (room_of ks₂ xs₂ ys₂) ok (omega (arith, room-is)))
          (subst (λ (N : Network). ContractGiven N ks₂ xs₂ ys₂ r ks' xs' ys') (cut-net ks xs ys m e n) g)

-- ---- the components, and what stays

contracted-basins : (N : Network) → (contracted N).basins ≡ component_count N
unfolding contracted
contracted-basins N = refl

module _ {n : ℕ} {ks xs ys ks₂ xs₂ ys₂ labels : List ℕ} {notes : List Note} {count : ℕ} (p : Contractible n ks xs ys ks₂ xs₂ ys₂) (c : Labelled (net_of n ks xs ys) count labels notes) where
  pub fillable : n ≤ length labels → n ≤ length notes → FillableOf n ks xs ys labels notes ks₂ xs₂ ys₂
  fillable l m = record { table = p; count = count; labelled = c; labels-room = l; notes-room = m }

  pub given-filled : {k : ℕ} {ks' xs' ys' : List ℕ} → KeptFilledOf n ks xs ys ks₂ xs₂ ys₂ k ks' xs' ys' → ContractGiven (net_of n ks xs ys) ks₂ xs₂ ys₂ (Ok (counts count k)) ks' xs' ys'
  given-filled f = record { answer = ap₂ {C = Result Counts Refusal} (λ (k m : ℕ). Ok (counts k m)) (c.counted ∙ sym (contracted-basins (net_of n ks xs ys))) f.counted; rows = f.rows }
