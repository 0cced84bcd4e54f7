-- What holds of the order of two plan sheets and of the part that is handed back. proofs/Laws.antt shows it of every two sheets.
-- Assumes nothing.
use Rattle.std.specs.declared.cmp.Ordering.{Ordering}
use Rattle.network.specs.declared.Refusal.{Refusal}
use Rattle.std.specs.declared.cmp.Ordering.TheVariants.{Equal, Greater, Less}
use Rattle.std.specs.Prelude.{ℕ, ◌<◌, ◌≡◌, List, [], ◌++◌, get_or, take, drop, Ok, Err, Result}
use Rattle.std.specs.Borrow.{Bor}
use Rattle.network.specs.Networks.{Network}
use Rattle.network.specs.Settings.{gates, gate_count}
use Rattle.sheet_format.specs.Sheets.{gate_record}
use Rattle.sheet_order.specs.Orders.{order_number, exchanged}
use Rattle.sheet_order.specs.Parts.{differing_gate, record_place}

-- The orders o of two sheets, and o' of the same two exchanged: both are refusals, or the one is the other exchanged.
pub record Exchanged (o o' : Result Ordering Refusal) : Type 0 where
  pub forth : order_number o ≡ 0 → o' ≡ exchanged o
  pub back : order_number o' ≡ 0 → o ≡ exchanged o'

-- Sheets that are read are equal exactly if they are the same bytes.
pub record EqualExactly (f g : List ℕ) (o : Result Ordering Refusal) : Type 0 where
  pub same : o ≡ Ok Equal → f ≡ g
  pub equal : order_number o ≡ 0 → f ≡ g → o ≡ Ok Equal

-- The same part: the same place in memory, and the same bytes.
pub record SamePart (r r' : Bor (List ℕ)) : Type 0 where
  pub block : r.ref_ptr.0 ≡ r'.ref_ptr.0
  pub place : r.ref_ptr.1 ≡ r'.ref_ptr.1
  pub bytes : r.now ≡ r'.now

-- A part of the earlier of two sheets, which differ at gate k: behind the earlier sheet's first bytes, which both share, it is that sheet; its first
-- record says "as drawn", the later sheet's at that place "turned", and both of the same gate.
pub record Shown (N : Network) (early late part : List ℕ) (k : ℕ) : Type 0 where
  pub shared : take (record_place k) early ≡ take (record_place k) late
  pub whole : take (record_place k) early ++ part ≡ early
  pub drawn : take 3 part ≡ gate_record (get_or (gates N) k 0) 0
  pub turned : take 3 (drop (record_place k) late) ≡ gate_record (get_or (gates N) k 0) 1
  pub gate : k < gate_count N

abbrev pub PartShown : Network → List ℕ → List ℕ → Result Ordering Refusal → List ℕ → Type 0
PartShown N f g (Err x) part = part ≡ []
PartShown N f g (Ok Equal) part = part ≡ []
PartShown N f g (Ok Less) part = Shown N f g part (differing_gate N f g)
PartShown N f g (Ok Greater) part = Shown N g f part (differing_gate N f g)
