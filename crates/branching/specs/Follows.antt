-- Following a setting as far as it goes, and looking back for the last gate at which a plan can part from it upwards.
-- Assumes nothing.
use Rattle.std.specs.Prelude.{ℕ, suc, ◌≤◌, ◌<◌, ◌≡◌, true, List, length, get_or, set, Option, None, Some}
use Rattle.network.specs.Networks.{Network, Accepted}
use Rattle.tables.specs.Rows.{net_of}
use Rattle.orientations.specs.Least.{is_tried}
use Rattle.series.specs.Guides.{Guides}
use Rattle.orientations.specs.Partials.{StronglyConnected, NotStronglyConnected, Tries, Under, up_to, StronglyConnectedBelow, NoPart}

-- An accepted table, with a kind for each reach, the gates that are tried, and the ways us under a setting; ws are these up to reach i.
pub record Following (n : ℕ) (ks fs xs ys us ws : List ℕ) (i : ℕ) : Type 0 where
  pub kinds-full : length ks ≡ length xs
  pub accepted : Accepted (net_of n ks xs ys)
  pub tries : Tries (net_of n ks xs ys) fs
  pub under : Under (net_of n ks xs ys) us
  pub bound : i ≤ length xs
  pub begun : ws ≡ up_to fs us i

-- The setting was followed to its end, or up to the first gate that loses something if it is oriented so.
pub data Followed (N : Network) (fs us : List ℕ) : List ℕ → Option ℕ → Type 0 where
  through : {ws : List ℕ} → ws ≡ us → StronglyConnected N us → Followed N fs us ws None
  stopped : {ws : List ℕ} {r : ℕ} → r < length N.reaches → ws ≡ up_to fs us r → StronglyConnected N ws → NotStronglyConnected N (up_to fs us (suc r)) → Followed N fs us ws (Some r)

-- The last gate below `to` at which one can part, now turned, with the gates after it that are tried usable either way; or there is none.
pub data TurnedBack (N : Network) (fs us : List ℕ) (to : ℕ) : List ℕ → Option ℕ → Type 0 where
  turned-at : {ws : List ℕ} {r : ℕ} → r < to → is_tried fs r ≡ true → get_or us r 3 ≡ 0 → ws ≡ set (up_to fs us r) r 1 → StronglyConnected N ws
      → ((j : ℕ) → r < j → j < to → NoPart N fs us j) → TurnedBack N fs us to ws (Some r)
  nowhere : {ws : List ℕ} → ((j : ℕ) → j < to → NoPart N fs us j) → TurnedBack N fs us to ws None

-- So it is in the table of all kinds ks of which fs tries gates and the row of guides is true, if everything reaches everything up to each reach below `to`.
pub record TurnedBackFrom (n : ℕ) (guide fs xs ys us ws : List ℕ) (to : ℕ) (ws' : List ℕ) (r : Option ℕ) : Type 0 where
  pub from : (ks : List ℕ) → Following n ks fs xs ys us ws to → StronglyConnectedBelow (net_of n ks xs ys) fs us to → Guides (net_of n ks xs ys) guide → TurnedBack (net_of n ks xs ys) fs us to ws' r
