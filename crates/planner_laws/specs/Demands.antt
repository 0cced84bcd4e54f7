-- Demands 2 and 3, said of what a caller of first, of next or of a walker's step gets: the answer, and the plan or the marks in the lent buffers.
-- Assumes nothing.
use Rattle.replies.specs.declared.Reply.{Reply}
use Rattle.network.specs.declared.Refusal.{Refusal}
use Rattle.std.specs.Prelude.{ℕ, ◌≤◌, ◌≡◌, true, false, ◌↔◌, List, length, take, drop, Err, Ok, Result}
use Rattle.std.proofs.Math.Option.{some}
use Rattle.network.specs.declared.Refusal.TheVariants.{LastPlan}
use Rattle.network.specs.Networks.{Network, Accepted}
use Rattle.network.specs.Settings.{gate_count, is_setting, before}
use Rattle.network.specs.Plans.{is_plan, passable, first_plan, next_plan}
use Rattle.network.specs.Bridges.{is_bridge}
use Rattle.network.specs.Marks.{mark_bytes}
use Rattle.network.specs.Replies.{Outcome, plan, shut_in, lone, refused}
use Rattle.network.specs.Certificates.{ShutInShown, BridgeShown}
use Rattle.replies.specs.declared.Verdict.{Verdict}
use Rattle.replies.specs.declared.Verdict.TheVariants.{Plan, ShutIn, Lone}
use Rattle.replies.specs.Answers.{FirstCall, NextCall}
use Rattle.walker.specs.Walkers.{setting_in}

-- The reply that a caller reads: the first bytes of the plan buffer, one for each gated reach, or the 32 bytes of marks.
abbrev pub read_verdict : Network → Verdict → List ℕ → List ℕ → Outcome
read_verdict N Plan planBuffer marksBuffer = plan (take (gate_count N) planBuffer)
read_verdict N (ShutIn f) planBuffer marksBuffer = shut_in (take mark_bytes marksBuffer) f.count
read_verdict N (Lone f) planBuffer marksBuffer = lone f.reach (take mark_bytes marksBuffer) f.count

abbrev pub read_reply : Network → Result Reply Refusal → List ℕ → List ℕ → Outcome
read_reply N (Err r) planBuffer marksBuffer = refused r
read_reply N (Ok g) planBuffer marksBuffer = read_verdict N g.verdict planBuffer marksBuffer

-- An accepted network, and lent buffers long enough, whatever they hold.
pub record EnoughRoom (N : Network) (planBuffer marksBuffer : List ℕ) : Type 0 where
  pub accepted : Accepted N
  pub plan-room : gate_count N ≤ length planBuffer
  pub marks-room : mark_bytes ≤ length marksBuffer

-- ---- demand 2

-- "Each reply is a plan or one of two findings": exactly one of the three.
pub data OneOfThree : Outcome → Type 0 where
  a-plan : (p : List ℕ) → OneOfThree (plan p)
  a-shut-in : (m : List ℕ) (c : ℕ) → OneOfThree (shut_in m c)
  a-lone : (i : ℕ) (m : List ℕ) (c : ℕ) → OneOfThree (lone i m c)

-- What a reply o of first or of next says where there is no plan. 9 is said exactly where the network is not passable, 10 exactly where it is and has a lone reach; each
-- comes with what somebody with the map checks, by the marks, the count and the reach of this very reply.
pub record FindingShown (N : Network) (o : Outcome) : Type 0 where
  pub is-shut-in : ((m : List ℕ) × (c : ℕ) × (o ≡ shut_in m c)) ↔ (passable N ≡ false)
  pub is-lone : ((i : ℕ) × (m : List ℕ) × (c : ℕ) × (o ≡ lone i m c)) ↔ ((passable N ≡ true) × (i : ℕ) × (is_bridge N i ≡ true))
  pub shut-in : (m : List ℕ) (c : ℕ) → o ≡ shut_in m c → ShutInShown N m c
  pub lone-reach : (i : ℕ) (m : List ℕ) (c : ℕ) → o ≡ lone i m c → BridgeShown N i m c

-- What a reply o of first says: a plan or a finding; a plan given is a plan, and none is earlier; one is given exactly where the network has one.
pub record FirstShown (N : Network) (o : Outcome) : Type 0 where
  pub one_of_three : OneOfThree o
  pub is-first : (p : List ℕ) → (o ≡ plan p) ↔ (first_plan N ≡ some p)
  pub is-plan : (p : List ℕ) → o ≡ plan p → is_plan N p ≡ true
  pub is-earliest : (p q : List ℕ) → o ≡ plan p → is_plan N q ≡ true → before q p ≡ false
  pub is-given : ((p : List ℕ) × (o ≡ plan p)) ↔ ((q : List ℕ) × (is_plan N q ≡ true))
  pub finding : FindingShown N o

-- Demand 2 over a call of first, with buffers that held anything: what its caller reads.
abbrev pub FirstOver : Network → List ℕ → List ℕ → List ℕ → List ℕ → Result Reply Refusal → Type 0
FirstOver N planBuffer marksBuffer plan' marks' r = EnoughRoom N planBuffer marksBuffer → FirstShown N (read_reply N r plan' marks')

-- What asking for the first plan promises: what first promises of any input, refused or not, and demand 2.
pub record FirstAsked (N : Network) (planBuffer marksBuffer plan' marks' : List ℕ) (r : Result Reply Refusal) : Type 0 where
  pub call : FirstCall N planBuffer marksBuffer r plan' marks'
  pub demand : FirstOver N planBuffer marksBuffer plan' marks' r

-- ---- demand 3

-- An accepted network, a setting of it, and lent buffers long enough, whatever they hold.
pub record Asked (N : Network) (s planBuffer marksBuffer : List ℕ) : Type 0 where
  pub enough : EnoughRoom N planBuffer marksBuffer
  pub fits : is_setting N s ≡ true

-- What one reply of next says: a plan given is the next plan of the setting, later than it; one is given wherever a plan is later; "last plan"
-- is said exactly where a plan exists and none is later; a finding is shown as first shows it.
pub record NextShown (N : Network) (s : List ℕ) (o : Outcome) : Type 0 where
  pub is-next : (p : List ℕ) → (o ≡ plan p) ↔ (next_plan N s ≡ some p)
  pub is-plan : (p : List ℕ) → o ≡ plan p → is_plan N p ≡ true
  pub is_later : (p : List ℕ) → o ≡ plan p → before s p ≡ true
  pub is-earliest : (p q : List ℕ) → o ≡ plan p → is_plan N q ≡ true → before s q ≡ true → before q p ≡ false
  pub is-given : (q : List ℕ) → is_plan N q ≡ true → before s q ≡ true → (p : List ℕ) × (o ≡ plan p)
  pub is_last : (o ≡ refused LastPlan) ↔ (((p : List ℕ) × (is_plan N p ≡ true)) × ((q : List ℕ) → is_plan N q ≡ true → before s q ≡ true → ⊥))
  pub finding : FindingShown N o

-- No plan comes after s up to and including t.
abbrev pub NoneBetween : Network → List ℕ → List ℕ → Type 0
NoneBetween N s t = (p : List ℕ) → is_plan N p ≡ true → before s p ≡ true → before t p ≡ false → ⊥

-- Demand 3 of two replies: o to the setting s and o' to the setting t.
pub record DemandThree (N : Network) (s t : List ℕ) (o o' : Outcome) : Type 0 where
  pub equal : before t s ≡ false → (o ≡ o') ↔ NoneBetween N s t
  pub first-shown : NextShown N s o
  pub second-shown : NextShown N t o'

-- Demand 3 over two calls of next, or two steps of walkers, with buffers of their own that held anything: what their callers read.
abbrev pub DemandOver : Network → List ℕ → List ℕ → List ℕ → List ℕ → List ℕ → List ℕ → List ℕ → List ℕ → List ℕ → List ℕ → Result Reply Refusal → Result Reply Refusal → Type 0
DemandOver N s t plan₁ marks₁ plan₂ marks₂ plan₁' marks₁' plan₂' marks₂' r₁ r₂ =
    Asked N s plan₁ marks₁ → Asked N t plan₂ marks₂ → DemandThree N s t (read_reply N r₁ plan₁' marks₁') (read_reply N r₂ plan₂' marks₂')

-- What asking next of two settings promises: of either what next promises of any input, refused or not, and demand 3.
pub record NextOfTwo (N : Network) (s t plan₁ marks₁ plan₂ marks₂ plan₁' marks₁' plan₂' marks₂' : List ℕ) (r₁ r₂ : Result Reply Refusal) : Type 0 where
  pub first-call : NextCall N s plan₁ marks₁ r₁ plan₁' marks₁'
  pub second_call : NextCall N t plan₂ marks₂ r₂ plan₂' marks₂'
  pub demand : DemandOver N s t plan₁ marks₁ plan₂ marks₂ plan₁' marks₁' plan₂' marks₂' r₁ r₂

-- What a step with the reply o does to the walker w: "a given plan becomes the setting of the walker after it", and is the next plan of the setting before it;
-- the bytes past the gated reaches "neither count nor change"; "after a refusal that is the same walker", and so wherever no plan is given.
pub record Walked (N : Network) (w : List ℕ) (o : Outcome) (w' : List ℕ) : Type 0 where
  pub is-setting : (p : List ℕ) → o ≡ plan p → setting_in N w' ≡ p
  pub is-next : (p : List ℕ) → o ≡ plan p → next_plan N (setting_in N w) ≡ some p
  pub rest : drop (gate_count N) w' ≡ drop (gate_count N) w
  pub is_same : ((p : List ℕ) → o ≡ plan p → ⊥) → w' ≡ w
