-- What the first plan leaves, and the bytes of bound gates told in its place.
-- Assumes nothing.
use Rattle.replies.specs.declared.Reply.{Reply}
use Rattle.network.specs.declared.Refusal.{Refusal}
use Rattle.std.specs.Prelude.{Result}
use Prim.Native.Nat.{ℕ}
use mathlib.Core.Path.{◌≡◌, refl, sym, ap, subst, subst⁻¹, ◌∙◌}
use mathlib.Core.Bool.{true, false, false≢true}
use mathlib.Core.List.{List, ◌++◌}
use lib.ListN.{length, take, drop}
use lib.Seq.{take_at, drop_at}
use Rattle.network.specs.Networks.{Network, table_fault, Accepted}
use Rattle.network.specs.Tables.{table_of}
use Rattle.network.specs.Plans.{is_plan}
use Rattle.network.specs.Replies.{Outcome, plan, shut_in, lone, refused, unless, first_answer, room_fault, first_reply, plan_after}
use Rattle.network.specs.Choices.{bound_bytes, bound_after}
use Rattle.network.proofs.Order.{setting-length, plan-setting, first-is-plan}
use Rattle.network.proofs.Replies.{unless-plan, first-given}
use Rattle.network.proofs.Choices.{bound-length}
use Rattle.lists.proofs.Bools.{clash}
use Rattle.tables.specs.Rows.{net_of, gates_in}
use Rattle.tables.proofs.Cuts.{cut-ends-a, cut-ends-b, cut-net, cut-gates}
use Rattle.replies.specs.Answers.{answer_of, Replied, FirstCall}
use Rattle.replies.proofs.Refusals.{first-faulty}
use Rattle.packing.proofs.Packings.{ByTable}
use Rattle.binding.specs.Tellings.{Planned}
use Rattle.seeking.specs.Levels.{Level}
use Rattle.bound_gates.specs.Calls.{gives_plan, BoundTold, BoundCall}

-- a table with a plan is an accepted one
pub planned-level : {n : ℕ} {ks xs ys bytes : List ℕ} → Planned n ks xs ys bytes → Level n ks xs ys
planned-level p = record { accepted = p.accepted; ends-a = p.ends-a; ends-b = p.ends-b }

-- ---- no plan

-- what is promised to a network that is refused by its table depends on the refusal only
pub bound-alike : {bytes marks bytes' marks' : List ℕ} {r : Result Reply Refusal} (p q : ℕ) → ByTable (λ N. BoundTold N (first_reply N p q) bytes marks bytes' marks' r)
bound-alike {bytes} {marks} {bytes'} {marks'} {r} p q N N' x e e' h = subst⁻¹ (λ (o : Outcome). BoundTold N' o bytes marks bytes' marks' r) (first-faulty N' x p q e') (same (subst (λ (o : Outcome). BoundTold N o bytes marks bytes' marks' r) (first-faulty N x p q e) h))
  where
    same : BoundTold N (refused x) bytes marks bytes' marks' r → BoundTold N' (refused x) bytes marks bytes' marks' r
    same w = record { reply = w.reply; number = w.number; reach = w.reach; count = w.count; bytes_left = w.bytes_left; marks-left = w.marks-left }

pub none_told : (N : Network) (o : Outcome) {bytes marks bytes' marks' : List ℕ} {r : Result Reply Refusal} → Replied o bytes marks bytes' marks' r → gives_plan r ≡ false → BoundTold N o bytes marks bytes' marks' r
none_told N (plan s) w n = clash (ap gives_plan w.reply) n
none_told N (shut_in m c) w n = record { reply = w.reply; number = w.number; reach = w.reach; count = w.count; bytes_left = w.plan-left; marks-left = w.marks-left }
none_told N (lone i m c) w n = record { reply = w.reply; number = w.number; reach = w.reach; count = w.count; bytes_left = w.plan-left; marks-left = w.marks-left }
none_told N (refused x) w n = record { reply = w.reply; number = w.number; reach = w.reach; count = w.count; bytes_left = w.plan-left; marks-left = w.marks-left }

-- ---- a plan

pub plan-given : (o : Outcome) → gives_plan (answer_of o) ≡ true → (s : List ℕ) × (o ≡ plan s)
plan-given (plan s) e = (s, refl)
plan-given (shut_in m c) e = absurd (false≢true e)
plan-given (lone i m c) e = absurd (false≢true e)
plan-given (refused r) e = absurd (false≢true e)

-- a plan replied to any input is one of an accepted network
pub replied-plan : (N : Network) (plan_length marks_length : ℕ) {s : List ℕ} → first_reply N plan_length marks_length ≡ plan s → Accepted N × (is_plan N s ≡ true)
unfolding first_reply
replied-plan N plan_length marks_length {s} e =
    let table = unless-plan (table_fault N) (unless (room_fault N plan_length marks_length) (first_answer N)) e in
    let room = unless-plan (room_fault N plan_length marks_length) (first_answer N) table.1 in
    (table.0, first-is-plan N ((first-given N table.0 s).0 room.1))

module _ (n : ℕ) (ks xs ys : List ℕ) (m : ℕ) (e : m ≡ length (table_of ks xs ys)) {bytes marks bytes' marks' : List ℕ} {r : Result Reply Refusal} (w : FirstCall (net_of n ks xs ys) bytes marks r bytes' marks') (y : gives_plan r ≡ true) where
  abbrev N : Network
  N = net_of n ks xs ys

  first : (s : List ℕ) × (first_reply N (length bytes) (length marks) ≡ plan s)
  first = plan-given (first_reply N (length bytes) (length marks)) (ap gives_plan (sym w.reply) ∙ y)

  found : Accepted N × (is_plan N first.0 ≡ true)
  found = replied-plan N (length bytes) (length marks) first.1

  long : length first.0 ≡ gates_in (take m ks)
  long = setting-length N first.0 (plan-setting N first.0 found.1) ∙ sym (cut-gates ks xs ys m e n)

  left : bytes' ≡ first.0 ++ drop (length first.0) bytes
  left = w.plan-left ∙ ap (λ (o : Outcome). plan_after o bytes) first.1

  -- it stands in the first of the bytes
  pub plan-stands : Planned n (take m ks) (take m xs) (take m ys) bytes'
  plan-stands =
      record {
        accepted = subst⁻¹ (λ (M : Network). Accepted M) (cut-net ks xs ys m e n) found.0;
        ends-a = cut-ends-a ks xs ys m e;
        ends-b = cut-ends-b ks xs ys m e;
        is-plan = ap (λ (M : Network). is_plan M (take (gates_in (take m ks)) bytes')) (cut-net ks xs ys m e n) ∙ ap (is_plan N) (ap (take (gates_in (take m ks))) left ∙ take_at first.0 (drop (length first.0) bytes) (gates_in (take m ks)) long) ∙ found.1;
      }

  -- and the bytes of the gates take its place
  pub plan-told : {bytes'' : List ℕ} → bytes'' ≡ bound_bytes (net_of n (take m ks) (take m xs) (take m ys)) ++ drop (gates_in (take m ks)) bytes' → BoundCall N bytes marks r bytes'' marks'
  plan-told {bytes''} f =
      record {
        reply = w.reply;
        number = w.number;
        reach = w.reach;
        count = w.count;
        bytes_left = subst⁻¹ (λ (o : Outcome). bytes'' ≡ bound_after N o bytes) first.1 told;
        marks-left = w.marks-left;
      }
    where
      rest : drop (gates_in (take m ks)) bytes' ≡ drop (length (bound_bytes N)) bytes
      rest =
          ap (drop (gates_in (take m ks))) left
          ∙ drop_at first.0 (drop (length first.0) bytes) (gates_in (take m ks)) long
          ∙ ap (λ (k : ℕ). drop k bytes) (long ∙ cut-gates ks xs ys m e n ∙ sym (bound-length N))

      told : bytes'' ≡ bound_bytes N ++ drop (length (bound_bytes N)) bytes
      told = f ∙ ap (λ (M : Network). bound_bytes M ++ drop (gates_in (take m ks)) bytes') (cut-net ks xs ys m e n) ∙ ap (λ (l : List ℕ). bound_bytes N ++ l) rest
