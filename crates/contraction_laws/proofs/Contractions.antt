-- Document 02, item 4, from what contracting a network promises, and what first, next, the bound gates or contracting again promise of what came out; on rows and on records.
-- Assumes nothing.
use Rattle.replies.specs.declared.Reply.{Reply}
use Rattle.network.specs.declared.Counts.{Counts}
use Rattle.std.specs.Prelude.{Err, Ok, Result}
use Prim.Native.Nat.{ℕ, ◌≤◌}
use native.Mathlib.Omega.{arith}
use mathlib.Core.Path.{◌≡◌, refl, sym, ap, subst, ◌∙◌}
use mathlib.Core.Bool.{cond, true≢false}
use mathlib.Core.List.{List, [], ◌++◌}
use mathlib.Core.Option.{Option, none, some}
use lib.ListN.{length, take, drop}
use lib.Seq.{take_at}
use lib.Dec.{eqb}
use borrow.Author.Tests.{le-leb}
use Rattle.network.specs.declared.Reach.{Reach}
use Rattle.network.specs.declared.Refusal.{Refusal}
use Rattle.network.specs.Networks.{Network, net, max_reaches, table_fault, Accepted, counts, counts_of}
use Rattle.network.specs.Replies.{Outcome, plan, shut_in, lone, refused, number, first_of, first_reply, next_reply}
use Rattle.network.specs.Choices.{bound_bytes, bound_in, bound_after}
use Rattle.network.proofs.Networks.{accepted}
use Rattle.network.proofs.Replies.{first-of-none, refusal-number}
use Rattle.tables.specs.Rows.{room_of, RowsFilled}
use Rattle.tables.proofs.Filling.{filled-long, filled-table}
use Rattle.replies.specs.Answers.{Replied, FirstCall, NextCall}
use Rattle.planner_laws.specs.Demands.{read_reply}
use Rattle.planner_laws.proofs.Demands.{first_read, next-read}
use Rattle.bound_gates.specs.Calls.{BoundCall}
use Rattle.components.specs.Contracted.{contracted, SameChoice}
use Rattle.components.proofs.Contracted.{contracted-accepted, fewer-basins, fewer-reaches, contracted-plan, contracted-wet, contracted-again, contracted-bound}
use Rattle.components.proofs.Replies.{contracted-first-reply, contracted-next-reply}
use Rattle.contraction.specs.Calls.{short_room, contract_fault, contract_answer, reaches_given, ContractRows, ContractTable}
use Rattle.contraction_laws.specs.declared.ContractedRows.{ContractedRows}
use Rattle.contraction_laws.specs.Contractions.{read_off, CameOut, ReplyOfContracted, BoundOfContracted, Smaller, ContractedTwice}

-- what first and next reply to a network that is refused by its table
pub first-refused : (N : Network) (plan_length marks_length : ℕ) {e : Refusal} → table_fault N ≡ some e → first_reply N plan_length marks_length ≡ refused e
unfolding first_reply
first-refused N plan_length marks_length d = rw d

pub next-refused : (N : Network) (s : List ℕ) (plan_length marks_length : ℕ) {e : Refusal} → table_fault N ≡ some e → next_reply N s plan_length marks_length ≡ refused e
unfolding next_reply
next-refused N s plan_length marks_length d = rw d

-- no refusal has the number of a plan, so the bytes of bound gates go by the number of the reply
by_number : (N : Network) (o : Outcome) → bound_in N o ≡ cond (eqb (number o) 0) (bound_bytes N) []
by_number N (plan s) = refl
by_number N (shut_in m k) = refl
by_number N (lone i m k) = refl
by_number N (refused e) = rw (refusal-number e)

-- networks with the same bound gates that get the same choice get the same bytes
same_bytes : (M N : Network) → bound_bytes M ≡ bound_bytes N → (o o' : Outcome) → SameChoice o o' → bound_in M o ≡ bound_in N o'
same_bytes M N e o o' c = by_number M o ∙ rw (c.same_number, e) (sym (by_number N o'))

-- what holds of the contracted network
pub smaller : (N M : Network) → Accepted N → M ≡ contracted N → Smaller N M
smaller N M ok e =
    subst (Smaller N) (sym e)
    (record {
      is = refl;
      accepted = contracted-accepted N ok;
      fewer-basins = fewer-basins N;
      fewer-reaches = fewer-reaches N;
      same-plans = contracted-plan N ok;
      wet = contracted-wet N ok;
      again = contracted-again N ok;
    })

-- and what first, next and the bound gates then promise of it: the choice that N gets
module _ (N M : Network) (ok : Accepted N) (is : M ≡ contracted N) {buffer marks buffer' marks' : List ℕ} {a : Result Reply Refusal} where
  pub first-choice : FirstCall M buffer marks a buffer' marks' → SameChoice (read_reply M a buffer' marks') (first_reply N (length buffer) (length marks))
  first-choice d = rw (first_read M d, is) (contracted-first-reply N ok (length buffer) (length marks))

  pub next-choice : (s : List ℕ) → NextCall M s buffer marks a buffer' marks' → SameChoice (read_reply M a buffer' marks') (next_reply N s (length buffer) (length marks))
  next-choice s d = rw (next-read M s d, is) (contracted-next-reply N ok s (length buffer) (length marks))

  pub bound-choice : BoundCall M buffer marks a buffer' marks' → buffer' ≡ bound_after N (first_reply N (length buffer) (length marks)) buffer
  bound-choice d =
      let call : BoundCall (contracted N) buffer marks a buffer' marks' = subst (λ (L : Network). BoundCall L buffer marks a buffer' marks') is d in
      call.bytes_left ∙ ap (λ (l : List ℕ). l ++ drop (length l) buffer) (same_bytes (contracted N) N (contracted-bound N ok) _ _ (contracted-first-reply N ok (length buffer) (length marks)))

-- ---- what came out

-- rows with room for every network leave only the table to be judged
roomy : (N : Network) (room : ℕ) → max_reaches ≤ room → contract_fault N room ≡ table_fault N
unfolding contract_fault
roomy N room l = go (table_fault N) refl
  where
    go : (f : Option Refusal) → table_fault N ≡ f → first_of f (short_room (length N.reaches) room) ≡ f
    go (some e) p = refl
    go none p = rw (le-leb (length N.reaches) room (omega (arith, (accepted N p).few-reaches)))

-- counts come back only of an accepted network, and are those of the contracted one
record CountsBack (N : Network) (n m : ℕ) : Type 0 where
  ok : Accepted N
  basins : n ≡ (contracted N).basins
  reaches : length (contracted N).reaches ≡ m

counts-back : (N : Network) (n m : ℕ) → Ok (counts n m) ≡ contract_answer (table_fault N) (contracted N) → CountsBack N n m
counts-back N n m q = go (table_fault N) refl
  where
    go : (f : Option Refusal) → table_fault N ≡ f → CountsBack N n m
    go (some e) p = let z = q ∙ ap (λ (f : Option Refusal). contract_answer f (contracted N)) p in absurd (true≢false cc)
    go none p = let z = q ∙ ap (λ (f : Option Refusal). contract_answer f (contracted N)) p in
        let e : counts n m ≡ counts_of (contracted N) = cc in
        record { ok = p; basins = ap (λ (k : Counts). k.basins) e; reaches = sym (ap (λ (k : Counts). k.reaches) e) }

-- a refusal that came back is the one that is due
due : (N : Network) (e : Refusal) → Err e ≡ contract_answer (table_fault N) (contracted N) → table_fault N ≡ some e
due N e q = go (table_fault N) refl
  where
    go : (f : Option Refusal) → table_fault N ≡ f → f ≡ some e
    go none p = let z = q ∙ ap (λ (f : Option Refusal). contract_answer f (contracted N)) p in absurd (true≢false cc)
    go (some d) p = let z = q ∙ ap (λ (f : Option Refusal). contract_answer f (contracted N)) p in cc

module _ (N : Network) {ks xs ys ks' xs' ys' : List ℕ} {r : Result Counts Refusal} (c : ContractRows N ks xs ys r ks' xs' ys') (room : max_reaches ≤ room_of ks xs ys) where
  answered : r ≡ contract_answer (table_fault N) (contracted N)
  answered = c.answer ∙ ap (λ (f : Option Refusal). contract_answer f (contracted N)) (roomy N (room_of ks xs ys) room)

  filled : (k : Accepted N) → RowsFilled (contracted N).reaches ks xs ys ks' xs' ys'
  filled k = subst (λ (f : Option Refusal). RowsFilled (reaches_given f (contracted N)) ks xs ys ks' xs' ys') (roomy N (room_of ks xs ys) room ∙ k) c.rows

  pub came-out : CameOut N (record { answer = r; kinds = ks'; a = xs'; b = ys' })
  came-out =
      record {
        answer = answered;
        long = λ n m q. let k = counts-back N n m (sym q ∙ answered) in filled-long (contracted N).reaches (filled k.ok) m k.reaches;
        network = λ n m q.
            let k = counts-back N n m (sym q ∙ answered) in
            λ i. record { basins = k.basins i; reaches = filled-table (contracted N).reaches (filled k.ok) m k.reaches i };
      }

-- ---- asked of it

module _ (N : Network) {r : ContractedRows} (c : CameOut N r) where
  -- first and next
  module _ (reply : Network → Outcome) where
    pub asked-refused : (e : Refusal) → r.answer ≡ Err e → (table_fault N ≡ some e → reply N ≡ refused e) → (buffer marks : List ℕ) → ReplyOfContracted reply N buffer marks (Err e) buffer marks
    asked-refused e q f buffer marks =
        let d = due N e (sym q ∙ c.answer) in
        record { call = rw d (record { reply = refl; number = refl; reach = refl; count = refl; plan-left = refl; marks-left = refl }); choice = rw (f d) (record { same_number = refl; same-plan = refl }) }

    pub asked-given : {buffer marks buffer' marks' : List ℕ} {a : Result Reply Refusal} (n m : ℕ) → r.answer ≡ Ok (counts n m)
        → ((M : Network) → Accepted N → M ≡ contracted N → Replied (reply M) buffer marks buffer' marks' a → SameChoice (read_reply M a buffer' marks') (reply N))
        → Replied (reply (read_off r n m)) buffer marks buffer' marks' a → ReplyOfContracted reply N buffer marks a buffer' marks'
    asked-given {buffer} {marks} {buffer'} {marks'} {a} n m q choice d =
        let k = counts-back N n m (sym q ∙ c.answer) in
        let call : Replied (reply (contracted N)) buffer marks buffer' marks' a = subst (λ (L : Network). Replied (reply L) buffer marks buffer' marks' a) (c.network n m q) d in
        record { call = rw k.ok call; choice = choice (contracted N) k.ok refl call }

  -- bound gates
  pub bound-refused : (e : Refusal) → r.answer ≡ Err e → (bytes marks : List ℕ) → BoundOfContracted N bytes marks (Err e) bytes marks
  bound-refused e q bytes marks =
      let d = due N e (sym q ∙ c.answer) in
      let f = first-refused N (length bytes) (length marks) d in
      record { call = rw d (record { reply = refl; number = refl; reach = refl; count = refl; bytes_left = refl; marks-left = refl }); same_number = rw f refl; same_bytes = rw f refl }

  pub bound-given : {bytes marks bytes' marks' : List ℕ} {a : Result Reply Refusal} (n m : ℕ) → r.answer ≡ Ok (counts n m) → BoundCall (read_off r n m) bytes marks a bytes' marks' → BoundOfContracted N bytes marks a bytes' marks'
  bound-given {bytes} {marks} {bytes'} {marks'} {a} n m q d =
      let k = counts-back N n m (sym q ∙ c.answer) in
      let call : BoundCall (contracted N) bytes marks a bytes' marks' = subst (λ (L : Network). BoundCall L bytes marks a bytes' marks') (c.network n m q) d in
      record {
        call = rw k.ok call;
        same_number = call.number ∙ (contracted-first-reply N k.ok (length bytes) (length marks)).same_number;
        same_bytes = bound-choice N (contracted N) k.ok refl call;
      }

  -- contracting again
  pub again-refused : (e : Refusal) → r.answer ≡ Err e → ContractedTwice N r
  again-refused e q = record { answer = c.answer; read = λ n m z. let y = sym q ∙ z in absurd (true≢false cc) }

  pub again-given : {a : ContractedRows} (n m : ℕ) → r.answer ≡ Ok (counts n m) → CameOut (read_off r n m) a → ContractedTwice N a
  again-given {a} n m q d =
      let k = counts-back N n m (sym q ∙ c.answer) in
      let call : CameOut (contracted N) a = subst (λ (L : Network). CameOut L a) (c.network n m q) d in
      record {
        answer = rw k.ok (rw (contracted-accepted N k.ok, contracted-again N k.ok) at call.answer);
        read = λ i j z. smaller N _ k.ok (call.network i j z ∙ contracted-again N k.ok);
      }

-- ---- over records

-- what is read off the buffer
pub table-smaller : (N : Network) {t t' : List Reach} {r : Result Counts Refusal} → ContractTable N t r t' → (n m : ℕ) → r ≡ Ok (counts n m) → Smaller N (net n (take m t'))
unfolding contract_fault
table-smaller N {t} {t'} c n m q = go (contract_fault N (length t)) refl
  where
    said : (f : Option Refusal) → contract_fault N (length t) ≡ f → Ok (counts n m) ≡ contract_answer f (contracted N)
    said f p = sym q ∙ c.answer ∙ ap (λ (g : Option Refusal). contract_answer g (contracted N)) p

    go : (f : Option Refusal) → contract_fault N (length t) ≡ f → Smaller N (net n (take m t'))
    go (some d) p = let z = said (some d) p in absurd (true≢false cc)
    go none p =
        let z = said none p in
        let e : counts n m ≡ counts_of (contracted N) = cc in
        let basins : n ≡ (contracted N).basins = ap (λ (k : Counts). k.basins) e in
        let reaches : length (contracted N).reaches ≡ m = sym (ap (λ (k : Counts). k.reaches) e) in
        let left : t' ≡ (contracted N).reaches ++ drop (length (contracted N).reaches) t = c.table ∙ ap (λ (f : Option Refusal). reaches_given f (contracted N) ++ drop (length (reaches_given f (contracted N))) t) p in
        let front : take m t' ≡ (contracted N).reaches = ap (take m) left ∙ take_at (contracted N).reaches (drop (length (contracted N).reaches) t) m reaches in
        smaller N (net n (take m t')) (first-of-none (table_fault N) _ p).0 (λ i. net (basins i) (front i))
