-- The laws of two tables, from what two calls of first or of next promise, on rows or on records.
-- Assumes nothing.
use Rattle.replies.specs.declared.Reply.{Reply}
use Rattle.network.specs.declared.Refusal.{Refusal}
use Rattle.std.specs.Prelude.{Result}
use Prim.Native.Nat.{ℕ}
use mathlib.Core.List.{List}
use Rattle.network.specs.Networks.{Network}
use Rattle.network.specs.Replies.{first_reply, next_reply}
use Rattle.network.proofs.Services.{service-first-reply, service-next-reply}
use Rattle.network.proofs.Enlarged.{enlarged-first-reply, enlarged-next-reply}
use Rattle.replies.specs.Answers.{FirstCall, NextCall}
use Rattle.planner_laws.proofs.Demands.{first_read, next-read}
use Rattle.table_laws.specs.Tables.{FirstOfTables, NextOfTables}
use Rattle.table_laws.proofs.Services.{service-over}
use Rattle.table_laws.proofs.Enlarged.{enlarged-over}

module _ (N M : Network) {plan₁ marks₁ plan₂ marks₂ plan₁' marks₁' plan₂' marks₂' : List ℕ} {r₁ r₂ : Result Reply Refusal} where
  pub first-of-tables :
      FirstCall N plan₁ marks₁ r₁ plan₁' marks₁' → FirstCall M plan₂ marks₂ r₂ plan₂' marks₂' → FirstOfTables N M plan₁ marks₁ plan₂ marks₂ plan₁' marks₁' plan₂' marks₂' r₁ r₂
  first-of-tables c d =
      record {
        first-call = c;
        second_call = d;
        in-service = service-over N M first_reply (service-first-reply N) (first_read N c) (first_read M d);
        with-more = enlarged-over N M first_reply (λ ok more few. enlarged-first-reply N ok M.basins more few) (first_read N c) (first_read M d);
      }

  pub next-of-tables :
      (s : List ℕ) → NextCall N s plan₁ marks₁ r₁ plan₁' marks₁' → NextCall M s plan₂ marks₂ r₂ plan₂' marks₂' → NextOfTables N M s plan₁ marks₁ plan₂ marks₂ plan₁' marks₁' plan₂' marks₂' r₁ r₂
  next-of-tables s c d =
      record {
        first-call = c;
        second_call = d;
        in-service = service-over N M (λ L. next_reply L s) (λ ok. service-next-reply N ok s) (next-read N s c) (next-read M s d);
        with-more = enlarged-over N M (λ L. next_reply L s) (λ ok more few. enlarged-next-reply N ok M.basins more few s) (next-read N s c) (next-read M s d);
      }
