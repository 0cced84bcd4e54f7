-- What asking first or next about two tables promises.
-- Assumes nothing.
use Rattle.replies.specs.declared.Reply.{Reply}
use Rattle.network.specs.declared.Refusal.{Refusal}
use Rattle.std.specs.Prelude.{ℕ, List, Result}
use Rattle.network.specs.Networks.{Network}
use Rattle.replies.specs.Answers.{FirstCall, NextCall}
use Rattle.table_laws.specs.Services.{InServiceOver}
use Rattle.table_laws.specs.Enlarged.{SameWithMore}

-- What asking for the first plan of N and of M promises: of either what first promises of any input, and the laws.
pub record FirstOfTables (N M : Network) (plan₁ marks₁ plan₂ marks₂ plan₁' marks₁' plan₂' marks₂' : List ℕ) (r₁ r₂ : Result Reply Refusal) : Type 0 where
  pub first-call : FirstCall N plan₁ marks₁ r₁ plan₁' marks₁'
  pub second_call : FirstCall M plan₂ marks₂ r₂ plan₂' marks₂'
  pub in-service : InServiceOver N M plan₁ marks₁ plan₂ marks₂ plan₁' marks₁' plan₂' marks₂' r₁ r₂
  pub with-more : SameWithMore N M plan₁ marks₁ plan₂ marks₂ plan₁' marks₁' plan₂' marks₂' r₁ r₂

-- The same of the next plan of the setting s.
pub record NextOfTables (N M : Network) (s plan₁ marks₁ plan₂ marks₂ plan₁' marks₁' plan₂' marks₂' : List ℕ) (r₁ r₂ : Result Reply Refusal) : Type 0 where
  pub first-call : NextCall N s plan₁ marks₁ r₁ plan₁' marks₁'
  pub second_call : NextCall M s plan₂ marks₂ r₂ plan₂' marks₂'
  pub in-service : InServiceOver N M plan₁ marks₁ plan₂ marks₂ plan₁' marks₁' plan₂' marks₂' r₁ r₂
  pub with-more : SameWithMore N M plan₁ marks₁ plan₂ marks₂ plan₁' marks₁' plan₂' marks₂' r₁ r₂
