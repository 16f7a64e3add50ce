-- The queries of the workload, and how many of them are answered with yes.
use Rattle.std.specs.Prelude.{ℕ, zero, suc}
use Rattle.cd_syntax.specs.TypeTree.{NoDeclaration}
use Rattle.cd_model.specs.Thing.{Thing, IsElement}
use Rattle.cd_model.specs.Written.{Written}
use Rattle.cd_replies.specs.Texts.{ReadsAs}
use Rattle.cd_replies.specs.Within.{IsIn, IsOutside, IsWithin}
use Rattle.cd_running.specs.Workload.{query_text, wanted_text}

-- the types of a query: what it asks of, and what it asks for
pub record Query (number : ℕ) : Type 0 where
  pub asked : Written
  pub wanted : Written
  pub asked_reads : ReadsAs NoDeclaration (query_text number) asked
  pub wanted_reads : ReadsAs NoDeclaration wanted_text wanted

-- of the first queries, so many are answered with yes
pub data Answered : (queries affirmed : ℕ) → Type 0 where
  none : Answered zero zero
  within : (queries affirmed : ℕ) → Answered queries affirmed → (query : Query queries)
      → IsWithin query.asked query.wanted → Answered (suc queries) (suc affirmed)
  not_within : (queries affirmed : ℕ) → Answered queries affirmed → (query : Query queries)
      → (e : Thing) → IsElement e → IsIn e query.asked → IsOutside e query.wanted
      → Answered (suc queries) affirmed
