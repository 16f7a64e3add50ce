-- What bodies owe, where their limit is said otherwise.
use Rattle.std.proofs.Common.{ℕ, Option, Some, None}
use Rattle.cd_model.specs.Formula.{Graph, IsGraph}
use Rattle.cd_model.specs.Scope.{Scope}
use Rattle.cd_model.specs.Thing.{Thing}
use Rattle.cd_program.specs.Expr.{Expr}
use Rattle.cd_meaning.specs.Sets.{Set, ◌⊆◌, elements_of}
use Rattle.cd_typing.proofs.Later.{later_in}
use Rattle.cd_typing.specs.Later.{IsLater}
use Rattle.cd_typing.specs.Typ.{Types}
use Rattle.cd_typing.specs.declared.rule.Rule.{Rule}
use Rattle.cd_least.specs.Faults.{Breaks}
use Rattle.cd_check.proofs.LeftOver.{OwesMore, owes_itself}
use Rattle.cd_check.specs.Inner.BodyFaults.{Owes}
use Rattle.cd_check.specs.Inner.Limits.{IsLimit}
use Rattle.cd_check.specs.declared.bodies.Limit.{Limit}

module _ (scope : Scope) where
  -- what is outside of a set is outside of what is within it
  pub breaks_less : (types : Types) (e : Expr) (needed less : Set) → less ⊆ needed → (is : Rule) (at : ℕ) (reported : Rule) (d : Thing)
      → Breaks scope types e needed is at reported d → Breaks scope types e less is at reported d
  breaks_less types e needed less within is at reported d fault = let misses = fault.1 in (
    fault.0,
    record {
      place = misses.place;
      some = misses.some;
      element = misses.element;
      least = misses.least;
      outside = λ inside. misses.outside (within d misses.element inside);
    },
  )

  -- what is owed by a limit is owed by what is within it
  pub owes_less : (graph : Graph) (limit : Limit) (less : Set) → less ⊆ elements_of graph limit.node
      → OwesMore scope (Owes scope graph (Some limit)) (λ types e at reported d. Breaks scope types e less limit.rule at reported d)
  owes_less graph limit less within types e at reported d = breaks_less types e (elements_of graph limit.node) less within limit.rule at reported d

  -- a limit in a longer graph
  pub owes_earlier : (old later : Graph) → IsLater old later → IsGraph old → (limit : Option Limit) → IsLimit old limit
      → OwesMore scope (Owes scope later limit) (Owes scope old limit)
  owes_earlier old later is sound None below = owes_itself scope (Owes scope old None)
  owes_earlier old later is sound (Some limit) below =
      owes_less later limit (elements_of old limit.node) (later_in old later is sound limit.node below)
