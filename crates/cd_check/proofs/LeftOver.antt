-- What comes to patterns, said of another set or after other patterns: least types and faults of branches stay.
use Rattle.std.proofs.Common.{ℕ, ◌⊎◌, inl, inr, List, [], ◌∷◌, ◌++◌, Option, Some, None}
use Rattle.cd_syntax.specs.Name.{Name}
use Rattle.cd_syntax.specs.TypeTree.{Tree}
use Rattle.cd_model.specs.Scope.{Scope}
use Rattle.cd_model.specs.Thing.{Thing}
use Rattle.cd_matching.specs.Captures.{Captures}
use Rattle.cd_program.specs.Expr.{Expr, Branches, NoBranch, ABranch}
use Rattle.cd_meaning.specs.Sets.{Set, ◌⊆◌}
use Rattle.cd_typing.specs.Branches.{IsFirst}
use Rattle.cd_typing.specs.Typ.{Typ, Types}
use Rattle.cd_typing.specs.declared.rule.Rule.{Rule}
use Rattle.cd_least.specs.Faults.{Fault, BranchFault, Owed}
use Rattle.cd_least.specs.Least.{IsBodyLeast, AreBodiesLeast}
use Rattle.cd_least.specs.Misses.{AreCaptured, IsUncovered}
use Rattle.cd_check.proofs.BodiesTyped.{ComesTo, first_there}
use Rattle.cd_check.specs.Inner.Bodies.{Leaves, LeavesNoMore}
use Rattle.cd_check.specs.Inner.BodyFaults.{CoveringFault}
use Rattle.cd_check.specs.Inner.Environment.{AreSame}

module _ (scope : Scope) where
  -- the same elements of the two sets come to what stands after these patterns and after those
  pub record ComeAlike (before others : List Tree) (matched left : Set) : Type 0 where
    pub there : ComesTo scope before others matched left
    pub back : ComesTo scope others before left matched

  -- two sets of the same elements
  pub come_same : (before : List Tree) (one other : Set) → AreSame one other → ComeAlike before before one other
  come_same before one other same = record {
    there = λ e element inside fail. (same.within e element inside, fail);
    back = λ e element inside fail. (same.whole e element inside, fail);
  }

  -- what a pattern leaves comes after it
  pub come_after : (pattern : Tree) (matched next : Set) → Leaves scope pattern matched next → LeavesNoMore scope pattern matched next
      → ComeAlike (pattern ∷ []) [] matched next
  come_after pattern matched next leaves no_more = record {
    there = λ e element inside fail. (leaves e element inside fail.0, tt);
    back = λ e element inside none. let here = no_more e element inside in (here.0, (here.1, tt));
  }

  -- one pattern more before both
  come_further : (pattern : Tree) (before others : List Tree) (matched left : Set) → ComeAlike before others matched left
      → ComeAlike (pattern ∷ before) (pattern ∷ others) matched left
  come_further pattern before others matched left alike = record {
    there = λ e element inside fail. let here = alike.there e element inside fail.1 in (here.0, (fail.0, here.1));
    back = λ e element inside fail. let here = alike.back e element inside fail.1 in (here.0, (fail.0, here.1));
  }

  module _ (before others : List Tree) (matched left : Set) (alike : ComeAlike before others matched left) (pattern : Tree) where
    first_alike : (e : Thing) (captures : Captures Name) → IsFirst scope before pattern matched e captures
        → IsFirst scope others pattern left e captures
    first_alike = first_there scope before others matched left alike.there pattern

    first_back : (e : Thing) (captures : Captures Name) → IsFirst scope others pattern left e captures
        → IsFirst scope before pattern matched e captures
    first_back = first_there scope others before left matched alike.back pattern

    pub captured_alike : (own : Types) → AreCaptured scope own before pattern matched → AreCaptured scope own others pattern left
    captured_alike own are = record {
      are_types = are.are_types;
      hold = λ e captures first. are.hold e captures (first_back e captures first);
      only = λ name t is d element inside. let from = are.only name t is d element inside in
          (from.0, from.1, first_alike from.0 from.1 from.2, from.3);
    }

    pub body_least_alike : (types : Types) (body : Expr) (found : Option Typ) → IsBodyLeast scope types before pattern matched body found
        → IsBodyLeast scope types others pattern left body found
    body_least_alike types body None none = λ e captures first. none e captures (first_back e captures first)
    body_least_alike types body (Some r) least =
        (least.0, least.1, first_alike least.0 least.1 least.2, least.3, captured_alike least.3 least.4, least.5)

  -- least types of bodies
  pub bodies_least_alike : (branches : Branches) (before others : List Tree) (matched left : Set) → ComeAlike before others matched left
      → (types : Types) (found : List (Option Typ)) → AreBodiesLeast scope types before matched branches found
      → AreBodiesLeast scope types others left branches found
  bodies_least_alike NoBranch before others matched left alike types [] least = tt
  bodies_least_alike NoBranch before others matched left alike types (one ∷ found) least = absurd least
  bodies_least_alike (ABranch pattern body rest) before others matched left alike types [] least = absurd least
  bodies_least_alike (ABranch pattern body rest) before others matched left alike types (one ∷ found) least = (
    body_least_alike before others matched left alike pattern types body one least.0,
    bodies_least_alike rest (pattern ∷ before) (pattern ∷ others) matched left (come_further pattern before others matched left alike) types
        found least.1,
  )

  -- what bodies owe here, they owe there
  abbrev pub OwesMore : (owed more : Owed scope) → Type 0
  OwesMore owed more = (types : Types) (e : Expr) (at : ℕ) (reported : Rule) (d : Thing) → owed types e at reported d → more types e at reported d

  pub owes_itself : (owed : Owed scope) → OwesMore owed owed
  owes_itself owed types e at reported d owes = owes

  -- of the body that some element is the first to come to after others
  abbrev pub FirstFault : Types → (before : List Tree) → Tree → (matched : Set) → Owed scope → Expr → (at : ℕ) → Rule → Thing → Type 0
  FirstFault types before pattern matched owed body at reported d = (e : Thing) × (captures : Captures Name)
      × IsFirst scope before pattern matched e captures × (own : Types) × AreCaptured scope own before pattern matched
      × (Fault scope (own ++ types) body at reported d ⊎ owed (own ++ types) body at reported d)

  module _ (owed more : Owed scope) (owes : OwesMore owed more) (types : Types) (at : ℕ) (reported : Rule) (d : Thing) where
    pub body_fault_alike : (before others : List Tree) (matched left : Set) → ComeAlike before others matched left → (pattern : Tree) (body : Expr)
        → FirstFault types before pattern matched owed body at reported d → FirstFault types others pattern left more body at reported d
    body_fault_alike before others matched left alike pattern body fault = (
      fault.0,
      fault.1,
      first_alike before others matched left alike pattern fault.0 fault.1 fault.2,
      fault.3,
      captured_alike before others matched left alike pattern fault.3 fault.4,
      by fault.5,
    )
      where
        by : Fault scope (fault.3 ++ types) body at reported d ⊎ owed (fault.3 ++ types) body at reported d
            → Fault scope (fault.3 ++ types) body at reported d ⊎ more (fault.3 ++ types) body at reported d
        by (inl own) = inl own
        by (inr owing) = inr (owes (fault.3 ++ types) body at reported d owing)

    -- faults of branches
    pub branch_fault_alike : (branches : Branches) (before others : List Tree) (matched left : Set) → ComeAlike before others matched left
        → BranchFault scope types before matched owed branches at reported d → BranchFault scope types others left more branches at reported d
    branch_fault_alike NoBranch before others matched left alike fault = fault
    branch_fault_alike (ABranch pattern body rest) before others matched left alike (inl here) =
        inl (body_fault_alike before others matched left alike pattern body here)
    branch_fault_alike (ABranch pattern body rest) before others matched left alike (inr further) = inr (branch_fault_alike rest (pattern ∷ before)
        (pattern ∷ others) matched left (come_further pattern before others matched left alike) further)

    -- what no branch takes of a set, none takes of a wider one
    pub uncovered_more : (here : ℕ) (branches : Branches) (matched wider : Set) → matched ⊆ wider
        → IsUncovered scope here branches matched at reported d → IsUncovered scope here branches wider at reported d
    uncovered_more here branches matched wider within fault = record {
      rule = fault.rule;
      place = fault.place;
      element = fault.element;
      in_set = within d fault.element fault.in_set;
      untaken = fault.untaken;
    }

    pub covering_same : (here : ℕ) (branches : Branches) (matched other : Set) → AreSame matched other
        → CoveringFault scope types here matched owed branches at reported d → CoveringFault scope types here other more branches at reported d
    covering_same here branches matched other same (inl uncovered) = inl (uncovered_more here branches matched other same.within uncovered)
    covering_same here branches matched other same (inr fault) =
        inr (branch_fault_alike branches [] [] matched other (come_same [] matched other same) fault)
