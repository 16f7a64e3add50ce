-- What an expression has in all its types, and what a rule does not allow of it.
use Rattle.std.specs.Prelude.{◌≡◌, ℕ, List, Some}
use Rattle.cd_syntax.specs.Name.{Name}
use Rattle.cd_syntax.specs.TypeTree.{Tree}
use Rattle.cd_model.specs.Scope.{Scope}
use Rattle.cd_model.specs.Thing.{Thing, IsElement}
use Rattle.cd_matching.specs.Captures.{Captures}
use Rattle.cd_program.specs.Expr.{Expr, expr, Branches}
use Rattle.cd_meaning.specs.Sets.{Set}
use Rattle.cd_typing.specs.declared.rule.Rule.{Rule}
use Rattle.cd_typing.specs.declared.rule.Rule.TheVariants as rule
use Rattle.cd_typing.specs.Branches.{IsFirst, HoldCaptured, IsTaken}
use Rattle.cd_typing.specs.Typ.{Typ, In, IsType, Types, AreTypes, type_at}
use Rattle.cd_typing.specs.Typing.{Has}

-- where an expression begins
abbrev pub place_of : Expr → ℕ
place_of (expr span kind) = span.from

module _ (scope : Scope) where
  abbrev pub HasSome : Types → Expr → Type 0
  HasSome types e = (t : Typ) × IsType t × Has scope types e t

  -- what is in each type that the expression has
  abbrev pub Least : Types → Expr → Set
  Least types e d = (t : Typ) → IsType t → Has scope types e t → In t d

  -- the expression has some type, and an element of all its types is not among what is needed
  pub record Misses (types : Types) (e : Expr) (needed : Set) (at : ℕ) (d : Thing) : Type 0 where
    pub place : at ≡ place_of e
    pub some : HasSome types e
    pub element : IsElement d
    pub least : Least types e d
    pub outside : needed d → ⊥

  -- no branch takes an element of what is matched by the form that begins here
  pub record IsUncovered (here : ℕ) (branches : Branches) (matched : Set) (at : ℕ) (reported : Rule)
      (d : Thing) : Type 0 where
    pub rule : reported ≡ rule.NoBranch
    pub place : at ≡ here
    pub element : IsElement d
    pub in_set : matched d
    pub untaken : IsTaken scope branches d → ⊥

  -- the types of a branch's variables hold just what these capture
  pub record AreCaptured (own : Types) (before : List Tree) (pattern : Tree) (matched : Set)
      : Type 0 where
    pub are_types : AreTypes own
    pub hold : HoldCaptured scope own before pattern matched
    pub only : (name : Name) (t : Typ) → type_at own name ≡ Some t → (d : Thing) → IsElement d
        → In t d → (e : Thing) × (captures : Captures Name)
        × IsFirst scope before pattern matched e captures × (captures name ≡ Some d)
