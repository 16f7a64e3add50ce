-- Small expressions that have no type.
use Rattle.std.proofs.Common.{sym, subst, ◌∙◌, Option, Some, None, pos}
use Rattle.cd_model.specs.Scope.{Scope}
use Rattle.cd_model.specs.Thing.{Thing, Integer, IsElement}
use Rattle.cd_meaning.specs.Functions.{IsFunction}
use Rattle.cd_typing.specs.Examples.{x, x_of_x, ten_by_x, XMayBe}
use Rattle.cd_typing.specs.Typ.{Typ, In, Types}
use Rattle.cd_typing.specs.Typing.{Has}

abbrev Holds : Thing → Option Typ → Type 0
Holds d None = ⊥
Holds d (Some t) = In t d

module _ (scope : Scope) (types : Types) where
  -- each type of `x` has what `x` may be
  in_x : (d : Thing) → IsElement d → XMayBe types d → (t : Typ) → Has scope types x t → In t d
  in_x d element may t has =
      has.2 d element (subst (Holds d) (sym may.1 ∙ has.1) may.2)

  pub x_of_x_has_none : (d : Thing) → IsElement d → (IsFunction d → ⊥) → XMayBe types d → (t : Typ) → Has scope types x_of_x t → ⊥
  x_of_x_has_none d element none may t has =
      none (has.3.5.functions_alone d element (in_x d element may has.0 has.2))

  pub ten_by_x_has_none : IsElement (Integer (pos 0)) → XMayBe types (Integer (pos 0)) → (t : Typ) → Has scope types ten_by_x t → ⊥
  ten_by_x_has_none element may t has =
      let second = has.3.2.1 tt in second.3.1 (in_x (Integer (pos 0)) element may second.0 second.2)
