-- When an expression has a type, where its names have types, and matches may be of anything.
use Rattle.std.specs.Prelude.{List}
use Rattle.cd_syntax.specs.TypeTree.{Tree}
use Rattle.cd_model.specs.Scope.{Scope}
use Rattle.cd_program.specs.Expr.{Expr, Kind, Exprs, Items, Fields, Tail, Tails, Branches}
use Rattle.cd_program.specs.Expr.{FunctionTree}
use Rattle.cd_meaning.specs.Sets.{Set}
use Rattle.cd_typing.specs.Typ.{Typ, Types}
use Rattle.cd_typing.specs.Kept.{Anything}
use Rattle.cd_typing.specs.Rules as rules

module _ (scope : Scope) where
  abbrev pub Has : Types → Expr → Typ → Type 0
  Has = rules.Has Anything scope

  abbrev pub KindHas : Types → Kind → Typ → Type 0
  KindHas = rules.KindHas Anything scope

  abbrev pub HaveAll : Types → Exprs → List Typ → Type 0
  HaveAll = rules.HaveAll Anything scope

  abbrev pub ItemsHave : Types → Items → List Typ → Type 0
  ItemsHave = rules.ItemsHave Anything scope

  abbrev pub FieldsHave : Types → Fields → List Typ → Type 0
  FieldsHave = rules.FieldsHave Anything scope

  abbrev pub FunctionHas : Types → FunctionTree → Typ → Type 0
  FunctionHas = rules.FunctionHas Anything scope

  abbrev pub ApplyHas : Types → Exprs → Typ → Type 0
  ApplyHas = rules.ApplyHas Anything scope

  abbrev pub ArgumentsHave : Types → (self : Typ) → Exprs → Typ → Type 0
  ArgumentsHave = rules.ArgumentsHave Anything scope

  abbrev pub TailsHave : Types → (self : Typ) → Tails → Typ → Type 0
  TailsHave = rules.TailsHave Anything scope

  abbrev pub TailHas : Types → (self : Typ) → Tail → (result : Typ) → Type 0
  TailHas = rules.TailHas Anything scope

  abbrev pub BodiesHave : Types → (before : List Tree) → (matched : Set) → Branches
      → (wanted : Set) → Type 0
  BodiesHave = rules.BodiesHave Anything scope
