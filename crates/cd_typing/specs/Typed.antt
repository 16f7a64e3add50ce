-- Programs that the typing rules type.
use Rattle.std.specs.Prelude.{◌≡◌, List, [], ◌∷◌, Some, codes}
use Rattle.cd_model.specs.AllOf.{AllOf}
use Rattle.cd_model.specs.BuiltIns.{DATA}
use Rattle.cd_model.specs.Scope.{Scope}
use Rattle.cd_program.specs.Expr.{FunctionTree, function, Program}
use Rattle.cd_meaning.specs.Sets.{◌⊆◌}
use Rattle.cd_typing.specs.Typ.{Typ, In, BuiltIn, Types}
use Rattle.cd_typing.specs.Interfaces.{Arrow, AreWritten, IsIntersection}
use Rattle.cd_typing.specs.Kept.{Kept, Anything}
use Rattle.cd_typing.specs.Rules.{FunctionHas}

-- the names that a program's types see
abbrev pub scope_of : Program → Scope
scope_of program = program.types ∷ []

module _ (scope : Scope) where
  -- the type of a function's interface
  abbrev pub IsOfInterface : FunctionTree → Typ → Type 0
  IsOfInterface (function at name name_at interface branches) t =
      (arrows : List Arrow) × AreWritten scope interface arrows × IsIntersection arrows t

  -- each function that is declared, with the type of its interface
  abbrev pub AreDeclared : List FunctionTree → Types → Type 0
  AreDeclared [] [] = Unit {0}
  AreDeclared (function at name name_at interface branches ∷ functions) (one ∷ types) =
      (name ≡ Some one.0) × IsOfInterface (function at name name_at interface branches) one.1
      × AreDeclared functions types
  AreDeclared functions types = ⊥

  -- a function of this name gives data alone
  abbrev pub GivesData : FunctionTree → Type 0
  GivesData (function at name name_at interface branches) = name ≡ Some (codes "main")
      → (arrows : List Arrow) × AreWritten scope interface arrows
      × AllOf (λ arrow. In arrow.result ⊆ BuiltIn DATA) arrows

  -- it has the type of its interface
  abbrev pub HasOwnType : Kept → Types → FunctionTree → Type 0
  HasOwnType kept types f = (t : Typ) × IsOfInterface f t × FunctionHas kept scope types f t

-- Each function that is declared has the type of its interface, where each name that is declared
-- has the type of its interface. What `main` gives is data. What comes to a match is kept for it
pub record IsTypedWithin (kept : Kept) (program : Program) : Type 0 where
  pub types : Types
  pub declared : AreDeclared (scope_of program) program.functions types
  pub functions : AllOf (HasOwnType (scope_of program) kept types) program.functions
  pub main : AllOf (GivesData (scope_of program)) program.functions

-- the same where matches may be of anything
abbrev pub IsTyped : Program → Type 0
IsTyped program = IsTypedWithin Anything program
