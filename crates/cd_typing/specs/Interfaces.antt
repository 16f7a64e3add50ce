-- The types that the written types of functions stand for.
use Rattle.std.specs.Prelude.{◌≡◌, List, [], ◌∷◌}
use Rattle.cd_syntax.specs.TypeTree.{Tree}
use Rattle.cd_model.specs.AllOf.{AllOf}
use Rattle.cd_model.specs.Interfaces.{ArrowOf}
use Rattle.cd_model.specs.Scope.{Scope}
use Rattle.cd_model.specs.StandsFor.{StandsFor}
use Rattle.cd_model.specs.Thing.{Function, Pairs}
use Rattle.cd_matching.specs.WrittenPattern.{in_scope}
use Rattle.cd_program.specs.Expr.{Signature}
use Rattle.cd_meaning.specs.Sets.{Set, ◌⊆◌}
use Rattle.cd_meaning.specs.Functions.{MapsInto}
use Rattle.cd_typing.specs.Typ.{Typ, In, IsType}

-- an arrow between types
abbrev pub Arrow : Type 0
Arrow = ArrowOf Typ

module _ (scope : Scope) where
  -- the type that a written one is
  abbrev pub IsWritten : Tree → Typ → Type 0
  IsWritten written t = IsType t × StandsFor t.graph t.id (in_scope scope written)

  -- the arrows that are written
  abbrev pub AreWritten : List Signature → List Arrow → Type 0
  AreWritten [] [] = Unit {0}
  AreWritten (signature ∷ signatures) (arrow ∷ arrows) = IsWritten signature.takes arrow.argument
      × IsWritten signature.gives arrow.result × AreWritten signatures arrows
  AreWritten signatures arrows = ⊥

-- the functions in all of these arrows
abbrev pub AllArrows : List Arrow → Set
AllArrows arrows e = (pairs : Pairs) × (e ≡ Function pairs)
    × AllOf (λ arrow. MapsInto pairs (In arrow.argument) (In arrow.result)) arrows

-- a type that holds just these
pub record IsIntersection (arrows : List Arrow) (t : Typ) : Type 0 where
  pub is_type : IsType t
  pub within : In t ⊆ AllArrows arrows
  pub whole : AllArrows arrows ⊆ In t
