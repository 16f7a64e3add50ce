-- The types that the arrows of a function's interface are, each with a graph of its own.
use Rattle.std.specs.Prelude.{ℕ, Bool, List, [], ◌∷◌, ◌↔◌}
use Rattle.cd_model.specs.Formula.{nodes, in_node}
use Rattle.cd_model.specs.Interfaces.{ArrowOf, Interfaces, OfNodes, OfWritten}
use Rattle.cd_model.specs.Thing.{Thing, IsElement, EachClosure}
use Rattle.cd_model.specs.Types.{Presentation, element_answers}
use Rattle.cd_model.specs.Written.{written}
use Rattle.cd_typing.specs.Interfaces.{Arrow}
use Rattle.cd_typing.specs.Typ.{Typ, IsType}

-- the type holds the same elements as `x`
abbrev pub SameElements : {X : Type 0} → Presentation X → X → Typ → Type 0
SameElements at x t = (e : Thing) (answer : Bool) → IsElement e → element_answers at e x answer
    ↔ in_node t.graph e t.id answer

-- a type as the argument and one as the result of an arrow
pub record IsArrowAt {X : Type 0} (at : Presentation X) (one : ArrowOf X) (arrow : Arrow)
    : Type 0 where
  pub argument_is : IsType arrow.argument
  pub result_is : IsType arrow.result
  pub argument : SameElements at one.argument arrow.argument
  pub result : SameElements at one.result arrow.result

abbrev pub AreArrowsAt : {X : Type 0} → Presentation X → List (ArrowOf X) → List Arrow → Type 0
AreArrowsAt at [] [] = Unit {0}
AreArrowsAt at [] (arrow ∷ arrows) = ⊥
AreArrowsAt at (one ∷ ones) [] = ⊥
AreArrowsAt at (one ∷ ones) (arrow ∷ arrows) =
    IsArrowAt at one arrow × AreArrowsAt at ones arrows

-- these are the arrows of a function, as types
abbrev pub AreArrowsOf : Interfaces → (function : ℕ) → List Arrow → Type 0
AreArrowsOf (OfNodes graph arrows_of) function arrows =
    AreArrowsAt (nodes graph) (arrows_of function) arrows
AreArrowsOf (OfWritten count arrows_of) function arrows =
    AreArrowsAt (written count) (arrows_of function) arrows

abbrev pub HasArrows : Interfaces → (function : ℕ) → Type 0
HasArrows interfaces function = (arrows : List Arrow) × AreArrowsOf interfaces function arrows

-- the arrows of each closure in a value are types
abbrev pub HaveArrows : Interfaces → Thing → Type 0
HaveArrows interfaces v = EachClosure (HasArrows interfaces) v
