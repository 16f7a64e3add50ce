-- Tables whose shapes are each over the elements before it.
use Rattle.std.specs.Prelude.{List, [], ◌∷◌, ◌++◌}
use Rattle.std.specs.Char.{IsScalar}
use Rattle.cd_syntax.specs.Integer.{IsInteger}
use Rattle.cd_model.specs.Thing.{Thing}
use Rattle.cd_elements.specs.declared.shape.Shape.{Shape}
use Rattle.cd_elements.specs.declared.shape.Shape.TheVariants.{Int, Char}
use Rattle.cd_elements.specs.Table.{IsShape, element_by}

-- the integers and characters of the code are such
abbrev pub IsRanged : Shape → Type 0
IsRanged (Int n) = IsInteger n
IsRanged (Char c) = IsScalar c
IsRanged _ = Unit {0}

abbrev pub AreShapes : List Thing → List Shape → Type 0
AreShapes table [] = Unit {0}
AreShapes table (shape ∷ shapes) =
    IsShape table shape × IsRanged shape × AreShapes (table ++ element_by table shape ∷ []) shapes
