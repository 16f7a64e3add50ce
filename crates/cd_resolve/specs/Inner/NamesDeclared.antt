-- The names that declarations declare.
use Rattle.std.specs.Prelude.{List, [], ◌∷◌}
use Rattle.cd_syntax.specs.Name.{Name}
use Rattle.cd_syntax.specs.TypeTree.{Declarations, NoDeclaration, ADeclaration}

-- in their order, a name as often as it is declared
abbrev pub names_in : Declarations → List Name
names_in NoDeclaration = []
names_in (ADeclaration name at is rest) = name ∷ names_in rest
