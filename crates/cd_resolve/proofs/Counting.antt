-- Where a name is in a list, and how many names a list declares.
use Rattle.std.proofs.Common.{◌≡◌, refl, ap, ◌+◌, length, List, [], ◌∷◌, Some, bytes_eq, if◌then◌else◌, arith}
use Rattle.std.specs.Option.{option_map}
use Rattle.cd_syntax.specs.Name.{Name}
use Rattle.cd_syntax.specs.TypeTree.{Declarations, NoDeclaration, ADeclaration, Declaration, declarations_of}
use Rattle.cd_resolve.specs.FirstPlaces.{first_place}
use Rattle.cd_resolve.specs.Inner.NamesDeclared.{names_in}
use Rattle.cd_resolve.specs.Named.{index_in}
use Rattle.cd_resolve.specs.Inner.ScopeLevels.{number_in}

-- the place of a declaration is the first of its name
pub index_is : (declarations : Declarations) (name : Name)
    → first_place (names_in declarations) name ≡ index_in declarations name
index_is NoDeclaration name = refl
index_is (ADeclaration other at is rest) name =
    ap (λ found. if bytes_eq other name then Some 0 else option_map (λ index. index + 1) found) (index_is rest name)

-- a list declares as many names as it has declarations
pub number_is : (items : List Declaration) → number_in (declarations_of items) ≡ length items
number_is [] = refl
number_is (first ∷ rest) = let on = number_is rest in omega arith
