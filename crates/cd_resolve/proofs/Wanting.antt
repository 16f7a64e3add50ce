-- Types that are wanted, as a list of trees.
use Rattle.std.proofs.Common.{◌≡◌, List, [], ◌∷◌, map, refl, ap}
use Rattle.cd_syntax.specs.TypeTree.{Tree, Declarations}
use Rattle.cd_model.specs.AllOf.{AllOf}
use Rattle.cd_model.specs.Written.{Written}
use Rattle.cd_resolve.specs.Wanted.{wanted_tree, wanted_type}
use Rattle.cd_resolve.specs.declared.wanted.WantedType.{WantedType}
use Rattle.cd_resolve.proofs.Resolving.{seen_by}

-- what holds of the types holds of their trees
pub of_trees : (Fact : Tree → Type 0) (wanted : List WantedType) → AllOf (λ one. Fact (wanted_tree one)) wanted
    → AllOf Fact (map wanted_tree wanted)
of_trees Fact [] each = tt
of_trees Fact (one ∷ rest) each = (each.0, of_trees Fact rest each.1)

-- and the trees under declarations are the types
pub types_of_trees : (declarations : Declarations) (wanted : List WantedType)
    → map (seen_by declarations) (map wanted_tree wanted) ≡ map (wanted_type (declarations ∷ [])) wanted
types_of_trees declarations [] = refl
types_of_trees declarations (one ∷ rest) =
    ap (λ (types : List Written). wanted_type (declarations ∷ []) one ∷ types) (types_of_trees declarations rest)
