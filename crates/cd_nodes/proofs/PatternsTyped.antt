-- The types of a pattern in which no naming fault stands are nodes of one graph.
use Rattle.std.proofs.Common.{List, [], ◌∷◌, map}
use Rattle.cd_sets.specs.declared.node_id.NodeId.{NodeId}
use Rattle.cd_syntax.specs.TypeTree.{Tree, Declarations}
use Rattle.cd_syntax.specs.WellMadePattern.{IsWellMadePattern, AreWellMadePatternDeclarations}
use Rattle.cd_model.specs.AllOf.{AllOf}
use Rattle.cd_model.specs.Scope.{Scope}
use Rattle.cd_model.specs.StandsFor.{StandsFor}
use Rattle.cd_model.specs.Written.{Written}
use Rattle.cd_matching.specs.WrittenPattern.{pattern_of}
use Rattle.cd_resolve.specs.Faults.{Fault, IsFaultOfType, IsFaultOfDeclarations}
use Rattle.cd_resolve.specs.Wanted.{Pairwise}
use Rattle.cd_resolve.proofs.Resolving.{HasNoFault, seen_by}
use Rattle.cd_patterns.specs.Inner.Types.{filled}
use Rattle.cd_patterns.proofs.AlikeFilled.{Begin, tree_fits}
use Rattle.cd_patterns.proofs.TypesInTurn.{types_before}
use Rattle.cd_patterns.proofs.TypesSound.{IsSound, tree_sound}
use Rattle.cd_safety.specs.PatternTypes.{IsTypedPattern}
use Rattle.cd_nodes.specs.ConstantsInRange.{ConstantsInRange}
use Rattle.cd_nodes.proofs.ConstantsSound.{constants_sound}
use Rattle.cd_nodes.proofs.TypesResolved.{HaveNodes, have_nodes}

-- the trees of written types
abbrev trees : List Written → List Tree
trees all = map (λ type. type.tree) all

module _ (types : Declarations) where
  abbrev scope : Scope
  scope = types ∷ []

  -- sound types are well made and free of faults
  well_made_each : (all : List Written) → AllOf (IsSound scope) all → AllOf IsWellMadePattern (trees all)
  well_made_each [] each = tt
  well_made_each (type ∷ rest) each = (each.0.0, well_made_each rest each.1)

  free_each : (all : List Written) → AllOf (IsSound scope) all → AllOf (HasNoFault types) (trees all)
  free_each [] each = tt
  free_each (type ∷ rest) each = (each.0.1, free_each rest each.1)

  -- nodes that stand for types begin with those of the types
  begin_with : (Are : NodeId → Written → Type 0) (ids : List NodeId) (all : List Written)
      → Pairwise Are ids (map (seen_by types) (trees all)) → Begin Are scope ids all
  begin_with Are [] [] each = tt
  begin_with Are [] (type ∷ rest) each = elim each [ ]
  begin_with Are (id ∷ ids) [] each = elim each [ ]
  begin_with Are (id ∷ ids) (type ∷ rest) each = (each.0, begin_with Are ids rest each.1)

pub pattern_typed : (types : Declarations) (pattern : Tree) → AreWellMadePatternDeclarations types
    → IsWellMadePattern pattern → ConstantsInRange pattern
    → ((fault : Fault) → IsFaultOfDeclarations types fault → ⊥)
    → ((fault : Fault) → IsFaultOfType types pattern fault → ⊥) → IsTypedPattern (types ∷ []) pattern
pattern_typed types pattern made well_made within none free = record {
  graph = nodes.graph;
  sound = nodes.sound;
  p = (filled (pattern_of [] pattern) nodes.ids).0;
  resolved = (tree_fits (StandsFor nodes.graph) (scope types) pattern nodes.ids []
      (begin_with types (StandsFor nodes.graph) nodes.ids all nodes.stand)).0;
  constants = constants_sound (scope types) pattern well_made within;
}
  where
    all : List Written
    all = types_before (pattern_of [] pattern) []

    sound : AllOf (IsSound (scope types)) all
    sound = tree_sound (scope types) pattern [] well_made free tt

    nodes : HaveNodes (map (seen_by types) (trees all))
    nodes = have_nodes types made none (trees all) (well_made_each types all sound) (free_each types all sound)
