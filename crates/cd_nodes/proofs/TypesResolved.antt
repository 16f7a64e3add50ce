-- Types in which no naming fault stands are nodes of one graph.
use Rattle.std.proofs.Common.{ℕ, ◌≤◌, List, [], ◌∷◌, ◌++◌, length, map, refl, sym, ap, subst, arith}
use Rattle.std.proofs.lemmas.List.{append-nil}
use Rattle.cd_sets.specs.declared.node_id.NodeId.{NodeId}
use Rattle.cd_syntax.specs.TypeTree.{Tree, Declarations, trees_of}
use Rattle.cd_syntax.specs.WellMadePattern.{IsWellMadePattern, AreWellMadePatternDeclarations}
use Rattle.cd_model.specs.AllOf.{AllOf}
use Rattle.cd_model.specs.BuiltIns.{built_ins}
use Rattle.cd_model.specs.Formula.{Graph, Formula, IsGraph}
use Rattle.cd_model.specs.StandsFor.{StandsFor}
use Rattle.cd_model.specs.Written.{Written}
use Rattle.cd_model.proofs.FormulasAmongMore.{graph_with_more}
use Rattle.cd_model.proofs.SoundBuiltIns.{built_ins_are_sound}
use Rattle.cd_shared.specs.Equation.{Equations}
use Rattle.cd_resolve.specs.Faults.{Fault, IsFaultOfType, IsFaultOfDeclarations}
use Rattle.cd_resolve.specs.Named.{Names, AreNamed}
use Rattle.cd_resolve.specs.Wanted.{Pairwise}
use Rattle.cd_resolve.specs.Inner.Solves.{AreEquations, IsNode}
use Rattle.cd_resolve.specs.Inner.Walk.{walked_list, walked_trees}
use Rattle.cd_resolve.proofs.BuiltInNodes.{Begins}
use Rattle.cd_resolve.proofs.NodesNamed.{list_of}
use Rattle.cd_resolve.proofs.Resolving.{HasNoFault, seen_by, begins_agree, declarations_bounds}
use Rattle.cd_resolve.proofs.Resolving.{declarations_end, declarations_stand, types_bounds, types_end, types_stand}
use Rattle.cd_resolve.proofs.Solved.{IsSolved}
use Rattle.cd_nodes.specs.HasNode.{HasNode}
use Rattle.cd_nodes.proofs.EquationsSolved.{has_solution}

-- nodes of one sound graph stand for these types
pub record HaveNodes (types : List Written) : Type 0 where
  pub graph : Graph
  pub sound : IsGraph graph
  pub ids : List NodeId
  pub stand : Pairwise (StandsFor graph) ids types

module _ (types : Declarations) (made : AreWellMadePatternDeclarations types)
    (none : (fault : Fault) → IsFaultOfDeclarations types fault → ⊥) where
  -- the names of the declarations come after the built-in nodes
  abbrev names : Names
  names = record { declarations = types; first = 14 }

  abbrev equations : Equations
  equations = walked_list 14 [] [] types []

  declared : (batch : List Formula) × IsSolved built_ins 14 equations batch
  declared = has_solution built_ins built_ins_are_sound 14 (omega arith) equations
      (declarations_bounds types none 14 (omega arith) made) (declarations_end types none 14 (omega arith))

  abbrev old : Graph
  old = built_ins ++ declared.0

  old_is_sound : IsGraph old
  old_is_sound = graph_with_more built_ins declared.0 built_ins_are_sound declared.1.formulas

  old_begins : Begins old
  old_begins = (declared.0, refl)

  named : AreNamed old names
  named = declarations_stand types none 14 (omega arith) built_ins declared.0 refl ([], sym (append-nil built_ins))
      declared.1.number (declared.1.solves built_ins refl (λ id below. refl))

  -- the types that see them come after their nodes
  module _ (list : List Tree) (well_made : AllOf IsWellMadePattern list) (free : AllOf (HasNoFault types) list) where
    abbrev first : ℕ
    first = length (old ++ [])

    fits : length old ≤ first
    fits = omega (arith, ap length (append-nil old))

    abbrev read : List NodeId × Equations
    read = walked_trees first (list_of names) [] (trees_of list) [] []

    bounds : AreEquations (length old) first read.1 × AllOf (IsNode (length old) first (length read.1)) read.0
    bounds = types_bounds names none list free old old_is_sound old_begins named first fits well_made

    solved : (batch : List Formula) × IsSolved old first read.1 batch
    solved = has_solution old old_is_sound first fits read.1 bounds.0
        (types_end names none list free old old_is_sound old_begins named first fits)

    pub have_nodes : HaveNodes (map (seen_by types) list)
    have_nodes = record {
      graph = old ++ [] ++ solved.0;
      sound = graph_with_more (old ++ []) solved.0 (subst IsGraph (sym (append-nil old)) old_is_sound) solved.1.formulas;
      ids = read.0;
      stand = types_stand names none list free old old_is_sound old_begins named first fits [] solved.0 refl
          solved.1.number (solved.1.solves (old ++ []) refl (begins_agree old (old ++ []) [] refl)) bounds.1;
    }

-- so one of them is
first_node : (type : Written) → HaveNodes (type ∷ []) → HasNode type
first_node type nodes = by nodes.ids nodes.stand
  where
    by : (ids : List NodeId) → Pairwise (StandsFor nodes.graph) ids (type ∷ []) → HasNode type
    by [] stand = elim stand [ ]
    by (id ∷ ids) stand = record { graph = nodes.graph; sound = nodes.sound; id = id; stands = stand.0 }

pub type_has_node : (types : Declarations) (t : Tree) → AreWellMadePatternDeclarations types → IsWellMadePattern t
    → ((fault : Fault) → IsFaultOfDeclarations types fault → ⊥)
    → ((fault : Fault) → IsFaultOfType types t fault → ⊥) → HasNode (seen_by types t)
type_has_node types t made well_made none free =
    first_node (seen_by types t) (have_nodes types made none (t ∷ []) (well_made, tt) (free, tt))
