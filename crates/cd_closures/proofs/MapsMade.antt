-- The table that is made of the arrows of a graph.
use Rattle.std.proofs.Common.{◌≡◌, ◌∙◌, ◌++◌, ◌<◌, ◌≤◌, ℕ, List, [], ◌∷◌, None, length, map, refl, sym, ap, subst, arith}
use Rattle.cd_sets.specs.declared.node_id.NodeId.{NodeId}
use Rattle.cd_model.specs.AllOf.{AllOf}
use Rattle.cd_model.specs.Formula.{Graph, IsGraph}
use Rattle.cd_model.specs.Interfaces.{Interfaces}
use Rattle.cd_model.proofs.Ones.{each_weaker}
use Rattle.cd_program.specs.Expr.{FunctionTree, Program}
use Rattle.cd_typing.specs.Typed.{scope_of}
use Rattle.cd_asking.specs.MappedArrows.{MapsRight}
use Rattle.cd_asking.specs.Mappings.{Mappings}
use Rattle.cd_evaluation.specs.ProgramFunctions.{all_functions}
use Rattle.cd_evaluation.specs.ProgramInterfaces.{interfaces_of}
use Rattle.cd_resolved.specs.Resolved.{asked_graph, program_graph, IsResolved, Extends}
use Rattle.cd_resolved.specs.declared.resolved.Resolved.{Resolved}
use Rattle.cd_resolved.proofs.GraphsGrow.{further}
use Rattle.cd_closures.specs.Inner.Asked.{IsBelow}
use Rattle.cd_closures.specs.Inner.Collected.{with_nodes}
use Rattle.cd_closures.specs.Inner.Entries.{AreAdded}
use Rattle.cd_closures.specs.Inner.Ready.{AddsFunctions, Begins}
use Rattle.cd_closures.specs.Inner.Tables.{IsTable}
use Rattle.cd_closures.specs.Inner.Wholes.{IsWhole}
use Rattle.cd_closures.specs.declared.asked.Asked.{Asked}
use Rattle.cd_closures.proofs.Adding.{all_decided}
use Rattle.cd_closures.proofs.ArrowsCollected.{of_graph, below_graph}
use Rattle.cd_closures.proofs.Deciding.{decided_are_right}
use Rattle.cd_closures.proofs.NodesPut.{longer_is}
use Rattle.cd_closures.proofs.TablesGrow.{table_begins, of_program}

-- where no arrow stands in the graph
pub none_stand : (graph : Graph) → with_nodes [] graph ≡ [] → (interfaces : Interfaces) (maps : Mappings) (function : ℕ)
    → MapsRight graph interfaces maps function
none_stand graph none interfaces maps function argument result stands =
    absurd (of_graph (λ arrow. ⊥) graph (subst (AllOf (λ arrow. ⊥)) (sym none) tt) stands.0 argument result stands.1)

pub no_items : {X : Type 0} (xs : List X) → length xs < 1 → xs ≡ []
no_items [] below = refl
no_items (x ∷ xs) below = absurd (omega (arith, below))

-- a graph that begins with the program's nodes begins with those that are asked
pub asked_grown : (program : Resolved) → IsResolved program → (longer : Graph) → Extends program longer
    → (more : Graph) × (longer ≡ asked_graph program ++ more)
asked_grown program is longer extends = further (asked_graph program) (program_graph program) longer is.grown extends

module _ (graph longer : Graph) (sound : IsGraph graph) (grown : (more : Graph) × (longer ≡ graph ++ more)) where
  -- arrows that stand in the first graph are between its nodes, and between those of the longer one
  first_below : AllOf (IsBelow (length graph)) (with_nodes [] graph)
  first_below = below_graph (length graph) graph sound

  pub longer_below : AllOf (IsBelow (length longer)) (with_nodes [] graph)
  longer_below = subst (λ (g : Graph). AllOf (IsBelow (length g)) (with_nodes [] graph)) (sym grown.1)
      (each_weaker (IsBelow (length graph)) (IsBelow (length (graph ++ grown.0)))
      (λ arrow below. let most : length graph ≤ length (graph ++ grown.0) = longer_is graph grown.0 in
      (omega (arith, most, below.0), omega (arith, most, below.1)))
      (with_nodes [] graph) first_below)

  begun_by : (count : ℕ) (asked : List Asked) → AllOf (IsBelow count) (map (λ one. one.arrow) asked) → AllOf (λ one. IsBelow count one.arrow) asked
  begun_by count [] below = tt
  begun_by count (one ∷ asked) below = (below.0, begun_by count asked below.1)

  module _ (asked : List Asked) (arrows : map (λ one. one.arrow) asked ≡ with_nodes [] graph) where
    begun : Begins graph longer asked
    begun = record {
      more = grown.0;
      grown = grown.1;
      sound = sound;
      below = begun_by (length graph) asked (subst (AllOf (IsBelow (length graph))) (sym arrows) first_below);
    }

    -- a table that lists no function, and then all of a program
    pub table_made : (program : Program) (whole : NodeId) → IsWhole (scope_of program) longer [] whole → (empty maps made : Mappings)
        → empty ≡ record { functions = []; entries = [] } → AreAdded longer whole None asked empty maps
        → (functions : List FunctionTree) → functions ≡ all_functions program
        → AddsFunctions longer (scope_of program) asked functions [] maps made → (n : ℕ) → MapsRight graph (interfaces_of program) made n
    table_made program whole is empty maps made is_empty added functions same adds =
        let scope = scope_of program in
        of_program graph asked arrows made program
        (subst (λ (all : List FunctionTree). IsTable graph scope asked all [] made) same
        (adds graph functions begun
        (table_begins graph scope asked functions maps
        (added.adds.functions ∙ ap (λ (all : Mappings). all.functions) is_empty)
        (decided_are_right graph longer grown.0 grown.1 sound scope [] whole is None maps asked begun.below
        (all_decided longer whole None empty maps asked added)))))
