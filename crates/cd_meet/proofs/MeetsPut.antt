-- The meet of arrows, as a formula that is put after those of a graph.
use Rattle.std.proofs.Common.{◌≡◌, ◌<◌, ◌+◌, ◌++◌, ℕ, List, [], ◌∷◌, length, map, sym, subst, arith}
use Rattle.cd_sets.specs.declared.node_id.NodeId.{NodeId}
use Rattle.cd_model.specs.AllOf.{AllOf}
use Rattle.cd_model.specs.BuiltIns.{built_ins}
use Rattle.cd_model.specs.Formula.{Graph, Formula, IsFormula, AreFormulas, And, formulas_of}
use Rattle.cd_model.proofs.FormulasAmongMore.{formula_among_more}
use Rattle.cd_meet.specs.Meets.{AreNodes, arrow_formula, arrow_formulas}

-- the meet of arrows between nodes is over these
each_formula : (count : ℕ) (arrows : List (NodeId × NodeId)) → AllOf (λ arrow. (arrow.0.0 < count) × (arrow.1.0 < count)) arrows
    → AreFormulas count (formulas_of (map arrow_formula arrows))
each_formula count [] are = tt
each_formula count (arrow ∷ arrows) are = (are.0, each_formula count arrows are.1)

meet_is_sound : (graph more : Graph) → graph ≡ built_ins ++ more → (arrows : List (NodeId × NodeId)) → AreNodes graph arrows
    → IsFormula (length graph) (And (formulas_of (arrow_formulas arrows)))
meet_is_sound graph more begins arrows are = (
  subst (λ (g : Graph). (0 < length g) × (1 < length g)) (sym begins) (omega arith, omega arith),
  each_formula (length graph) arrows are,
)

-- put alone after the formulas of a graph
module _ (graph : Graph) (arrows : List (NodeId × NodeId)) (f : Formula) (batch : List Formula) (alone : batch ≡ f ∷ [])
    (is_meet : f ≡ And (formulas_of (arrow_formulas arrows))) where
  pub one_is_sound : (more : Graph) → graph ≡ built_ins ++ more → AreNodes graph arrows
      → AllOf (IsFormula (length graph + length batch)) batch
  one_is_sound more begins are = subst (λ (all : List Formula). AllOf (IsFormula (length graph + length all)) all) (sym alone) (
    formula_among_more (length graph) (length graph + 1) (omega arith) f
        (subst (IsFormula (length graph)) (sym is_meet) (meet_is_sound graph more begins arrows are)),
    tt,
  )
