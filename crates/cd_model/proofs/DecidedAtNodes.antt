-- Formulas, and the nodes of a graph, answer true or false where heads do.
use Rattle.std.proofs.Common.{true, false, refl, ◌⊎◌, inl, inr}
use Rattle.cd_sets.specs.declared.node_id.NodeId.{NodeId}
use Rattle.cd_model.specs.Formula as formula
use Rattle.cd_model.specs.Formula.{FormulaOf, FormulasOf, Formula, Formulas, NoFormula, AFormula, Graph, FormulaReader, head_of, at_formula, holds, each_holds, one_holds, formula_at, nodes, in_node}
use Rattle.cd_model.specs.Types.{Reader}
use Rattle.cd_model.specs.Thing.{Thing}
use Rattle.cd_model.proofs.Decided.{head_decided, element_decides}
use Rattle.cd_model.proofs.Logic.{swapped, both_or}
use Rattle.cd_model.proofs.Regulars.{Decides}

module _ {X : Type 0} (read : FormulaReader X) (decides : Decides read) where
  mutual
    pub holds_decided : (is : FormulaOf X) → holds read is true ⊎ holds read is false
    holds_decided formula.Nothing = inr refl
    holds_decided formula.Everything = inl refl
    holds_decided (formula.And formulas) = all_or_one formulas
    holds_decided (formula.Or formulas) = swapped (none_or_one formulas)
    holds_decided (formula.Not one) = swapped (holds_decided one)
    holds_decided one = decides one

    all_or_one : (formulas : FormulasOf X) → each_holds read formulas true ⊎ one_holds read formulas false
    all_or_one NoFormula = inl tt
    all_or_one (AFormula is rest) = both_or (holds_decided is) (all_or_one rest)

    none_or_one : (formulas : FormulasOf X) → each_holds read formulas false ⊎ one_holds read formulas true
    none_or_one NoFormula = inl tt
    none_or_one (AFormula is rest) = both_or (swapped (holds_decided is)) (none_or_one rest)

pub formulas_decide : {X : Type 0} (read : Reader X) → Decides read → Decides (at_formula read)
formulas_decide read decides is = head_decided read decides (head_of is)

pub nodes_decide : (graph : Graph) (read : Reader NodeId) → Decides read → Decides (nodes graph read)
nodes_decide graph read decides id = holds_decided (at_formula read) (formulas_decide read decides) (formula_at graph id)

pub in_or_outside : (graph : Graph) (is : Thing) (id : NodeId) → in_node graph is id true ⊎ in_node graph is id false
in_or_outside graph = element_decides (nodes graph) (nodes_decide graph)
