-- Formulas, and the nodes of a graph, keep answers apart.
use Rattle.std.proofs.Common.{true, false, sym}
use Rattle.std.proofs.lemmas.Bool.{true≢false}
use Rattle.cd_sets.specs.declared.node_id.NodeId.{NodeId}
use Rattle.cd_model.specs.Formula as formula
use Rattle.cd_model.specs.Formula.{FormulaOf, FormulasOf, Formula, Formulas, NoFormula, AFormula, Graph, FormulaReader, head_of, at_formula, holds, each_holds, one_holds, formula_at, nodes}
use Rattle.cd_model.specs.Types.{Reader}
use Rattle.cd_model.proofs.Apart.{head_apart}
use Rattle.cd_model.proofs.Logic.{both_apart}
use Rattle.cd_model.proofs.Regulars.{Apart}

module _ {X : Type 0} (read : FormulaReader X) (apart : Apart read) where
  mutual
    pub holds_apart : (is : FormulaOf X) → holds read is true → holds read is false → ⊥
    holds_apart formula.Nothing is out = true≢false is
    holds_apart formula.Everything is out = true≢false (sym out)
    holds_apart (formula.And formulas) is out = all_apart formulas is out
    holds_apart (formula.Or formulas) is out = none_apart formulas out is
    holds_apart (formula.Not one) is out = holds_apart one out is
    holds_apart one is out = apart one is out

    all_apart : (formulas : FormulasOf X) → each_holds read formulas true → one_holds read formulas false → ⊥
    all_apart NoFormula each one = one
    all_apart (AFormula is rest) each one = both_apart (holds_apart is) (all_apart rest) each one

    none_apart : (formulas : FormulasOf X) → each_holds read formulas false → one_holds read formulas true → ⊥
    none_apart NoFormula each one = one
    none_apart (AFormula is rest) each one = both_apart (λ out in_it. holds_apart is in_it out) (none_apart rest) each one

pub formulas_apart : {X : Type 0} (read : Reader X) → Apart read → Apart (at_formula read)
formulas_apart read apart is = head_apart read apart (head_of is)

pub nodes_keep : (graph : Graph) (read : Reader NodeId) → Apart read → Apart (nodes graph read)
nodes_keep graph read apart id is out = holds_apart (at_formula read) (formulas_apart read apart) (formula_at graph id) is out
