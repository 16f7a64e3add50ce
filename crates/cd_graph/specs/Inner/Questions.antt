-- The formula of a question: what is in each node to be in, and in none to be outside.
use Rattle.std.specs.Prelude.{List, map, ◌++◌}
use Rattle.cd_sets.specs.declared.node_id.NodeId.{NodeId}
use Rattle.cd_sets.specs.declared.question.Question.{Question}
use Rattle.cd_model.specs.Formula.{formulas_of, Graph, Formula, And, Not, formula_at}

-- the formulas of nodes, and what is in none of them
abbrev pub inside : Graph → List NodeId → List Formula
inside graph ids = map (formula_at graph) ids

abbrev pub outside : Graph → List NodeId → List Formula
outside graph ids = map (λ id. Not (formula_at graph id)) ids

abbrev pub question_formula : Graph → Question → Formula
question_formula graph question =
    And (formulas_of (inside graph question.pos ++ outside graph question.neg))
