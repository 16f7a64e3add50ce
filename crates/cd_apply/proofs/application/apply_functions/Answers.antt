use Rattle.std.proofs.Common.{List, map, subst, sym}
use Rattle.cd_model.specs.Formula.{Graph}
use Rattle.cd_empty.specs.Seen.{graph_of, table_of}
use Rattle.cd_apply.specs.declared.clauses.FunctionClause.{FunctionClause as CodeClause}
use Rattle.cd_apply.specs.Inner.FunctionClauses.{AreClausesOf}
use Rattle.cd_apply.specs.Inner.PlainClauses.{plain_function_clause}
use Rattle.cd_apply.proofs.ApplicationsAnswered.{results_as_found, outside_as_found}
use Rattle.cd_apply.proofs.ClausesOfNodes.{clauses_within}
use Rattle.cd_apply.proofs.application.apply_functions.Goals as goal
use Rattle.cd_apply.proofs.application.apply_functions.Goals.{After-as_slice}

-- the clauses are those of the node
are_clauses : (c : After-as_slice) → AreClausesOf (graph_of c.args.world.now) c.args.function
    (map plain_function_clause c.as_slice.result.now)
are_clauses c =
    subst (λ (all : List CodeClause). AreClausesOf (graph_of c.args.world.now) c.args.function
    (map plain_function_clause all)) (sym c.as_slice.ensures.value)
    (subst (λ (g : Graph). AreClausesOf g c.args.function
    (map plain_function_clause c.in_ok-clauses.clauses.items)) c.graph.ensures.graph
    c.in_ok-clauses.ensures)

pub image_of-requires-clause-clauses : goal.image_of-requires-clause-clauses
image_of-requires-clause-clauses c = clauses_within (graph_of c.args.world.now) c.args.function
    c.graph.ensures.sound (map plain_function_clause c.as_slice.result.now) (are_clauses c)

pub returns-in-Fails-clause-applied : goal.returns-in-Fails-clause-applied
returns-in-Fails-clause-applied c = outside_as_found (graph_of c.args.world.now) c.args.function
    c.args.argument (table_of c.image_of.new.world) c.requires.functions
    (map plain_function_clause c.as_slice.result.now)
    (are_clauses (goal.at.returns-in-Fails-clause-applied c).After-as_slice)
    (graph_of c.image_of.new.world) c.in_ok-element.field-0 c.in_ok-element.ensures.image
    c.in-Fails.element c.in-Fails.is

pub returns-clause-applied : goal.returns-clause-applied
returns-clause-applied c = results_as_found (graph_of c.args.world.now) c.args.function
    c.args.argument (table_of c.union.new.world) c.requires.functions
    (map plain_function_clause c.as_slice.result.now)
    (are_clauses (goal.at.returns-clause-applied c).After-as_slice) (graph_of c.union.new.world)
    c.in_ok-element.field-0 (table_of c.image_of.new.world) c.in_ok-element.ensures.image
    c.in-Union.questions c.in-Union.is (graph_of c.image_of.new.world)
    c.in_ok-element.ensures.graph c.as_slice-in-Union.result.now c.as_slice-in-Union.ensures.value
    c.in_ok-id-in-Union.id c.in_ok-id-in-Union.ensures.union
