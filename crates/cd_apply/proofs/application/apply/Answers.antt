use Rattle.std.proofs.Common.{[], ◌∷◌, refl}
use Rattle.cd_model.specs.BuiltIns.{ARROW}
use Rattle.cd_rules.specs.Needs.{question}
use Rattle.cd_empty.specs.Seen.{graph_of, table_of}
use Rattle.cd_apply.proofs.ApplicationsAnswered.{are_functions, no_function}
use Rattle.cd_apply.proofs.application.apply.Goals as goal

pub apply_functions-requires-clause-functions : goal.apply_functions-requires-clause-functions
apply_functions-requires-clause-functions c =
    are_functions (graph_of c.args.world.now) c.graph.ensures.built_in c.args.function
    (graph_of c.subtype.new.self) c.in_ok-element.ensures.graph
    (c.in_ok-element.ensures.elements c.in-Empty.is)

pub returns-in-Inhabited-clause-not_function : goal.returns-in-Inhabited-clause-not_function
returns-in-Inhabited-clause-not_function c =
    no_function (graph_of c.args.world.now) c.graph.ensures.built_in c.args.function
    (table_of c.subtype.new.self) (question (c.args.function ∷ []) (ARROW ∷ [])) refl
    c.in_ok-element.field-0 c.in-Inhabited.element c.in-Inhabited.is c.in_ok-element.ensures.exact
