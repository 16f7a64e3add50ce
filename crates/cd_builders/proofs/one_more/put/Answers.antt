use Rattle.std.proofs.Common.{◌∙◌, ◌≡◌, ◌∷◌, [], ap, map}
use Rattle.cd_graph.specs.PlainFormula.{plain, plain_list}
use Rattle.cd_empty.specs.Seen.{graph_of}
use Rattle.cd_builders.proofs.OneMoreNode.{one_is_sound, one_holds_if}
use Rattle.cd_builders.proofs.one_more.put.Goals as goal
use Rattle.cd_builders.proofs.one_more.put.Goals.{In_ok-of}

-- the batch has the formula alone
batch_is : (c : In_ok-of) → plain_list c.in_ok-of.field-0 ≡ plain c.args.formula ∷ []
batch_is c = c.in_ok-of.ensures ∙ ap (map plain) c.in_ok-formulas.ensures.items

pub extend-requires : goal.extend-requires
extend-requires c = one_is_sound (graph_of c.args.world.now) (plain c.args.formula) c.requires
    (plain_list c.in_ok-of.field-0) (batch_is (goal.at.extend-requires c).In_ok-of)

pub returns-clause-holds : goal.returns-clause-holds
returns-clause-holds c = one_holds_if (graph_of c.args.world.now) (plain c.args.formula) c.requires
    (plain_list c.in_ok-of.field-0) (batch_is (goal.at.returns-clause-holds c).In_ok-of)
    c.graph.ensures.sound (graph_of c.extend.new.self) c.extend.result c.extend.ensures.first
    c.extend.ensures.added
