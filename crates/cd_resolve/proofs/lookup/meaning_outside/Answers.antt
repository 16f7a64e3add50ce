use Rattle.std.proofs.Common.{◌≡◌, ◌∙◌}
use Rattle.std.specs.Option.{unwrap_or}
use Rattle.std.proofs.lemmas.Result.{IfOk-weaker}
use Rattle.cd_sets.specs.declared.node_id.NodeId.{NodeId}
use Rattle.cd_syntax.specs.PlainTree.{plain_declarations}
use Rattle.cd_model.specs.BuiltIns.{EMPTY as NOTHING}
use Rattle.cd_resolve.specs.Named.{index_in}
use Rattle.cd_resolve.specs.Inner.ScopeLevels.{declared_or}
use Rattle.cd_resolve.specs.Inner.Meaning.{id_or}
use Rattle.cd_resolve.specs.Inner.Names.{node_of, numbered}
use Rattle.cd_resolve.proofs.Numbered.{numbered_or}
use Rattle.cd_resolve.proofs.lookup.meaning_outside.Goals as goal

-- the names of the list have nodes that follow one another
pub returns-in-Some-clause-node : goal.returns-in-Some-clause-node
returns-in-Some-clause-node c =
    let first = c.in-Some.level.now.first in
    let declarations = plain_declarations c.in-Some.level.now.declarations.now in
    rw c.in-Some.is (IfOk-weaker c.meaning_in.result
    (λ meaning. (outer : NodeId) → id_or meaning outer
    ≡ declared_or first (index_in declarations c.args.name.now) outer)
    (λ meaning. id_or meaning NOTHING ≡ unwrap_or (node_of (numbered first declarations) c.args.name.now) NOTHING)
    (λ meaning means. means NOTHING ∙ numbered_or first declarations c.args.name.now) c.meaning_in.ensures.node)
