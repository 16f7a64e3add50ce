use Rattle.std.proofs.Common.{sym, ◌∙◌}
use Rattle.std.proofs.lemmas.Result.{IfOk-weaker}
use Rattle.cd_empty.specs.Seen.{graph_of, table_of}
use Rattle.cd_empty.proofs.GrowingWorlds.{and_further}
use Rattle.cd_apply.proofs.RefusedArrows.{refused_as_found}
use Rattle.cd_apply.proofs.refusing.can_refuse.Goals as goal

pub returns-clause-can : goal.returns-clause-can
returns-clause-can c = IfOk-weaker c.has_one_outside.result _ _
    (λ can says. refused_as_found (graph_of c.args.world.now) c.args.wanted.now c.args.refused
    (table_of c.beyond.new.world) c.in_ok-beyond.field-0 c.in_ok-beyond.ensures.found
    (sym c.is_some.ensures ∙ c.if-is_some.false) (graph_of c.beyond.new.world)
    c.in_ok-beyond.ensures.graph c.new-questions.result.items c.add_image.new.questions.items
    c.new-questions.ensures.items c.in_ok-add_image.ensures.exact (graph_of c.add_image.new.world)
    c.in_ok-add_image.ensures.graph c.as_slice.result.now c.as_slice.ensures.value can says)
    c.has_one_outside.ensures.has

pub returns-clause-grows : goal.returns-clause-grows
returns-clause-grows c = and_further _ _ _ c.in_ok-beyond.ensures.grows
    (and_further _ _ _ c.in_ok-add_image.ensures.grows c.has_one_outside.ensures.grows)
