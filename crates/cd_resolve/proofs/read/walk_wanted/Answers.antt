use Rattle.std.proofs.Common.{[], sym, ap, subst, ◌∙◌}
use Rattle.std.proofs.lemmas.Result.{IfOk-weaker}
use Rattle.cd_syntax.specs.PlainTree.{plain, plain_fields}
use Rattle.cd_syntax.specs.WellMadePattern.{IsWellMadePattern}
use Rattle.cd_graph.specs.PlainFormula.{plain_named}
use Rattle.cd_resolve.specs.Wanted.{tree_wanted}
use Rattle.cd_shared.specs.Equation.{plain_equations}
use Rattle.cd_resolve.specs.Inner.PlainBase.{names_outside}
use Rattle.cd_resolve.specs.Inner.PlainState.{HaveLabels}
use Rattle.cd_resolve.specs.Inner.Walk.{walked}
use Rattle.cd_resolve.specs.declared.wanted.Want.{Want}
use Rattle.cd_resolve.proofs.FreeFields.{free_labels, others_made, others_walked}
use Rattle.cd_resolve.proofs.read.walk_wanted.Goals as goal

-- the fields of the records of a rest have labels
pub record-requires : goal.record-requires
record-requires c =
    let fields = plain_fields c.in-Others.fields.now in
    let is = plain c.args.wanted.tree.now in
    subst HaveLabels (sym c.in_ok-named-in-Others.ensures)
    (free_labels fields (others_made fields is
    (subst (λ (what : Want). IsWellMadePattern (tree_wanted what is)) c.in-Others.is c.requires)))

pub returns-in_ok-id-in-Others : goal.returns-in_ok-id-in-Others
returns-in_ok-id-in-Others c =
    let first = c.args.base.now.first in
    let names = names_outside c.args.base.now in
    let is = plain c.args.wanted.tree.now in
    let s = plain_equations c.args.state.now.equations.items in
    IfOk-weaker c.record.result _ _ (λ id recorded. recorded
    ∙ others_walked first names (plain_fields c.in-Others.fields.now) is s
    (plain_named c.in_ok-named-in-Others.named.items) _
    c.in_ok-named-in-Others.ensures c.in_ok-id-in-Others.ensures.equations
    ∙ ap (λ (what : Want). walked first names [] (tree_wanted what is) s) (sym c.in-Others.is))
    c.record.ensures
