use Rattle.std.proofs.Common.{◌∙◌, ap, sym, Some}
use Rattle.cd_graph.specs.PlainFormula.{plain_named}
use Rattle.cd_resolve.specs.Inner.Leaves.{inserted}
use Rattle.cd_resolve.specs.Inner.PlainState.{plain_one, put}
use Rattle.indexmap.proofs.SetLemmas.{map-insert}
use Rattle.cd_resolve.proofs.sort.insert.Goals as goal

-- the field stands at its place
pub returns-in_ok-insert : goal.returns-in_ok-insert
returns-in_ok-insert c = ap plain_named c.in_ok-insert.ensures.items
    ∙ map-insert plain_one c.args.sorted.now.items c.in-Some.index c.args.field
    ∙ ap (λ all. put (plain_one c.args.field) (Some c.in-Some.index) (plain_named all)) (sym c.as_slice.ensures.value)
    ∙ sym c.in-Some.ensures.put
    ∙ ap (λ all. inserted (plain_one c.args.field) (plain_named all)) c.as_slice.ensures.value
