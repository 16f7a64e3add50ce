use Rattle.std.proofs.Common.{◌∙◌, sym, ap, subst}
use Rattle.cd_sets.specs.Atoms.{holds}
use Rattle.cd_syntax.specs.Name.{IsLabel}
use Rattle.cd_graph.proofs.Labels.{same_texts}
use Rattle.cd_facts.proofs.formula.is_among.Goals as goal

-- the bytes of a label are its characters
pub returns : goal.returns
returns c =
    let label = subst IsLabel (sym c.as_str.ensures) c.requires in
    let same = (same_texts c.as_str.result.now c.as_str.utf8 label).1 in
    c.contains.ensures ∙ ap (holds c.args.set.now) (sym same ∙ c.as_str.ensures)
