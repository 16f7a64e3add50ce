use Rattle.std.proofs.Common.{◌∙◌, sym, ap, subst}
use Rattle.cd_syntax.specs.Name.{IsLabel}
use Rattle.cd_model.specs.Leaves.{one_atom}
use Rattle.cd_graph.proofs.Labels.{same_texts}
use Rattle.cd_builders.proofs.constants.atom.Goals as goal

-- a label is an atom
pub one-requires : goal.one-requires
one-requires c = (same_texts c.as_str.result.now c.as_str.utf8
    (subst IsLabel (sym c.as_str.ensures) c.requires)).0

-- and its bytes are its characters
pub returns : goal.returns
returns c = let same = (same_texts c.as_str.result.now c.as_str.utf8
    (subst IsLabel (sym c.as_str.ensures) c.requires)).1 in
    c.atoms.ensures ∙ ap Rattle.cd_model.specs.Formula.Atoms c.in_ok-one.ensures
    ∙ ap one_atom (sym same ∙ c.as_str.ensures)
