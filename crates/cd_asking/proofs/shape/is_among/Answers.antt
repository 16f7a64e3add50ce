use Rattle.std.proofs.Common.{◌∙◌, sym, ap}
use Rattle.cd_sets.specs.Atoms.{holds}
use Rattle.cd_graph.proofs.Labels.{same_texts}
use Rattle.cd_asking.proofs.shape.is_among.Goals as goal

-- the bytes of a label are its characters
pub returns : goal.returns
returns c = c.contains.ensures ∙ ap (holds c.args.set.now) (sym (same_texts c.args.name.now c.utf8.name c.requires).1)
