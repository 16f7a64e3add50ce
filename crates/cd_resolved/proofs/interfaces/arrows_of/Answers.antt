use Rattle.std.proofs.Common.{[], ◌∷◌, ◌++◌}
use Rattle.cd_graph.specs.Nodes.{nodes}
use Rattle.cd_graph.specs.PlainFormula.{plain_list}
use Rattle.cd_resolve.specs.Named.{declared_by}
use Rattle.cd_resolved.proofs.InterfacesSound.{well_made, faultless, arrows_of_function}
use Rattle.cd_resolved.proofs.interfaces.arrows_of.Goals as goal

pub resolve_arrows-requires-clause-well_made : goal.resolve_arrows-requires-clause-well_made
resolve_arrows-requires-clause-well_made c = well_made (declared_by c.args.names.now) c.args.function.now c.requires.interface

pub resolve_arrows-requires-clause-sound : goal.resolve_arrows-requires-clause-sound
resolve_arrows-requires-clause-sound c = faultless (declared_by c.args.names.now) c.args.function.now c.requires.interface

pub returns-clause-arrows : goal.returns-clause-arrows
returns-clause-arrows c = arrows_of_function (declared_by c.args.names.now ∷ []) c.args.function.now
    (nodes c.args.graph.now ++ plain_list c.in_ok-formulas.field-0.formulas) (nodes c.extend.new.self) c.in_ok-extend.ensures.added
    c.in_ok-formulas.field-0.arrows.items c.in_ok-formulas.ensures.stand
