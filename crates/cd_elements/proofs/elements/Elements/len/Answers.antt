use Rattle.std.proofs.Common.{[], arith}
use Rattle.cd_elements.proofs.TableLaws.{length_from, elements_are}
use Rattle.cd_elements.proofs.elements.Elements.len.Goals as goal

pub returns-clause-count : goal.returns-clause-count
returns-clause-count c =
    omega (arith, length_from [] c.args.self.now.shapes.keys, c.len.ensures.len)

pub returns-clause-sound : goal.returns-clause-sound
returns-clause-sound c = elements_are [] c.args.self.now.shapes.keys tt c.args.self.now.sound
