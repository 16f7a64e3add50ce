use Rattle.std.proofs.Common.{[]}
use Rattle.cd_elements.proofs.TableLaws.{elements_are}
use Rattle.cd_elements.proofs.elements.Elements.knows.Goals as goal

pub returns : goal.returns
returns c = elements_are [] c.args.self.now.shapes.keys tt c.args.self.now.sound
