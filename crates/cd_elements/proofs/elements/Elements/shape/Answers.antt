use Rattle.std.proofs.Common.{[], arith}
use Rattle.cd_elements.proofs.TableLaws.{length_from, shape_read}
use Rattle.cd_elements.proofs.elements.Elements.shape.Goals as goal

pub index-requires : goal.index-requires
index-requires c = omega (arith, length_from [] c.args.self.now.shapes.keys, c.requires)

pub returns-clause-element : goal.returns-clause-element
returns-clause-element c = (shape_read c.args.self.now.shapes.keys _ _ c.args.self.now.sound c.index.ensures).element

pub returns-clause-sound : goal.returns-clause-sound
returns-clause-sound c = (shape_read c.args.self.now.shapes.keys _ _ c.args.self.now.sound c.index.ensures).sound

pub returns-clause-before : goal.returns-clause-before
returns-clause-before c = (shape_read c.args.self.now.shapes.keys _ _ c.args.self.now.sound c.index.ensures).before
