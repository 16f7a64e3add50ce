-- What rules of types and patterns make, by name. A rule that gives one of its parts as it is makes
-- nothing new, so it is not among them, and rules of programs are not.
use Rattle.std.specs.Prelude.{[]}
use Rattle.cd_syntax.specs.TypeTree.{NoDeclaration, Open}
use Rattle.cd_syntax.specs.declared.tokens.Span.{Span}
use Rattle.cd_grammar.specs.declared.make.One.{One}
use Rattle.cd_grammar.specs.declared.make.One.TheVariants as one
use Rattle.cd_grammar.specs.declared.make.Two.{Two}
use Rattle.cd_grammar.specs.declared.make.Two.TheVariants as two
use Rattle.cd_grammar.specs.declared.make.Three.{Three}
use Rattle.cd_grammar.specs.declared.make.Three.TheVariants as three
use Rattle.cd_grammar.specs.declared.make.Four.{Four}
use Rattle.cd_grammar.specs.declared.make.Four.TheVariants as four
use Rattle.cd_grammar.specs.declared.make.Five.{Five}
use Rattle.cd_grammar.specs.declared.make.Five.TheVariants as five
use Rattle.cd_grammar.specs.Parts.{Part, SomeFields, AFile, AMark, Junk}
use Rattle.cd_grammar.specs.Actions as trees

abbrev pub made_of_one : One → Span → Part → Part
made_of_one one.Union here a = trees.union here a
made_of_one one.Arrows here a = trees.arrows here a
made_of_one one.Meet here a = trees.meet here a
made_of_one one.Number here a = trees.integers here a a
made_of_one one.Character here a = trees.characters here a a
made_of_one one.Text here a = trees.text here a
made_of_one one.Atom here a = trees.atom here a
made_of_one one.Named here a = trees.named here a
made_of_one one.Any here a = trees.any here
made_of_one one.Label here a = trees.label here a
made_of_one one.Others here a = SomeFields [] Open
made_of_one one.Attributes here a = trees.fields here a
made_of_one one.Item here a = trees.item a
made_of_one one.Run here a = trees.run here a
made_of_one one.Alternatives here a = trees.alternatives here a
made_of_one one.InTurn here a = trees.in_turn here a
made_of_one (one.Mark mark) here a = AMark mark
made_of_one one.NoFile here a = AFile NoDeclaration
made_of_one one.Variable here a = trees.variable here a
made_of_one one.Constant here a = trees.constant a
made_of_one _ here a = Junk

abbrev pub made_of_two : Two → Span → (a b : Part) → Part
made_of_two two.HalfInterval here a b = trees.integers here a b
made_of_two two.AndOthers here a b = trees.and_others a b
made_of_two two.NextFields here a b = trees.next_fields a b
made_of_two two.NoFields here a b = trees.no_fields here
made_of_two two.EmptySequence here a b = trees.empty_sequence here b
made_of_two two.TwoRegulars here a b = trees.two_regulars a b
made_of_two two.NextRegular here a b = trees.next_regular a b
made_of_two two.ItemRegular here a b = trees.item_regular a b
made_of_two two.Repeated here a b = trees.repeated here a b
made_of_two two.RepeatedItem here a b = trees.repeated_item here a b
made_of_two two.NextNames here a b = trees.next_names a b
made_of_two two.File here a b = trees.file b
made_of_two two.Nil here a b = trees.nil
made_of_two _ here a b = Junk

abbrev pub made_of_three : Three → Span → (a b c : Part) → Part
made_of_three three.TwoTrees here a b c = trees.two_trees a c
made_of_three three.NextTree here a b c = trees.next_tree a c
made_of_three three.BeforeTrees here a b c = trees.before_trees a c
made_of_three three.Tuple here a b c = trees.tuple here b
made_of_three (three.FirstSign kept) here a b c = trees.first_sign kept a c
made_of_three (three.NextSign kept) here a b c = trees.next_sign kept a c
made_of_three three.Interval here a b c = trees.integers here a c
made_of_three three.Characters here a b c = trees.characters here a c
made_of_three three.Name here a b c = trees.name a c
made_of_three three.AndNames here a b c = trees.next_names a c
made_of_three three.Where here a b c = trees.where_names here a c
made_of_three (three.Field optional) here a b c = trees.field optional a c
made_of_three three.SeparateFields here a b c = trees.next_fields a c
made_of_three three.SeparateOthers here a b c = trees.and_others a c
made_of_three three.TypedOthers here a b c = trees.typed_others c
made_of_three three.Record here a b c = trees.fields here b
made_of_three three.Sequence here a b c = trees.sequence here b
made_of_three three.EitherRegular here a b c = trees.two_regulars a c
made_of_three three.OrRegular here a b c = trees.next_regular a c
made_of_three three.OrItem here a b c = trees.or_item a c
made_of_three three.RegularOrItem here a b c = trees.regular_or_item a c
made_of_three three.ItemOrRegular here a b c = trees.item_regular a c
made_of_three three.ItemsOrRegular here a b c = trees.items_or a c
made_of_three three.Capture here a b c = trees.capture here a c
made_of_three _ here a b c = Junk

abbrev pub made_of_four : Four → Span → (a b c d : Part) → Part
made_of_four four.Declaration here a b c d = trees.name b d
made_of_four four.Xml here a b c d = trees.xml here b c d
made_of_four _ here a b c d = Junk

abbrev pub made_of_five : Five → Span → (a b c d e : Part) → Part
made_of_five five.XmlWith here a b c d e = trees.xml_with here b c e
made_of_five five.Default here a b c d e = trees.default here b d
made_of_five _ here a b c d e = Junk
