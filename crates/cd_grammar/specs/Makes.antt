-- What is made, by name.
use Rattle.std.specs.Prelude.{List, [], ◌∷◌}
use Rattle.cd_syntax.specs.TypeTree.{NoDeclaration, Open}
use Rattle.cd_syntax.specs.declared.tokens.Span.{Span}
use Rattle.cd_grammar.specs.declared.make.Make.{Make}
use Rattle.cd_grammar.specs.declared.make.Make.TheVariants as make
use Rattle.cd_grammar.specs.declared.make.One.{One}
use Rattle.cd_grammar.specs.declared.make.One.TheVariants as one
use Rattle.cd_grammar.specs.declared.make.Two.{Two}
use Rattle.cd_grammar.specs.declared.make.Two.TheVariants as two
use Rattle.cd_grammar.specs.declared.make.Three.{Three}
use Rattle.cd_grammar.specs.declared.make.Three.TheVariants as three
use Rattle.cd_grammar.specs.declared.make.Four.{Four}
use Rattle.cd_grammar.specs.declared.make.Four.TheVariants as four
use Rattle.cd_grammar.specs.declared.make.Five.{Five}
use Rattle.cd_grammar.specs.declared.make.Five.TheVariants as five
use Rattle.cd_grammar.specs.declared.make.Six.{Six}
use Rattle.cd_grammar.specs.declared.make.Six.TheVariants as six
use Rattle.cd_grammar.specs.Parts.{Part, SomeFields, AFile, AMark, Junk}
use Rattle.cd_grammar.specs.Actions as trees
use Rattle.cd_grammar.specs.ProgramActions as programs

abbrev pub made_of_one : One → Span → Part → Part
made_of_one one.That here a = a
made_of_one one.Union here a = trees.union here a
made_of_one one.Arrows here a = trees.arrows here a
made_of_one one.Meet here a = trees.meet here a
made_of_one one.Number here a = trees.integers here a a
made_of_one one.Character here a = trees.characters here a a
made_of_one one.Text here a = trees.text here a
made_of_one one.Atom here a = trees.atom here a
made_of_one one.Named here a = trees.named here a
made_of_one one.Any here a = trees.any here
made_of_one one.Label here a = trees.label here a
made_of_one one.Others here a = SomeFields [] Open
made_of_one one.Attributes here a = trees.fields here a
made_of_one one.Item here a = trees.item a
made_of_one one.Run here a = trees.run here a
made_of_one one.Alternatives here a = trees.alternatives here a
made_of_one one.InTurn here a = trees.in_turn here a
made_of_one (one.Mark mark) here a = AMark mark
made_of_one one.NoFile here a = AFile NoDeclaration
made_of_one one.Variable here a = trees.variable here a
made_of_one one.Constant here a = trees.constant a
made_of_one one.NoProgram here a = programs.no_program
made_of_one one.FirstType here a = programs.first_type a
made_of_one one.FirstFunction here a = programs.first_function a
made_of_one one.Chain here a = programs.chain here a
made_of_one one.Apply here a = programs.apply here a
made_of_one one.ConstantExpr here a = programs.constant_expr here a
made_of_one one.VariableExpr here a = programs.variable_expr here a
made_of_one one.LabelExpr here a = programs.label_expr here a
made_of_one one.AttributesExpr here a = programs.record_expr here a
made_of_one one.RunItem here a = programs.run_item a
made_of_one one.OneItem here a = programs.one_item a

abbrev pub made_of_two : Two → Span → (a b : Part) → Part
made_of_two two.First here a b = a
made_of_two two.Second here a b = b
made_of_two two.HalfInterval here a b = trees.integers here a b
made_of_two two.AndOthers here a b = trees.and_others a b
made_of_two two.NextFields here a b = trees.next_fields a b
made_of_two two.NoFields here a b = trees.no_fields here
made_of_two two.EmptySequence here a b = trees.empty_sequence here b
made_of_two two.TwoRegulars here a b = trees.two_regulars a b
made_of_two two.NextRegular here a b = trees.next_regular a b
made_of_two two.ItemRegular here a b = trees.item_regular a b
made_of_two two.Repeated here a b = trees.repeated here a b
made_of_two two.RepeatedItem here a b = trees.repeated_item here a b
made_of_two two.NextNames here a b = trees.next_names a b
made_of_two two.File here a b = trees.file b
made_of_two two.Nil here a b = trees.nil
made_of_two two.NextType here a b = programs.next_type a b
made_of_two two.NextFunction here a b = programs.next_function a b
made_of_two two.NextBranches here a b = programs.next_branches a b
made_of_two (two.Call word) here a b = programs.call word here b
made_of_two two.Applied here a b = programs.two_exprs a b
made_of_two two.NextApplied here a b = programs.next_expr a b
made_of_two two.NoItems here a b = programs.no_items here
made_of_two two.NextItems here a b = programs.next_items a b
made_of_two two.Splice here a b = programs.splice b
made_of_two two.NoExprFields here a b = programs.no_expr_fields here
made_of_two two.NextExprFields here a b = programs.next_expr_fields a b
made_of_two two.Path here a b = programs.path here a b
made_of_two two.FieldStep here a b = programs.field_step b
made_of_two two.ChildStep here a b = programs.child_step a b
made_of_two two.AttributeStep here a b = programs.attribute_step a b

abbrev pub made_of_three : Three → Span → (a b c : Part) → Part
made_of_three three.Between here a b c = b
made_of_three three.TwoTrees here a b c = trees.two_trees a c
made_of_three three.NextTree here a b c = trees.next_tree a c
made_of_three three.BeforeTrees here a b c = trees.before_trees a c
made_of_three three.Tuple here a b c = trees.tuple here b
made_of_three (three.FirstSign kept) here a b c = trees.first_sign kept a c
made_of_three (three.NextSign kept) here a b c = trees.next_sign kept a c
made_of_three three.Interval here a b c = trees.integers here a c
made_of_three three.Characters here a b c = trees.characters here a c
made_of_three three.Name here a b c = trees.name a c
made_of_three three.AndNames here a b c = trees.next_names a c
made_of_three three.Where here a b c = trees.where_names here a c
made_of_three (three.Field optional) here a b c = trees.field optional a c
made_of_three three.SeparateFields here a b c = trees.next_fields a c
made_of_three three.SeparateOthers here a b c = trees.and_others a c
made_of_three three.TypedOthers here a b c = trees.typed_others c
made_of_three three.Record here a b c = trees.fields here b
made_of_three three.Sequence here a b c = trees.sequence here b
made_of_three three.EitherRegular here a b c = trees.two_regulars a c
made_of_three three.OrRegular here a b c = trees.next_regular a c
made_of_three three.OrItem here a b c = trees.or_item a c
made_of_three three.RegularOrItem here a b c = trees.regular_or_item a c
made_of_three three.ItemOrRegular here a b c = trees.item_regular a c
made_of_three three.ItemsOrRegular here a b c = trees.items_or a c
made_of_three three.Capture here a b c = trees.capture here a c
made_of_three three.Signature here a b c = programs.signature a c
made_of_three three.SeparateSignatures here a b c = programs.next_signatures a c
made_of_three three.Branch here a b c = programs.branch a c
made_of_three three.UnnamedFunction here a b c = programs.unnamed_function here a b c
made_of_three (three.FirstOperand op) here a b c = programs.first_operand op a c
made_of_three (three.NextOperand op) here a b c = programs.next_operand op a c
made_of_three three.FirstWithout here a b c = programs.first_without a c
made_of_three three.NextWithout here a b c = programs.next_without a c
made_of_three three.BeforeFieldStep here a b c = programs.before_field_step b c
made_of_three three.BeforeChildStep here a b c = programs.before_child_step a b c
made_of_three three.BeforeAttributeStep here a b c = programs.before_attribute_step a b c
made_of_three three.Source here a b c = programs.source a c
made_of_three three.TwoExprs here a b c = programs.two_exprs a c
made_of_three three.NextExpr here a b c = programs.next_expr a c
made_of_three three.TupleExpr here a b c = programs.tuple_expr here b
made_of_three three.SequenceExpr here a b c = programs.sequence_expr here b
made_of_three three.RecordExpr here a b c = programs.record_expr here b
made_of_three three.ExprField here a b c = programs.expr_field a c
made_of_three three.SeparateExprFields here a b c = programs.next_expr_fields a c

abbrev pub made_of_four : Four → Span → (a b c d : Part) → Part
made_of_four four.Declaration here a b c d = trees.name b d
made_of_four four.Xml here a b c d = trees.xml here b c d
made_of_four (four.Matching form) here a b c d = programs.matching form here b d
made_of_four four.NamedFunction here a b c d = programs.named_function here a b c d
made_of_four four.XmlExpr here a b c d = programs.xml_expr here b c d

abbrev pub made_of_five : Five → Span → (a b c d e : Part) → Part
made_of_five five.XmlWith here a b c d e = trees.xml_with here b c e
made_of_five five.Default here a b c d e = trees.default here b d
made_of_five five.DeclaredFunction here a b c d e = programs.declared_function b c d e
made_of_five five.XmlExprWith here a b c d e = programs.xml_expr_with here b c e
made_of_five five.SourceWhere here a b c d e = programs.source_where a c e
made_of_five five.BeforeSources here a b c d e = programs.before_sources a c e

abbrev pub made_of_six : Six → Span → (a b c d e f : Part) → Part
made_of_six six.Let here a b c d e f = programs.let_in here b d f
made_of_six six.If here a b c d e f = programs.if_else here b d f
made_of_six six.Selecting here a b c d e f = programs.selecting here c e

-- of as many parts as it wants
abbrev pub made : Make → Span → List Part → Part
made (make.One is) here (a ∷ []) = made_of_one is here a
made (make.Two is) here (a ∷ b ∷ []) = made_of_two is here a b
made (make.Three is) here (a ∷ b ∷ c ∷ []) = made_of_three is here a b c
made (make.Four is) here (a ∷ b ∷ c ∷ d ∷ []) = made_of_four is here a b c d
made (make.Five is) here (a ∷ b ∷ c ∷ d ∷ e ∷ []) = made_of_five is here a b c d e
made (make.Six is) here (a ∷ b ∷ c ∷ d ∷ e ∷ f ∷ []) = made_of_six is here a b c d e f
made _ here _ = Junk
