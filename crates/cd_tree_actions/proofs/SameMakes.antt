-- Rules of types and patterns make the same of a part and of what it is to them.
use Rattle.std.proofs.Common.{◌≡◌, refl}
use Rattle.cd_syntax.specs.declared.tokens.Span.{Span}
use Rattle.cd_grammar.specs.declared.make.One.{One}
use Rattle.cd_grammar.specs.declared.make.One.TheVariants as one
use Rattle.cd_grammar.specs.declared.make.Two.{Two}
use Rattle.cd_grammar.specs.declared.make.Two.TheVariants as two
use Rattle.cd_grammar.specs.declared.make.Three.{Three}
use Rattle.cd_grammar.specs.declared.make.Three.TheVariants as three
use Rattle.cd_grammar.specs.declared.make.Four.{Four}
use Rattle.cd_grammar.specs.declared.make.Four.TheVariants as four
use Rattle.cd_grammar.specs.declared.make.Five.{Five}
use Rattle.cd_grammar.specs.declared.make.Five.TheVariants as five
use Rattle.cd_grammar.specs.Parts.{Part, AnExpr, token_in, tree_in, trees_in, signs_in, fields_in}
use Rattle.cd_grammar.specs.Parts.{names_in, regular_in, regulars_in, mark_in, constant_in}
use Rattle.cd_tree_actions.specs.TreeMakes.{made_of_one, made_of_two, made_of_three}
use Rattle.cd_tree_actions.specs.TreeMakes.{made_of_four, made_of_five}
use Rattle.cd_tree_actions.specs.OfTypes.{of_types}
use Rattle.cd_tree_actions.specs.PlainTreeParts.{plain_tree_part}
use Rattle.cd_tree_actions.specs.declared.part.TreePart.{TreePart}
use Rattle.cd_tree_actions.specs.declared.part.TreePart.TheVariants as part

pub kept : (a : TreePart) → of_types (plain_tree_part a) ≡ plain_tree_part a
kept (part.Token token) = refl
kept _ = refl

pub token_same : (a : Part) → token_in (of_types a) ≡ token_in a
token_same (AnExpr is) = refl
token_same _ = refl

pub tree_same : (a : Part) → tree_in (of_types a) ≡ tree_in a
tree_same (AnExpr is) = refl
tree_same _ = refl

trees_same : (a : Part) → trees_in (of_types a) ≡ trees_in a
trees_same (AnExpr is) = refl
trees_same _ = refl

signs_same : (a : Part) → signs_in (of_types a) ≡ signs_in a
signs_same (AnExpr is) = refl
signs_same _ = refl

fields_same : (a : Part) → fields_in (of_types a) ≡ fields_in a
fields_same (AnExpr is) = refl
fields_same _ = refl

pub names_same : (a : Part) → names_in (of_types a) ≡ names_in a
names_same (AnExpr is) = refl
names_same _ = refl

regular_same : (a : Part) → regular_in (of_types a) ≡ regular_in a
regular_same (AnExpr is) = refl
regular_same _ = refl

regulars_same : (a : Part) → regulars_in (of_types a) ≡ regulars_in a
regulars_same (AnExpr is) = refl
regulars_same _ = refl

mark_same : (a : Part) → mark_in (of_types a) ≡ mark_in a
mark_same (AnExpr is) = refl
mark_same _ = refl

constant_same : (a : Part) → constant_in (of_types a) ≡ constant_in a
constant_same (AnExpr is) = refl
constant_same _ = refl

pub same_one : (make : One) (here : Span) (a : Part)
    → made_of_one make here (of_types a) ≡ made_of_one make here a
same_one one.Union here a = simp trees_same
same_one one.Arrows here a = simp trees_same
same_one one.Meet here a = simp signs_same
same_one one.Number here a = simp token_same
same_one one.Character here a = simp token_same
same_one one.Text here a = simp token_same
same_one one.Atom here a = simp token_same
same_one one.Named here a = simp token_same
same_one one.Label here a = simp token_same
same_one one.Attributes here a = simp fields_same
same_one one.Item here a = simp tree_same
same_one one.Run here a = simp token_same
same_one one.Alternatives here a = simp regulars_same
same_one one.InTurn here a = simp regulars_same
same_one one.Variable here a = simp token_same
same_one one.Constant here a = simp token_same
same_one _ here a = refl

pub same_two : (make : Two) (here : Span) (a b : Part)
    → made_of_two make here (of_types a) (of_types b) ≡ made_of_two make here a b
same_two two.HalfInterval here a b = simp token_same
same_two two.AndOthers here a b = simp fields_same
same_two two.NextFields here a b = simp fields_same
same_two two.EmptySequence here a b = simp token_same
same_two two.TwoRegulars here a b = simp regular_same
same_two two.NextRegular here a b = simp (regulars_same, regular_same)
same_two two.ItemRegular here a b = simp (tree_same, regular_same)
same_two two.Repeated here a b = simp (regular_same, mark_same)
same_two two.RepeatedItem here a b = simp (tree_same, mark_same)
same_two two.NextNames here a b = simp names_same
same_two two.File here a b = simp names_same
same_two _ here a b = refl

pub same_three : (make : Three) (here : Span) (a b c : Part)
    → made_of_three make here (of_types a) (of_types b) (of_types c) ≡ made_of_three make here a b c
same_three three.TwoTrees here a b c = simp tree_same
same_three three.NextTree here a b c = simp (trees_same, tree_same)
same_three three.BeforeTrees here a b c = simp (tree_same, trees_same)
same_three three.Tuple here a b c = simp trees_same
same_three (three.FirstSign kept) here a b c = simp tree_same
same_three (three.NextSign kept) here a b c = simp (signs_same, tree_same)
same_three three.Interval here a b c = simp token_same
same_three three.Characters here a b c = simp token_same
same_three three.Name here a b c = simp (token_same, tree_same)
same_three three.AndNames here a b c = simp names_same
same_three three.Where here a b c = simp (tree_same, names_same)
same_three (three.Field optional) here a b c = simp (token_same, tree_same)
same_three three.SeparateFields here a b c = simp fields_same
same_three three.SeparateOthers here a b c = simp fields_same
same_three three.TypedOthers here a b c = simp tree_same
same_three three.Record here a b c = simp fields_same
same_three three.Sequence here a b c = simp regular_same
same_three three.EitherRegular here a b c = simp regular_same
same_three three.OrRegular here a b c = simp (regulars_same, regular_same)
same_three three.OrItem here a b c = simp (regulars_same, tree_same)
same_three three.RegularOrItem here a b c = simp (regular_same, tree_same)
same_three three.ItemOrRegular here a b c = simp (tree_same, regular_same)
same_three three.ItemsOrRegular here a b c = simp (trees_same, regular_same)
same_three three.Capture here a b c = simp (token_same, regular_same)
same_three _ here a b c = refl

pub same_four : (make : Four) (here : Span) (a b c d : Part)
    → made_of_four make here (of_types a) (of_types b) (of_types c) (of_types d) ≡ made_of_four make here a b c d
same_four four.Declaration here a b c d = simp (token_same, tree_same)
same_four four.Xml here a b c d = simp (tree_same, token_same)
same_four _ here a b c d = refl

pub same_five : (make : Five) (here : Span) (a b c d e : Part)
    → made_of_five make here (of_types a) (of_types b) (of_types c) (of_types d) (of_types e) ≡ made_of_five make here a b c d e
same_five five.XmlWith here a b c d e = simp tree_same
same_five five.Default here a b c d e = simp (token_same, constant_same)
same_five _ here a b c d e = refl
