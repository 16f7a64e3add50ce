-- What rules make of well made patterns is well made.
use Rattle.std.proofs.Common.{true, List, [], ◌∷◌}
use Rattle.std.specs.List.{AllByRecursion as AllOf}
use Rattle.cd_syntax.specs.declared.constant.Constant.{Constant}
use Rattle.cd_syntax.specs.declared.constant.Constant.TheVariants as constants
use Rattle.cd_syntax.specs.Name.{IsLabel}
use Rattle.cd_syntax.specs.TypeTree.{Tree, Signed, Field, Declaration, Regular, trees_of, signs_of, fields_of}
use Rattle.cd_syntax.specs.TypeTree.{declarations_of, regulars_of}
use Rattle.cd_syntax.specs.TypeTree.{Rest, Closed, Open, Typed}
use Rattle.cd_syntax.specs.WellMadePattern.{IsWellMadePattern, AreWellMadePatterns, AreWellMadePatternSigns}
use Rattle.cd_syntax.specs.WellMadePattern.{AreWellMadePatternFields, AreWellMadePatternDeclarations}
use Rattle.cd_syntax.specs.WellMadePattern.{IsWellMadePatternRegular, AreWellMadePatternRegulars, IsWellMadeConstant}
use Rattle.cd_syntax.specs.WellMadePattern.{IsWellMadePatternRest}
use Rattle.cd_grammar.proofs.SortedParts.{TreesAreKept, PatternsAreKept, OfSign, OfField, OfName, OfValue, OfRest}
use Rattle.cd_grammar.proofs.WellMadeFacts.{well_made}

trees_made : (all : List Tree) → AllOf IsWellMadePattern all → AreWellMadePatterns (trees_of all)
trees_made [] are = tt
trees_made (first ∷ rest) are = (are.0, trees_made rest are.1)

regulars_made : (all : List Regular) → AllOf IsWellMadePatternRegular all → AreWellMadePatternRegulars (regulars_of all)
regulars_made [] are = tt
regulars_made (first ∷ rest) are = (are.0, regulars_made rest are.1)

signs_made : (all : List Signed) → AllOf (OfSign IsWellMadePattern) all → AreWellMadePatternSigns (signs_of all)
signs_made [] are = tt
signs_made (first ∷ rest) are = (are.0, signs_made rest are.1)

fields_made : (all : List Field) → AllOf (OfField IsWellMadePattern IsLabel) all
    → AreWellMadePatternFields (fields_of all)
fields_made [] are = tt
fields_made (first ∷ rest) are = (are.0.0, are.0.1, fields_made rest are.1)

rest_made : (others : Rest) → OfRest IsWellMadePattern others → IsWellMadePatternRest others
rest_made Closed so = tt
rest_made Open so = tt
rest_made (Typed is) so = so

declarations_made : (all : List Declaration) → AllOf (OfName IsWellMadePattern) all
    → AreWellMadePatternDeclarations (declarations_of all)
declarations_made [] are = tt
declarations_made (first ∷ rest) are = (are.0, declarations_made rest are.1)

pub pattern_trees_kept : TreesAreKept well_made true
pattern_trees_kept = record {
  built_in = λ here name. tt;
  named = λ here name. tt;
  ints = λ here low high. tt;
  chars = λ here low high. tt;
  letters = λ here characters. tt;
  atom = λ here name label. label;
  tuple = λ here first second rest are. (tt, trees_made (first ∷ second ∷ rest) are);
  arrows = λ here first second rest are. (tt, trees_made (first ∷ second ∷ rest) are);
  union = λ here first second rest are. trees_made (first ∷ second ∷ rest) are;
  meet = λ here first rest is are. (is, signs_made rest are);
  sequence = λ here one is. is;
  fields = λ here all others are so. (fields_made all are, rest_made others so);
  xml = λ here tag attributes content is so too. (is, so, too);
  where_names = λ here one all is are. (is, declarations_made all are);
  nothing = λ here. tt;
  item = λ here one is. is;
  in_turn = λ here all are. regulars_made all are;
  alternatives = λ here all are. regulars_made all are;
  repeated = λ here one mark is. is;
}

pub value_made : (is : Constant) → OfValue IsLabel is → IsWellMadeConstant is
value_made (constants.Atom name) label = label
value_made _ so = tt

pub patterns_kept : PatternsAreKept well_made
patterns_kept = record {
  variable = λ here name label. label;
  default = λ here name value label so. (label, value_made value so);
  capture = λ here name one label is. (label, is);
}
