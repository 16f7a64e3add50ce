-- What rules make of well made types is well made.
use Rattle.std.proofs.Common.{false, List, [], ◌∷◌}
use Rattle.std.specs.List.{AllByRecursion as AllOf}
use Rattle.cd_syntax.specs.Name.{IsLabel}
use Rattle.cd_syntax.specs.TypeTree.{Tree, Signed, Field, Declaration, Regular, trees_of}
use Rattle.cd_syntax.specs.TypeTree.{signs_of, fields_of, declarations_of, regulars_of}
use Rattle.cd_syntax.specs.TypeTree.{Rest, Closed, Open, Typed}
use Rattle.cd_syntax.specs.WellMade.{IsWellMade, AreWellMade, AreWellMadeSigns, AreWellMadeFields}
use Rattle.cd_syntax.specs.WellMade.{AreWellMadeDeclarations, IsWellMadeRegular, AreWellMadeRegulars}
use Rattle.cd_syntax.specs.WellMade.{IsWellMadeRest}
use Rattle.cd_grammar.proofs.SortedParts.{TreesAreKept, OfSign, OfField, OfName, OfRest}
use Rattle.cd_grammar.proofs.WellMadeFacts.{well_made}

trees_made : (all : List Tree) → AllOf IsWellMade all → AreWellMade (trees_of all)
trees_made [] are = tt
trees_made (first ∷ rest) are = (are.0, trees_made rest are.1)

regulars_made : (all : List Regular) → AllOf IsWellMadeRegular all → AreWellMadeRegulars (regulars_of all)
regulars_made [] are = tt
regulars_made (first ∷ rest) are = (are.0, regulars_made rest are.1)

signs_made : (all : List Signed) → AllOf (OfSign IsWellMade) all → AreWellMadeSigns (signs_of all)
signs_made [] are = tt
signs_made (first ∷ rest) are = (are.0, signs_made rest are.1)

fields_made : (all : List Field) → AllOf (OfField IsWellMade IsLabel) all → AreWellMadeFields (fields_of all)
fields_made [] are = tt
fields_made (first ∷ rest) are = (are.0.0, are.0.1, fields_made rest are.1)

rest_made : (others : Rest) → OfRest IsWellMade others → IsWellMadeRest others
rest_made Closed so = tt
rest_made Open so = tt
rest_made (Typed is) so = so

pub declarations_made : (all : List Declaration) → AllOf (OfName IsWellMade) all
    → AreWellMadeDeclarations (declarations_of all)
declarations_made [] are = tt
declarations_made (first ∷ rest) are = (are.0, declarations_made rest are.1)

pub types_kept : TreesAreKept well_made false
types_kept = record {
  built_in = λ here name. tt;
  named = λ here name. tt;
  ints = λ here low high. tt;
  chars = λ here low high. tt;
  letters = λ here characters. tt;
  atom = λ here name label. label;
  tuple = λ here first second rest are. (tt, trees_made (first ∷ second ∷ rest) are);
  arrows = λ here first second rest are. (tt, trees_made (first ∷ second ∷ rest) are);
  union = λ here first second rest are. trees_made (first ∷ second ∷ rest) are;
  meet = λ here first rest is are. (is, signs_made rest are);
  sequence = λ here one is. is;
  fields = λ here all others are so. (fields_made all are, rest_made others so);
  xml = λ here tag attributes content is so too. (is, so, too);
  where_names = λ here one all is are. (is, declarations_made all are);
  nothing = λ here. tt;
  item = λ here one is. is;
  in_turn = λ here all are. regulars_made all are;
  alternatives = λ here all are. regulars_made all are;
  repeated = λ here one mark is. is;
}
