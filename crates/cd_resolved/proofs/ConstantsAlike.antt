-- Patterns that are alike have the same constants: where these are elements in the one, they are values in the other.
use Rattle.std.proofs.Common.{ℕ, List, [], ◌∷◌, subst}
use Rattle.cd_syntax.specs.declared.constant.Constant.{Constant}
use Rattle.cd_syntax.specs.declared.constant.Constant.TheVariants as constant
use Rattle.cd_model.specs.Thing.{IsElement, IsValue}
use Rattle.cd_matching.specs.Pattern as pattern
use Rattle.cd_matching.specs.Pattern.{Pattern, Patterns, NoPattern, APattern, Fields, NoField, Present, Optional, Regular, Regulars}
use Rattle.cd_matching.specs.Pattern.{NoRegular, ARegular}
use Rattle.cd_matching.specs.PatternsAlike.{Alike, AlikeAll, AlikeFields, AlikeRegular, AlikeRegulars}
use Rattle.cd_matching.specs.Sequences.{thing_of, text_of}
use Rattle.cd_kernel.specs.WellMade.{IsWellMade, AreWellMade, AreWellMadeFields, IsWellMadeRegular, AreWellMadeRegulars}
use Rattle.cd_safety.specs.PatternConstants.{EachConstant, EachOfAll, EachOfFields, EachOfRegular, EachOfRegulars, IsSoundConstant}

text_is_value : (characters : List ℕ) → IsElement (text_of characters) → IsValue (text_of characters)
text_is_value [] element = element
text_is_value (c ∷ characters) element = (element.0, text_is_value characters element.1)

constant_is_value : (is : Constant) → IsElement (thing_of is) → IsValue (thing_of is)
constant_is_value (constant.Int n) element = element
constant_is_value (constant.Char c) element = element
constant_is_value (constant.Atom name) element = element
constant_is_value (constant.Text characters) element = text_is_value characters element
constant_is_value constant.Nil element = element

module _ {T U : Type 0} (Are : T → U → Type 0) (IsType : T → Type 0) where
  mutual
    pub constants_alike : (p : Pattern T) (q : Pattern U) → IsWellMade IsType p → Alike Are p q → EachConstant IsSoundConstant q
    constants_alike (pattern.OfType a) (pattern.OfType b) made alike = tt
    constants_alike (pattern.Bind a) (pattern.Bind b) made alike = tt
    constants_alike (pattern.Default a c) (pattern.Default b d) made alike =
        subst (λ is. IsValue (thing_of is)) alike.1 (constant_is_value c made)
    constants_alike (pattern.Pair a b) (pattern.Pair c d) made alike =
        (constants_alike a c made.0 alike.0, constants_alike b d made.1 alike.1)
    constants_alike (pattern.Xml a b c) (pattern.Xml d e f) made alike =
        (constants_alike a d made.0 alike.0, constants_alike b e made.1 alike.1, constants_alike c f made.2 alike.2)
    constants_alike (pattern.Record a more) (pattern.Record b same) made alike = of_fields a b made alike.0
    constants_alike (pattern.Both a) (pattern.Both b) made alike = of_all a b made alike
    constants_alike (pattern.First a) (pattern.First b) made alike = of_all a b made alike
    constants_alike (pattern.Sequence a) (pattern.Sequence b) made alike = of_regular a b made alike
    constants_alike _ _ made alike = absurd alike

    of_all : (all : Patterns T) (others : Patterns U) → AreWellMade IsType all → AlikeAll Are all others → EachOfAll IsSoundConstant others
    of_all NoPattern NoPattern made alike = tt
    of_all (APattern a b) (APattern c d) made alike = (constants_alike a c made.0 alike.0, of_all b d made.1 alike.1)
    of_all _ _ made alike = absurd alike

    of_fields : (fields : Fields T) (others : Fields U) → AreWellMadeFields IsType fields → AlikeFields Are fields others
        → EachOfFields IsSoundConstant others
    of_fields NoField NoField made alike = tt
    of_fields (Present l a b) (Present m c d) made alike = (constants_alike a c made.0 alike.1, of_fields b d made.1 alike.2)
    of_fields (Optional l a b) (Optional m c d) made alike = of_fields b d made.1 alike.2
    of_fields _ _ made alike = absurd alike

    of_regular : (r : Regular T) (s : Regular U) → IsWellMadeRegular IsType r → AlikeRegular Are r s → EachOfRegular IsSoundConstant s
    of_regular pattern.Nothing pattern.Nothing made alike = tt
    of_regular (pattern.Item a) (pattern.Item b) made alike = constants_alike a b made alike
    of_regular (pattern.Seq a) (pattern.Seq b) made alike = of_regulars a b made alike
    of_regular (pattern.Alt a) (pattern.Alt b) made alike = of_regulars a b made alike
    of_regular (pattern.Repeat a p) (pattern.Repeat b q) made alike = of_regular a b made alike.0
    of_regular (pattern.Capture n a) (pattern.Capture m b) made alike = of_regular a b made alike.1
    of_regular _ _ made alike = absurd alike

    of_regulars : (all : Regulars T) (others : Regulars U) → AreWellMadeRegulars IsType all → AlikeRegulars Are all others
        → EachOfRegulars IsSoundConstant others
    of_regulars NoRegular NoRegular made alike = tt
    of_regulars (ARegular a b) (ARegular c d) made alike = (of_regular a c made.0 alike.0, of_regulars b d made.1 alike.1)
    of_regulars _ _ made alike = absurd alike
