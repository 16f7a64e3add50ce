-- What patterns capture of a thing of a sort is of the sort: it is a part of the thing, a constant or a sequence of parts.
use Rattle.std.proofs.Common.{◌≡◌, ℕ, Bool, List, [], ◌∷◌, Option, Some, None, refl, ap₂, subst}
use Rattle.cd_syntax.specs.Name.{Name}
use Rattle.cd_syntax.specs.declared.constant.Constant.{Constant}
use Rattle.cd_syntax.specs.declared.constant.Constant.TheVariants as constant
use Rattle.cd_model.specs.Thing as thing
use Rattle.cd_model.specs.Thing.{Thing, Fields, NoField, Field, IsElement, IsValue, IsData, EachClosure, EachOfFields as FieldsHave}
use Rattle.cd_model.specs.Thing.{EachOfPairs}
use Rattle.cd_model.proofs.Closures.{none_in_data, data_are_elements}
use Rattle.cd_model.proofs.Sorts.{Sort, values}
use Rattle.cd_matching.specs.Captures.{Captures}
use Rattle.cd_matching.specs.Pattern as pattern
use Rattle.cd_matching.specs.Pattern.{Pattern, Patterns, NoPattern, APattern, Fields as FieldPatterns, NoField as NoFieldPattern, Present}
use Rattle.cd_matching.specs.Pattern.{Optional, Regular, Regulars, NoRegular, ARegular}
use Rattle.cd_matching.specs.PatternsAlike.{Alike, AlikeAll, AlikeFields, AlikeRegular, AlikeRegulars}
use Rattle.cd_matching.specs.Sequences.{nil, text_of, thing_of}
use Rattle.cd_matching.specs.Take.{take}
use Rattle.cd_matching.specs.Takes.{Answering, IsRight, Takes}
use Rattle.cd_matching.proofs.NilIsElement.{nil_is_element}
use Rattle.cd_matching.proofs.Retyped.{retyped, alike_retyped}
use Rattle.cd_safety.specs.PatternConstants.{EachConstant, EachOfAll, EachOfFields, EachOfRegular, EachOfRegulars, IsSoundConstant}
use Rattle.cd_safety.specs.PatternResults.{AreBoth, ResultsRelated}
use Rattle.cd_safety.proofs.PatternRelations as parts
use Rattle.cd_safety.proofs.PatternRelations.{FieldsRelated, PartsRelated, Relation}
use Rattle.cd_safety.proofs.PatternsRelated.{takes_related}

-- patterns that are alike have the same constants
module _ {T U : Type 0} (Same : T → U → Type 0) (Fact : Constant → Type 0) where
  mutual
    pub constants_alike : (p : Pattern T) (q : Pattern U) → Alike Same p q → EachConstant Fact p → EachConstant Fact q
    constants_alike (pattern.OfType t) (pattern.OfType u) h each = tt
    constants_alike (pattern.Bind one) (pattern.Bind other) h each = tt
    constants_alike (pattern.Default one is) (pattern.Default other same) h each = subst Fact h.1 each
    constants_alike (pattern.Pair p q) (pattern.Pair r s) h each = (constants_alike p r h.0 each.0, constants_alike q s h.1 each.1)
    constants_alike (pattern.Xml p q r) (pattern.Xml s t u) h each =
        (constants_alike p s h.0 each.0, constants_alike q t h.1 each.1, constants_alike r u h.2 each.2)
    constants_alike (pattern.Record fields more) (pattern.Record others same) h each = fields_alike fields others h.0 each
    constants_alike (pattern.Both all) (pattern.Both others) h each = all_alike all others h each
    constants_alike (pattern.First all) (pattern.First others) h each = all_alike all others h each
    constants_alike (pattern.Sequence r) (pattern.Sequence s) h each = regular_alike r s h each
    constants_alike _ _ h each = absurd h

    all_alike : (p : Patterns T) (q : Patterns U) → AlikeAll Same p q → EachOfAll Fact p → EachOfAll Fact q
    all_alike NoPattern NoPattern h each = tt
    all_alike (APattern p rest) (APattern q others) h each = (constants_alike p q h.0 each.0, all_alike rest others h.1 each.1)
    all_alike _ _ h each = absurd h

    fields_alike : (p : FieldPatterns T) (q : FieldPatterns U) → AlikeFields Same p q → EachOfFields Fact p → EachOfFields Fact q
    fields_alike NoFieldPattern NoFieldPattern h each = tt
    fields_alike (Present label p rest) (Present name q others) h each = (constants_alike p q h.1 each.0, fields_alike rest others h.2 each.1)
    fields_alike (Optional label t rest) (Optional name u others) h each = fields_alike rest others h.2 each
    fields_alike _ _ h each = absurd h

    regular_alike : (p : Regular T) (q : Regular U) → AlikeRegular Same p q → EachOfRegular Fact p → EachOfRegular Fact q
    regular_alike pattern.Nothing pattern.Nothing h each = tt
    regular_alike (pattern.Item p) (pattern.Item q) h each = constants_alike p q h each
    regular_alike (pattern.Seq all) (pattern.Seq others) h each = regulars_alike all others h each
    regular_alike (pattern.Alt all) (pattern.Alt others) h each = regulars_alike all others h each
    regular_alike (pattern.Repeat r how) (pattern.Repeat s same) h each = regular_alike r s h.0 each
    regular_alike (pattern.Capture name r) (pattern.Capture other s) h each = regular_alike r s h.1 each
    regular_alike _ _ h each = absurd h

    regulars_alike : (p : Regulars T) (q : Regulars U) → AlikeRegulars Same p q → EachOfRegulars Fact p → EachOfRegulars Fact q
    regulars_alike NoRegular NoRegular h each = tt
    regulars_alike (ARegular r rest) (ARegular s others) h each = (regular_alike r s h.0 each.0, regulars_alike rest others h.1 each.1)
    regulars_alike _ _ h each = absurd h

-- a sort with sequences of its things, and with constants
pub record CapturedSort : Type 1 where
  pub sort : Sort
  pub nil : sort.Of nil
  pub pair : (first second : Thing) → sort.Of first → sort.Of second → sort.Of (thing.Pair first second)
  pub constant : (is : Constant) → IsSoundConstant is → sort.Of (thing_of is)

-- the same thing, of a sort
record IsItself (Of : Thing → Type 0) (v e : Thing) : Type 0 where
  same : v ≡ e
  of : Of v

module _ (captured : CapturedSort) where
  abbrev Of : Thing → Type 0
  Of = captured.sort.Of

  itself : (v : Thing) → Of v → IsItself Of v v
  itself v of = record { same = refl; of = of }

  fields_themselves : (fields : Fields) → captured.sort.OfFields fields → FieldsRelated (IsItself Of) fields fields
  fields_themselves NoField of = parts.no_field
  fields_themselves (Field label v rest) of = let both = captured.sort.field label v rest of in
      parts.field label v v rest rest (itself v both.0) (fields_themselves rest both.1)

  parts_themselves : (v : Thing) → Of v → PartsRelated (IsItself Of) v v
  parts_themselves (thing.Integer n) of = parts.integer n
  parts_themselves (thing.Character c) of = parts.character c
  parts_themselves (thing.Atom name) of = parts.atom name
  parts_themselves (thing.Pair v w) of = let both = captured.sort.pair v w of in parts.pair v w v w (itself v both.0) (itself w both.1)
  parts_themselves (thing.Xml u v w) of = let all = captured.sort.xml u v w of in
      parts.xml u v w u v w (itself u all.0) (itself v all.1) (itself w all.2)
  parts_themselves (thing.Record fields) of = parts.of_fields fields fields (fields_themselves fields (captured.sort.fields fields of))
  parts_themselves (thing.Function pairs) of = parts.of_function pairs pairs
  parts_themselves (thing.Closure function environment) of = parts.of_closure function function environment environment

  abbrev same_things : Relation
  same_things = record {
    Are = IsItself Of;
    parts = λ v e is. subst (PartsRelated (IsItself Of) v) is.same (parts_themselves v is.of);
    nil = itself nil captured.nil;
    pair = λ v w d e one other. record { same = ap₂ (λ x y. thing.Pair x y) one.same other.same; of = captured.pair v w one.of other.of };
  }

  of_results : (result other : Option (Captures Name)) → ResultsRelated (IsItself Of) result other → (captures : Captures Name)
      → result ≡ Some captures → (name : Name) (what : Thing) → captures name ≡ Some what → Of what
  of_results None other are captures same name what found = cc
  of_results (Some own) None are captures same name what found = absurd are
  of_results (Some own) (Some others) are captures same name what found = by_capture (own name) (others name) (are name) cc
    where
      by_capture : (one other : Option Thing) → AreBoth (IsItself Of) one other → one ≡ Some what → Of what
      by_capture (Some v) (Some e) related is = subst Of (let same : v ≡ what = cc in same) related.of
      by_capture (Some v) None related is = absurd related
      by_capture None e related is = cc

  pub captured_of_test : {T : Type 0} (test : T → Thing → Bool) (p : Pattern T) → EachConstant IsSoundConstant p → (d : Thing) → Of d
      → (captures : Captures Name) → take T test p d ≡ Some captures → (name : Name) (what : Thing) → captures name ≡ Some what → Of what
  captured_of_test {T} test p sound d of captures =
      of_results (take T test p d) (take T test (retyped (λ t. t) p) d)
      (takes_related same_things test test (λ t u. t ≡ u) (λ t u same v e is. ap₂ test same is.same) IsSoundConstant
      (λ is good. itself (thing_of is) (captured.constant is good)) p (retyped (λ t. t) p) (alike_retyped (λ t. t) (λ t u. t ≡ u) (λ t. refl) p)
      sound d d (itself d of)) captures

  -- where types are known by what things answer
  pub captured_of_sort : {T : Type 0} (answers : Answering T) (Within : Thing → Type 0) (p : Pattern T) → EachConstant IsSoundConstant p
      → (d : Thing) → Of d → (captures : Captures Name) → Takes answers Within p d (Some captures)
      → (name : Name) (what : Thing) → captures name ≡ Some what → Of what
  captured_of_sort answers Within p sound d of captures takes = captured_of_test (λ (test : Thing → Bool). test) takes.tested
      (constants_alike (IsRight answers Within) IsSoundConstant p takes.tested takes.right sound) d of captures takes.gives

-- constants are data
text_is_data : (text : List ℕ) → IsData (text_of text)
text_is_data [] = tt
text_is_data (c ∷ text) = (tt, text_is_data text)

pub constant_is_data : (is : Constant) → IsData (thing_of is)
constant_is_data (constant.Int n) = tt
constant_is_data (constant.Char c) = tt
constant_is_data (constant.Atom name) = tt
constant_is_data (constant.Text text) = text_is_data text
constant_is_data constant.Nil = tt

pub constant_is_element : (is : Constant) → IsSoundConstant is → IsElement (thing_of is)
constant_is_element is sound = data_are_elements (thing_of is) sound (constant_is_data is)

-- values
abbrev pub captured_values : CapturedSort
captured_values = record {
  sort = values;
  nil = nil_is_element;
  pair = λ first second one other. (one, other);
  constant = λ is sound. sound;
}

-- things with a fact of the function of each closure
abbrev pub captured_closures : (fact : ℕ → Type 0) → CapturedSort
captured_closures fact = record {
  sort = record {
    Of = EachClosure fact;
    OfFields = FieldsHave fact;
    OfPairs = EachOfPairs fact;
    pair = λ first second h. h;
    xml = λ tag attributes content h. h;
    fields = λ fields h. h;
    pairs = λ pairs h. h;
    field = λ label value rest h. h;
    maps = λ argument result rest h. h;
    fails = λ argument rest h. h;
  };
  nil = tt;
  pair = λ first second one other. (one, other);
  constant = λ is sound. none_in_data fact (thing_of is) (constant_is_data is);
}
