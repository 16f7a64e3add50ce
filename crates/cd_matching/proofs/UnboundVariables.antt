-- A variable that does not stand in a pattern captures nothing.
use Rattle.std.proofs.Common.{◌≡◌, Bool, true, false, ◌||◌, List, [], ◌∷◌, Option, Some, None}
use Rattle.std.proofs.Common.{option_map, refl, ap, ap₂, ◌∙◌, bytes_eq, if◌then◌else◌}
use Rattle.std.proofs.lemmas.Bool.{or_parts, or_from}
use Rattle.cd_syntax.specs.Name.{Name}
use Rattle.cd_model.proofs.Covered.{each_both}
use Rattle.cd_model.specs.AllOf.{AllOf}
use Rattle.cd_model.specs.Thing as thing
use Rattle.cd_model.specs.Thing.{Thing}
use Rattle.cd_matching.specs.Captures.{Captures, just, or_else, both, if_so}
use Rattle.cd_matching.specs.Pattern as pattern
use Rattle.cd_matching.specs.Pattern.{Pattern, Patterns, NoPattern, APattern, Fields, NoField}
use Rattle.cd_matching.specs.Pattern.{Present, Optional, Regular, Regulars, NoRegular, ARegular}
use Rattle.cd_matching.specs.Sequences.{sequence_of, items, thing_of}
use Rattle.cd_matching.specs.Take.{Taking, at_label, all_named, take_pair, take_xml, take_record}
use Rattle.cd_matching.specs.Take.{take_present, take_optional, captures_of, take_items}
use Rattle.cd_matching.specs.Take.{ways_taking, ways_of_item, take, take_all, take_first}
use Rattle.cd_matching.specs.Take.{take_fields, ways, ways_in_turn, ways_of_one}
use Rattle.cd_matching.specs.Variables.{binds, all_bind, fields_bind, regular_binds, regulars_bind}
use Rattle.cd_matching.specs.Variables.{is_gathered, one_is_gathered}
use Rattle.cd_matching.specs.Ways.{Way, Ways, followed, gathers, if_whole, first_whole}
use Rattle.cd_matching.proofs.AllOf.{all_map}
use Rattle.cd_matching.proofs.AllWays.{all_then, all_repeated}

mutual
  pub not_gathered : {T : Type 0} (r : Regular T) (name : Name) → regular_binds r name ≡ false
      → is_gathered r name ≡ false
  not_gathered pattern.Nothing name h = refl
  not_gathered (pattern.Item p) name h = refl
  not_gathered (pattern.Seq all) name h = none_gathered all name h
  not_gathered (pattern.Alt all) name h = none_gathered all name h
  not_gathered (pattern.Repeat r how) name h = not_gathered r name h
  not_gathered (pattern.Capture variable r) name h =
      let parts = or_parts (bytes_eq variable name) (regular_binds r name) h in
      or_from (bytes_eq variable name) (is_gathered r name) parts.0 (not_gathered r name parts.1)

  none_gathered : {T : Type 0} (all : Regulars T) (name : Name) → regulars_bind all name ≡ false
      → one_is_gathered all name ≡ false
  none_gathered NoRegular name h = refl
  none_gathered (ARegular first rest) name h =
      let parts = or_parts (regular_binds first name) (regulars_bind rest name) h in
      or_from (is_gathered first name) (one_is_gathered rest name)
      (not_gathered first name parts.0) (none_gathered rest name parts.1)

module _ (name : Name) where
  abbrev pub Lacks : Option (Captures Name) → Type 0
  Lacks None = Unit {0}
  Lacks (Some captures) = captures name ≡ None

  pub lacks_both : (one other : Option (Captures Name)) → Lacks one → Lacks other
      → Lacks (both one other)
  lacks_both None other first second = tt
  lacks_both (Some captures) None first second = tt
  lacks_both (Some captures) (Some others) first second = ap₂ or_else first second

  pub lacks_or : (one other : Option (Captures Name)) → Lacks one → Lacks other
      → Lacks (or_else one other)
  lacks_or None other first second = second
  lacks_or (Some captures) other first second = first

  lacks_so : (b : Bool) → Lacks (if_so b)
  lacks_so true = refl
  lacks_so false = tt

  lacks_just : (variable : Name) (d : Thing) → bytes_eq variable name ≡ false
      → Lacks (Some (just variable d))
  lacks_just variable d differs = ap (λ (b : Bool). if b then Some d else None) differs

  lacks_if : (b : Bool) (o : Option (Captures Name)) → Lacks o → Lacks (if b then o else None)
  lacks_if true o lack = lack
  lacks_if false o lack = tt

  abbrev LacksAll : Taking → Type 0
  LacksAll takes = (d : Thing) → Lacks (takes d)

  lacks_pair : (p q : Taking) → LacksAll p → LacksAll q → LacksAll (take_pair p q)
  lacks_pair p q first second (thing.Pair d e) = lacks_both (p d) (q e) (first d) (second e)
  lacks_pair p q first second _ = tt

  lacks_xml : (p q r : Taking) → LacksAll p → LacksAll q → LacksAll r
      → LacksAll (take_xml p q r)
  lacks_xml p q r first second third (thing.Xml d e f) = lacks_both (p d) (both (q e) (r f))
      (first d) (lacks_both (q e) (r f) (second e) (third f))
  lacks_xml p q r first second third _ = tt

  lacks_record : (more : Bool) (named : thing.Fields → Bool)
      (takes : thing.Fields → Option (Captures Name))
      → ((fields : thing.Fields) → Lacks (takes fields)) → LacksAll (take_record more named takes)
  lacks_record more named takes lack (thing.Record fields) =
      lacks_if (more || named fields) (takes fields) (lack fields)
  lacks_record more named takes lack _ = tt

  lacks_present : (takes : Taking) → LacksAll takes → (o : Option Thing)
      → Lacks (take_present takes o)
  lacks_present takes lack None = tt
  lacks_present takes lack (Some d) = lack d

  lacks_optional : (test : Thing → Bool) (o : Option Thing) → Lacks (take_optional test o)
  lacks_optional test None = refl
  lacks_optional test (Some d) = lacks_so (test d)

  -- it is none of the plain variables of a way
  abbrev NotPlain : Way → Type 0
  NotPlain way = way.plain name ≡ None

  not_plain_two : (one other : Way) → NotPlain one → NotPlain other
      → NotPlain (followed one other)
  not_plain_two one other first second = ap₂ or_else first second

  abbrev NoPlain : Ways → Type 0
  NoPlain ways = (things : List Thing) → AllOf NotPlain (ways things)

  no_plain_item : (takes : Taking) → LacksAll takes → NoPlain (ways_of_item takes)
  no_plain_item takes lack [] = tt
  no_plain_item takes lack (d ∷ rest) = by_take (takes d) (lack d)
    where
      by_take : (o : Option (Captures Name)) → Lacks o → AllOf NotPlain (ways_taking d rest o)
      by_take None none = tt
      by_take (Some captures) none = (none, tt)

  lacks_whole : (gathered : Name → Bool) → gathered name ≡ false → (ways : List Way)
      → AllOf NotPlain ways → Lacks (option_map (captures_of gathered) (first_whole ways))
  lacks_whole gathered none [] all = tt
  lacks_whole gathered none (way ∷ ways) all =
      by_rest way.rest (lacks_whole gathered none ways all.1)
    where
      by_rest : (rest : List Thing) → Lacks (option_map (captures_of gathered) (first_whole ways))
          → Lacks (option_map (captures_of gathered) (if_whole way rest (first_whole ways)))
      by_rest [] later = ap
          (λ (b : Bool). if b then Some (sequence_of (way.gathered name)) else way.plain name) none
          ∙ all.0
      by_rest (d ∷ rest) later = later

  lacks_items : (gathered : Name → Bool) (ways : Ways) → gathered name ≡ false → NoPlain ways
      → (o : Option (List Thing)) → Lacks (take_items gathered ways o)
  lacks_items gathered ways none no_plain None = tt
  lacks_items gathered ways none no_plain (Some things) =
      lacks_whole gathered none (ways things) (no_plain things)

  module _ (T : Type 0) (test : T → Thing → Bool) where
    mutual
      pub lacks : (p : Pattern T) → binds p name ≡ false → LacksAll (take T test p)
      lacks (pattern.OfType type) h d = lacks_so (test type d)
      lacks (pattern.Bind variable) h d = lacks_just variable d h
      lacks (pattern.Default variable constant) h d = lacks_just variable (thing_of constant) h
      lacks (pattern.Pair p q) h d = let parts = or_parts (binds p name) (binds q name) h in
          lacks_pair (take T test p) (take T test q) (lacks p parts.0) (lacks q parts.1) d
      lacks (pattern.Xml p q r) h d =
          let parts = or_parts (binds p name) (binds q name || binds r name) h in
          let rest = or_parts (binds q name) (binds r name) parts.1 in
          lacks_xml (take T test p) (take T test q) (take T test r) (lacks p parts.0)
          (lacks q rest.0) (lacks r rest.1) d
      lacks (pattern.Record fields more) h d = lacks_record more (all_named fields)
          (take_fields T test fields) (lacks_fields fields h) d
      lacks (pattern.Both all) h d = lacks_all all h d
      lacks (pattern.First all) h d = lacks_first all h d
      lacks (pattern.Sequence r) h d = lacks_items (is_gathered r) (ways T test r)
          (not_gathered r name h) (no_plain r h) (items d)

      lacks_all : (all : Patterns T) → all_bind all name ≡ false → LacksAll (take_all T test all)
      lacks_all NoPattern h d = refl
      lacks_all (APattern p all) h d = let parts = or_parts (binds p name) (all_bind all name) h in
          lacks_both (take T test p d) (take_all T test all d) (lacks p parts.0 d)
          (lacks_all all parts.1 d)

      lacks_first : (all : Patterns T) → all_bind all name ≡ false
          → LacksAll (take_first T test all)
      lacks_first NoPattern h d = tt
      lacks_first (APattern p all) h d =
          let parts = or_parts (binds p name) (all_bind all name) h in
          lacks_or (take T test p d) (take_first T test all d) (lacks p parts.0 d)
          (lacks_first all parts.1 d)

      pub lacks_fields : (fields : Fields T) → fields_bind fields name ≡ false
          → (of : thing.Fields) → Lacks (take_fields T test fields of)
      lacks_fields NoField h of = refl
      lacks_fields (Present label p fields) h of =
          let parts = or_parts (binds p name) (fields_bind fields name) h in
          lacks_both (take_present (take T test p) (at_label of label))
          (take_fields T test fields of)
          (lacks_present (take T test p) (lacks p parts.0) (at_label of label))
          (lacks_fields fields parts.1 of)
      lacks_fields (Optional label type fields) h of =
          lacks_both (take_optional (test type) (at_label of label)) (take_fields T test fields of)
          (lacks_optional (test type) (at_label of label)) (lacks_fields fields h of)

      no_plain : (r : Regular T) → regular_binds r name ≡ false → NoPlain (ways T test r)
      no_plain pattern.Nothing h things = (refl, tt)
      no_plain (pattern.Item p) h things = no_plain_item (take T test p) (lacks p h) things
      no_plain (pattern.Seq all) h things = no_plain_in_turn all h things
      no_plain (pattern.Alt all) h things = no_plain_of_one all h things
      no_plain (pattern.Repeat r how) h things =
          all_repeated NotPlain (λ things. refl) not_plain_two how (ways T test r) (no_plain r h)
          things
      no_plain (pattern.Capture variable r) h things =
          let parts = or_parts (bytes_eq variable name) (regular_binds r name) h in
          all_map NotPlain NotPlain (gathers variable) (λ way none. none) (ways T test r things)
          (no_plain r parts.1 things)

      no_plain_in_turn : (all : Regulars T) → regulars_bind all name ≡ false
          → NoPlain (ways_in_turn T test all)
      no_plain_in_turn NoRegular h things = (refl, tt)
      no_plain_in_turn (ARegular r all) h things =
          let parts = or_parts (regular_binds r name) (regulars_bind all name) h in
          all_then NotPlain (λ things. refl) not_plain_two (ways T test r things)
          (ways_in_turn T test all) (no_plain r parts.0 things) (no_plain_in_turn all parts.1)

      no_plain_of_one : (all : Regulars T) → regulars_bind all name ≡ false
          → NoPlain (ways_of_one T test all)
      no_plain_of_one NoRegular h things = tt
      no_plain_of_one (ARegular r all) h things =
          let parts = or_parts (regular_binds r name) (regulars_bind all name) h in
          each_both NotPlain (ways T test r things) (ways_of_one T test all things)
          (no_plain r parts.0 things) (no_plain_of_one all parts.1 things)
