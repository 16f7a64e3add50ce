-- Patterns that are alike take the same things with the same captures, where their tests say the
-- same of each thing of a sort.
use Rattle.std.proofs.Common.{◌≡◌, ℕ, zero, suc, Bool, true, false, ◌||◌, ◌&&◌, List, [], ◌∷◌}
use Rattle.std.proofs.Common.{◌++◌, map, length, Option, Some, None, option_map, refl, ap, ap₂, subst, ◌∙◌}
use Rattle.std.proofs.Common.{bytes_eq, codes, if◌then◌else◌}
use Rattle.std.proofs.lemmas.Option.{none-some, same_Some}
use Rattle.cd_syntax.specs.Name.{Name}
use Rattle.cd_syntax.specs.declared.type_tree.Post.{Post}
use Rattle.cd_syntax.specs.declared.type_tree.Post.TheVariants as post
use Rattle.cd_model.proofs.Covered.{each_both}
use Rattle.cd_model.proofs.Sorts.{Sort}
use Rattle.cd_model.specs.AllOf.{AllOf}
use Rattle.cd_model.specs.Thing as thing
use Rattle.cd_model.specs.Thing.{Thing}
use Rattle.cd_matching.specs.Captures.{Captures, or_else, just, both, if_so}
use Rattle.cd_matching.specs.Pattern as pattern
use Rattle.cd_matching.specs.Pattern.{Pattern, Patterns, NoPattern, APattern, Fields, NoField}
use Rattle.cd_matching.specs.Pattern.{Present, Optional, Regular, Regulars, NoRegular, ARegular}
use Rattle.cd_matching.specs.PatternsAlike.{Alike, AlikeAll, AlikeFields, AlikeRegular}
use Rattle.cd_matching.specs.PatternsAlike.{AlikeRegulars}
use Rattle.cd_matching.specs.Sequences.{items, thing_of}
use Rattle.cd_matching.specs.Take.{Taking, at_label, all_named, take_pair, take_xml, take_record}
use Rattle.cd_matching.specs.Take.{take_present, take_optional, captures_of, take_items}
use Rattle.cd_matching.specs.Take.{take_sequence, ways_taking, ways_of_item, take, take_all}
use Rattle.cd_matching.specs.Take.{take_first, take_fields, ways, ways_in_turn, ways_of_one}
use Rattle.cd_matching.specs.Variables.{is_gathered}
use Rattle.cd_matching.specs.Ways.{Way, Ways, still, followed, gathers, then_, if_taken, that_take}
use Rattle.cd_matching.specs.Ways.{in_order, turns, star, repeated, first_whole}
use Rattle.cd_matching.proofs.AllOf.{all_map}
use Rattle.cd_matching.proofs.VariablesAlike.{gathered_alike, labels_alike}

module _ (sort : Sort) where
  -- ways leave things of the sort
  abbrev Leave : List Way → Type 0
  Leave = AllOf (λ way. AllOf sort.Of way.rest)

  abbrev SameOn : (one other : Ways) → Type 0
  SameOn one other = (things : List Thing) → AllOf sort.Of things
      → (one things ≡ other things) × Leave (one things)

  append_leave : (ways others : List Way) → Leave ways → Leave others → Leave (ways ++ others)
  append_leave ways others one other =
      each_both (λ way. AllOf sort.Of way.rest) ways others one other

  followed_leave : (way : Way) (ways : List Way) → Leave ways → Leave (map (followed way) ways)
  followed_leave way ways leave = all_map (λ way. AllOf sort.Of way.rest)
      (λ way. AllOf sort.Of way.rest) (followed way) (λ next are. are) ways leave

  gathers_leave : (variable : Name) (ways : List Way) → Leave ways
      → Leave (map (gathers variable) ways)
  gathers_leave variable ways leave = all_map (λ way. AllOf sort.Of way.rest)
      (λ way. AllOf sort.Of way.rest) (gathers variable) (λ next are. are) ways leave

  then_same : (ways : List Way) (one other : Ways) → Leave ways → SameOn one other
      → (then_ ways one ≡ then_ ways other) × Leave (then_ ways one)
  then_same [] one other leave same = (refl, tt)
  then_same (way ∷ ways) one other leave same =
      let next = same way.rest leave.0 in
      let later = then_same ways one other leave.1 same in (
        ap₂ (λ (a b : List Way). map (followed way) a ++ b) next.0 later.0,
        append_leave (map (followed way) (one way.rest)) (then_ ways one)
            (followed_leave way (one way.rest) next.1) later.1,
      )

  taken_leave : (way : Way) (taken : List Thing) (others : List Way) → AllOf sort.Of way.rest
      → Leave others → Leave (if_taken way taken others)
  taken_leave way [] others one leave = leave
  taken_leave way (d ∷ taken) others one leave = (one, leave)

  that_take_leave : (ways : List Way) → Leave ways → Leave (that_take ways)
  that_take_leave [] leave = tt
  that_take_leave (way ∷ ways) leave =
      taken_leave way way.taken (that_take ways) leave.0 (that_take_leave ways leave.1)

  order_same : (lazy : Bool) (none : Way) (ways others : List Way) → AllOf sort.Of none.rest
      → ways ≡ others → Leave ways
      → (in_order lazy none ways ≡ in_order lazy none others) × Leave (in_order lazy none ways)
  order_same true none ways others one same leave =
      (ap (λ (w : List Way). none ∷ w) same, (one, leave))
  order_same false none ways others one same leave =
      (ap (λ (w : List Way). w ++ none ∷ []) same, append_leave ways (none ∷ []) leave (one, tt))

  turns_same : (lazy : Bool) (count : ℕ) (one other : Ways) → SameOn one other
      → SameOn (turns lazy count one) (turns lazy count other)
  turns_same lazy zero one other same things are = (refl, (are, tt))
  turns_same lazy (suc count) one other same things are =
      let turn = same things are in
      let rest = then_same (that_take (one things)) (turns lazy count one) (turns lazy count other)
      (that_take_leave (one things) turn.1) (turns_same lazy count one other same) in
      order_same lazy (still things) (then_ (that_take (one things)) (turns lazy count one))
      (then_ (that_take (other things)) (turns lazy count other)) are
      (rest.0 ∙ ap (λ (w : List Way). then_ (that_take w) (turns lazy count other)) turn.0) rest.1

  star_same : (lazy : Bool) (one other : Ways) → SameOn one other
      → SameOn (star lazy one) (star lazy other)
  star_same lazy one other same things are =
      turns_same lazy (length things) one other same things are

  plus_same : (lazy : Bool) (one other : Ways) → SameOn one other
      → SameOn (λ things. then_ (one things) (star lazy one))
      (λ things. then_ (other things) (star lazy other))
  plus_same lazy one other same things are =
      let turn = same things are in
      let rest = then_same (one things) (star lazy one) (star lazy other) turn.1
      (star_same lazy one other same) in
      (rest.0 ∙ ap (λ (w : List Way). then_ w (star lazy other)) turn.0, rest.1)

  repeated_same : (how : Post) (one other : Ways) → SameOn one other
      → SameOn (repeated how one) (repeated how other)
  repeated_same post.Star one other same things are = star_same false one other same things are
  repeated_same post.LazyStar one other same things are = star_same true one other same things are
  repeated_same post.Plus one other same things are = plus_same false one other same things are
  repeated_same post.LazyPlus one other same things are = plus_same true one other same things are
  repeated_same post.Opt one other same things are = let turn = same things are in
      order_same false (still things) (one things) (other things) are turn.0 turn.1
  repeated_same post.LazyOpt one other same things are = let turn = same things are in
      order_same true (still things) (one things) (other things) are turn.0 turn.1

  at_label_is : (fields : thing.Fields) (label : Name) (d : Thing) → sort.OfFields fields
      → at_label fields label ≡ Some d → sort.Of d
  at_label_is thing.NoField label d are h = absurd (none-some d h)
  at_label_is (thing.Field name e rest) label d are h =
      by_test (bytes_eq name label) h (λ later. at_label_is rest label d parts.1 later)
    where
      parts : sort.Of e × sort.OfFields rest
      parts = sort.field name e rest are

      by_test : (b : Bool) → (if b then Some e else at_label rest label) ≡ Some d
          → (at_label rest label ≡ Some d → sort.Of d) → sort.Of d
      by_test true h further = subst sort.Of (same_Some e d h) parts.0
      by_test false h further = further h

  items_are : (d : Thing) (things : List Thing) → sort.Of d → items d ≡ Some things
      → AllOf sort.Of things
  items_are (thing.Atom name) things is h = by_test (bytes_eq name (codes "nil")) h
    where
      by_test : (b : Bool) → (if b then Some [] else None) ≡ Some things → AllOf sort.Of things
      by_test true h = subst (AllOf sort.Of) (same_Some [] things h) tt
      by_test false h = absurd (none-some things h)
  items_are (thing.Pair first second) things is h =
      by_rest (items second) (λ rest. items_are second rest parts.1) h
    where
      parts : sort.Of first × sort.Of second
      parts = sort.pair first second is

      by_rest : (o : Option (List Thing))
          → ((rest : List Thing) → o ≡ Some rest → AllOf sort.Of rest)
          → option_map (λ rest. first ∷ rest) o ≡ Some things → AllOf sort.Of things
      by_rest None are h = absurd (none-some things h)
      by_rest (Some rest) are h =
          subst (AllOf sort.Of) (same_Some (first ∷ rest) things h) (parts.0, are rest refl)
  items_are _ things is h = absurd (none-some things h)

  module _ {T U : Type 0} (one_test : T → Thing → Bool) (other_test : U → Thing → Bool)
      (Are : T → U → Type 0)
      (agree : (t : T) (u : U) → Are t u → (d : Thing) → sort.Of d
      → one_test t d ≡ other_test u d) where
    abbrev one_take : Pattern T → Taking
    one_take = take T one_test

    abbrev other_take : Pattern U → Taking
    other_take = take U other_test

    abbrev SameOnThings : (one other : Taking) → Type 0
    SameOnThings one other = (d : Thing) → sort.Of d → one d ≡ other d

    pair_same : (p q r s : Taking) → SameOnThings p r → SameOnThings q s
        → SameOnThings (take_pair p q) (take_pair r s)
    pair_same p q r s first second (thing.Pair d e) is =
        let parts = sort.pair d e is in ap₂ both (first d parts.0) (second e parts.1)
    pair_same p q r s first second _ is = refl

    xml_same : (p q r s t u : Taking) → SameOnThings p s → SameOnThings q t → SameOnThings r u
        → SameOnThings (take_xml p q r) (take_xml s t u)
    xml_same p q r s t u first second third (thing.Xml d e f) is = let parts = sort.xml d e f is in
        ap₂ both (first d parts.0) (ap₂ both (second e parts.1) (third f parts.2))
    xml_same p q r s t u first second third _ is = refl

    record_same : (more same : Bool) (named others : thing.Fields → Bool)
        (one other : thing.Fields → Option (Captures Name)) → more ≡ same
        → ((fields : thing.Fields) → named fields ≡ others fields)
        → ((fields : thing.Fields) → sort.OfFields fields → one fields ≡ other fields)
        → SameOnThings (take_record more named one) (take_record same others other)
    record_same more same named others one other more_same names takes (thing.Record fields) is =
        ap₂ (λ (b : Bool) (o : Option (Captures Name)). if b then o else None)
        (ap₂ (λ a b. a || b) more_same (names fields)) (takes fields (sort.fields fields is))
    record_same more same named others one other more_same names takes _ is = refl

    sequence_same : (gathered others : Name → Bool) (one other : Ways) → gathered ≡ others
        → SameOn one other
        → SameOnThings (take_sequence gathered one) (take_sequence others other)
    sequence_same gathered others one other same ways_same d is =
        by_items (items d) (λ things. items_are d things is)
      where
        by_items : (o : Option (List Thing))
            → ((things : List Thing) → o ≡ Some things → AllOf sort.Of things)
            → take_items gathered one o ≡ take_items others other o
        by_items None are = refl
        by_items (Some things) are = ap₂
            (λ (g : Name → Bool) (w : List Way). option_map (captures_of g) (first_whole w))
            same (ways_same things (are things refl)).0

    present_same : (fields : thing.Fields) (label name : Name) (one other : Taking)
        → sort.OfFields fields → label ≡ name → SameOnThings one other
        → take_present one (at_label fields label) ≡ take_present other (at_label fields name)
    present_same fields label name one other are same takes =
        by_field (at_label fields label) (λ d. at_label_is fields label d are)
        ∙ ap (λ l. take_present other (at_label fields l)) same
      where
        by_field : (o : Option Thing) → ((d : Thing) → o ≡ Some d → sort.Of d)
            → take_present one o ≡ take_present other o
        by_field None is = refl
        by_field (Some d) is = takes d (is d refl)

    optional_same : (fields : thing.Fields) (label name : Name) (t : T) (u : U)
        → sort.OfFields fields → label ≡ name → Are t u
        → take_optional (one_test t) (at_label fields label)
        ≡ take_optional (other_test u) (at_label fields name)
    optional_same fields label name t u are same alike =
        by_field (at_label fields label) (λ d. at_label_is fields label d are)
        ∙ ap (λ l. take_optional (other_test u) (at_label fields l)) same
      where
        by_field : (o : Option Thing) → ((d : Thing) → o ≡ Some d → sort.Of d)
            → take_optional (one_test t) o ≡ take_optional (other_test u) o
        by_field None is = refl
        by_field (Some d) is = ap if_so (agree t u alike d (is d refl))

    item_same : (one other : Taking) → SameOnThings one other
        → SameOn (ways_of_item one) (ways_of_item other)
    item_same one other takes [] are = (refl, tt)
    item_same one other takes (d ∷ rest) are =
        (ap (ways_taking d rest) (takes d are.0), leaves (one d))
      where
        leaves : (o : Option (Captures Name)) → Leave (ways_taking d rest o)
        leaves None = tt
        leaves (Some captures) = (are.1, tt)

    names_same : (first : Fields T) (second : Fields U) → AlikeFields Are first second
        → (fields : thing.Fields) → all_named first fields ≡ all_named second fields
    names_same first second h thing.NoField = refl
    names_same first second h (thing.Field label d rest) =
        ap₂ (λ a b. a && b) (labels_alike Are first second h label) (names_same first second h rest)

    mutual
      pub takes_same : (first : Pattern T) (second : Pattern U) → Alike Are first second
          → SameOnThings (one_take first) (other_take second)
      takes_same (pattern.OfType t) (pattern.OfType u) h d is = ap if_so (agree t u h d is)
      takes_same (pattern.Bind one) (pattern.Bind other) h d is = ap (λ v. Some (just v d)) h
      takes_same (pattern.Default one constant) (pattern.Default other same) h d is =
          ap₂ (λ v c. Some (just v (thing_of c))) h.0 h.1
      takes_same (pattern.Pair p q) (pattern.Pair r s) h d is =
          pair_same (one_take p) (one_take q) (other_take r) (other_take s) (takes_same p r h.0)
          (takes_same q s h.1) d is
      takes_same (pattern.Xml p q r) (pattern.Xml s t u) h d is =
          xml_same (one_take p) (one_take q) (one_take r) (other_take s) (other_take t)
          (other_take u) (takes_same p s h.0) (takes_same q t h.1) (takes_same r u h.2) d is
      takes_same (pattern.Record fields more) (pattern.Record others same) h d is =
          record_same more same (all_named fields) (all_named others)
          (take_fields T one_test fields) (take_fields U other_test others) h.1 (names_same fields others h.0)
          (fields_same fields others h.0) d is
      takes_same (pattern.Both all) (pattern.Both others) h d is = all_same all others h d is
      takes_same (pattern.First all) (pattern.First others) h d is = first_same all others h d is
      takes_same (pattern.Sequence r) (pattern.Sequence s) h d is =
          sequence_same (is_gathered r) (is_gathered s) (ways T one_test r) (ways U other_test s)
          (λ i name. gathered_alike Are r s h name i) (ways_same r s h) d is
      takes_same _ _ h d is = absurd h

      all_same : (first : Patterns T) (second : Patterns U) → AlikeAll Are first second
          → SameOnThings (take_all T one_test first) (take_all U other_test second)
      all_same NoPattern NoPattern h d is = refl
      all_same (APattern one rest) (APattern other others) h d is =
          ap₂ both (takes_same one other h.0 d is) (all_same rest others h.1 d is)
      all_same _ _ h d is = absurd h

      first_same : (first : Patterns T) (second : Patterns U) → AlikeAll Are first second
          → SameOnThings (take_first T one_test first) (take_first U other_test second)
      first_same NoPattern NoPattern h d is = refl
      first_same (APattern one rest) (APattern other others) h d is =
          ap₂ or_else (takes_same one other h.0 d is) (first_same rest others h.1 d is)
      first_same _ _ h d is = absurd h

      fields_same : (first : Fields T) (second : Fields U) → AlikeFields Are first second
          → (fields : thing.Fields) → sort.OfFields fields
          → take_fields T one_test first fields ≡ take_fields U other_test second fields
      fields_same NoField NoField h fields are = refl
      fields_same (Present label one rest) (Present name other others) h fields are = ap₂ both
          (present_same fields label name (one_take one) (other_take other) are h.0
          (takes_same one other h.1)) (fields_same rest others h.2 fields are)
      fields_same (Optional label t rest) (Optional name u others) h fields are = ap₂ both
          (optional_same fields label name t u are h.0 h.1) (fields_same rest others h.2 fields are)
      fields_same _ _ h fields are = absurd h

      ways_same : (first : Regular T) (second : Regular U) → AlikeRegular Are first second
          → SameOn (ways T one_test first) (ways U other_test second)
      ways_same pattern.Nothing pattern.Nothing h things are = (refl, (are, tt))
      ways_same (pattern.Item one) (pattern.Item other) h things are =
          item_same (one_take one) (other_take other) (takes_same one other h) things are
      ways_same (pattern.Seq all) (pattern.Seq others) h things are =
          turn_same all others h things are
      ways_same (pattern.Alt all) (pattern.Alt others) h things are =
          one_same all others h things are
      ways_same (pattern.Repeat one how) (pattern.Repeat other same) h things are =
          let repeat = repeated_same how (ways T one_test one) (ways U other_test other)
          (ways_same one other h.0) things are in
          (repeat.0 ∙ ap (λ (p : Post). repeated p (ways U other_test other) things) h.1, repeat.1)
      ways_same (pattern.Capture name one) (pattern.Capture other it) h things are =
          let inner = ways_same one it h.1 things are in (
            ap₂ (λ (v : Name) (w : List Way). map (gathers v) w) h.0 inner.0,
            gathers_leave name (ways T one_test one things) inner.1,
          )
      ways_same _ _ h things are = absurd h

      turn_same : (first : Regulars T) (second : Regulars U) → AlikeRegulars Are first second
          → SameOn (ways_in_turn T one_test first) (ways_in_turn U other_test second)
      turn_same NoRegular NoRegular h things are = (refl, (are, tt))
      turn_same (ARegular one rest) (ARegular other others) h things are =
          let first = ways_same one other h.0 things are in
          let next = then_same (ways T one_test one things) (ways_in_turn T one_test rest)
          (ways_in_turn U other_test others) first.1 (turn_same rest others h.1) in (
            next.0 ∙ ap (λ (w : List Way). then_ w (ways_in_turn U other_test others)) first.0,
            next.1,
          )
      turn_same _ _ h things are = absurd h

      one_same : (first : Regulars T) (second : Regulars U) → AlikeRegulars Are first second
          → SameOn (ways_of_one T one_test first) (ways_of_one U other_test second)
      one_same NoRegular NoRegular h things are = (refl, tt)
      one_same (ARegular one rest) (ARegular other others) h things are =
          let first = ways_same one other h.0 things are in
          let next = one_same rest others h.1 things are in (
            ap₂ (λ (a b : List Way). a ++ b) first.0 next.0,
            append_leave (ways T one_test one things) (ways_of_one T one_test rest things) first.1
                next.1,
          )
      one_same _ _ h things are = absurd h
