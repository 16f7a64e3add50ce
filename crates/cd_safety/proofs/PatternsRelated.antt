-- Patterns that are alike take related things with related captures, or fail at both, where their tests say the same of related things.
use Rattle.std.proofs.Common.{◌≡◌, ℕ, zero, suc, Bool, true, false, ◌||◌, ◌&&◌, List, [], ◌∷◌, ◌++◌, map, length, Option, Some, None}
use Rattle.std.proofs.Common.{option_map, refl, ap, ap₂, subst, bytes_eq, codes, if◌then◌else◌}
use Rattle.cd_syntax.specs.Name.{Name}
use Rattle.cd_syntax.specs.declared.constant.Constant.{Constant}
use Rattle.cd_syntax.specs.declared.type_tree.Post.{Post}
use Rattle.cd_syntax.specs.declared.type_tree.Post.TheVariants as post
use Rattle.cd_model.specs.Thing as thing
use Rattle.cd_model.specs.Thing.{Thing}
use Rattle.cd_matching.specs.Captures.{Captures, or_else, just, joined, both, if_so, nothing}
use Rattle.cd_matching.specs.Pattern as pattern
use Rattle.cd_matching.specs.Pattern.{Pattern, Patterns, NoPattern, APattern, Fields, NoField, Present, Optional, Regular, Regulars}
use Rattle.cd_matching.specs.Pattern.{NoRegular, ARegular}
use Rattle.cd_matching.specs.PatternsAlike.{Alike, AlikeAll, AlikeFields, AlikeRegular, AlikeRegulars}
use Rattle.cd_matching.specs.Sequences.{sequence_of, items, thing_of}
use Rattle.cd_matching.specs.Take.{Taking, at_label, all_named, take_pair, take_xml, take_record, take_present, take_optional, captures_of}
use Rattle.cd_matching.specs.Take.{take_items}
use Rattle.cd_matching.specs.Take.{take_sequence, ways_taking, ways_of_item, take, take_all, take_first, take_fields, ways, ways_in_turn}
use Rattle.cd_matching.specs.Take.{ways_of_one}
use Rattle.cd_matching.specs.Variables.{is_gathered}
use Rattle.cd_matching.specs.Ways.{Way, Ways, still, followed, gathers, then_, if_taken, that_take, in_order, turns, star, repeated}
use Rattle.cd_matching.specs.Ways.{if_whole, first_whole}
use Rattle.cd_matching.proofs.VariablesAlike.{gathered_alike, labels_alike}
use Rattle.cd_safety.specs.PatternConstants.{EachConstant, EachOfAll, EachOfFields, EachOfRegular, EachOfRegulars}
use Rattle.cd_safety.specs.PatternResults.{AreBoth, CapturesRelated, ResultsRelated}
use Rattle.cd_safety.proofs.PatternRelations as parts
use Rattle.cd_safety.proofs.PatternRelations.{FieldsRelated, PartsRelated, Relation}

-- lists whose members are related one by one
abbrev Pairwise : {X Y : Type 0} → (X → Y → Type 0) → List X → List Y → Type 0
Pairwise Are [] [] = Unit {0}
Pairwise Are (x ∷ xs) (y ∷ ys) = Are x y × Pairwise Are xs ys
Pairwise Are xs ys = ⊥

module _ {X Y : Type 0} (Are : X → Y → Type 0) where
  append_related : (xs xs' : List X) (ys ys' : List Y) → Pairwise Are xs ys → Pairwise Are xs' ys' → Pairwise Are (xs ++ xs') (ys ++ ys')
  append_related [] xs' [] ys' one other = other
  append_related (x ∷ xs) xs' (y ∷ ys) ys' one other = (one.0, append_related xs xs' ys ys' one.1 other)
  append_related [] xs' (y ∷ ys) ys' one other = absurd one
  append_related (x ∷ xs) xs' [] ys' one other = absurd one

  same_length : (xs : List X) (ys : List Y) → Pairwise Are xs ys → length xs ≡ length ys
  same_length [] [] are = refl
  same_length (x ∷ xs) (y ∷ ys) are = ap suc (same_length xs ys are.1)
  same_length [] (y ∷ ys) are = absurd are
  same_length (x ∷ xs) [] are = absurd are

  or_else_related : (one one' : Option X) (other other' : Option Y) → AreBoth Are one other → AreBoth Are one' other'
      → AreBoth Are (or_else one one') (or_else other other')
  or_else_related None one' None other' first second = second
  or_else_related (Some x) one' (Some y) other' first second = first
  or_else_related None one' (Some y) other' first second = absurd first
  or_else_related (Some x) one' None other' first second = absurd first

  if_related : (a b : Bool) (one : Option X) (other : Option Y) → a ≡ b → AreBoth Are one other
      → AreBoth Are (if a then one else None) (if b then other else None)
  if_related a b one other same are = subst (λ c. AreBoth Are (if a then one else None) (if c then other else None)) same (by_test a)
    where
      by_test : (c : Bool) → AreBoth Are (if c then one else None) (if c then other else None)
      by_test true = are
      by_test false = tt

  either_related : (c : Bool) (one one' : Option X) (other other' : Option Y) → AreBoth Are one other → AreBoth Are one' other'
      → AreBoth Are (if c then one else one') (if c then other else other')
  either_related true one one' other other' first second = first
  either_related false one one' other other' first second = second

mapped_related : {X Y X' Y' : Type 0} (Are : X → Y → Type 0) (Become : X' → Y' → Type 0) (f : X → X') (g : Y → Y')
    → ((x : X) (y : Y) → Are x y → Become (f x) (g y)) → (xs : List X) (ys : List Y) → Pairwise Are xs ys
    → Pairwise Become (map f xs) (map g ys)
mapped_related Are Become f g on [] [] are = tt
mapped_related Are Become f g on (x ∷ xs) (y ∷ ys) are = (on x y are.0, mapped_related Are Become f g on xs ys are.1)
mapped_related Are Become f g on [] (y ∷ ys) are = absurd are
mapped_related Are Become f g on (x ∷ xs) [] are = absurd are

option_related : {X Y X' Y' : Type 0} (Are : X → Y → Type 0) (Become : X' → Y' → Type 0) (f : X → X') (g : Y → Y')
    → ((x : X) (y : Y) → Are x y → Become (f x) (g y)) → (one : Option X) (other : Option Y) → AreBoth Are one other
    → AreBoth Become (option_map f one) (option_map g other)
option_related Are Become f g on None None are = tt
option_related Are Become f g on (Some x) (Some y) are = on x y are
option_related Are Become f g on None (Some y) are = absurd are
option_related Are Become f g on (Some x) None are = absurd are

module _ (related : Relation) where
  abbrev Are : Thing → Thing → Type 0
  Are = related.Are

  abbrev Things : List Thing → List Thing → Type 0
  Things = Pairwise Are

  abbrev Captured : Captures Name → Captures Name → Type 0
  Captured = CapturesRelated Are

  abbrev Results : Option (Captures Name) → Option (Captures Name) → Type 0
  Results = ResultsRelated Are

  abbrev OnRelated : (one other : Taking) → Type 0
  OnRelated one other = (v e : Thing) → Are v e → Results (one v) (other e)

  nothing_related : Captured nothing nothing
  nothing_related name = tt

  joined_related : (a b c d : Captures Name) → Captured a c → Captured b d → Captured (joined a b) (joined c d)
  joined_related a b c d first second name = or_else_related Are (a name) (b name) (c name) (d name) (first name) (second name)

  both_related : (a b c d : Option (Captures Name)) → Results a c → Results b d → Results (both a b) (both c d)
  both_related (Some a) (Some b) (Some c) (Some d) first second = joined_related a b c d first second
  both_related (Some a) (Some b) (Some c) None first second = absurd second
  both_related (Some a) None (Some c) (Some d) first second = absurd second
  both_related (Some a) None (Some c) None first second = tt
  both_related (Some a) b None d first second = absurd first
  both_related None b (Some c) d first second = absurd first
  both_related None b None d first second = tt

  tests_related : (a b : Bool) → a ≡ b → Results (if_so a) (if_so b)
  tests_related a b same = subst (λ c. Results (if_so a) (if_so c)) same (by_test a)
    where
      by_test : (c : Bool) → Results (if_so c) (if_so c)
      by_test true = nothing_related
      by_test false = tt

  just_related : (variable other : Name) (v e : Thing) → variable ≡ other → Are v e → Captured (just variable v) (just other e)
  just_related variable other v e same are =
      subst (λ own. Captured (just variable v) (just own e)) same
      (λ name. either_related Are (bytes_eq variable name) (Some v) None (Some e) None are tt)

  pair_related : (p q r s : Taking) → OnRelated p r → OnRelated q s → (v e : Thing) → PartsRelated Are v e
      → Results (take_pair p q v) (take_pair r s e)
  pair_related p q r s first second _ _ (parts.pair v w d e one other) =
      both_related (p v) (q w) (r d) (s e) (first v d one) (second w e other)
  pair_related p q r s first second _ _ _ = tt

  xml_related : (p q r s t u : Taking) → OnRelated p s → OnRelated q t → OnRelated r u → (v e : Thing) → PartsRelated Are v e
      → Results (take_xml p q r v) (take_xml s t u e)
  xml_related p q r s t u first second third _ _ (parts.xml tag attributes content d e last one other more) =
      both_related (p tag) (both (q attributes) (r content)) (s d) (both (t e) (u last)) (first tag d one)
      (both_related (q attributes) (r content) (t e) (u last) (second attributes e other) (third content last more))
  xml_related p q r s t u first second third _ _ _ = tt

  at_label_related : (fields others : thing.Fields) → FieldsRelated Are fields others → (label : Name)
      → AreBoth Are (at_label fields label) (at_label others label)
  at_label_related _ _ parts.no_field = λ label. tt
  at_label_related _ _ (parts.field name v e rest others are more) = λ label. either_related Are (bytes_eq name label)
      (Some v) (at_label rest label) (Some e) (at_label others label) are (at_label_related rest others more label)

  record_related : (more same : Bool) (named others : thing.Fields → Bool) (one other : thing.Fields → Option (Captures Name))
      → more ≡ same
      → ((fields fields' : thing.Fields) → FieldsRelated Are fields fields' → named fields ≡ others fields')
      → ((fields fields' : thing.Fields) → FieldsRelated Are fields fields' → Results (one fields) (other fields'))
      → (v e : Thing) → PartsRelated Are v e → Results (take_record more named one v) (take_record same others other e)
  record_related more same named others one other more_same names takes _ _ (parts.of_fields fields fields' are) =
      if_related Captured (more || named fields) (same || others fields') (one fields) (other fields')
      (ap₂ (λ a b. a || b) more_same (names fields fields' are)) (takes fields fields' are)
  record_related more same named others one other more_same names takes _ _ _ = tt

  -- what is known of the second part of a pair
  abbrev Seconds : Thing → Type 0
  Seconds (thing.Pair v w) = (e : Thing) → Are w e → AreBoth Things (items w) (items e)
  Seconds _ = Unit {0}

  items_by_parts : (v e : Thing) → PartsRelated Are v e → Seconds v → AreBoth Things (items v) (items e)
  items_by_parts _ _ (parts.atom name) = λ on. by_test (bytes_eq name (codes "nil"))
    where
      by_test : (c : Bool) → AreBoth Things (if c then Some [] else None) (if c then Some [] else None)
      by_test true = tt
      by_test false = tt
  items_by_parts _ _ (parts.pair v w d e one other) = λ on. option_related Things Things (λ rest. v ∷ rest) (λ rest. d ∷ rest)
      (λ rest others are. (one, are)) (items w) (items e) (on e other)
  items_by_parts _ _ _ = λ on. tt

  items_related : (v e : Thing) → Are v e → AreBoth Things (items v) (items e)
  items_related (thing.Integer n) e are = items_by_parts (thing.Integer n) e (related.parts (thing.Integer n) e are) tt
  items_related (thing.Character c) e are = items_by_parts (thing.Character c) e (related.parts (thing.Character c) e are) tt
  items_related (thing.Atom name) e are = items_by_parts (thing.Atom name) e (related.parts (thing.Atom name) e are) tt
  items_related (thing.Pair v w) e are =
      items_by_parts (thing.Pair v w) e (related.parts (thing.Pair v w) e are) (λ x next. items_related w x next)
  items_related (thing.Xml u v w) e are = items_by_parts (thing.Xml u v w) e (related.parts (thing.Xml u v w) e are) tt
  items_related (thing.Record fields) e are = items_by_parts (thing.Record fields) e (related.parts (thing.Record fields) e are) tt
  items_related (thing.Function pairs) e are = items_by_parts (thing.Function pairs) e (related.parts (thing.Function pairs) e are) tt
  items_related (thing.Closure n env) e are = items_by_parts (thing.Closure n env) e (related.parts (thing.Closure n env) e are) tt

  -- ways that take and leave related things
  record WayRelated (way other : Way) : Type 0 where
    taken : Things way.taken other.taken
    rest : Things way.rest other.rest
    plain : Captured way.plain other.plain
    gathered : (name : Name) → Things (way.gathered name) (other.gathered name)

  abbrev WaysRelated : List Way → List Way → Type 0
  WaysRelated = Pairwise WayRelated

  abbrev SameWays : (one other : Ways) → Type 0
  SameWays one other = (things others : List Thing) → Things things others → WaysRelated (one things) (other others)

  still_related : (things others : List Thing) → Things things others → WayRelated (still things) (still others)
  still_related things others are = record { taken = tt; rest = are; plain = nothing_related; gathered = λ name. tt }

  followed_related : (way other next next' : Way) → WayRelated way other → WayRelated next next'
      → WayRelated (followed way next) (followed other next')
  followed_related way other next next' one more = record {
    taken = append_related Are way.taken next.taken other.taken next'.taken one.taken more.taken;
    rest = more.rest;
    plain = joined_related way.plain next.plain other.plain next'.plain one.plain more.plain;
    gathered = λ name. append_related Are (way.gathered name) (next.gathered name) (other.gathered name) (next'.gathered name)
        (one.gathered name) (more.gathered name);
  }

  gathers_related : (variable : Name) (way other : Way) → WayRelated way other → WayRelated (gathers variable way) (gathers variable other)
  gathers_related variable way other are = record {
    taken = are.taken;
    rest = are.rest;
    plain = are.plain;
    gathered = λ name. by_test name (bytes_eq variable name);
  }
    where
      by_test : (name : Name) (c : Bool) → Things (if c then way.gathered name ++ way.taken else way.gathered name)
          (if c then other.gathered name ++ other.taken else other.gathered name)
      by_test name true = append_related Are (way.gathered name) way.taken (other.gathered name) other.taken (are.gathered name) are.taken
      by_test name false = are.gathered name

  then_related : (ways others : List Way) (one other : Ways) → WaysRelated ways others → SameWays one other
      → WaysRelated (then_ ways one) (then_ others other)
  then_related [] [] one other are same = tt
  then_related (way ∷ ways) (way' ∷ others) one other are same =
      append_related WayRelated (map (followed way) (one way.rest)) (then_ ways one) (map (followed way') (other way'.rest))
      (then_ others other)
      (mapped_related WayRelated WayRelated (followed way) (followed way') (λ next next' more. followed_related way way' next next' are.0 more)
      (one way.rest) (other way'.rest) (same way.rest way'.rest are.0.rest))
      (then_related ways others one other are.1 same)
  then_related [] (way ∷ others) one other are same = absurd are
  then_related (way ∷ ways) [] one other are same = absurd are

  taken_related : (way way' : Way) (taken taken' : List Thing) (ways others : List Way) → WayRelated way way' → Things taken taken'
      → WaysRelated ways others → WaysRelated (if_taken way taken ways) (if_taken way' taken' others)
  taken_related way way' [] [] ways others one are rest = rest
  taken_related way way' (d ∷ taken) (e ∷ taken') ways others one are rest = (one, rest)
  taken_related way way' [] (e ∷ taken') ways others one are rest = absurd are
  taken_related way way' (d ∷ taken) [] ways others one are rest = absurd are

  that_take_related : (ways others : List Way) → WaysRelated ways others → WaysRelated (that_take ways) (that_take others)
  that_take_related [] [] are = tt
  that_take_related (way ∷ ways) (way' ∷ others) are = taken_related way way' way.taken way'.taken (that_take ways) (that_take others)
      are.0 are.0.taken (that_take_related ways others are.1)
  that_take_related [] (way ∷ others) are = absurd are
  that_take_related (way ∷ ways) [] are = absurd are

  order_related : (lazy : Bool) (none none' : Way) (ways others : List Way) → WayRelated none none' → WaysRelated ways others
      → WaysRelated (in_order lazy none ways) (in_order lazy none' others)
  order_related true none none' ways others one are = (one, are)
  order_related false none none' ways others one are = append_related WayRelated ways (none ∷ []) others (none' ∷ []) are (one, tt)

  turns_related : (lazy : Bool) (count : ℕ) (one other : Ways) → SameWays one other → SameWays (turns lazy count one) (turns lazy count other)
  turns_related lazy zero one other same things others are = (still_related things others are, tt)
  turns_related lazy (suc count) one other same things others are =
      order_related lazy (still things) (still others) (then_ (that_take (one things)) (turns lazy count one))
      (then_ (that_take (other others)) (turns lazy count other)) (still_related things others are)
      (then_related (that_take (one things)) (that_take (other others)) (turns lazy count one) (turns lazy count other)
      (that_take_related (one things) (other others) (same things others are)) (turns_related lazy count one other same))

  star_related : (lazy : Bool) (one other : Ways) → SameWays one other → SameWays (star lazy one) (star lazy other)
  star_related lazy one other same things others are =
      subst (λ count. WaysRelated (star lazy one things) (turns lazy count other others)) (same_length Are things others are)
      (turns_related lazy (length things) one other same things others are)

  repeated_related : (how : Post) (one other : Ways) → SameWays one other → SameWays (repeated how one) (repeated how other)
  repeated_related post.Star one other same things others are = star_related false one other same things others are
  repeated_related post.LazyStar one other same things others are = star_related true one other same things others are
  repeated_related post.Plus one other same things others are = then_related (one things) (other others) (star false one) (star false other)
      (same things others are) (star_related false one other same)
  repeated_related post.LazyPlus one other same things others are = then_related (one things) (other others) (star true one) (star true other)
      (same things others are) (star_related true one other same)
  repeated_related post.Opt one other same things others are = order_related false (still things) (still others) (one things) (other others)
      (still_related things others are) (same things others are)
  repeated_related post.LazyOpt one other same things others are = order_related true (still things) (still others) (one things)
      (other others) (still_related things others are) (same things others are)

  whole_related : (ways others : List Way) → WaysRelated ways others → AreBoth WayRelated (first_whole ways) (first_whole others)
  whole_related [] [] are = tt
  whole_related (way ∷ ways) (way' ∷ others) are = by_rest way.rest way'.rest are.0.rest (whole_related ways others are.1)
    where
      by_rest : (rest rest' : List Thing) → Things rest rest' → AreBoth WayRelated (first_whole ways) (first_whole others)
          → AreBoth WayRelated (if_whole way rest (first_whole ways)) (if_whole way' rest' (first_whole others))
      by_rest [] [] left later = are.0
      by_rest (d ∷ rest) (e ∷ rest') left later = later
      by_rest [] (e ∷ rest') left later = absurd left
      by_rest (d ∷ rest) [] left later = absurd left
  whole_related [] (way ∷ others) are = absurd are
  whole_related (way ∷ ways) [] are = absurd are

  gathered_related : (things others : List Thing) → Things things others → Are (sequence_of things) (sequence_of others)
  gathered_related [] [] are = related.nil
  gathered_related (d ∷ things) (e ∷ others) are =
      related.pair d (sequence_of things) e (sequence_of others) are.0 (gathered_related things others are.1)
  gathered_related [] (e ∷ others) are = absurd are
  gathered_related (d ∷ things) [] are = absurd are

  captures_related : (gathered others : Name → Bool) → ((name : Name) → gathered name ≡ others name) → (way way' : Way)
      → WayRelated way way' → Captured (captures_of gathered way) (captures_of others way')
  captures_related gathered others same way way' are name =
      subst (λ c. AreBoth Are (captures_of gathered way name) (if c then Some (sequence_of (way'.gathered name)) else way'.plain name))
      (same name)
      (either_related Are (gathered name) (Some (sequence_of (way.gathered name))) (way.plain name)
      (Some (sequence_of (way'.gathered name))) (way'.plain name)
      (gathered_related (way.gathered name) (way'.gathered name) (are.gathered name)) (are.plain name))

  sequence_related : (gathered others : Name → Bool) → ((name : Name) → gathered name ≡ others name) → (one other : Ways)
      → SameWays one other → OnRelated (take_sequence gathered one) (take_sequence others other)
  sequence_related gathered others same one other ways_same v e are = by_items (items v) (items e) (items_related v e are)
    where
      by_items : (o : Option (List Thing)) (o' : Option (List Thing)) → AreBoth Things o o'
          → Results (take_items gathered one o) (take_items others other o')
      by_items None None all = tt
      by_items (Some things) (Some things') all = option_related WayRelated Captured (captures_of gathered) (captures_of others)
          (captures_related gathered others same) (first_whole (one things)) (first_whole (other things'))
          (whole_related (one things) (other things') (ways_same things things' all))
      by_items None (Some things) all = absurd all
      by_items (Some things) None all = absurd all

  item_related : (one other : Taking) → OnRelated one other → SameWays (ways_of_item one) (ways_of_item other)
  item_related one other takes [] [] are = tt
  item_related one other takes (d ∷ rest) (e ∷ others) are = by_result (one d) (other e) (takes d e are.0)
    where
      by_result : (o o' : Option (Captures Name)) → Results o o' → WaysRelated (ways_taking d rest o) (ways_taking e others o')
      by_result None None result = tt
      by_result (Some captures) (Some captures') result =
          (record { taken = (are.0, tt); rest = are.1; plain = result; gathered = λ name. tt }, tt)
      by_result None (Some captures) result = absurd result
      by_result (Some captures) None result = absurd result
  item_related one other takes [] (e ∷ others) are = absurd are
  item_related one other takes (d ∷ rest) [] are = absurd are

  present_related : (fields fields' : thing.Fields) (label name : Name) (one other : Taking) → FieldsRelated Are fields fields'
      → label ≡ name → OnRelated one other
      → Results (take_present one (at_label fields label)) (take_present other (at_label fields' name))
  present_related fields fields' label name one other are same takes =
      subst (λ l. Results (take_present one (at_label fields label)) (take_present other (at_label fields' l))) same
      (by_field (at_label fields label) (at_label fields' label) (at_label_related fields fields' are label))
    where
      by_field : (o o' : Option Thing) → AreBoth Are o o' → Results (take_present one o) (take_present other o')
      by_field None None found = tt
      by_field (Some v) (Some e) found = takes v e found
      by_field None (Some e) found = absurd found
      by_field (Some v) None found = absurd found

  optional_related : (fields fields' : thing.Fields) (label name : Name) (test test' : Thing → Bool) → FieldsRelated Are fields fields'
      → label ≡ name → ((v e : Thing) → Are v e → test v ≡ test' e)
      → Results (take_optional test (at_label fields label)) (take_optional test' (at_label fields' name))
  optional_related fields fields' label name test test' are same agree =
      subst (λ l. Results (take_optional test (at_label fields label)) (take_optional test' (at_label fields' l))) same
      (by_field (at_label fields label) (at_label fields' label) (at_label_related fields fields' are label))
    where
      by_field : (o o' : Option Thing) → AreBoth Are o o' → Results (take_optional test o) (take_optional test' o')
      by_field None None found = nothing_related
      by_field (Some v) (Some e) found = tests_related (test v) (test' e) (agree v e found)
      by_field None (Some e) found = absurd found
      by_field (Some v) None found = absurd found

  module _ {T U : Type 0} (one_test : T → Thing → Bool) (other_test : U → Thing → Bool) (Same : T → U → Type 0)
      (agree : (t : T) (u : U) → Same t u → (v e : Thing) → Are v e → one_test t v ≡ other_test u e)
      (Good : Constant → Type 0) (constants : (constant : Constant) → Good constant → Are (thing_of constant) (thing_of constant)) where
    names_related : (first : Fields T) (second : Fields U) → AlikeFields Same first second → (fields fields' : thing.Fields)
        → FieldsRelated Are fields fields' → all_named first fields ≡ all_named second fields'
    names_related first second h _ _ parts.no_field = refl
    names_related first second h _ _ (parts.field label v e rest others are more) =
        ap₂ (λ a b. a && b) (labels_alike Same first second h label) (names_related first second h rest others more)

    mutual
      pub takes_related : (first : Pattern T) (second : Pattern U) → Alike Same first second → EachConstant Good first
          → OnRelated (take T one_test first) (take U other_test second)
      takes_related (pattern.OfType t) (pattern.OfType u) h good v e are = tests_related (one_test t v) (other_test u e) (agree t u h v e are)
      takes_related (pattern.Bind one) (pattern.Bind other) h good v e are = just_related one other v e h are
      takes_related (pattern.Default one constant) (pattern.Default other same) h good v e are =
          just_related one other (thing_of constant) (thing_of same) h.0
          (subst (λ c. Are (thing_of constant) (thing_of c)) h.1 (constants constant good))
      takes_related (pattern.Pair p q) (pattern.Pair r s) h good v e are =
          pair_related (take T one_test p) (take T one_test q) (take U other_test r) (take U other_test s)
          (takes_related p r h.0 good.0) (takes_related q s h.1 good.1) v e (related.parts v e are)
      takes_related (pattern.Xml p q r) (pattern.Xml s t u) h good v e are =
          xml_related (take T one_test p) (take T one_test q) (take T one_test r) (take U other_test s) (take U other_test t)
          (take U other_test u) (takes_related p s h.0 good.0) (takes_related q t h.1 good.1) (takes_related r u h.2 good.2)
          v e (related.parts v e are)
      takes_related (pattern.Record fields more) (pattern.Record others same) h good v e are =
          record_related more same (all_named fields) (all_named others) (take_fields T one_test fields) (take_fields U other_test others)
          h.1 (names_related fields others h.0) (fields_related fields others h.0 good) v e (related.parts v e are)
      takes_related (pattern.Both all) (pattern.Both others) h good v e are = all_related all others h good v e are
      takes_related (pattern.First all) (pattern.First others) h good v e are = first_related all others h good v e are
      takes_related (pattern.Sequence r) (pattern.Sequence s) h good v e are =
          sequence_related (is_gathered r) (is_gathered s) (gathered_alike Same r s h) (ways T one_test r) (ways U other_test s)
          (ways_related r s h good) v e are
      takes_related _ _ h good v e are = absurd h

      all_related : (first : Patterns T) (second : Patterns U) → AlikeAll Same first second → EachOfAll Good first
          → OnRelated (take_all T one_test first) (take_all U other_test second)
      all_related NoPattern NoPattern h good v e are = nothing_related
      all_related (APattern one rest) (APattern other others) h good v e are =
          both_related (take T one_test one v) (take_all T one_test rest v) (take U other_test other e) (take_all U other_test others e)
          (takes_related one other h.0 good.0 v e are) (all_related rest others h.1 good.1 v e are)
      all_related _ _ h good v e are = absurd h

      first_related : (first : Patterns T) (second : Patterns U) → AlikeAll Same first second → EachOfAll Good first
          → OnRelated (take_first T one_test first) (take_first U other_test second)
      first_related NoPattern NoPattern h good v e are = tt
      first_related (APattern one rest) (APattern other others) h good v e are =
          or_else_related Captured (take T one_test one v) (take_first T one_test rest v) (take U other_test other e)
          (take_first U other_test others e) (takes_related one other h.0 good.0 v e are) (first_related rest others h.1 good.1 v e are)
      first_related _ _ h good v e are = absurd h

      fields_related : (first : Fields T) (second : Fields U) → AlikeFields Same first second → EachOfFields Good first
          → (fields fields' : thing.Fields) → FieldsRelated Are fields fields'
          → Results (take_fields T one_test first fields) (take_fields U other_test second fields')
      fields_related NoField NoField h good fields fields' are = nothing_related
      fields_related (Present label one rest) (Present name other others) h good fields fields' are =
          both_related (take_present (take T one_test one) (at_label fields label)) (take_fields T one_test rest fields)
          (take_present (take U other_test other) (at_label fields' name)) (take_fields U other_test others fields')
          (present_related fields fields' label name (take T one_test one) (take U other_test other) are h.0
          (takes_related one other h.1 good.0)) (fields_related rest others h.2 good.1 fields fields' are)
      fields_related (Optional label t rest) (Optional name u others) h good fields fields' are =
          both_related (take_optional (one_test t) (at_label fields label)) (take_fields T one_test rest fields)
          (take_optional (other_test u) (at_label fields' name)) (take_fields U other_test others fields')
          (optional_related fields fields' label name (one_test t) (other_test u) are h.0 (agree t u h.1))
          (fields_related rest others h.2 good fields fields' are)
      fields_related _ _ h good fields fields' are = absurd h

      ways_related : (first : Regular T) (second : Regular U) → AlikeRegular Same first second → EachOfRegular Good first
          → SameWays (ways T one_test first) (ways U other_test second)
      ways_related pattern.Nothing pattern.Nothing h good things others are = (still_related things others are, tt)
      ways_related (pattern.Item one) (pattern.Item other) h good things others are =
          item_related (take T one_test one) (take U other_test other) (takes_related one other h good) things others are
      ways_related (pattern.Seq all) (pattern.Seq all') h good things others are = turn_related all all' h good things others are
      ways_related (pattern.Alt all) (pattern.Alt all') h good things others are = one_related all all' h good things others are
      ways_related (pattern.Repeat one how) (pattern.Repeat other same) h good things others are =
          subst (λ p. WaysRelated (repeated how (ways T one_test one) things) (repeated p (ways U other_test other) others)) h.1
          (repeated_related how (ways T one_test one) (ways U other_test other) (ways_related one other h.0 good) things others are)
      ways_related (pattern.Capture name one) (pattern.Capture other it) h good things others are =
          subst (λ own. WaysRelated (map (gathers name) (ways T one_test one things)) (map (gathers own) (ways U other_test it others))) h.0
          (mapped_related WayRelated WayRelated (gathers name) (gathers name) (gathers_related name)
          (ways T one_test one things) (ways U other_test it others) (ways_related one it h.1 good things others are))
      ways_related _ _ h good things others are = absurd h

      turn_related : (first : Regulars T) (second : Regulars U) → AlikeRegulars Same first second → EachOfRegulars Good first
          → SameWays (ways_in_turn T one_test first) (ways_in_turn U other_test second)
      turn_related NoRegular NoRegular h good things others are = (still_related things others are, tt)
      turn_related (ARegular one rest) (ARegular other rest') h good things others are =
          then_related (ways T one_test one things) (ways U other_test other others) (ways_in_turn T one_test rest)
          (ways_in_turn U other_test rest') (ways_related one other h.0 good.0 things others are) (turn_related rest rest' h.1 good.1)
      turn_related _ _ h good things others are = absurd h

      one_related : (first : Regulars T) (second : Regulars U) → AlikeRegulars Same first second → EachOfRegulars Good first
          → SameWays (ways_of_one T one_test first) (ways_of_one U other_test second)
      one_related NoRegular NoRegular h good things others are = tt
      one_related (ARegular one rest) (ARegular other rest') h good things others are =
          append_related WayRelated (ways T one_test one things) (ways_of_one T one_test rest things) (ways U other_test other others)
          (ways_of_one U other_test rest' others) (ways_related one other h.0 good.0 things others are)
          (one_related rest rest' h.1 good.1 things others are)
      one_related _ _ h good things others are = absurd h
