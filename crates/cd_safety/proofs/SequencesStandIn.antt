-- Where elements stand in for values, so do the items of sequences, and sequences and texts that are made of them.
use Rattle.std.proofs.Common.{◌≡◌, ℕ, Bool, true, false, List, [], ◌∷◌, ◌++◌, map, Option, Some, None, option_map, refl, codes, bytes_eq, if◌then◌else◌}
use Rattle.cd_model.specs.Formula.{Graph}
use Rattle.cd_model.specs.Interfaces.{Interfaces}
use Rattle.cd_model.specs.Thing.{Thing, Character}
use Rattle.cd_matching.specs.Sequences.{sequence_of, items, text_of}
use Rattle.cd_evaluation.specs.Lists.{both_items, all_items, listed, with_character, characters_of}
use Rattle.cd_safety.specs.StandsIn as stand
use Rattle.cd_safety.specs.StandsIn.{StandsIn}
use Rattle.cd_safety.specs.OutcomesStandIn.{AllStandIn, ItemsStandIn, OutcomeStandsIn}

module _ (graph : Graph) (interfaces : Interfaces) where
  abbrev Stands : (v e : Thing) → Type 0
  Stands v e = StandsIn graph interfaces v e

  abbrev AllStand : (values elements : List Thing) → Type 0
  AllStand values elements = AllStandIn graph interfaces values elements

  abbrev ItemsStand : (values elements : Option (List Thing)) → Type 0
  ItemsStand values elements = ItemsStandIn graph interfaces values elements

  pub sequences_stand : (values elements : List Thing) → AllStand values elements → Stands (sequence_of values) (sequence_of elements)
  sequences_stand [] [] are = stand.atom (codes "nil")
  sequences_stand [] (e ∷ elements) are = absurd are
  sequences_stand (v ∷ values) [] are = absurd are
  sequences_stand (v ∷ values) (e ∷ elements) are =
      stand.pair v (sequence_of values) e (sequence_of elements) are.0 (sequences_stand values elements are.1)

  pub appended_stand : (values elements others those : List Thing) → AllStand values elements → AllStand others those
      → AllStand (values ++ others) (elements ++ those)
  appended_stand [] [] others those are more = more
  appended_stand [] (e ∷ elements) others those are more = absurd are
  appended_stand (v ∷ values) [] others those are more = absurd are
  appended_stand (v ∷ values) (e ∷ elements) others those are more = (are.0, appended_stand values elements others those are.1 more)

  pub characters_stand : (characters : List ℕ) → AllStand (map Character characters) (map Character characters)
  characters_stand [] = tt
  characters_stand (c ∷ rest) = (stand.character c, characters_stand rest)

  pub text_stands : (text : List ℕ) → Stands (text_of text) (text_of text)
  text_stands [] = stand.atom (codes "nil")
  text_stands (c ∷ text) = stand.pair (Character c) (text_of text) (Character c) (text_of text) (stand.character c) (text_stands text)

  nil_stands : (same : Bool) → ItemsStand (if same then Some [] else None) (if same then Some [] else None)
  nil_stands true = tt
  nil_stands false = tt

  one_more : (v e : Thing) (values elements : Option (List Thing)) → Stands v e → ItemsStand values elements
      → ItemsStand (option_map (λ rest. v ∷ rest) values) (option_map (λ rest. e ∷ rest) elements)
  one_more v e None None stands are = tt
  one_more v e None (Some elements) stands are = absurd are
  one_more v e (Some values) None stands are = absurd are
  one_more v e (Some values) (Some elements) stands are = (stands, are)

  pub items_stand : (v e : Thing) → Stands v e → ItemsStand (items v) (items e)
  items_stand _ _ (stand.integer n) = tt
  items_stand _ _ (stand.character c) = tt
  items_stand _ _ (stand.atom name) = nil_stands (bytes_eq name (codes "nil"))
  items_stand _ _ (stand.pair v w d e first second) = one_more v d (items w) (items e) first (items_stand w e second)
  items_stand _ _ (stand.xml tag attributes content d e last one other more) = tt
  items_stand _ _ (stand.of_fields fields others stands) = tt
  items_stand _ _ (stand.closure function environment pairs agrees) = tt

  both_stand : (one other those these : Option (List Thing)) → ItemsStand one those → ItemsStand other these
      → ItemsStand (both_items one other) (both_items those these)
  both_stand None other None these first second = tt
  both_stand None other (Some elements) these first second = absurd first
  both_stand (Some values) other None these first second = absurd first
  both_stand (Some values) None (Some elements) None first second = tt
  both_stand (Some values) None (Some elements) (Some last) first second = absurd second
  both_stand (Some values) (Some others) (Some elements) None first second = absurd second
  both_stand (Some values) (Some others) (Some elements) (Some last) first second = appended_stand values elements others last first second

  all_items_stand : (values elements : List Thing) → AllStand values elements → ItemsStand (all_items values) (all_items elements)
  all_items_stand [] [] are = tt
  all_items_stand [] (e ∷ elements) are = absurd are
  all_items_stand (v ∷ values) [] are = absurd are
  all_items_stand (v ∷ values) (e ∷ elements) are =
      both_stand (items v) (all_items values) (items e) (all_items elements) (items_stand v e are.0) (all_items_stand values elements are.1)

  listed_stands : (values elements : Option (List Thing)) → ItemsStand values elements
      → OutcomeStandsIn graph interfaces (listed values) (listed elements)
  listed_stands None None are = tt
  listed_stands None (Some elements) are = absurd are
  listed_stands (Some values) None are = absurd are
  listed_stands (Some values) (Some elements) are = sequences_stand values elements are

  pub joined_stands : (v w d e : Thing) → Stands v d → Stands w e
      → OutcomeStandsIn graph interfaces (listed (both_items (items v) (items w))) (listed (both_items (items d) (items e)))
  joined_stands v w d e first second = listed_stands (both_items (items v) (items w)) (both_items (items d) (items e))
      (both_stand (items v) (items w) (items d) (items e) (items_stand v d first) (items_stand w e second))

  pub all_joined_stands : (values elements : List Thing) → AllStand values elements
      → OutcomeStandsIn graph interfaces (listed (all_items values)) (listed (all_items elements))
  all_joined_stands values elements are =
      listed_stands (all_items values) (all_items elements) (all_items_stand values elements are)

  -- a text and what stands in for it have the same characters
  with_character_same : (v e : Thing) (text : Option (List ℕ)) → Stands v e → with_character v text ≡ with_character e text
  with_character_same _ _ text (stand.integer n) = refl
  with_character_same _ _ text (stand.character c) = refl
  with_character_same _ _ text (stand.atom name) = refl
  with_character_same _ _ text (stand.pair v w d e first second) = refl
  with_character_same _ _ text (stand.xml tag attributes content d e last one other more) = refl
  with_character_same _ _ text (stand.of_fields fields others stands) = refl
  with_character_same _ _ text (stand.closure function environment pairs agrees) = refl

  pub characters_same : (v e : Thing) → Stands v e → characters_of v ≡ characters_of e
  characters_same _ _ (stand.integer n) = refl
  characters_same _ _ (stand.character c) = refl
  characters_same _ _ (stand.atom name) = refl
  characters_same _ _ (stand.pair v w d e first second) =
      rw (characters_same w e second) (with_character_same v d (characters_of e) first)
  characters_same _ _ (stand.xml tag attributes content d e last one other more) = refl
  characters_same _ _ (stand.of_fields fields others stands) = refl
  characters_same _ _ (stand.closure function environment pairs agrees) = refl
