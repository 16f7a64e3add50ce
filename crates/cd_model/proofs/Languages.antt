-- What a language answers where something is known of each thing: not both true and false, one of both, or alike.
use Rattle.std.proofs.Common.{◌≡◌, ◌⊎◌, ◌↔◌, inl, inr, ℕ, zero, suc, Bool, true, false, List, [], ◌∷◌, length, refl, ap, sym, subst}
use Rattle.std.proofs.lemmas.Bool.{true≢false}
use Rattle.cd_model.specs.Language.{Language, both, some, none, nothing, item, either, followed, turns, star, plus, optional}
use Rattle.cd_model.proofs.Logic.{both_apart, both_or, one_or}
use Rattle.cd_model.proofs.BothWays.{itself, both_agree, one_agrees}

-- a fact of each of some things
abbrev pub EachThing : {X : Type 1} → (X → Type 0) → List X → Type 0
EachThing fact [] = Unit {0}
EachThing fact (one ∷ rest) = fact one × EachThing fact rest

-- the things of two lists are alike one by one
abbrev pub InTurn : {X Y : Type 1} → (X → Y → Type 0) → List X → List Y → Type 0
InTurn Alike [] [] = Unit {0}
InTurn Alike [] (other ∷ others) = ⊥
InTurn Alike (one ∷ rest) [] = ⊥
InTurn Alike (one ∷ rest) (other ∷ others) = Alike one other × InTurn Alike rest others

module _ {X : Type 1} (fact : X → Type 0) where
  -- where each thing has the fact, a list is not both in the language and outside it
  abbrev pub ApartOver : Language X → Type 1
  ApartOver language = (things : List X) → EachThing fact things → language things true → language things false → ⊥

  pub none_apart : ApartOver none
  none_apart things each is out = true≢false is

  pub nothing_apart : ApartOver nothing
  nothing_apart [] each is out = true≢false (sym out)
  nothing_apart (one ∷ rest) each is out = true≢false is

  pub item_apart : (such : X → Bool → Type 0) → ((one : X) → fact one → such one true → such one false → ⊥)
      → ApartOver (item such)
  item_apart such apart [] each is out = true≢false is
  item_apart such apart (one ∷ []) each is out = apart one each.0 is out
  item_apart such apart (one ∷ next ∷ rest) each is out = true≢false is

  pub either_apart : (first second : Language X) → ApartOver first → ApartOver second → ApartOver (either first second)
  either_apart first second is_first is_second things each is out =
      both_apart (λ out is. is_first things each is out) (λ out is. is_second things each is out) out is

  -- what follows this thing in the lists of a language
  after_apart : (language : Language X) (thing : X) → fact thing → ApartOver language
      → ApartOver (λ things. language (thing ∷ things))
  after_apart language thing known apart things each is out = apart (thing ∷ things) (known, each) is out

  pub followed_apart : (first second : Language X) → ApartOver first → ApartOver second → ApartOver (followed first second)
  followed_apart first second is_first is_second [] each is out = both_apart (is_first [] tt) (is_second [] tt) is out
  followed_apart first second is_first is_second (one ∷ rest) each is out = both_apart
      (λ out is. both_apart (is_first [] tt) (is_second (one ∷ rest) each) is out)
      (λ out is. followed_apart (λ things. first (one ∷ things)) second (after_apart first one each.0 is_first) is_second
      rest each.1 is out)
      out is

  pub turns_apart : (count : ℕ) (one : Language X) → ApartOver one → ApartOver (turns count one)
  turns_apart count one is_one [] each is out = true≢false (sym out)
  turns_apart zero one is_one (thing ∷ things) each is out = true≢false is
  turns_apart (suc count) one is_one (thing ∷ things) each is out =
      followed_apart (λ taken. one (thing ∷ taken)) (turns count one) (after_apart one thing each.0 is_one)
      (turns_apart count one is_one) things each.1 is out

  pub star_apart : (one : Language X) → ApartOver one → ApartOver (star one)
  star_apart one is_one things each is out = turns_apart (length things) one is_one things each is out

  pub plus_apart : (one : Language X) → ApartOver one → ApartOver (plus one)
  plus_apart one is_one = followed_apart one (star one) is_one (star_apart one is_one)

  pub optional_apart : (one : Language X) → ApartOver one → ApartOver (optional one)
  optional_apart one is_one = either_apart nothing one nothing_apart is_one

  -- where each thing has the fact, a list is in the language or outside it
  abbrev pub DecidesOver : Language X → Type 1
  DecidesOver language = (things : List X) → EachThing fact things → language things true ⊎ language things false

  pub none_decides : DecidesOver none
  none_decides things each = inr refl

  pub nothing_decides : DecidesOver nothing
  nothing_decides [] each = inl refl
  nothing_decides (one ∷ rest) each = inr refl

  pub item_decides : (such : X → Bool → Type 0) → ((one : X) → fact one → such one true ⊎ such one false)
      → DecidesOver (item such)
  item_decides such decides [] each = inr refl
  item_decides such decides (one ∷ []) each = decides one each.0
  item_decides such decides (one ∷ next ∷ rest) each = inr refl

  pub either_decides : (first second : Language X) → DecidesOver first → DecidesOver second → DecidesOver (either first second)
  either_decides first second is_first is_second things each = one_or (is_first things each) (is_second things each)

  after_decides : (language : Language X) (thing : X) → fact thing → DecidesOver language
      → DecidesOver (λ things. language (thing ∷ things))
  after_decides language thing known decides things each = decides (thing ∷ things) (known, each)

  pub followed_decides : (first second : Language X) → DecidesOver first → DecidesOver second → DecidesOver (followed first second)
  followed_decides first second is_first is_second [] each = both_or (is_first [] tt) (is_second [] tt)
  followed_decides first second is_first is_second (one ∷ rest) each = one_or
      (both_or (is_first [] tt) (is_second (one ∷ rest) each))
      (followed_decides (λ things. first (one ∷ things)) second (after_decides first one each.0 is_first) is_second rest each.1)

  pub turns_decides : (count : ℕ) (one : Language X) → DecidesOver one → DecidesOver (turns count one)
  turns_decides count one is_one [] each = inl refl
  turns_decides zero one is_one (thing ∷ things) each = inr refl
  turns_decides (suc count) one is_one (thing ∷ things) each =
      followed_decides (λ taken. one (thing ∷ taken)) (turns count one) (after_decides one thing each.0 is_one)
      (turns_decides count one is_one) things each.1

  pub star_decides : (one : Language X) → DecidesOver one → DecidesOver (star one)
  star_decides one is_one things each = turns_decides (length things) one is_one things each

  pub plus_decides : (one : Language X) → DecidesOver one → DecidesOver (plus one)
  plus_decides one is_one = followed_decides one (star one) is_one (star_decides one is_one)

  pub optional_decides : (one : Language X) → DecidesOver one → DecidesOver (optional one)
  optional_decides one is_one = either_decides nothing one nothing_decides is_one

-- the same of both answers
both_agree_at : (answer : Bool) {A B C D : Type 0} → A ↔ B → C ↔ D → both answer A C ↔ both answer B D
both_agree_at true first second = both_agree first second
both_agree_at false first second = one_agrees first second

some_agree_at : (answer : Bool) {A B C D : Type 0} → A ↔ B → C ↔ D → some answer A C ↔ some answer B D
some_agree_at true first second = one_agrees first second
some_agree_at false first second = both_agree first second

module _ {X Y : Type 1} (Alike : X → Y → Type 0) where
  -- the same is answered of lists that are alike thing by thing
  abbrev pub AgreeOver : Language X → Language Y → Type 1
  AgreeOver language language' = (things : List X) (others : List Y) → InTurn Alike things others → (answer : Bool)
      → language things answer ↔ language' others answer

  pub none_agree : AgreeOver none none
  none_agree things others alike answer = itself

  pub nothing_agree : AgreeOver nothing nothing
  nothing_agree [] [] alike answer = itself
  nothing_agree [] (other ∷ others) alike answer = absurd alike
  nothing_agree (one ∷ rest) [] alike answer = absurd alike
  nothing_agree (one ∷ rest) (other ∷ others) alike answer = itself

  pub item_agree : (such : X → Bool → Type 0) (such' : Y → Bool → Type 0)
      → ((one : X) (other : Y) → Alike one other → (answer : Bool) → such one answer ↔ such' other answer)
      → AgreeOver (item such) (item such')
  item_agree such such' same [] [] alike answer = itself
  item_agree such such' same [] (other ∷ others) alike answer = absurd alike
  item_agree such such' same (one ∷ rest) [] alike answer = absurd alike
  item_agree such such' same (one ∷ []) (other ∷ []) alike answer = same one other alike.0 answer
  item_agree such such' same (one ∷ []) (other ∷ next' ∷ others) alike answer = absurd alike.1
  item_agree such such' same (one ∷ next ∷ rest) (other ∷ []) alike answer = absurd alike.1
  item_agree such such' same (one ∷ next ∷ rest) (other ∷ next' ∷ others) alike answer = itself

  pub either_agree : (first second : Language X) (first' second' : Language Y) → AgreeOver first first' → AgreeOver second second'
      → AgreeOver (either first second) (either first' second')
  either_agree first second first' second' is_first is_second things others alike answer =
      some_agree_at answer (is_first things others alike answer) (is_second things others alike answer)

  after_agree : (language : Language X) (language' : Language Y) (one : X) (other : Y) → Alike one other
      → AgreeOver language language' → AgreeOver (λ things. language (one ∷ things)) (λ others. language' (other ∷ others))
  after_agree language language' one other is same things others alike answer =
      same (one ∷ things) (other ∷ others) (is, alike) answer

  pub followed_agree : (first second : Language X) (first' second' : Language Y) → AgreeOver first first' → AgreeOver second second'
      → AgreeOver (followed first second) (followed first' second')
  followed_agree first second first' second' is_first is_second [] [] alike answer =
      both_agree_at answer (is_first [] [] tt answer) (is_second [] [] tt answer)
  followed_agree first second first' second' is_first is_second [] (other ∷ others) alike answer = absurd alike
  followed_agree first second first' second' is_first is_second (one ∷ rest) [] alike answer = absurd alike
  followed_agree first second first' second' is_first is_second (one ∷ rest) (other ∷ others) alike answer =
      some_agree_at answer
      (both_agree_at answer (is_first [] [] tt answer) (is_second (one ∷ rest) (other ∷ others) alike answer))
      (followed_agree (λ things. first (one ∷ things)) second (λ others. first' (other ∷ others)) second'
      (after_agree first first' one other alike.0 is_first) is_second rest others alike.1 answer)

  pub turns_agree : (count : ℕ) (one : Language X) (one' : Language Y) → AgreeOver one one'
      → AgreeOver (turns count one) (turns count one')
  turns_agree count one one' is_one [] [] alike answer = itself
  turns_agree count one one' is_one [] (other ∷ others) alike answer = absurd alike
  turns_agree count one one' is_one (thing ∷ rest) [] alike answer = absurd alike
  turns_agree zero one one' is_one (thing ∷ rest) (other ∷ others) alike answer = itself
  turns_agree (suc count) one one' is_one (thing ∷ rest) (other ∷ others) alike answer =
      followed_agree (λ taken. one (thing ∷ taken)) (turns count one) (λ taken. one' (other ∷ taken)) (turns count one')
      (after_agree one one' thing other alike.0 is_one) (turns_agree count one one' is_one) rest others alike.1 answer

  same_length : (things : List X) (others : List Y) → InTurn Alike things others → length things ≡ length others
  same_length [] [] alike = refl
  same_length [] (other ∷ others) alike = absurd alike
  same_length (one ∷ rest) [] alike = absurd alike
  same_length (one ∷ rest) (other ∷ others) alike = ap suc (same_length rest others alike.1)

  pub star_agree : (one : Language X) (one' : Language Y) → AgreeOver one one' → AgreeOver (star one) (star one')
  star_agree one one' is_one things others alike answer = subst (λ count. star one things answer ↔ turns count one' others answer)
      (same_length things others alike) (turns_agree (length things) one one' is_one things others alike answer)

  pub plus_agree : (one : Language X) (one' : Language Y) → AgreeOver one one' → AgreeOver (plus one) (plus one')
  plus_agree one one' is_one =
      followed_agree one (star one) one' (star one') is_one (star_agree one one' is_one)

  pub optional_agree : (one : Language X) (one' : Language Y) → AgreeOver one one' → AgreeOver (optional one) (optional one')
  optional_agree one one' is_one = either_agree nothing one nothing one' nothing_agree is_one
