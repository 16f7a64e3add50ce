-- What is known of the items of a sequence, and what is answered of them in languages.
use Rattle.std.proofs.Common.{◌⊎◌, ◌↔◌, inr, Bool, true, false, refl, bytes_eq}
use Rattle.std.proofs.lemmas.Bool.{true≢false}
use Rattle.std.specs.Prelude.{codes}
use Rattle.cd_syntax.specs.Name.{Name}
use Rattle.cd_model.specs.Types.{Items, NoSequence, Listed, no_items_if, items_of_atom, with_item, are_in}
use Rattle.cd_model.specs.Language.{Language}
use Rattle.cd_model.proofs.BothWays.{itself}
use Rattle.cd_model.proofs.Languages.{EachThing, InTurn, ApartOver, DecidesOver, AgreeOver}

-- a fact of each item of a thing, if it is a sequence
abbrev pub EachItem : {X : Type 1} → (X → Type 0) → Items X → Type 0
EachItem fact NoSequence = Unit {0}
EachItem fact (Listed items) = EachThing fact items

-- two things are sequences whose items are alike one by one, or neither is a sequence
abbrev pub ItemsAlike : {X Y : Type 1} → (X → Y → Type 0) → Items X → Items Y → Type 0
ItemsAlike Alike NoSequence NoSequence = Unit {0}
ItemsAlike Alike NoSequence (Listed others) = ⊥
ItemsAlike Alike (Listed items) NoSequence = ⊥
ItemsAlike Alike (Listed items) (Listed others) = InTurn Alike items others

module _ {X : Type 1} (fact : X → Type 0) where
  each_if : (b : Bool) → EachItem fact (no_items_if b)
  each_if true = tt
  each_if false = tt

  pub each_of_atom : (name : Name) → EachItem fact (items_of_atom name)
  each_of_atom name = each_if (bytes_eq name (codes "nil"))

  pub each_with_item : {first : X} (items : Items X) → fact first → EachItem fact items → EachItem fact (with_item first items)
  each_with_item NoSequence is each = tt
  each_with_item (Listed items) is each = (is, each)

  pub are_apart : (language : Language X) → ApartOver fact language → (items : Items X) → EachItem fact items
      → are_in items language true → are_in items language false → ⊥
  are_apart language apart NoSequence each is out = true≢false is
  are_apart language apart (Listed items) each is out = apart items each is out

  pub are_decided : (language : Language X) → DecidesOver fact language → (items : Items X) → EachItem fact items
      → are_in items language true ⊎ are_in items language false
  are_decided language decides NoSequence each = inr refl
  are_decided language decides (Listed items) each = decides items each

module _ {X Y : Type 1} (Alike : X → Y → Type 0) where
  alike_if : (b : Bool) → ItemsAlike Alike (no_items_if b) (no_items_if b)
  alike_if true = tt
  alike_if false = tt

  pub alike_of_atom : (name : Name) → ItemsAlike Alike (items_of_atom name) (items_of_atom name)
  alike_of_atom name = alike_if (bytes_eq name (codes "nil"))

  pub alike_with_item : {first : X} {other : Y} (items : Items X) (others : Items Y) → Alike first other
      → ItemsAlike Alike items others → ItemsAlike Alike (with_item first items) (with_item other others)
  alike_with_item NoSequence NoSequence is alike = tt
  alike_with_item NoSequence (Listed others) is alike = absurd alike
  alike_with_item (Listed items) NoSequence is alike = absurd alike
  alike_with_item (Listed items) (Listed others) is alike = (is, alike)

  pub are_alike : (language : Language X) (language' : Language Y) → AgreeOver Alike language language'
      → (items : Items X) (others : Items Y) → ItemsAlike Alike items others → (answer : Bool)
      → are_in items language answer ↔ are_in others language' answer
  are_alike language language' same NoSequence NoSequence alike answer = itself
  are_alike language language' same NoSequence (Listed others) alike answer = absurd alike
  are_alike language language' same (Listed items) NoSequence alike answer = absurd alike
  are_alike language language' same (Listed items) (Listed others) alike answer = same items others alike answer
