-- What operators, words and other forms make of things of a sort that is known by parts is of the sort.
use Rattle.std.proofs.Common.{◌≡◌, ℕ, ℤ, ◌+ℤ◌, ◌-ℤ◌, ◌*ℤ◌, int_le, int_lt, int_div, int_rem, Bool, true, false, not, List, Option, Some, None, refl, codes, bytes_eq, true≢false, sym, ◌∙◌}
use Rattle.std.specs.Fmt.{signed_decimal}
use Rattle.std.proofs.lemmas.Slice.Eq.{bytes_eq-Decides}
use Rattle.cd_syntax.specs.Name.{Name, IsLabel, is_word}
use Rattle.cd_model.specs.Thing.{Thing, Fields, Integer, Atom, Record}
use Rattle.cd_rules.specs.InRow.{thing_at}
use Rattle.cd_matching.specs.Sequences.{items}
use Rattle.cd_program.specs.declared.operator.Op.{Op}
use Rattle.cd_program.specs.declared.operator.Op.TheVariants as op
use Rattle.cd_program.specs.declared.operator.BuiltIn.{BuiltIn as Word}
use Rattle.cd_program.specs.declared.operator.BuiltIn.TheVariants as word
use Rattle.cd_typing.specs.Operators.{truth}
use Rattle.cd_evaluation.specs.Runs.{found}
use Rattle.cd_evaluation.specs.Equality.{same}
use Rattle.cd_evaluation.specs.Integers.{spelled}
use Rattle.cd_evaluation.specs.Lists.{characters_of}
use Rattle.cd_evaluation.specs.Operations.{truth_of, plus, operate, inverted, flattened, if_spelled, int_of, string_of, word_outcome, dropped, selected, xml}
use Rattle.cd_safety.specs.ByParts.{IsByParts, OutcomeOf}
use Rattle.cd_safety.proofs.ExtremesGood.{extreme_good}
use Rattle.cd_safety.proofs.IntegersGood.{computed_good, divided_good, on_integers_good, digits_are, spelled_is}
use Rattle.cd_safety.proofs.RecordsGood.{merged_good, without_good, at_good, OneOf}
use Rattle.cd_safety.proofs.SequencesGood.{text_good, items_of, ItemsOf, joined_good, all_joined_good}

module _ (Of : Thing → Type 0) (OfFields : Fields → Type 0) (by_parts : IsByParts Of OfFields) where
  pub atom_good : (name : Name) → is_word name ≡ true → bytes_eq name (codes "_") ≡ false → Of (Atom name)
  atom_good name word other = by_parts.atom name is_label
    where
      is_label : IsLabel name
      is_label = (word, λ same. true≢false (sym ((bytes_eq-Decides name (codes "_")).1 same) ∙ other))

  pub truth_good : (b : Bool) → Of (truth b)
  truth_good true = atom_good (codes "true") refl refl
  truth_good false = atom_good (codes "false") refl refl

  plus_good : (v w : Thing) → Of v → Of w → OutcomeOf Of (plus v w)
  plus_good (Integer n) (Integer m) is other = computed_good Of OfFields by_parts (n +ℤ m)
  plus_good (Record fields) (Record others) is other = merged_good Of OfFields by_parts fields others is other
  plus_good _ _ is other = tt

  pub operate_good : (is : Op) (v w : Thing) → Of v → Of w → OutcomeOf Of (operate is v w)
  operate_good op.Or v w one other = tt
  operate_good op.And v w one other = tt
  operate_good op.Equal v w one other = truth_good (same v w)
  operate_good op.Unequal v w one other = truth_good (not (same v w))
  operate_good op.Less v w one other = on_integers_good Of OfFields by_parts _ (λ n m. truth_good (int_lt n m)) v w
  operate_good op.AtMost v w one other = on_integers_good Of OfFields by_parts _ (λ n m. truth_good (int_le n m)) v w
  operate_good op.Greater v w one other = on_integers_good Of OfFields by_parts _ (λ n m. truth_good (int_lt m n)) v w
  operate_good op.AtLeast v w one other = on_integers_good Of OfFields by_parts _ (λ n m. truth_good (int_le m n)) v w
  operate_good op.Concat v w one other = joined_good Of OfFields by_parts v w one other
  operate_good op.Plus v w one other = plus_good v w one other
  operate_good op.Minus v w one other =
      on_integers_good Of OfFields by_parts _ (λ n m. computed_good Of OfFields by_parts (n -ℤ m)) v w
  operate_good op.Times v w one other =
      on_integers_good Of OfFields by_parts _ (λ n m. computed_good Of OfFields by_parts (n *ℤ m)) v w
  operate_good op.Div v w one other = on_integers_good Of OfFields by_parts _ (divided_good Of OfFields by_parts int_div) v w
  operate_good op.Mod v w one other = on_integers_good Of OfFields by_parts _ (divided_good Of OfFields by_parts int_rem) v w

  inverted_good : (b : Option Bool) → OutcomeOf Of (inverted b)
  inverted_good None = tt
  inverted_good (Some b) = truth_good (not b)

  flattened_good : (all : Option (List Thing)) → ItemsOf Of OfFields by_parts all → OutcomeOf Of (flattened all)
  flattened_good None are = tt
  flattened_good (Some all) are = all_joined_good Of OfFields by_parts all are

  int_of_good : (text : Option (List ℕ)) → OutcomeOf Of (int_of text)
  int_of_good None = tt
  int_of_good (Some text) = by_test (spelled text) refl
    where
      by_test : (n : Option ℤ) → spelled text ≡ n → OutcomeOf Of (if_spelled n)
      by_test None none = atom_good (codes "Invalid_int") refl refl
      by_test (Some n) some = (by_parts.integer n).1 (spelled_is text n some)

  string_of_good : (v : Thing) → Of v → OutcomeOf Of (string_of v)
  string_of_good (Integer n) is = text_good Of OfFields by_parts (signed_decimal n) (digits_are n ((by_parts.integer n).0 is))
  string_of_good _ is = tt

  pub word_good : (is : Word) (v : Thing) → Of v → OutcomeOf Of (word_outcome is v)
  word_good word.Not v is = inverted_good (truth_of v)
  word_good word.Flatten v is = flattened_good (items v) (items_of Of OfFields by_parts v is)
  word_good word.IntOf v is = int_of_good (characters_of v)
  word_good word.StringOf v is = string_of_good v is
  word_good word.MinOf v is = extreme_good Of OfFields by_parts (λ n m. int_lt n m) (items v) (items_of Of OfFields by_parts v is)
  word_good word.MaxOf v is = extreme_good Of OfFields by_parts (λ n m. int_lt m n) (items v) (items_of Of OfFields by_parts v is)
  word_good word.Raise v is = is

  pub dropped_good : (label : Name) (v : Thing) → Of v → OutcomeOf Of (dropped label v)
  dropped_good label (Record fields) is = without_good Of OfFields by_parts label fields is
  dropped_good label _ is = tt

  found_good : (at : Option Thing) → OneOf Of OfFields by_parts at → OutcomeOf Of (found at)
  found_good None is = tt
  found_good (Some v) is = is

  pub selected_good : (label : Name) (v : Thing) → Of v → OutcomeOf Of (selected label v)
  selected_good label (Record fields) is = found_good (thing_at fields label) (at_good Of OfFields by_parts fields label is)
  selected_good label _ is = tt

  pub xml_good : (tag attributes content : Thing) → Of tag → Of attributes → Of content → OutcomeOf Of (xml tag attributes content)
  xml_good (Atom name) (Record fields) content one other last = by_parts.xml name fields content one other last
  xml_good (Atom name) _ content one other last = tt
  xml_good _ _ content one other last = tt
