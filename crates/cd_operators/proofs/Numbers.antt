-- Sequences of one integer at least are the pairs of an integer and a sequence of integers.
use Rattle.std.proofs.Common.{◌≡◌, ◌≢◌, ◌⊎◌, List, [], ◌∷◌, Some, refl, sym, subst}
use Rattle.cd_model.specs.BuiltIns.{INT}
use Rattle.cd_model.specs.Thing.{Thing, Pair, IsElement}
use Rattle.cd_program.specs.declared.operator.BuiltIn.{BuiltIn as Word}
use Rattle.cd_program.specs.declared.operator.BuiltIn.TheVariants as word
use Rattle.cd_matching.specs.Sequences.{items, sequence_of}
use Rattle.cd_meaning.specs.Sequences.{IsListOf, IsItemOf}
use Rattle.cd_meaning.specs.Sets.{Set, ◌⊆◌}
use Rattle.cd_meaning.proofs.SequencesFollowed.{items_of_sequence, sequence_of_items, pair_has_items}
use Rattle.cd_typing.specs.Operators.{IsNumbers, ExtremeGives}
use Rattle.cd_typing.specs.Results.{IsTupleOf}
use Rattle.cd_typing.specs.Typ.{Typ, In, BuiltIn}
use Rattle.cd_least.proofs.Monotone.{items_grow}
use Rattle.cd_operators.specs.ResultTypes.{IsLeastResultOfWord}
use Rattle.cd_operators.proofs.Outcomes.{of_either}

-- there is one at least
one_at_least : (d : Thing) (ds : List Thing) → d ∷ ds ≢ []
one_at_least d ds is = cc

-- by a type of the integers and one of the sequences of integers
module _ (one rest : Typ) where
  pub numbers_are_tuples : BuiltIn INT ⊆ In one → IsListOf (BuiltIn INT) ⊆ In rest
      → IsNumbers ⊆ IsTupleOf (one ∷ rest ∷ [])
  numbers_are_tuples integers lists d element ([], is, each, some) = absurd (some refl)
  numbers_are_tuples integers lists d element (e ∷ es, is, each, some) =
      let same : d ≡ Pair e (sequence_of es) = sequence_of_items d (e ∷ es) is in
      let parts : IsElement (Pair e (sequence_of es)) = subst IsElement same element in (
        e,
        sequence_of es ∷ [],
        (
          parts.0,
          integers e parts.0 each.0,
          (parts.1, lists (sequence_of es) parts.1 (es, items_of_sequence es, each.1), tt),
        ),
        same,
      )

  pub tuples_are_numbers : In one ⊆ BuiltIn INT → In rest ⊆ IsListOf (BuiltIn INT)
      → IsTupleOf (one ∷ rest ∷ []) ⊆ IsNumbers
  tuples_are_numbers integers lists d element (e, [], are, same) = absurd are.2
  tuples_are_numbers integers lists d element (e, other ∷ [], are, same) =
      let list = lists other are.2.0 are.2.1 in (
        e ∷ list.0,
        subst (λ (thing : Thing). items thing ≡ Some (e ∷ list.0)) (sym same)
            (pair_has_items e other list.0 list.1),
        (integers e are.0 are.1, list.2),
        one_at_least e list.0,
      )
  tuples_are_numbers integers lists d element (e, other ∷ more ∷ es, are, same) =
      absurd are.2.2

-- the items of a sequence are the least that `min_of` and `max_of` give for it
module _ (operand result : Set) (numbers : operand ⊆ IsNumbers)
    (has : IsItemOf operand ⊆ result) (only : result ⊆ IsItemOf operand) where
  within : (wider given : Typ) → operand ⊆ In wider → ExtremeGives (In wider) (In given)
      → result ⊆ In given
  within wider given fewer gives e element inside =
      gives.1 e element (items_grow operand (In wider) fewer e element (only e element inside))

  of_min : IsLeastResultOfWord word.MinOf operand result
  of_min = record { gives = (numbers, has); within = within }

  of_max : IsLeastResultOfWord word.MaxOf operand result
  of_max = record { gives = (numbers, has); within = within }

  pub extreme_least : (is : Word) → (is ≡ word.MinOf) ⊎ (is ≡ word.MaxOf)
      → IsLeastResultOfWord is operand result
  extreme_least is one = of_either (λ (w : Word). IsLeastResultOfWord w operand result) is
      word.MinOf word.MaxOf one of_min of_max
