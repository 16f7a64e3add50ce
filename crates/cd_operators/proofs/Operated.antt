-- What operators make of operands is within what they give for wider ones.
use Rattle.std.proofs.Common.{◌≡◌, ◌⊎◌, ◌+ℤ◌, ℤ, [], codes, inl, inr, refl, subst, sym}
use Rattle.cd_syntax.specs.Name.{IsLabel}
use Rattle.cd_model.specs.BuiltIns.{INT, BOOL, RECORD, EMPTY}
use Rattle.cd_model.specs.Kinds.{kind_of, AnInteger, ARecord, Kind}
use Rattle.cd_model.specs.Thing.{Thing, Integer, Record, IsElement}
use Rattle.cd_model.specs.Types.{no_closure}
use Rattle.cd_model.proofs.BuiltIns.{elements_are_sound, integers_are, records_are, nothing_is_empty}
use Rattle.cd_model.proofs.SoundBuiltIns.{a_label}
use Rattle.cd_program.specs.declared.operator.BuiltIn.TheVariants as word
use Rattle.cd_program.specs.declared.operator.Op.{Op}
use Rattle.cd_program.specs.declared.operator.Op.TheVariants as op
use Rattle.cd_meaning.specs.Integers.{IsResultOf}
use Rattle.cd_meaning.specs.Records.{IsMergeOf}
use Rattle.cd_meaning.specs.Sequences.{IsListOf, IsItemOf}
use Rattle.cd_meaning.specs.Sets.{Set, ◌⊆◌}
use Rattle.cd_typing.specs.Operators.{AreIntegers, IsPlus, Operates, WordGives}
use Rattle.cd_typing.specs.Typ.{In, BuiltIn}
use Rattle.cd_typing.proofs.Subsets.{through}
use Rattle.cd_least.proofs.Monotone.{merges_grow, lists_grow}
use Rattle.cd_least.proofs.Refuted.{item_within}
use Rattle.cd_operators.specs.ResultTypes.{IsLeastResult}

-- results for integers of two sets are results for those of wider ones
pub results_grow : (compute : ℤ → ℤ → ℤ) (one other more last : Set) → one ⊆ more → other ⊆ last
    → IsResultOf compute one other ⊆ IsResultOf compute more last
results_grow compute one other more last first second e sound is =
    (is.0, is.1, is.2, is.3, first (Integer is.0) is.2 is.4, second (Integer is.1) is.3 is.5, is.6, is.7)

-- no integer is a record
integer_or_record : (e : Thing) → IsElement e → BuiltIn INT e → BuiltIn RECORD e → ⊥
integer_or_record e element integer record_type =
    apart (kind_of e) ((integers_are [] no_closure e (elements_are_sound e element)).0 integer)
    ((records_are [] no_closure e).0 record_type)
  where
    apart : (kind : Kind) → kind ≡ AnInteger → kind ≡ ARecord → ⊥
    apart kind one other = cc

-- there is a label, at which merged records are looked at
some_label : IsLabel (codes "a")
some_label = a_label (codes "a") refl refl

-- what `+` makes of integers, and of records, is within what it gives for wider operands
module _ (one other more last result : Set) (first : one ⊆ more) (second : other ⊆ last)
    (has : IsPlus more last result) where
  pub sums_least : one ⊆ BuiltIn INT → IsResultOf (λ a b. a +ℤ b) one other ⊆ result
  sums_least integers = by_operands has
    where
      by_operands : IsPlus more last result → IsResultOf (λ a b. a +ℤ b) one other ⊆ result
      by_operands (inl sums) e element is = sums.1 e element
          (results_grow (λ a b. a +ℤ b) one other more last first second e element is)
      by_operands (inr merges) e element is =
          let a = Integer is.0 in
          absurd (integer_or_record a is.2 (integers a is.2 is.4) (merges.0 a is.2 (first a is.2 is.4)))

  pub merges_least : one ⊆ BuiltIn RECORD → IsMergeOf one other ⊆ result
  merges_least records = by_operands has
    where
      by_operands : IsPlus more last result → IsMergeOf one other ⊆ result
      by_operands (inl sums) e element is =
          let at = is.2 (codes "a") some_label in
          let d = Record at.0 in
          absurd (integer_or_record d at.2.0 (sums.0.0 d at.2.0 (first d at.2.0 at.2.1))
          (records d at.2.0 at.2.1))
      by_operands (inr merges) e element is =
          merges.2 e element (merges_grow one other more last first second e element is)

-- nothing is in the empty type, so it is within each set
pub empty_least : (set : Set) → BuiltIn EMPTY ⊆ set
empty_least set e element inside = absurd (nothing_is_empty [] no_closure e inside)

-- what `flatten` makes of sequences is within what it gives for a wider operand
module _ (operand wider lists inner result : Set) (fewer : operand ⊆ wider)
    (are_lists : lists ⊆ IsItemOf operand) (are_inner : inner ⊆ IsItemOf lists) where
  pub flat_least : WordGives word.Flatten wider result → IsListOf inner ⊆ result
  flat_least (item, is, nested, gives) =
      through (IsListOf inner) (IsListOf (In item)) result (lists_grow inner (In item) inner_within)
      gives
    where
      lists_within : lists ⊆ IsListOf (In item)
      lists_within = through lists (IsItemOf operand) (IsListOf (In item)) are_lists
          (item_within [] operand (IsListOf (In item))
          (through operand wider (IsListOf (IsListOf (In item))) fewer nested))

      inner_within : inner ⊆ In item
      inner_within = through inner (IsItemOf lists) (In item) are_inner
          (item_within [] lists (In item) lists_within)

-- an operator that gives what another one does has the same least results
pub likewise : (is like : Op) (first second result : Set)
    → ((one other given : Set) → Operates is one other given → Operates like one other given)
    → ((one other given : Set) → Operates like one other given → Operates is one other given)
    → IsLeastResult is first second result → IsLeastResult like first second result
likewise is like first second result there back least = record {
  gives = there first second result least.gives;
  within = λ wider other given fewer few gives. least.within wider other given fewer few
      (back (In wider) (In other) (In given) gives);
}

pub unequal_like_equal : (first second result : Set) → IsLeastResult op.Equal first second result
    → IsLeastResult op.Unequal first second result
unequal_like_equal first second result =
    likewise op.Equal op.Unequal first second result (λ one other given gives. gives)
    (λ one other given gives. gives)

pub mod_like_div : (first second result : Set) → IsLeastResult op.Div first second result
    → IsLeastResult op.Mod first second result
mod_like_div first second result =
    likewise op.Div op.Mod first second result (λ one other given gives. gives)
    (λ one other given gives. gives)

-- `&&` and `||` give their second operand, where it is met
pub second_least : (is : Op) → (is ≡ op.Or) ⊎ (is ≡ op.And) → (first second : Set)
    → IsLeastResult is first second second
second_least is one first second = by_operator one
  where
    either : IsLeastResult op.Or first second second
    either = record {
      gives = λ e element inside. inside;
      within = λ wider other given fewer few gives e element inside.
          gives e element (few e element inside);
    }

    by_operator : (is ≡ op.Or) ⊎ (is ≡ op.And) → IsLeastResult is first second second
    by_operator (inl same) = subst (λ (o : Op). IsLeastResult o first second second) (sym same) either
    by_operator (inr same) = subst (λ (o : Op). IsLeastResult o first second second) (sym same)
        (likewise op.Or op.And first second second (λ one other given gives. gives)
        (λ one other given gives. gives) either)

-- comparisons of integers give truth values, and a product of integers is an integer
module _ (first second result : Set) (integers : AreIntegers first second) where
  pub truths_least : (is : Op) → (is ≡ op.Less) ⊎ (is ≡ op.AtMost) ⊎ (is ≡ op.Greater) ⊎ (is ≡ op.AtLeast)
      → BuiltIn BOOL ⊆ result → result ⊆ BuiltIn BOOL → IsLeastResult is first second result
  truths_least is one has only = by_operator one
    where
      less : IsLeastResult op.Less first second result
      less = record {
        gives = (integers, has);
        within = λ wider other given fewer few gives e element inside.
            gives.1 e element (only e element inside);
      }

      like : (o : Op) → is ≡ o
          → ((a b given : Set) → Operates op.Less a b given → Operates o a b given)
          → ((a b given : Set) → Operates o a b given → Operates op.Less a b given)
          → IsLeastResult is first second result
      like o same there back = subst (λ (o : Op). IsLeastResult o first second result) (sym same)
          (likewise op.Less o first second result there back less)

      by_operator : (is ≡ op.Less) ⊎ (is ≡ op.AtMost) ⊎ (is ≡ op.Greater) ⊎ (is ≡ op.AtLeast)
          → IsLeastResult is first second result
      by_operator (inl same) = subst (λ (o : Op). IsLeastResult o first second result) (sym same) less
      by_operator (inr (inl same)) =
          like op.AtMost same (λ a b given gives. gives) (λ a b given gives. gives)
      by_operator (inr (inr (inl same))) =
          like op.Greater same (λ a b given gives. gives) (λ a b given gives. gives)
      by_operator (inr (inr (inr same))) =
          like op.AtLeast same (λ a b given gives. gives) (λ a b given gives. gives)

  pub product_least : BuiltIn INT ⊆ result → result ⊆ BuiltIn INT
      → IsLeastResult op.Times first second result
  product_least has only = record {
    gives = (integers, has);
    within = λ wider other given fewer few gives e element inside.
        gives.1 e element (only e element inside);
  }
