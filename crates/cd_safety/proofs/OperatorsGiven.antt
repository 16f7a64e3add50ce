-- What operators and words give for elements of the sets that their rules name.
use Rattle.std.proofs.Common.{◌+ℤ◌, ◌-ℤ◌, ◌*ℤ◌, int_le, int_lt, int_div, int_rem, not, inl, inr, sym, subst}
use Rattle.cd_model.specs.Thing.{Thing, Integer, IsElement, AreFields}
use Rattle.cd_program.specs.declared.operator.Op.{Op}
use Rattle.cd_program.specs.declared.operator.Op.TheVariants as op
use Rattle.cd_program.specs.declared.operator.BuiltIn.{BuiltIn as Word}
use Rattle.cd_program.specs.declared.operator.BuiltIn.TheVariants as word
use Rattle.cd_meaning.specs.Sets.{Set, ◌⊆◌}
use Rattle.cd_meaning.specs.Integers.{IsResultOf}
use Rattle.cd_meaning.specs.Records.{IsMergeOf}
use Rattle.cd_meaning.specs.Sequences.{IsListOf, IsJoinOf}
use Rattle.cd_typing.specs.Typ.{In}
use Rattle.cd_typing.specs.Operators.{AreIntegers, IsPlus, Operates, WordGives}
use Rattle.cd_evaluation.specs.Runs.{Outcome, Done, Raised, Overflow, Spent, Stuck}
use Rattle.cd_evaluation.specs.Equality.{same}
use Rattle.cd_evaluation.specs.Evaluation.{IsStrict}
use Rattle.cd_evaluation.specs.Operations.{plus, operate, word_outcome}
use Rattle.cd_safety.specs.ByParts.{OutcomeOf}
use Rattle.cd_safety.specs.Gives.{Gives}
use Rattle.cd_safety.proofs.BuiltInElements.{integer_here}
use Rattle.cd_safety.proofs.ExtremesGiven.{extreme_given}
use Rattle.cd_safety.proofs.IntegersGiven.{truth_given, all_integers, on_both, resulting, quotient, inverted_given, int_of_given, string_of_given}
use Rattle.cd_safety.proofs.OperationsGood.{operate_good, word_good}
use Rattle.cd_safety.proofs.RecordsGiven.{merged_given}
use Rattle.cd_safety.proofs.SequencesGiven.{joined_given, flattened_given}
use Rattle.cd_safety.proofs.SortsByParts.{elements_by_parts}

-- what is given of a set is given of one that holds its elements
pub gives_within : (set wider : Set) → set ⊆ wider → (outcome : Outcome) → OutcomeOf IsElement outcome → Gives set outcome
    → Gives wider outcome
gives_within set wider within (Done e) element gives = within e element gives
gives_within set wider within (Raised e) element gives = gives
gives_within set wider within Overflow element gives = tt
gives_within set wider within Spent element gives = tt
gives_within set wider within Stuck element gives = absurd gives

module _ (first second result : Set) (d e : Thing) (d_is : IsElement d) (e_is : IsElement e) (d_in : first d) (e_in : second e) where
  operate_within : (is : Op) (set : Set) → set ⊆ result → Gives set (operate is d e) → Gives result (operate is d e)
  operate_within is set within gives =
      gives_within set result within (operate is d e) (operate_good IsElement AreFields elements_by_parts is d e d_is e_is) gives

  added : AreIntegers first second → IsResultOf (λ a b. a +ℤ b) first second ⊆ result → Gives result (plus d e)
  added are within =
      let n = integer_here d d_is (are.0 d d_is d_in) in
      let m = integer_here e e_is (are.1 e e_is e_in) in
      subst (λ v. IsElement v → first v → Gives result (plus v e)) (sym n.1)
      (λ n_is n_in. subst (λ w. IsElement w → second w → Gives result (plus (Integer n.0) w)) (sym m.1)
      (λ m_is m_in. resulting result first second (λ a b. a +ℤ b) within n.0 m.0 n_is m_is n_in m_in) e_is e_in) d_is d_in

  plus_given : IsPlus first second result → Gives result (plus d e)
  plus_given (inl rule) = added rule.0 rule.1
  plus_given (inr rule) = operate_within op.Plus (IsMergeOf first second) rule.2
      (merged_given first second rule.0 rule.1 d e d_is e_is d_in e_in)

  pub operate_given : (is : Op) → IsStrict is → Operates is first second result → Gives result (operate is d e)
  operate_given op.Or strict rule = absurd strict
  operate_given op.And strict rule = absurd strict
  operate_given op.Equal strict rule = truth_given result rule.2 (same d e)
  operate_given op.Unequal strict rule = truth_given result rule.2 (not (same d e))
  operate_given op.Less strict rule =
      on_both result first second rule.0 _ (λ n m n_is m_is n_in m_in. truth_given result rule.1 (int_lt n m)) d e d_is e_is d_in e_in
  operate_given op.AtMost strict rule =
      on_both result first second rule.0 _ (λ n m n_is m_is n_in m_in. truth_given result rule.1 (int_le n m)) d e d_is e_is d_in e_in
  operate_given op.Greater strict rule =
      on_both result first second rule.0 _ (λ n m n_is m_is n_in m_in. truth_given result rule.1 (int_lt m n)) d e d_is e_is d_in e_in
  operate_given op.AtLeast strict rule =
      on_both result first second rule.0 _ (λ n m n_is m_is n_in m_in. truth_given result rule.1 (int_le m n)) d e d_is e_is d_in e_in
  operate_given op.Concat strict rule = operate_within op.Concat (IsJoinOf first second) rule.2
      (joined_given first second rule.0 rule.1 d e d_is e_is d_in e_in)
  operate_given op.Plus strict rule = plus_given rule
  operate_given op.Minus strict rule =
      on_both result first second rule.0 _ (resulting result first second (λ a b. a -ℤ b) rule.1) d e d_is e_is d_in e_in
  operate_given op.Times strict rule = on_both result first second rule.0 _
      (λ n m n_is m_is n_in m_in. all_integers result rule.1 (n *ℤ m)) d e d_is e_is d_in e_in
  operate_given op.Div strict rule = on_both result first second rule.0 _
      (λ n m n_is m_is n_in m_in. quotient result first second int_div rule.1 rule.2 n m m_in) d e d_is e_is d_in e_in
  operate_given op.Mod strict rule = on_both result first second rule.0 _
      (λ n m n_is m_is n_in m_in. quotient result first second int_rem rule.1 rule.2 n m m_in) d e d_is e_is d_in e_in

pub word_given : (operand result : Set) (d : Thing) → IsElement d → operand d → (is : Word) → WordGives is operand result
    → Gives result (word_outcome is d)
word_given operand result d d_is d_in word.Not rule = inverted_given result operand d d_is d_in rule.0 rule.1
word_given operand result d d_is d_in word.Flatten rule =
    gives_within (IsListOf (In rule.0)) result rule.3 (word_outcome word.Flatten d)
    (word_good IsElement AreFields elements_by_parts word.Flatten d d_is) (flattened_given (In rule.0) d (rule.2 d d_is d_in))
word_given operand result d d_is d_in word.IntOf rule = int_of_given result operand d d_is d_in rule.0 rule.1
word_given operand result d d_is d_in word.StringOf rule = string_of_given result operand d d_is d_in rule.0 rule.1
word_given operand result d d_is d_in word.MinOf rule = extreme_given result operand d d_is d_in rule.0 rule.1 (λ n m. int_lt n m)
word_given operand result d d_is d_in word.MaxOf rule = extreme_given result operand d d_is d_in rule.0 rule.1 (λ n m. int_lt m n)
word_given operand result d d_is d_in word.Raise rule = rule d d_is d_in
