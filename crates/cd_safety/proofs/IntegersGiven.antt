-- What is given for elements that are integers or truth values.
use Rattle.std.proofs.Common.{◌≡◌, ℕ, zero, suc, ℤ, pos, negsuc, Bool, true, false, not, List, Option, Some, None, refl, sym, subst, codes, if◌then◌else◌}
use Rattle.std.specs.Fmt.{signed_decimal}
use Rattle.cd_syntax.specs.Integer.{IsInteger}
use Rattle.cd_model.specs.BuiltIns.{INT, BOOL, STRING}
use Rattle.cd_model.specs.Thing.{Thing, Integer, IsElement, AreFields}
use Rattle.cd_meaning.specs.Sets.{Set, ◌⊆◌}
use Rattle.cd_meaning.specs.Integers.{IsResultOf}
use Rattle.cd_typing.specs.Typ.{BuiltIn}
use Rattle.cd_typing.specs.Operators.{truth, AreIntegers}
use Rattle.cd_matching.specs.Sequences.{text_of}
use Rattle.cd_evaluation.specs.Runs.{Outcome, Done, Overflow}
use Rattle.cd_evaluation.specs.Integers.{is_integer, computed, divided, on_integers, spelled}
use Rattle.cd_evaluation.specs.Lists.{characters_of}
use Rattle.cd_evaluation.specs.Operations.{truth_of, inverted, if_spelled, int_of, string_of}
use Rattle.cd_safety.specs.Gives.{Gives}
use Rattle.cd_safety.proofs.BuiltInElements.{integer_here, integer_in, truth_here, truth_in, atom_in_data, text_here, text_in}
use Rattle.cd_safety.proofs.IntegersGood.{integer_is, digits_are, spelled_is}
use Rattle.cd_safety.proofs.OperationsGood.{truth_good, atom_good}
use Rattle.cd_safety.proofs.SequencesGood.{text_good}
use Rattle.cd_safety.proofs.SortsByParts.{elements_by_parts}

pub truth_element : (b : Bool) → IsElement (truth b)
truth_element b = truth_good IsElement AreFields elements_by_parts b

pub truth_read : (b : Bool) → truth_of (truth b) ≡ Some b
truth_read true = refl
truth_read false = refl

module _ (result : Set) where
  pub truth_given : BuiltIn BOOL ⊆ result → (b : Bool) → result (truth b)
  truth_given within b = within (truth b) (truth_element b) (truth_in b)

  computed_given : (n : ℤ) → (IsInteger n → result (Integer n)) → Gives result (computed n)
  computed_given n inside = by_test (is_integer n) refl
    where
      by_test : (fits : Bool) → is_integer n ≡ fits → Gives result (if fits then Done (Integer n) else Overflow)
      by_test true fits = inside (integer_is n fits)
      by_test false fits = tt

  pub all_integers : BuiltIn INT ⊆ result → (n : ℤ) → Gives result (computed n)
  all_integers within n = computed_given n (λ is. within (Integer n) is (integer_in n is))

  -- with operands of two sets
  module _ (first second : Set) where
    pub on_both : AreIntegers first second → (next : ℤ → ℤ → Outcome)
        → ((n m : ℤ) → IsInteger n → IsInteger m → first (Integer n) → second (Integer m) → Gives result (next n m))
        → (d e : Thing) → IsElement d → IsElement e → first d → second e → Gives result (on_integers next d e)
    on_both are next given d e d_is e_is d_in e_in =
        let n = integer_here d d_is (are.0 d d_is d_in) in
        let m = integer_here e e_is (are.1 e e_is e_in) in
        subst (λ v. IsElement v → first v → Gives result (on_integers next v e)) (sym n.1)
        (λ n_is n_in. subst (λ w. IsElement w → second w → Gives result (on_integers next (Integer n.0) w)) (sym m.1)
        (λ m_is m_in. given n.0 m.0 n_is m_is n_in m_in) e_is e_in) d_is d_in

    pub resulting : (compute : ℤ → ℤ → ℤ) → IsResultOf compute first second ⊆ result → (n m : ℤ) → IsInteger n → IsInteger m
        → first (Integer n) → second (Integer m) → Gives result (computed (compute n m))
    resulting compute within n m n_is m_is n_in m_in = computed_given (compute n m)
        (λ is. within (Integer (compute n m)) is (n, m, n_is, m_is, n_in, m_in, is, refl))

    pub quotient : (compute : ℤ → ℤ → ℤ) → (second (Integer (pos 0)) → ⊥) → BuiltIn INT ⊆ result → (n m : ℤ) → second (Integer m)
        → Gives result (divided compute n m)
    quotient compute none within n (pos zero) m_in = absurd (none m_in)
    quotient compute none within n (pos (suc m)) m_in = all_integers within (compute n (pos (suc m)))
    quotient compute none within n (negsuc m) m_in = all_integers within (compute n (negsuc m))

  -- words before an operand of a set
  module _ (operand : Set) (d : Thing) (d_is : IsElement d) (d_in : operand d) where
    pub inverted_given : operand ⊆ BuiltIn BOOL → BuiltIn BOOL ⊆ result → Gives result (inverted (truth_of d))
    inverted_given are within =
        let b = truth_here d (are d d_is d_in) in
        subst (λ v. Gives result (inverted (truth_of v))) (sym b.1)
        (subst (λ found. Gives result (inverted found)) (sym (truth_read b.0)) (truth_given within (not b.0)))

    pub int_of_given : operand ⊆ BuiltIn STRING → BuiltIn INT ⊆ result → Gives result (int_of (characters_of d))
    int_of_given are within =
        let text = text_here d d_is (are d d_is d_in) in
        subst (λ found. Gives result (int_of found)) (sym text.1) (by_test text.0 (spelled text.0) refl)
      where
        by_test : (text : List ℕ) (n : Option ℤ) → spelled text ≡ n → Gives result (if_spelled n)
        by_test text None none =
            atom_in_data (codes "Invalid_int") (atom_good IsElement AreFields elements_by_parts (codes "Invalid_int") refl refl)
        by_test text (Some n) some = let is = spelled_is text n some in within (Integer n) is (integer_in n is)

    pub string_of_given : operand ⊆ BuiltIn INT → BuiltIn STRING ⊆ result → Gives result (string_of d)
    string_of_given are within =
        let n = integer_here d d_is (are d d_is d_in) in
        subst (λ v. IsElement v → Gives result (string_of v)) (sym n.1) (λ n_is.
        within (text_of (signed_decimal n.0))
        (text_good IsElement AreFields elements_by_parts (signed_decimal n.0) (digits_are n.0 n_is))
        (text_in (signed_decimal n.0) (digits_are n.0 n_is))) d_is
