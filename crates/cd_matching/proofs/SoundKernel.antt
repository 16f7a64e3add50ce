-- The kernel of `[x::Int* y::Int*]` is sound.
use Rattle.std.proofs.Common.{◌≡◌, ℕ, zero, suc, ◌<◌, List, [], ◌∷◌, ◌++◌, ◌⊎◌, inl, inr, length}
use Rattle.std.proofs.Common.{Some, refl, sym, subst, ◌∙◌, arith}
use Rattle.std.specs.Prelude.{◌↔◌}
use Rattle.std.specs.List.{slice_get}
use Rattle.std.proofs.lemmas.Option.{same_Some}
use Rattle.cd_syntax.specs.declared.constant.Constant.TheVariants as constant
use Rattle.cd_model.specs.AllOf.{AllOf, AnyOf}
use Rattle.cd_model.proofs.ByNumber.{all_got}
use Rattle.cd_matching.specs.Examples.{Test, IsTest, greedy_kernel}
use Rattle.cd_matching.specs.Kernel.{KernelNode, Put, leads_to, parts_of, variables_of, Ends, Binds}
use Rattle.cd_matching.specs.Kernel.{itself, further, BindDisjoint, IsSound}
use Rattle.cd_matching.proofs.NilIsElement.{nil_is_element}

-- a fact of each number below the length of a list
abbrev OfNumbers : {X : Type 0} → (ℕ → Type 0) → List X → Type 0
OfNumbers P [] = Unit {0}
OfNumbers P (x ∷ xs) = P zero × OfNumbers (λ number. P (suc number)) xs

of_number : {X : Type 0} (P : ℕ → Type 0) (xs : List X) → OfNumbers P xs → (number : ℕ)
    → number < length xs → P number
of_number P [] all number within = absurd (omega (arith, within))
of_number P (x ∷ xs) all zero within = all.0
of_number P (x ∷ xs) all (suc number) within =
    of_number (λ other. P (suc other)) xs all.1 number (omega (arith, within))

module _ {T : Type 0} (nodes : List (KernelNode T)) where
  -- what each node that binds one by itself says of the variable
  says_of : (P : ℕ → Type 0) (variable : ℕ) (node : List ℕ) → AllOf P node
      → AnyOf (λ other. other ≡ variable) node → P variable
  says_of P variable [] all any = absurd any
  says_of P variable (other ∷ rest) all (inl same) = subst P same all.0
  says_of P variable (other ∷ rest) all (inr later) = says_of P variable rest all.1 later

  bound_is : (P : ℕ → Type 0) → AllOf (λ node. AllOf P (variables_of node)) nodes
      → (variable number : ℕ) → Binds nodes variable number → P variable
  bound_is P all variable number (itself _ node there any) = says_of P variable (variables_of node)
      (all_got (λ other. AllOf P (variables_of other)) nodes number node all there) any
  bound_is P all variable number (further _ next node there among binds) =
      bound_is P all variable next binds

  -- a node that leads to none binds its own variables alone
  own_alone : (variable number : ℕ) (node : KernelNode T) → slice_get nodes number ≡ Some node
      → leads_to node ++ parts_of node ≡ [] → Binds nodes variable number
      → AnyOf (λ other. other ≡ variable) (variables_of node)
  own_alone variable number node there none (itself _ other here any) =
      subst (λ (n : KernelNode T). AnyOf (λ other. other ≡ variable) (variables_of n))
      (same_Some other node (sym here ∙ there)) any
  own_alone variable number node there none (further _ next other here among binds) =
      absurd (subst (AnyOf (λ other. other ≡ next)) none
      (subst (λ (n : KernelNode T). AnyOf (λ other. other ≡ next) (leads_to n ++ parts_of n))
      (same_Some other node (sym here ∙ there)) among))

abbrev nodes : List (KernelNode Test)
nodes = greedy_kernel.nodes

-- the first variable is bound at these nodes
x_at_8 : Binds nodes 0 8
x_at_8 = itself 8 (Put 0 constant.Nil) refl (inl refl)

x_at_7 : Binds nodes 0 7
x_at_7 = further 7 8 _ refl (inl refl) x_at_8

x_at_4 : Binds nodes 0 4
x_at_4 = further 4 7 _ refl (inr (inl refl)) x_at_7

x_at_1 : Binds nodes 0 1
x_at_1 = further 1 4 _ refl (inr (inl refl)) x_at_4

x_at_3 : Binds nodes 0 3
x_at_3 = further 3 1 _ refl (inr (inl refl)) x_at_1

x_at_2 : Binds nodes 0 2
x_at_2 = itself 2 _ refl (inl refl)

x_at_0 : Binds nodes 0 0
x_at_0 = further 0 1 _ refl (inr (inl refl)) x_at_1

-- and the second one
y_at_9 : Binds nodes 1 9
y_at_9 = itself 9 (Put 1 constant.Nil) refl (inl refl)

y_at_7 : Binds nodes 1 7
y_at_7 = further 7 9 _ refl (inr (inl refl)) y_at_9

y_at_4 : Binds nodes 1 4
y_at_4 = further 4 7 _ refl (inr (inl refl)) y_at_7

y_at_3 : Binds nodes 1 3
y_at_3 = itself 3 _ refl (inl refl)

y_at_1 : Binds nodes 1 1
y_at_1 = further 1 3 _ refl (inl refl) y_at_3

y_at_0 : Binds nodes 1 0
y_at_0 = further 0 1 _ refl (inr (inl refl)) y_at_1

y_at_2 : Binds nodes 1 2
y_at_2 = further 2 0 _ refl (inr (inl refl)) y_at_0

-- no other variable is
abbrev IsOne : ℕ → Type 0
IsOne variable = (0 ≡ variable) ⊎ (1 ≡ variable)

is_one : (variable number : ℕ) → Binds nodes variable number → IsOne variable
is_one = bound_is nodes IsOne (
  tt,
  (
    tt,
    (
      (inl refl, tt),
      (
        (inr refl, tt),
        (
          tt,
          (
            tt,
            (
              tt,
              (
                tt,
                (
                  (inl refl, tt),
                  ((inr refl, tt), tt),
                ),
              ),
            ),
          ),
        ),
      ),
    ),
  ),
)

binds_both : (number : ℕ) → Binds nodes 0 number → Binds nodes 1 number → (variable : ℕ)
    → IsOne variable → Binds nodes variable number
binds_both number first second variable (inl same) =
    subst (λ other. Binds nodes other number) same first
binds_both number first second variable (inr same) =
    subst (λ other. Binds nodes other number) same second

-- tests bind nothing, and constants one variable
no_variable : (variable number : ℕ) (node : KernelNode Test) → slice_get nodes number ≡ Some node
    → leads_to node ++ parts_of node ≡ [] → variables_of node ≡ [] → Binds nodes variable number → ⊥
no_variable variable number node there none own binds =
    subst (AnyOf (λ other. other ≡ variable)) own
    (own_alone nodes variable number node there none binds)

int_binds_none : (variable : ℕ) → Binds nodes variable 5 → ⊥
int_binds_none variable = no_variable variable 5 _ refl refl refl

nil_binds_none : (variable : ℕ) → Binds nodes variable 6 → ⊥
nil_binds_none variable = no_variable variable 6 _ refl refl refl

constants_apart : (variable : ℕ) → Binds nodes variable 8 → Binds nodes variable 9 → ⊥
constants_apart variable first second =
    apart (own_alone nodes variable 8 (Put 0 constant.Nil) refl refl first)
    (own_alone nodes variable 9 (Put 1 constant.Nil) refl refl second)
  where
    apart : AnyOf (λ other. other ≡ variable) (0 ∷ []) → AnyOf (λ other. other ≡ variable) (1 ∷ [])
        → ⊥
    apart (inl zero_is) (inl one_is) = absurd (omega (arith, zero_is, one_is))
    apart (inr none) _ = none
    apart _ (inr none) = none

ends : OfNumbers (Ends nodes 10) nodes
ends = (
  (tt, ((tt, ((tt, ((tt, (tt, tt)), tt)), tt)), tt)),
  (
    (tt, ((tt, ((tt, (tt, tt)), tt)), tt)),
    (tt, (tt, ((tt, ((tt, (tt, tt)), tt)), (tt, (tt, ((tt, (tt, tt)), (tt, (tt, tt)))))))),
  ),
)

-- what is asked of nodes that name two others
two : (first second : ℕ) → first < 10 → second < 10
    → AllOf (λ number. number < 10) (first ∷ second ∷ [])
two first second one other = (one, (other, tt))

apart_of_two : (first second : ℕ)
    → ((variable : ℕ) → Binds nodes variable first → Binds nodes variable second → ⊥)
    → BindDisjoint nodes (first ∷ second ∷ [])
apart_of_two first second apart =
    (λ variable binds. (apart variable binds, tt), (λ variable binds. tt, tt))

same_of_two : (first second : ℕ) → Binds nodes 0 first → Binds nodes 1 first
    → Binds nodes 0 second → Binds nodes 1 second
    → (variable : ℕ) → Binds nodes variable first ↔ Binds nodes variable second
same_of_two first second x_first y_first x_second y_second variable = (
  λ binds. binds_both second x_second y_second variable (is_one variable first binds),
  λ binds. binds_both first x_first y_first variable (is_one variable second binds),
)

below_two : (variable : ℕ) → variable < 2 → IsOne variable
below_two zero within = inl refl
below_two (suc zero) within = inr refl
below_two (suc (suc variable)) within = absurd (omega (arith, within))

pub greedy_is_sound : IsSound IsTest greedy_kernel
greedy_is_sound = record {
  root = omega arith;
  parts = (
    two 2 1 (omega arith) (omega arith),
    (
      two 3 4 (omega arith) (omega arith),
      (
        two 5 0 (omega arith) (omega arith),
        (
          two 5 1 (omega arith) (omega arith),
          (
            two 6 7 (omega arith) (omega arith),
            (
              tt,
              (
                tt,
                (
                  two 8 9 (omega arith) (omega arith),
                  (tt, (tt, tt)),
                ),
              ),
            ),
          ),
        ),
      ),
    ),
  );
  nodes = (
    same_of_two 2 1 x_at_2 y_at_2 x_at_1 y_at_1,
    (
      same_of_two 3 4 x_at_3 y_at_3 x_at_4 y_at_4,
      (
        (
          omega arith,
          apart_of_two 5 0 (λ variable binds. absurd (int_binds_none variable binds)),
          int_binds_none 0,
          x_at_0,
        ),
        (
          (
            omega arith,
            apart_of_two 5 1 (λ variable binds. absurd (int_binds_none variable binds)),
            int_binds_none 1,
            y_at_1,
          ),
          (
            apart_of_two 6 7 (λ variable binds. absurd (nil_binds_none variable binds)),
            (
              tt,
              (
                tt,
                (
                  apart_of_two 8 9 constants_apart,
                  ((omega arith, nil_is_element), ((omega arith, nil_is_element), tt)),
                ),
              ),
            ),
          ),
        ),
      ),
    ),
  );
  ends = of_number (Ends nodes 10) nodes ends;
  binds = λ variable within. binds_both 0 x_at_0 y_at_0 variable (below_two variable within);
}
