-- The kernel of `[x::Int* y::Int*]` is made of it, and has no more.
use Rattle.std.proofs.Common.{◌≡◌, ◌<◌, ◌≤◌, ℕ, zero, suc, Bool, true, false, ◌||◌, ◌&&◌, List, []}
use Rattle.std.proofs.Common.{◌∷◌, inl, inr, length, Some, refl, sym, ap, ap₂, subst, ◌∙◌, arith}
use Rattle.std.proofs.Common.{bytes_eq, codes}
use Rattle.std.specs.List.{slice_get}
use Rattle.std.specs.Option.{unwrap_or}
use Rattle.std.proofs.lemmas.Bool.{true≢false}
use Rattle.std.proofs.lemmas.Option.{none-some, same_Some}
use Rattle.cd_sets.specs.declared.node_id.NodeId.{NodeId}
use Rattle.cd_syntax.specs.Name.{Name}
use Rattle.cd_model.specs.BuiltIns.{INT, built_ins}
use Rattle.cd_matching.specs.Kernel.{KernelNode, Ends}
use Rattle.cd_matching.specs.Naming.{IsNamed}
use Rattle.cd_matching.specs.Pattern.{OfType}
use Rattle.cd_matching.specs.Variables.{binds}
use Rattle.cd_kernel.specs.Alternatives.{HasAlternatives}
use Rattle.cd_moves.specs.Automaton.{Move, End, To, ItemOf, items_of, rows_of}
use Rattle.cd_kernel.specs.Chains.{one_node}
use Rattle.cd_kernel.specs.Copies.{IsNumber, is_among, gatherer, Copy, IsState, IsCopy}
use Rattle.cd_kernel.specs.Examples.{two_gather, greedy, greedy_kernel}
use Rattle.cd_kernel.specs.Making.{the_types, AreCopies, IsKernelOf, IsMade}
use Rattle.cd_kernel.specs.Parts.{IsPart, made, next, HasNoMore}
use Rattle.cd_kernel.specs.WellMade.{IsWellMade}
use Rattle.cd_kernel.proofs.VariableNumbers.{names_same, name_turned}

abbrev x : Name
x = codes "x"

abbrev y : Name
y = codes "y"

abbrev nodes : List (KernelNode NodeId)
nodes = greedy_kernel.nodes

abbrev item_of : Name → ItemOf NodeId
item_of name = (OfType INT, name ∷ [])

abbrev the_copy : Copy
the_copy = record {
  plain = true;
  group = x ∷ y ∷ [];
  items = 5 ∷ 5 ∷ [];
  states = 0 ∷ 1 ∷ [];
  start = 0;
}

abbrev is_state : List Move → ℕ → Type 0
is_state = IsState the_types greedy_kernel.variables nodes the_copy (items_of [] two_gather)

alone_in : (name only : Name) → (bytes_eq name only || false) ≡ true → only ≡ name
alone_in name only h = by_test (bytes_eq name only) refl h
  where
    by_test : (b : Bool) → bytes_eq name only ≡ b → (b || false) ≡ true → only ≡ name
    by_test true same h = sym (names_same name only same)
    by_test false same h = absurd (true≢false (sym h))

groups_are : (a b : Bool)
    → ((a || (b || false)) || false) ≡ (true && ((a || false) || ((b || false) || false)))
groups_are true b = refl
groups_are false true = refl
groups_are false false = refl

abbrev after_one : List Move
after_one = To 1 ∷ End ∷ []

second_state : is_state after_one 1
second_state = (
  3,
  4,
  refl,
  (5, 1, (item_of y), refl, refl, refl, (1, refl, refl)),
  (0, 8, 7, refl, refl, refl, (1, 9, 6, refl, refl, refl, refl)),
)

first_state : is_state (To 0 ∷ after_one) 0
first_state =
    (2, 1, refl, (5, 0, (item_of x), refl, refl, refl, (0, refl, refl)), second_state)

goes_on : (place number : ℕ) → slice_get the_copy.states place ≡ Some number
    → is_state (unwrap_or (slice_get (rows_of two_gather) place) []) number
goes_on zero number h = subst (is_state (To 0 ∷ after_one)) (same_Some 0 number h) first_state
goes_on (suc zero) number h = subst (is_state after_one) (same_Some 1 number h) second_state
goes_on (suc (suc zero)) number h = absurd (none-some number h)
goes_on (suc (suc (suc place))) number h = absurd (none-some number h)

alone : (place : ℕ) (of : ItemOf NodeId) (name : Name)
    → slice_get (items_of [] two_gather) place ≡ Some of → is_among the_copy.group name ≡ true
    → is_among of.1 name ≡ true → gatherer the_copy.group of.1 ≡ Some name
alone zero of name h in_group around =
    let same = same_Some (item_of x) of h in
    ap (λ (o : ItemOf NodeId). gatherer the_copy.group o.1) (sym same)
    ∙ ap Some (alone_in name x
    (subst (λ (o : ItemOf NodeId). is_among o.1 name ≡ true) (sym same) around))
alone (suc zero) of name h in_group around =
    let same = same_Some (item_of y) of h in
    ap (λ (o : ItemOf NodeId). gatherer the_copy.group o.1) (sym same)
    ∙ ap Some (alone_in name y
    (subst (λ (o : ItemOf NodeId). is_among o.1 name ≡ true) (sym same) around))
alone (suc (suc zero)) of name h in_group around = absurd (none-some of h)
alone (suc (suc (suc place))) of name h in_group around = absurd (none-some of h)

is_copy : IsCopy the_types greedy_kernel.variables nodes two_gather the_copy
is_copy = record {
  starts = first_state;
  goes_on = goes_on;
  distinct = (refl, (refl, tt));
  alone = alone;
}

are_copies : AreCopies the_types greedy_kernel.variables nodes (λ name. true) two_gather
    (the_copy ∷ []) 0
are_copies = record {
  joined = one_node 0;
  each = (is_copy, tt);
  groups = λ name.
      ap₂ (λ (a b : Bool). (a || (b || false)) || false) (name_turned name x) (name_turned name y)
      ∙ groups_are (bytes_eq x name) (bytes_eq y name);
  plain = refl;
  disjoint = (λ name h. refl, λ h. refl, tt);
  apart = ((refl, tt), ((refl, tt), tt));
}

is_kernel : IsKernelOf the_types greedy_kernel.variables nodes (λ name. true) greedy 0
is_kernel = (the_copy ∷ [], are_copies, (((5, refl, refl), ((5, refl, refl), tt)), tt))

ends : (number : ℕ) → number < 10 → Ends nodes 10 number
ends zero within = (tt, ((tt, ((tt, ((tt, (tt, tt)), tt)), tt)), tt))
ends (suc zero) within = (tt, ((tt, ((tt, (tt, tt)), tt)), tt))
ends (suc (suc zero)) within = tt
ends (suc (suc (suc zero))) within = tt
ends (suc (suc (suc (suc zero)))) within = (tt, ((tt, (tt, tt)), tt))
ends (suc (suc (suc (suc (suc zero))))) within = tt
ends (suc (suc (suc (suc (suc (suc zero)))))) within = tt
ends (suc (suc (suc (suc (suc (suc (suc zero))))))) within = (tt, (tt, tt))
ends (suc (suc (suc (suc (suc (suc (suc (suc zero)))))))) within = tt
ends (suc (suc (suc (suc (suc (suc (suc (suc (suc zero))))))))) within = tt
ends (suc (suc (suc (suc (suc (suc (suc (suc (suc (suc number)))))))))) within =
    absurd (omega (arith, within))

pub is_made : IsMade greedy greedy_kernel
is_made = record { made = is_kernel; ends = ends }

pub is_named : IsNamed greedy
is_named = (
  ((refl, tt), ((refl, tt), tt)),
  λ name h. refl,
  (λ name h. refl, ((λ name. refl), tt), (λ name h. refl, ((λ name. refl), tt), tt)),
)

pub is_well_made : (n : ℕ) → length built_ins ≤ n → IsWellMade (λ id. id.0 < n) greedy
is_well_made n long = (an_int n long, (an_int n long, tt))
  where
    an_int : (n : ℕ) → 14 ≤ n → 2 < n
    an_int n long = omega (arith, long)

pub has_alternatives : HasAlternatives greedy
has_alternatives = (tt, (tt, tt))

module _ (n : ℕ) (long : length built_ins ≤ n) where
  abbrev is_part : ℕ → Type 0
  is_part = IsPart (λ id. id.0 < n) the_types greedy_kernel.variables nodes

  root : is_part 0
  root = made (λ name. true) greedy 0 is_kernel is_named (is_well_made n long) has_alternatives

  at_one : is_part 1
  at_one = next 0 1 _ root refl (inr (inl refl))

  at_two : is_part 2
  at_two = next 0 2 _ root refl (inl refl)

  at_four : is_part 4
  at_four = next 1 4 _ at_one refl (inr (inl refl))

  at_seven : is_part 7
  at_seven = next 4 7 _ at_four refl (inr (inl refl))

  parts : (number : ℕ) → number < 10 → is_part number
  parts zero within = root
  parts (suc zero) within = at_one
  parts (suc (suc zero)) within = at_two
  parts (suc (suc (suc zero))) within = next 1 3 _ at_one refl (inl refl)
  parts (suc (suc (suc (suc zero)))) within = at_four
  parts (suc (suc (suc (suc (suc zero))))) within = next 2 5 _ at_two refl (inl refl)
  parts (suc (suc (suc (suc (suc (suc zero)))))) within =
      next 7 6 _ at_seven refl (inr (inl refl))
  parts (suc (suc (suc (suc (suc (suc (suc zero))))))) within = at_seven
  parts (suc (suc (suc (suc (suc (suc (suc (suc zero)))))))) within =
      next 4 8 _ at_four refl (inl refl)
  parts (suc (suc (suc (suc (suc (suc (suc (suc (suc zero))))))))) within =
      next 7 9 _ at_seven refl (inl refl)
  parts (suc (suc (suc (suc (suc (suc (suc (suc (suc (suc number)))))))))) within =
      absurd (omega (arith, within))

  variables : (variable : ℕ) → variable < 2
      → (name : Name) × IsNumber greedy_kernel.variables name variable
      × (binds greedy name ≡ true)
  variables zero within = (x, refl, refl)
  variables (suc zero) within = (y, refl, refl)
  variables (suc (suc variable)) within = absurd (omega (arith, within))

  pub has_no_more : HasNoMore (λ id. id.0 < n) the_types greedy greedy_kernel
  has_no_more = record { parts = parts; variables = variables }
