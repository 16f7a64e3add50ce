-- Unions: what is left of their members, one after the other.
use Rattle.std.proofs.Common.{◌≡◌, ◌<◌, ◌≤◌, ◌+◌, ◌-◌, ◌↔◌, ℕ, zero, suc, true, false, List, []}
use Rattle.std.proofs.Common.{◌∷◌}
use Rattle.std.proofs.Common.{◌++◌, ◌⊎◌, inl, inr, length, length-append, append-nil, Option}
use Rattle.std.proofs.Common.{Some, None, refl}
use Rattle.std.proofs.Common.{sym, ap, subst, ◌∙◌, arith}
use Rattle.cd_sets.specs.declared.node_id.NodeId.{NodeId}
use Rattle.cd_model.proofs.BothWays.{through, itself, one_agrees}
use Rattle.cd_model.proofs.Extending.{kept_elements, kept_formulas}
use Rattle.cd_model.specs.AllOf.{AllOf}
use Rattle.cd_model.specs.BuiltIns.{node}
use Rattle.cd_model.specs.Formula as formula
use Rattle.cd_model.specs.Formula.{Graph, Formula, IsFormula, IsGraph, formulas_of}
use Rattle.cd_model.specs.Formula.{formula_at, in_node}
use Rattle.cd_model.specs.Membership.{Reader, holds, one_holds, reader}
use Rattle.cd_model.specs.Thing.{Thing}
use Rattle.cd_model.proofs.FormulasAmongMore.{are_formulas}
use Rattle.cd_sites.specs.Inner.Differences.{IsLeftOver, IsRest, AreLeft, formulas_in}
use Rattle.cd_sites.proofs.DifferencesMade.{new_formula, last_is_node, last_holds}
use Rattle.cd_sites.proofs.MembersOfUnions.{among_more}

-- one of these holds, by its number
module _ (read : Reader) where
  pub with_number : (all : List Formula) → one_holds read (formulas_of all) true
      → (number : ℕ) × (number < length all) × holds read (formula_at all (node number)) true
  with_number [] none = absurd none
  with_number (f ∷ all) (inl here) = (zero, omega arith, here)
  with_number (f ∷ all) (inr later) =
      let found = with_number all later in (suc found.0, omega (arith, found.1), found.2)

  pub at_its_number : (all : List Formula) (number : ℕ) → number < length all
      → holds read (formula_at all (node number)) true → one_holds read (formulas_of all) true
  at_its_number [] number below here = absurd (omega (arith, below))
  at_its_number (f ∷ all) zero below here = inl here
  at_its_number (f ∷ all) (suc number) below here =
      inr (at_its_number all number (omega (arith, below)) here)

-- with what is left of one node more
module _ (graph : Graph) (other : NodeId) (first number : ℕ) where
  module _ (all : List Formula) (left : AreLeft graph other first number all)
      (within : first ≤ number) where
    none_more : IsRest graph (node number) other None
        → AreLeft graph other first (number + 1) all
    none_more rest = record {
      sound = left.sound;
      elements = λ e element. (
        λ one. let found = (left.elements e element).0 one in
            (found.0, found.1, omega (arith, found.2), found.3, found.4),
        λ found. elim (below_or_same found.0 found.2) [
          | inl below ↦
              (left.elements e element).1 (found.0, found.1, below, found.3, found.4)
          | inr same ↦ absurd (rest e element
              (subst (λ (n : ℕ). in_node graph e (node n) true) same found.3) found.4)
        ],
      );
    }
      where
        below_or_same : (n : ℕ) → n < number + 1 → (n < number) ⊎ (n ≡ number)
        below_or_same n below = grind arith

    one_more : (f : Formula) → IsRest graph (node number) other (Some f)
        → AreLeft graph other first (number + 1) (all ++ (f ∷ []))
    one_more f rest = record {
      sound = each_and all left.sound;
      elements = λ e element. (
        λ one. elim ((among_more (reader graph e) all f).0 one) [
          | inl before ↦ let found = (left.elements e element).0 before in
              (found.0, found.1, omega (arith, found.2), found.3, found.4)
          | inr here ↦ let both = (rest.1 e element).0 here in
              (number, within, omega arith, both.0, both.1)
        ],
        λ found. (among_more (reader graph e) all f).1
            (elim (below_or_same found.0 found.2) [
              | inl below ↦ inl
                  ((left.elements e element).1 (found.0, found.1, below, found.3, found.4))
              | inr same ↦ inr ((rest.1 e element).1
                  (subst (λ (n : ℕ). in_node graph e (node n) true) same found.3, found.4))
            ]),
      );
    }
      where
        below_or_same : (n : ℕ) → n < number + 1 → (n < number) ⊎ (n ≡ number)
        below_or_same n below = grind arith

        each_and : (some : List Formula) → AllOf (IsFormula (length graph)) some
            → AllOf (IsFormula (length graph)) (some ++ (f ∷ []))
        each_and [] each = (rest.0, tt)
        each_and (one ∷ some) each = (each.0, each_and some each.1)

    pub with_rest : (rest : Option Formula) → IsRest graph (node number) other rest
        → AreLeft graph other first (number + 1) (all ++ formulas_in rest)
    with_rest None is = subst (AreLeft graph other first (number + 1)) (sym (append-nil all))
        (none_more is)
    with_rest (Some f) is = one_more f is

-- nothing is left at first
pub none_at_first : (graph : Graph) (other : NodeId) (first : ℕ)
    → AreLeft graph other first first []
none_at_first graph other first = record {
  sound = tt;
  elements = λ e element. (λ none. absurd none, λ found. absurd (omega (arith, found.1, found.2)));
}

-- Some formulas are put into the graph, and then a union of what is left of them
module _ (graph : Graph) (sound : IsGraph graph) (other : NodeId)
    (other_below : other.0 < length graph) (members : List Formula)
    (are : AllOf (IsFormula (length graph)) members) where
  abbrev longer : Graph
  longer = graph ++ members

  kept : (all : List Formula) → AllOf (IsFormula (length graph)) all → (e : Thing)
      → one_holds (reader graph e) (formulas_of all) true
      ↔ one_holds (reader longer e) (formulas_of all) true
  kept [] each e = itself
  kept (f ∷ all) each e =
      one_agrees (kept_formulas graph members sound e f true each.0) (kept all each.1 e)

  at_number : (e : Thing) → one_holds (reader longer e) (formulas_of members) true
      ↔ ((number : ℕ) × (length graph ≤ number) × (number < length longer)
      × in_node longer e (node number) true)
  at_number e = (
    λ one. let found = with_number (reader longer e) members one in (
      length graph + found.0,
      omega arith,
      omega (arith, found.1, length-append graph members),
      subst (λ (f : Formula). holds (reader longer e) f true)
          (sym (new_formula graph members found.0 (length graph + found.0) refl)) found.2,
    ),
    λ found. by_rest found.0 found.1 found.2 found.3,
  )
    where
      by_rest : (number : ℕ) → length graph ≤ number → number < length longer
          → in_node longer e (node number) true
          → one_holds (reader longer e) (formulas_of members) true
      by_rest number least below here =
          at_its_number (reader longer e) members (number - length graph)
          (omega (arith, least, below, length-append graph members))
          (subst (λ (f : Formula). holds (reader longer e) f true)
          (new_formula graph members (number - length graph) number (omega (arith, least))) here)

  pub left_over : IsGraph longer → (left : List Formula)
      → AreLeft longer other (length graph) (length longer) left → (new : Graph)
      → new ≡ longer ++ (formula.Or (formulas_of left) ∷ []) → (id : NodeId)
      → id.0 ≡ length longer → IsLeftOver graph members other new id
  left_over still left are_left new added id last =
      let is = are_formulas (length longer) left are_left.sound in
      record {
        is_node = last_is_node longer still (formula.Or (formulas_of left)) is new added id last;
        elements = λ e element. through
            (last_holds longer still (formula.Or (formulas_of left)) is new added id last e)
            (through (are_left.elements e element) (both_ways e));
      }
    where
      both_ways : (e : Thing) → ((number : ℕ) × (length graph ≤ number)
          × (number < length longer) × in_node longer e (node number) true
          × in_node longer e other false)
          ↔ (one_holds (reader graph e) (formulas_of members) true × in_node graph e other false)
      both_ways e = (
        λ found. (
          (kept members are e).1 ((at_number e).1 (found.0, found.1, found.2, found.3)),
          (kept_elements graph members sound e other false other_below).1 found.4,
        ),
        λ both. let found = (at_number e).0 ((kept members are e).0 both.0) in (
          found.0,
          found.1,
          found.2,
          found.3,
          (kept_elements graph members sound e other false other_below).0 both.1,
        ),
      )

  -- as code finds it
  pub as_put : (extended list : Graph) → extended ≡ graph ++ list → list ≡ members
      → IsGraph extended → (first : ℕ) → first ≡ length graph → (left : List Formula)
      → AreLeft extended other first (length extended) left → (seen : Graph) → seen ≡ extended
      → (f : Formula) → f ≡ formula.Or (formulas_of left) → (new : Graph)
      → new ≡ seen ++ (f ∷ []) → (id : NodeId) → id.0 ≡ length seen
      → IsLeftOver graph members other new id
  as_put extended list same list_is still first first_is left are_left seen seen_is f f_is new
      added id last =
      left_over (subst IsGraph whole still) left
      (subst (λ (n : ℕ). AreLeft longer other n (length longer) left) first_is
      (subst (λ (g : Graph). AreLeft g other first (length g) left) whole are_left)) new
      (added ∙ (λ i. (seen_is ∙ whole) i ++ (f_is i ∷ []))) id
      (last ∙ ap length (seen_is ∙ whole))
    where
      whole : extended ≡ longer
      whole = same ∙ ap (λ (fs : Graph). graph ++ fs) list_is
