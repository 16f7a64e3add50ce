-- Where names are guarded, as many as are declared are enough to use up: more of them change no answer.
use Rattle.std.proofs.Common.{◌≡◌, ℕ, zero, suc, ◌≤◌, Bool, false, List, [], Option, Some, None, length, ◌↔◌, refl, sym, subst, arith}
use Rattle.cd_syntax.specs.Name.{Name}
use Rattle.cd_syntax.specs.TypeTree as type
use Rattle.cd_syntax.specs.TypeTree.{Kind}
use Rattle.cd_model.specs.Alike.{ReadAlike}
use Rattle.cd_model.specs.AllOf.{AllOf}
use Rattle.cd_model.specs.Guarded.{IsGuarded, NamesAreGuarded}
use Rattle.cd_model.specs.Guarded as guarded
use Rattle.cd_model.specs.Scope.{Scope, Declared, declared_as, names_in, names_over, names_seen}
use Rattle.cd_model.specs.Thing.{Thing}
use Rattle.cd_model.specs.Types.{Reader, Admits, reader, answers, no_closure, closure_maps}
use Rattle.cd_model.specs.Written.{WrittenType, Written, type_named, type_of, number_of_names, declared_holds, name_holds, written}
use Rattle.cd_model.proofs.Alike.{head_alike}
use Rattle.cd_model.proofs.BothWays.{itself, turned, through}
use Rattle.cd_model.proofs.Covered.{each_parts, covered_tree, led_to}
use Rattle.cd_model.proofs.FormulasAlike.{formulas_alike, built_ins_stand}
use Rattle.cd_model.proofs.Leading.{IsIn, without, shorter, at_name, of_each, Leads, leads_closed, is_undeclared, leads_on}
use Rattle.cd_model.proofs.Places.{AlikeAtNames, tree_alike, kind_alike}
use Rattle.cd_model.proofs.Seen.{IsSeen, seen_named, seen_head}
use Rattle.cd_model.proofs.ValuesAlike.{AlwaysAlike, elements_alike, values_alike}

-- nothing is in a name that is not declared
undeclared : (read : Reader WrittenType) (count : ℕ) (scope : Scope) (name : Name) (answer : Bool) → declared_as scope name ≡ None
    → name_holds read count scope name answer ↔ (answer ≡ false)
undeclared read zero scope name answer found = itself
undeclared read (suc count) scope name answer found =
    subst (λ is. declared_holds read (name_holds read count) is answer ↔ (answer ≡ false)) (sym found) itself

-- names that have this fact are guarded
module _ (Fact : Declared → Type 0) (guards : (is : Declared) → Fact is → IsGuarded is) where
  module _ (one other : Reader WrittenType) (alike : ReadAlike (IsSeen Fact) one other) where
    both_undeclared : (count count' : ℕ) (scope : Scope) (name : Name) (answer : Bool) → declared_as scope name ≡ None
        → name_holds one count scope name answer ↔ name_holds other count' scope name answer
    both_undeclared count count' scope name answer found =
        through (undeclared one count scope name answer found) (turned (undeclared other count' scope name answer found))

    -- neither number matters where each is at least that of the names that a place leads to
    pub names_alike : (count count' : ℕ) (names : List Declared) → length names ≤ count → length names ≤ count'
        → AlikeAtNames (Leads Fact names) (name_holds one count) (name_holds other count')
    names_alike zero count' names fits fits' scope name leads answer =
        both_undeclared zero count' scope name answer (is_undeclared Fact names fits scope name leads)
    names_alike (suc count) zero names fits fits' scope name leads answer =
        both_undeclared (suc count) zero scope name answer (is_undeclared Fact names fits' scope name leads)
    names_alike (suc count) (suc count') names fits fits' scope name leads answer =
        by_tree (declared_as scope name) refl (names_alike count count')
      where
        Next : Type 0
        Next = (names : List Declared) → length names ≤ count → length names ≤ count'
            → AlikeAtNames (Leads Fact names) (name_holds one count) (name_holds other count')

        by_tree : (found : Option Declared) → declared_as scope name ≡ found → Next
            → name_holds one (suc count) scope name answer ↔ name_holds other (suc count') scope name answer
        by_tree None found next = both_undeclared (suc count) (suc count') scope name answer found
        by_tree (Some is) found next = subst
            (λ is. declared_holds one (name_holds one count) is answer ↔ declared_holds other (name_holds other count') is answer)
            (sym found) (by_place (leads.to is (guarded.LeadsTo.named [] scope name is found)))
          where
            by_place : IsIn is names → declared_holds one (name_holds one count) (Some is) answer
                ↔ declared_holds other (name_holds other count') (Some is) answer
            by_place place = tree_alike (Leads Fact (without is names place)) (leads_closed Fact (without is names place))
                one other
                (λ scope kind leads. head_alike (IsSeen Fact) one other alike _ _ (seen_head Fact scope kind leads.covered))
                (λ name. formulas_alike (IsSeen Fact) one other alike _ _
                (built_ins_stand (IsSeen Fact) type_named type_named (seen_named Fact) name))
                (name_holds one count) (name_holds other count')
                (next (without is names place) (shorter is names place count fits) (shorter is names place count' fits'))
                is.scope is.tree
                (leads_on Fact names scope name is found (guards is (led_to Fact [] scope (type.Named name) is
                (guarded.LeadsTo.named [] scope name is found) leads.covered)) place leads)
                answer

  -- all names that have the fact are among these, which are no more than either number
  module _ (names : List Declared) (among : (is : Declared) → Fact is → IsIn is names)
      (count count' : ℕ) (fits : length names ≤ count) (fits' : length names ≤ count') where
    pub written_alike : AlwaysAlike (IsSeen Fact) (written count) (written count')
    written_alike closed closing is of alike x y seen answer =
        let one = reader (written count) closed is in
        let other = reader (written count') closing is in
        subst (λ (y : WrittenType). written count one x answer ↔ written count' other y answer) seen.same
        (kind_alike (Leads Fact names) (leads_closed Fact names) one other
        (λ scope kind leads. head_alike (IsSeen Fact) one other alike _ _ (seen_head Fact scope kind leads.covered))
        (λ name. formulas_alike (IsSeen Fact) one other alike _ _
        (built_ins_stand (IsSeen Fact) type_named type_named (seen_named Fact) name))
        (name_holds one count) (name_holds other count') (names_alike one other alike count count' names fits fits')
        x.scope x.kind
        (record { covered = seen.covered; to = λ is on. among is (led_to Fact [] x.scope x.kind is on seen.covered) })
        answer)

-- the names that a type sees are those of a place, and all of them are guarded
abbrev pub IsOfType : Written → Declared → Type 0
IsOfType type is = IsGuarded is × IsIn is (names_seen type.scope type.tree)

module _ (type : Written) (are_guarded : NamesAreGuarded type) where
  pub all_seen : IsSeen (IsOfType type) (type_of type) (type_of type)
  all_seen = by_parts (each_parts (IsOfType type) (names_in type.scope type.tree) (names_over type.scope)
      (of_each (IsOfType type) (names_seen type.scope type.tree)
      (λ is place. (at_name IsGuarded (names_seen type.scope type.tree) is are_guarded place, place))))
    where
      by_parts : AllOf (IsOfType type) (names_in type.scope type.tree) × AllOf (IsOfType type) (names_over type.scope)
          → IsSeen (IsOfType type) (type_of type) (type_of type)
      by_parts parts = record { covered = covered_tree (IsOfType type) type.scope type.tree parts.0 parts.1; same = refl }

  enough : (more : ℕ) → number_of_names type ≤ more
      → AlwaysAlike (IsSeen (IsOfType type)) (written (number_of_names type)) (written more)
  enough more fits = written_alike (IsOfType type) (λ is seen. seen.0) (names_seen type.scope type.tree) (λ is seen. seen.1)
      (number_of_names type) more (omega arith) fits

  pub enough_for_elements : (more : ℕ) (is : Thing) (answer : Bool) → number_of_names type ≤ more
      → answers (written (number_of_names type)) no_closure is (type_of type) answer
      ↔ answers (written more) no_closure is (type_of type) answer
  enough_for_elements more is answer fits = elements_alike (IsSeen (IsOfType type)) (written (number_of_names type)) (written more)
      (enough more fits) is (type_of type) (type_of type) all_seen answer

  pub enough_for_values : (admits : Admits) (more : ℕ) (is : Thing) (answer : Bool) → number_of_names type ≤ more
      → answers (written (number_of_names type)) (closure_maps (written (number_of_names type)) admits) is (type_of type) answer
      ↔ answers (written more) (closure_maps (written more) admits) is (type_of type) answer
  enough_for_values admits more is answer fits = values_alike (IsSeen (IsOfType type)) (written (number_of_names type)) (written more)
      (enough more fits) admits admits (λ function pairs sound. itself) is (type_of type) (type_of type) all_seen answer
