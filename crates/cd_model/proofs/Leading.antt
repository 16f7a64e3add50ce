-- Places that lead to the names of a list alone, and what is left of the list where one of them is used up.
use Rattle.std.proofs.Common.{◌≡◌, ℕ, suc, ◌≤◌, List, [], ◌∷◌, Option, Some, None, inl, inr, length, refl, sym, subst, ◌∙◌, arith}
use Rattle.cd_syntax.specs.Name.{Name}
use Rattle.cd_syntax.specs.TypeTree as type
use Rattle.cd_syntax.specs.TypeTree.{Kind}
use Rattle.cd_model.specs.AllOf.{AllOf, AnyOf}
use Rattle.cd_model.specs.Guarded.{LeadsTo, IsGuarded}
use Rattle.cd_model.specs.Guarded as guarded
use Rattle.cd_model.specs.Scope.{Scope, Declared, declared_as}
use Rattle.cd_model.specs.Written.{kind_of}
use Rattle.cd_model.proofs.Covered as covered
use Rattle.cd_model.proofs.Covered.{Covered, declared_covered}
use Rattle.cd_model.proofs.DeclaredScope.{stands_in_a_list}
use Rattle.cd_model.proofs.Places.{AreClosed}

-- the name is one of these
abbrev pub IsIn : Declared → List Declared → Type 0
IsIn is names = AnyOf (λ name. name ≡ is) names

-- the names without the one at this place
abbrev pub without : (is : Declared) (names : List Declared) → IsIn is names → List Declared
without is [] place = []
without is (name ∷ names) (inl same) = names
without is (name ∷ names) (inr later) = name ∷ without is names later

one_less : (is : Declared) (names : List Declared) (place : IsIn is names)
    → suc (length (without is names place)) ≡ length names
one_less is [] place = elim place [ ]
one_less is (name ∷ names) (inl same) = refl
one_less is (name ∷ names) (inr later) = let step : _ = one_less is names later in omega arith

pub shorter : (is : Declared) (names : List Declared) (place : IsIn is names) (most : ℕ) → length names ≤ suc most
    → length (without is names place) ≤ most
shorter is names place most fits = let step : _ = one_less is names place in omega arith

still_in : (is : Declared) (names : List Declared) (place : IsIn is names) (other : Declared) → (other ≡ is → ⊥)
    → IsIn other names → IsIn other (without is names place)
still_in is [] place other differs among = among
still_in is (name ∷ names) (inl same) other differs (inl here) = absurd (differs (sym here ∙ same))
still_in is (name ∷ names) (inl same) other differs (inr there) = there
still_in is (name ∷ names) (inr later) other differs (inl here) = inl here
still_in is (name ∷ names) (inr later) other differs (inr there) = inr (still_in is names later other differs there)

-- what holds of each of them holds of one, and each of them is one
pub at_name : (Fact : Declared → Type 0) (names : List Declared) (is : Declared) → AllOf Fact names → IsIn is names → Fact is
at_name Fact [] is each place = elim place [ ]
at_name Fact (name ∷ names) is each (inl same) = subst Fact same each.0
at_name Fact (name ∷ names) is each (inr later) = at_name Fact names is each.1 later

pub of_each : (Fact : Declared → Type 0) (names : List Declared) → ((is : Declared) → IsIn is names → Fact is)
    → AllOf Fact names
of_each Fact [] every = tt
of_each Fact (name ∷ names) every = (every name (inl refl), of_each Fact names (λ is place. every is (inr place)))

-- a place whose names have the fact, and which leads to these names alone
pub record Leads (Fact : Declared → Type 0) (names : List Declared) (scope : Scope) (kind : Kind) : Type 0 where
  pub covered : Covered Fact scope kind
  pub to : (is : Declared) → LeadsTo [] scope kind is → IsIn is names

module _ (Fact : Declared → Type 0) where
  pub leads_closed : (names : List Declared) → AreClosed (Leads Fact names)
  leads_closed names = record {
    in_union = λ scope trees is one place. record {
      covered = covered.in_union Fact scope trees is one place.covered;
      to = λ name on. place.to name (guarded.LeadsTo.in_union [] scope trees is name one on);
    };
    in_first = λ scope is signs place. record {
      covered = covered.in_first Fact scope is signs place.covered;
      to = λ name on. place.to name (guarded.LeadsTo.in_first [] scope is signs name on);
    };
    in_signed = λ scope first is signs one place. record {
      covered = covered.in_signed Fact scope first is signs one place.covered;
      to = λ name on. place.to name (guarded.LeadsTo.in_signed [] scope first is signs name one on);
    };
    under_where = λ scope is declarations place. record {
      covered = covered.under_where Fact scope is declarations place.covered;
      to = λ name on. place.to name (guarded.LeadsTo.under_where [] scope is declarations name on);
    };
  }

  -- a name that leads nowhere is not declared
  pub is_undeclared : (names : List Declared) → length names ≤ 0 → (scope : Scope) (name : Name)
      → Leads Fact names scope (type.Named name) → declared_as scope name ≡ None
  is_undeclared (one ∷ names) fits scope name place = absurd (omega arith)
  is_undeclared [] fits scope name place = by_tree (declared_as scope name) refl
    where
      by_tree : (found : Option Declared) → declared_as scope name ≡ found → declared_as scope name ≡ None
      by_tree None found = found
      by_tree (Some is) found = elim (place.to is (guarded.LeadsTo.named [] scope name is found)) [ ]

  -- the tree of a name that is guarded leads to the other names alone
  pub leads_on : (names : List Declared) (scope : Scope) (name : Name) (is : Declared)
      → declared_as scope name ≡ Some is → IsGuarded is → (place : IsIn is names) → Leads Fact names scope (type.Named name)
      → Leads Fact (without is names place) is.scope (kind_of is.tree)
  leads_on names scope name is found is_guarded place leads = record {
    covered = (declared_covered Fact scope name is found leads.covered.over).place;
    to = λ last on. still_in is names place last
        (λ same. is_guarded (subst (λ last. LeadsTo [] is.scope (kind_of is.tree) last) same on))
        (leads.to last (guarded.LeadsTo.through_name [] scope name is last found
        (stands_in_a_list scope name is found) on));
  }
