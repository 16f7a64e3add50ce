-- Places all of whose names have a fact, and the parts of these places.
use Rattle.std.proofs.Common.{◌≡◌, Bool, true, false, List, [], ◌∷◌, ◌++◌, Option, Some, None, ◌⊎◌, inl, inr, subst, bytes_eq, if◌then◌else◌}
use Rattle.std.proofs.lemmas.Bool.{cases_Bool}
use Rattle.std.proofs.lemmas.Option.{none-some, same_Some}
use Rattle.std.proofs.lemmas.Slice.Eq.{bytes_eq-Decides}
use Rattle.cd_syntax.specs.Name.{Name}
use Rattle.cd_syntax.specs.TypeTree as type
use Rattle.cd_syntax.specs.TypeTree.{Tree, tree, Kind, Trees, ATree, Signs, ASign, Declarations, NoDeclaration, ADeclaration}
use Rattle.cd_model.specs.AllOf.{AllOf}
use Rattle.cd_model.specs.Guarded.{IsOneOf, IsSigned, LeadsTo}
use Rattle.cd_model.specs.Guarded as guarded
use Rattle.cd_model.specs.Scope.{Scope, Declared, tree_in, declared_or, declared_as, names_in, names_in_kind, names_in_trees, names_in_signs, names_declared, names_over}
use Rattle.cd_model.specs.Written.{kind_of}

-- the names in a form, and those that it stands under, have the fact
pub record Covered (Fact : Declared → Type 0) (scope : Scope) (kind : Kind) : Type 0 where
  pub within : AllOf Fact (names_in_kind scope kind)
  pub over : AllOf Fact (names_over scope)

-- a name that is declared has the fact, and so have the names of its tree
pub record IsCovered (Fact : Declared → Type 0) (is : Declared) : Type 0 where
  pub itself : Fact is
  pub place : Covered Fact is.scope (kind_of is.tree)

-- what holds of each of two lists, one after the other
pub each_parts : {X : Type 0} (Fact : X → Type 0) (first second : List X) → AllOf Fact (first ++ second)
    → AllOf Fact first × AllOf Fact second
each_parts Fact [] second each = (tt, each)
each_parts Fact (one ∷ first) second each = by_rest (each_parts Fact first second each.1)
  where
    by_rest : AllOf Fact first × AllOf Fact second → AllOf Fact (one ∷ first) × AllOf Fact second
    by_rest rest = ((each.0, rest.0), rest.1)

pub each_both : {X : Type 0} (Fact : X → Type 0) (first second : List X) → AllOf Fact first → AllOf Fact second
    → AllOf Fact (first ++ second)
each_both Fact [] second is_first is_second = is_second
each_both Fact (one ∷ first) second is_first is_second =
    (is_first.0, each_both Fact first second is_first.1 is_second)

module _ (Fact : Declared → Type 0) where
  pub covered_tree : (scope : Scope) (is : Tree) → AllOf Fact (names_in scope is) → AllOf Fact (names_over scope)
      → Covered Fact scope (kind_of is)
  covered_tree scope (tree span kind) within over = record { within = within; over = over }

  one_of_trees : (scope : Scope) (is : Tree) (trees : Trees) → IsOneOf is trees → AllOf Fact (names_in_trees scope trees)
      → AllOf Fact (names_in scope is)
  one_of_trees scope is _ (guarded.IsOneOf.first _ rest) each =
      (each_parts Fact (names_in scope is) (names_in_trees scope rest) each).0
  one_of_trees scope is _ (guarded.IsOneOf.later _ other rest on) each =
      one_of_trees scope is rest on (each_parts Fact (names_in scope other) (names_in_trees scope rest) each).1

  one_of_signs : (scope : Scope) (is : Tree) (signs : Signs) → IsSigned is signs → AllOf Fact (names_in_signs scope signs)
      → AllOf Fact (names_in scope is)
  one_of_signs scope is _ (guarded.IsSigned.first kept _ rest) each =
      (each_parts Fact (names_in scope is) (names_in_signs scope rest) each).0
  one_of_signs scope is _ (guarded.IsSigned.later kept _ other rest on) each =
      one_of_signs scope is rest on (each_parts Fact (names_in scope other) (names_in_signs scope rest) each).1

  -- what connectives and `where` stand round
  pub in_union : (scope : Scope) (trees : Trees) (is : Tree) → IsOneOf is trees → Covered Fact scope (type.Union trees)
      → Covered Fact scope (kind_of is)
  in_union scope trees is one covered = covered_tree scope is (one_of_trees scope is trees one covered.within) covered.over

  pub in_first : (scope : Scope) (is : Tree) (signs : Signs) → Covered Fact scope (type.Meet is signs)
      → Covered Fact scope (kind_of is)
  in_first scope is signs covered = covered_tree scope is
      (each_parts Fact (names_in scope is) (names_in_signs scope signs) covered.within).0 covered.over

  pub in_signed : (scope : Scope) (first is : Tree) (signs : Signs) → IsSigned is signs
      → Covered Fact scope (type.Meet first signs) → Covered Fact scope (kind_of is)
  in_signed scope first is signs one covered = covered_tree scope is
      (one_of_signs scope is signs one
      (each_parts Fact (names_in scope first) (names_in_signs scope signs) covered.within).1)
      covered.over

  pub under_where : (scope : Scope) (is : Tree) (declarations : Declarations)
      → Covered Fact scope (type.Where is declarations) → Covered Fact (declarations ∷ scope) (kind_of is)
  under_where scope is declarations covered =
      by_parts (each_parts Fact (names_declared within declarations) (names_in within is) covered.within)
    where
      within : Scope
      within = declarations ∷ scope

      by_parts : AllOf Fact (names_declared within declarations) × AllOf Fact (names_in within is)
          → Covered Fact within (kind_of is)
      by_parts parts = covered_tree within is parts.1
          (each_both Fact (names_declared within declarations) (names_over scope) parts.0 covered.over)

  -- the tree that a name has in a list of declarations
  in_list : (scope : Scope) (declarations : Declarations) (name : Name) (is : Tree) → tree_in declarations name ≡ Some is
      → AllOf Fact (names_declared scope declarations)
      → Fact (record { name = name; scope = scope; tree = is }) × AllOf Fact (names_in scope is)
  in_list scope NoDeclaration name is found each = absurd (none-some is found)
  in_list scope (ADeclaration other at first rest) name is found each =
      by_name (cases_Bool (bytes_eq other name)) (λ found each. in_list scope rest name is found each)
      (each_parts Fact (names_in scope first) (names_declared scope rest) each.1)
    where
      Result : Name → Tree → Type 0
      Result name is = Fact (record { name = name; scope = scope; tree = is }) × AllOf Fact (names_in scope is)

      tested : (b : Bool) → bytes_eq other name ≡ b → (if b then Some first else tree_in rest name) ≡ Some is
      tested b test = subst (λ b. (if b then Some first else tree_in rest name) ≡ Some is) test found

      by_name : (bytes_eq other name ≡ true) ⊎ (bytes_eq other name ≡ false)
          → (tree_in rest name ≡ Some is → AllOf Fact (names_declared scope rest) → Result name is)
          → AllOf Fact (names_in scope first) × AllOf Fact (names_declared scope rest) → Result name is
      by_name (inl same) later parts = subst (λ is. Result name is) (same_Some first is (tested true same))
          (subst (λ name. Result name first) ((bytes_eq-Decides other name).0 same) (each.0, parts.0))
      by_name (inr differs) later parts = later (tested false differs) parts.1

  -- a name of a place whose names have the fact
  pub declared_covered : (scope : Scope) (name : Name) (is : Declared) → declared_as scope name ≡ Some is
      → AllOf Fact (names_over scope) → IsCovered Fact is
  declared_covered [] name is found over = absurd (none-some is found)
  declared_covered (declarations ∷ outer) name is found over =
      by_tree (tree_in declarations name) (λ i. tree_in declarations name) found (declared_covered outer name is)
    where
      here : Scope
      here = declarations ∷ outer

      by_tree : (first : Option Tree) → tree_in declarations name ≡ first
          → declared_or first name here (declared_as outer name) ≡ Some is
          → (declared_as outer name ≡ Some is → AllOf Fact (names_over outer) → IsCovered Fact is) → IsCovered Fact is
      by_tree None _ found later =
          later found (each_parts Fact (names_declared here declarations) (names_over outer) over).1
      by_tree (Some first) first_is found later = subst (λ is. IsCovered Fact is) (same_Some _ is found)
          (by_list (in_list here declarations name first first_is
          (each_parts Fact (names_declared here declarations) (names_over outer) over).0))
        where
          by_list : Fact (record { name = name; scope = here; tree = first }) × AllOf Fact (names_in here first)
              → IsCovered Fact (record { name = name; scope = here; tree = first })
          by_list parts = record { itself = parts.0; place = covered_tree here first parts.1 over }

  -- a name that a place leads to
  pub led_to : (outer scope : Scope) (kind : Kind) (is : Declared) → LeadsTo outer scope kind is → Covered Fact scope kind
      → Fact is
  led_to outer scope _ is (guarded.LeadsTo.in_union _ _ trees part _ one on) covered =
      led_to outer scope (kind_of part) is on (in_union scope trees part one covered)
  led_to outer scope _ is (guarded.LeadsTo.in_first _ _ part signs _ on) covered =
      led_to outer scope (kind_of part) is on (in_first scope part signs covered)
  led_to outer scope _ is (guarded.LeadsTo.in_signed _ _ first part signs _ one on) covered =
      led_to outer scope (kind_of part) is on (in_signed scope first part signs one covered)
  led_to outer scope _ is (guarded.LeadsTo.under_where _ _ part declarations _ on) covered =
      led_to outer (declarations ∷ scope) (kind_of part) is on (under_where scope part declarations covered)
  led_to outer scope _ is (guarded.LeadsTo.named _ _ name _ found) covered =
      (declared_covered scope name is found covered.over).itself
  led_to outer scope _ is (guarded.LeadsTo.through_name _ _ name first _ found inside on) covered =
      led_to outer first.scope (kind_of first.tree) is on (declared_covered scope name first found covered.over).place
