-- What the number of a list and a name stand for.
use Rattle.std.proofs.Common.{◌≡◌, ◌≢◌, ℕ, List, [], ◌∷◌, map, true, false, Option, Some, None, refl, sym, ◌⊎◌, inl}
use Rattle.std.proofs.Common.{inr}
use Rattle.std.specs.Prelude.{bytes_eq}
use Rattle.std.specs.List.{slice_get as nth}
use Rattle.std.proofs.lemmas.Bool.{cases_Bool}
use Rattle.std.proofs.lemmas.Slice.Eq.{bytes_eq-Decides}
use Rattle.std.proofs.lemmas.Option.{same_Some}
use Rattle.cd_syntax.specs.Name.{Name}
use Rattle.cd_syntax.specs.TypeTree.{Tree, Declarations, NoDeclaration, ADeclaration}
use Rattle.cd_model.specs.Scope.{Scope, Declared, declared_as, tree_in}
use Rattle.cd_resolve.specs.Faults.{IsFirst}
use Rattle.cd_resolve.specs.Faults as fault
use Rattle.cd_resolve.specs.Inner.Finding.{ScopeLevels, innermost, Id, DeclaredAt, State, place_in, declared_under}
use Rattle.cd_resolve.proofs.FoundGrows.{Grows}

abbrev pub scope_of : ScopeLevels → Scope
scope_of levels = map (λ level. level.declarations) levels

-- each of these levels stands at the number of its list, with those round it
abbrev pub Fits : List ScopeLevels → ScopeLevels → Type 0
Fits lists [] = Unit {0}
Fits lists (level ∷ outer) = (nth lists level.list ≡ Some (level ∷ outer)) × Fits lists outer

pub fits_on : (s t : State ScopeLevels) (levels : ScopeLevels) → Grows s t → Fits s.lists levels → Fits t.lists levels
fits_on s t [] grows fits = tt
fits_on s t (level ∷ outer) grows fits = (grows.lists level.list (level ∷ outer) fits.0, fits_on s t outer grows fits.1)

-- a declared name stands for the first of its name in the list of its number
pub record IsNode (lists : List ScopeLevels) (id : Id) (at : ℕ) (is : Tree) (levels : ScopeLevels) : Type 0 where
  pub listed : nth lists id.list ≡ Some levels
  pub first : IsFirst id.name at is (innermost levels)

abbrev pub declared_at : Name → ScopeLevels → Tree → Declared
declared_at name levels is = record { name = name; scope = scope_of levels; tree = is }

pub node_on : (s t : State ScopeLevels) (id : Id) (at : ℕ) (is : Tree) (levels : ScopeLevels) → Grows s t
    → IsNode s.lists id at is levels → IsNode t.lists id at is levels
node_on s t id at is levels grows node = record { listed = grows.lists id.list levels node.listed; first = node.first }

-- the first of a name in a list is where it is looked up
not_equal : (name other : Name) → name ≢ other → bytes_eq other name ≡ false
not_equal name other differ = by (cases_Bool (bytes_eq other name))
  where
    by : (bytes_eq other name ≡ true) ⊎ (bytes_eq other name ≡ false) → bytes_eq other name ≡ false
    by (inl same) = absurd (differ (sym ((bytes_eq-Decides other name).0 same)))
    by (inr is) = is

equal : (name : Name) → bytes_eq name name ≡ true
equal name = (bytes_eq-Decides name name).1 refl

pub first_place : (name : Name) (at : ℕ) (is : Tree) (declarations : Declarations) → IsFirst name at is declarations
    → place_in declarations name ≡ Some at
first_place name at is _ (fault.IsFirst.here _ _ _ rest) = rw (equal name) refl
first_place name at is _ (fault.IsFirst.later _ other _ there _ another rest differ on) =
    rw (not_equal name other differ) (first_place name at is rest on)

pub first_tree : (name : Name) (at : ℕ) (is : Tree) (declarations : Declarations) → IsFirst name at is declarations
    → tree_in declarations name ≡ Some is
first_tree name at is _ (fault.IsFirst.here _ _ _ rest) = rw (equal name) refl
first_tree name at is _ (fault.IsFirst.later _ other _ there _ another rest differ on) =
    rw (not_equal name other differ) (first_tree name at is rest on)

pub place_first : (declarations : Declarations) (name : Name) (at : ℕ) → place_in declarations name ≡ Some at
    → (is : Tree) × IsFirst name at is declarations
place_first NoDeclaration name at is = absurd cc
place_first (ADeclaration other there another rest) name at is = by (cases_Bool (bytes_eq other name))
    (place_first rest name at)
  where
    by : (bytes_eq other name ≡ true) ⊎ (bytes_eq other name ≡ false)
        → (place_in rest name ≡ Some at → (is : Tree) × IsFirst name at is rest)
        → (is : Tree) × IsFirst name at is (ADeclaration other there another rest)
    by (inl same) on =
        let here : Some there ≡ Some at = rw same at is in
        let at_is : there ≡ at = cc in
        let name_is = (bytes_eq-Decides other name).0 same in
        (another, rw (at_is, name_is) (fault.IsFirst.here name at another rest))
    by (inr differ) on =
        let later = on (rw differ at is) in (
          later.0,
          fault.IsFirst.later name other at there later.0 another rest
              (λ same. let e = (bytes_eq-Decides other name).1 (sym same) in absurd cc) later.1,
        )

place_nothing : (declarations : Declarations) (name : Name) → place_in declarations name ≡ None
    → tree_in declarations name ≡ None
place_nothing NoDeclaration name none = refl
place_nothing (ADeclaration other there another rest) name none = by (cases_Bool (bytes_eq other name))
    (place_nothing rest name)
  where
    by : (bytes_eq other name ≡ true) ⊎ (bytes_eq other name ≡ false)
        → (place_in rest name ≡ None → tree_in rest name ≡ None)
        → tree_in (ADeclaration other there another rest) name ≡ None
    by (inl same) on = let here : Some there ≡ None = rw same at none in absurd cc
    by (inr differ) on = rw differ (on (rw differ at none))

-- so what a name is declared as is what the walk finds of it
pub record IsFound (lists : List ScopeLevels) (levels : ScopeLevels) (name : Name) (place : DeclaredAt) : Type 0 where
  pub levels_there : ScopeLevels
  pub is : Tree
  pub node : IsNode lists (record { list = place.list; name = name }) place.at is levels_there
  pub declared : declared_as (scope_of levels) name ≡ Some (declared_at name levels_there is)

pub declared_at_found : (lists : List ScopeLevels) (levels : ScopeLevels) (name : Name) (place : DeclaredAt) → Fits lists levels
    → declared_under levels name ≡ Some place → IsFound lists levels name place
declared_at_found lists [] name place fits is = absurd cc
declared_at_found lists (level ∷ outer) name place fits is = by (place_in level.declarations name) refl
    (declared_at_found lists outer name place fits.1)
  where
    by : (at : Option ℕ) → place_in level.declarations name ≡ at
        → (declared_under outer name ≡ Some place → IsFound lists outer name place) → IsFound lists (level ∷ outer) name place
    by (Some at) here on =
        let place_is = same_Some _ _ (rw here at is) in
        let first = place_first level.declarations name at here in
        let tree_is = first_tree name at first.0 level.declarations first.1 in
        rw (sym place_is) (record {
          levels_there = level ∷ outer;
          is = first.0;
          node = record { listed = fits.0; first = first.1 };
          declared = rw tree_is refl;
        })
    by None here on =
        let found = on (rw here at is) in
        record {
          levels_there = found.levels_there;
          is = found.is;
          node = found.node;
          declared = rw (place_nothing level.declarations name here) found.declared;
        }

pub declared_at_none : (levels : ScopeLevels) (name : Name) → declared_under levels name ≡ None
    → declared_as (scope_of levels) name ≡ None
declared_at_none [] name none = refl
declared_at_none (level ∷ outer) name none = by (place_in level.declarations name) refl (declared_at_none outer name)
  where
    by : (at : Option ℕ) → place_in level.declarations name ≡ at
        → (declared_under outer name ≡ None → declared_as (scope_of outer) name ≡ None)
        → declared_as (scope_of (level ∷ outer)) name ≡ None
    by (Some at) here on = let some = rw here at none in absurd cc
    by None here on = rw (place_nothing level.declarations name here) (on (rw here at none))
