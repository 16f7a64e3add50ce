-- Where a name is declared in a list, by its first place there.
use Rattle.std.proofs.Common.{◌≡◌, ℕ, suc, ◌+◌, ◌<◌, Bool, true, false, cond, List, [], ◌∷◌, map, length, Option, Some}
use Rattle.std.proofs.Common.{None, refl, sym, ap, ◌∙◌, slice_get, subst, arith}
use Rattle.std.specs.Prelude.{bytes_eq}
use Rattle.std.specs.Option.{option_map, unwrap_or}
use Rattle.std.proofs.lemmas.List.{length-map}
use Rattle.std.proofs.lemmas.Option.{slice_get-map}
use Rattle.cd_syntax.specs.Name.{Name}
use Rattle.cd_syntax.specs.TypeTree.{Declaration, Declarations, NoDeclaration, ADeclaration, declarations_of}
use Rattle.cd_syntax.specs.PlainTree.{plain_declaration}
use Rattle.cd_syntax.specs.declared.type_tree.Declaration.{Declaration as CodeDeclaration}
use Rattle.cd_syntax.specs.declared.type_tree.RegKind.TheViews.{out-Declaration}
use Rattle.cd_resolve.specs.FirstPlaces.{first_place}
use Rattle.cd_resolve.specs.Inner.NamesDeclared.{names_in}
use Rattle.cd_resolve.specs.Inner.Finding.{place_in}
use Rattle.cd_resolve.proofs.Views.{declaration_is}

pub placed_nowhere : (declarations : Declarations) (name : Name) → first_place (names_in declarations) name ≡ None
    → place_in declarations name ≡ None
placed_nowhere NoDeclaration name none = refl
placed_nowhere (ADeclaration other at is rest) name none = by (bytes_eq other name) (first_place (names_in rest) name)
    (placed_nowhere rest name) none
  where
    by : (same : Bool) (x : Option ℕ) → (x ≡ None → place_in rest name ≡ None)
        → cond same (Some 0) (option_map (λ place. place + 1) x) ≡ None
        → cond same (Some at) (place_in rest name) ≡ None
    by true x on none = absurd cc
    by false None on none = on refl
    by false (Some index) on none = absurd cc

place_at : (items : List Declaration) (name : Name) (index : ℕ)
    → first_place (names_in (declarations_of items)) name ≡ Some index
    → place_in (declarations_of items) name ≡ option_map (λ one. one.at) (slice_get items index)
place_at [] name index is = absurd cc
place_at (one ∷ items) name index is = by (bytes_eq one.name name) (first_place (names_in (declarations_of items)) name)
    (place_at items name) is
  where
    by : (same : Bool) (x : Option ℕ)
        → ((i : ℕ) → x ≡ Some i
        → place_in (declarations_of items) name ≡ option_map (λ one. one.at) (slice_get items i))
        → cond same (Some 0) (option_map (λ place. place + 1) x) ≡ Some index
        → cond same (Some one.at) (place_in (declarations_of items) name)
        ≡ option_map (λ one. one.at) (slice_get (one ∷ items) index)
    by true x on is =
        let first : 0 ≡ index = ap (λ o. unwrap_or o 0) is in
        ap (λ n. option_map (λ one. one.at) (slice_get (one ∷ items) n)) first
    by false None on is = absurd cc
    by false (Some i) on is =
        let number : i + 1 ≡ index = ap (λ o. unwrap_or o 0) is in
        let next : suc i ≡ index = omega (arith, number) in
        subst (λ n. place_in (declarations_of items) name ≡ option_map (λ one. one.at) (slice_get (one ∷ items) n)) next
        (on i refl)

place_of_item : (one : Option CodeDeclaration) → option_map (λ one. one.at) (option_map plain_declaration one)
    ≡ option_map (λ one. (out-Declaration one).at) one
place_of_item None = refl
place_of_item (Some one) = ap (λ is. Some is.at) (declaration_is one)

-- the place of the declaration that stands there
pub placed : (declarations : Declarations) (items : List CodeDeclaration) (names : List Name) (name : Name) (index : ℕ)
    → names ≡ names_in declarations → declarations_of (map plain_declaration items) ≡ declarations
    → Some index ≡ first_place names name
    → place_in declarations name ≡ option_map (λ one. (out-Declaration one).at) (slice_get items index)
placed declarations items names name index indexed are found =
    let there = ap (λ all. first_place (names_in all) name) are ∙ sym (ap (λ all. first_place all name) indexed)
    ∙ sym found in
    ap (λ all. place_in all name) (sym are) ∙ place_at (map plain_declaration items) name index there
    ∙ ap (option_map (λ one. one.at)) (slice_get-map plain_declaration items index)
    ∙ place_of_item (slice_get items index)

item_within : (items : List Declaration) (name : Name) (index : ℕ)
    → first_place (names_in (declarations_of items)) name ≡ Some index → index < length items
item_within [] name index is = absurd cc
item_within (one ∷ items) name index is = by (bytes_eq one.name name)
    (first_place (names_in (declarations_of items)) name) (item_within items name) is
  where
    by : (same : Bool) (x : Option ℕ) → ((i : ℕ) → x ≡ Some i → i < length items)
        → cond same (Some 0) (option_map (λ place. place + 1) x) ≡ Some index → index < suc (length items)
    by true x on is = let first : 0 ≡ index = ap (λ o. unwrap_or o 0) is in omega (arith, first)
    by false None on is = absurd cc
    by false (Some i) on is =
        let number : i + 1 ≡ index = ap (λ o. unwrap_or o 0) is in
        let below : i < length items = on i refl in
        omega (arith, number, below)

-- a declaration stands at the first place of a name
pub placed_within : (declarations : Declarations) (items : List CodeDeclaration) (names : List Name) (name : Name)
    (index : ℕ) → names ≡ names_in declarations → declarations_of (map plain_declaration items) ≡ declarations
    → Some index ≡ first_place names name → index < length items
placed_within declarations items names name index indexed are found =
    let there = ap (λ all. first_place (names_in all) name) are ∙ sym (ap (λ all. first_place all name) indexed)
    ∙ sym found in
    let within = item_within (map plain_declaration items) name index there in
    let count = length-map items plain_declaration in
    omega (arith, within, count)
