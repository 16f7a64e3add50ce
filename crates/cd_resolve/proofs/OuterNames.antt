-- Paths through names alone compose, and either stay inside of the outermost list or go through one of its names.
use Rattle.std.proofs.Common.{◌≡◌, ℕ, ◌<◌, ◌⊎◌, inl, inr, [], ◌∷◌, true, false, Option, Some, None, length, bytes_eq}
use Rattle.std.proofs.Common.{refl, sym, subst, arith}
use Rattle.std.proofs.lemmas.Bool.{cases_Bool}
use Rattle.std.proofs.lemmas.Option.{none-some, same_Some}
use Rattle.std.proofs.lemmas.Slice.Eq.{bytes_eq-Decides}
use Rattle.cd_syntax.specs.Name.{Name}
use Rattle.cd_syntax.specs.TypeTree as type
use Rattle.cd_syntax.specs.TypeTree.{Tree, Kind, Declarations, NoDeclaration, ADeclaration}
use Rattle.cd_model.specs.Scope.{Scope, Declared, tree_in, declared_or, declared_as}
use Rattle.cd_model.specs.Guarded.{LeadsTo}
use Rattle.cd_model.specs.Guarded as guarded
use Rattle.cd_model.specs.Written.{kind_of}
use Rattle.cd_model.proofs.DeclaredScope.{stands_in_a_list}
use Rattle.cd_resolve.specs.Faults.{IsFirst}
use Rattle.cd_resolve.specs.Faults as fault

-- the outermost list of a scope is this one
pub data Ends : Declarations → Scope → Type 0 where
  outermost : (base : Declarations) → Ends base (base ∷ [])
  under : (base declarations : Declarations) (scope : Scope) → Ends base scope → Ends base (declarations ∷ scope)

not_empty : (base : Declarations) (scope : Scope) → Ends base scope → 0 < length scope
not_empty base _ (Ends.outermost _) = omega arith
not_empty base _ (Ends.under _ declarations scope ends) = omega arith

-- the tree that a name has in a list is that of its first declaration
pub tree_first : (declarations : Declarations) (name : Name) (is : Tree) → tree_in declarations name ≡ Some is
    → (at : ℕ) × IsFirst name at is declarations
tree_first NoDeclaration name is found = absurd (none-some is found)
tree_first (ADeclaration other there another rest) name is found = by (cases_Bool (bytes_eq other name))
    (tree_first rest name is)
  where
    by : (bytes_eq other name ≡ true) ⊎ (bytes_eq other name ≡ false)
        → (tree_in rest name ≡ Some is → (at : ℕ) × IsFirst name at is rest)
        → (at : ℕ) × IsFirst name at is (ADeclaration other there another rest)
    by (inl same) on =
        let here : Some another ≡ Some is = rw same at found in
        let tree_is : another ≡ is = same_Some another is here in
        let name_is = (bytes_eq-Decides other name).0 same in
        (there, rw (tree_is, name_is) (fault.IsFirst.here name there is rest))
    by (inr differ) on =
        let later = on (rw differ at found) in (
          later.0,
          fault.IsFirst.later name other later.0 there is another rest
              (λ same. let e = (bytes_eq-Decides other name).1 (sym same) in absurd cc) later.1,
        )

-- a name of the outermost list, and one that is declared inside of it
pub record IsOuter (base : Declarations) (is : Declared) : Type 0 where
  pub at : ℕ
  pub first : IsFirst is.name at is.tree base
  pub alone : is.scope ≡ base ∷ []

pub record IsInner (base : Declarations) (is : Declared) : Type 0 where
  pub ends : Ends base is.scope
  pub inside : 1 < length is.scope

pub where_declared : (base : Declarations) (scope : Scope) (name : Name) (is : Declared) → Ends base scope
    → declared_as scope name ≡ Some is → IsOuter base is ⊎ IsInner base is
where_declared base _ name is (Ends.outermost _) found = by_tree (tree_in base name) refl found
  where
    by_tree : (first : Option Tree) → tree_in base name ≡ first → declared_or first name (base ∷ []) None ≡ Some is
        → IsOuter base is ⊎ IsInner base is
    by_tree None first_is found = absurd (none-some is found)
    by_tree (Some first) first_is found =
        let there = tree_first base name first first_is in
        subst (λ (is : Declared). IsOuter base is ⊎ IsInner base is) (same_Some _ is found)
        (inl (record { at = there.0; first = there.1; alone = refl }))
where_declared base _ name is (Ends.under _ declarations scope ends) found =
    by_tree (tree_in declarations name) found (where_declared base scope name is ends)
  where
    by_tree : (first : Option Tree) → declared_or first name (declarations ∷ scope) (declared_as scope name) ≡ Some is
        → (declared_as scope name ≡ Some is → IsOuter base is ⊎ IsInner base is) → IsOuter base is ⊎ IsInner base is
    by_tree None found later = later found
    by_tree (Some first) found later =
        let some = not_empty base scope ends in
        subst (λ (is : Declared). IsOuter base is ⊎ IsInner base is) (same_Some _ is found)
        (inr (record { ends = Ends.under base declarations scope ends; inside = omega arith }))

-- what a name leads to is led to by what leads to the name
pub composed : (scope : Scope) (kind : Kind) (is last : Declared) → LeadsTo [] scope kind is
    → LeadsTo [] is.scope (kind_of is.tree) last → LeadsTo [] scope kind last
composed scope _ is last (guarded.LeadsTo.in_union _ _ trees part _ one on) next =
    guarded.LeadsTo.in_union [] scope trees part last one (composed scope (kind_of part) is last on next)
composed scope _ is last (guarded.LeadsTo.in_first _ _ part signs _ on) next =
    guarded.LeadsTo.in_first [] scope part signs last (composed scope (kind_of part) is last on next)
composed scope _ is last (guarded.LeadsTo.in_signed _ _ first part signs _ one on) next =
    guarded.LeadsTo.in_signed [] scope first part signs last one (composed scope (kind_of part) is last on next)
composed scope _ is last (guarded.LeadsTo.under_where _ _ part declarations _ on) next =
    guarded.LeadsTo.under_where [] scope part declarations last
    (composed (declarations ∷ scope) (kind_of part) is last on next)
composed scope _ is last (guarded.LeadsTo.named _ _ name _ found) next =
    guarded.LeadsTo.through_name [] scope name is last found (stands_in_a_list scope name is found) next
composed scope _ is last (guarded.LeadsTo.through_name _ _ name first _ found inside on) next =
    guarded.LeadsTo.through_name [] scope name first last found inside
    (composed first.scope (kind_of first.tree) is last on next)

-- a path through a name of the outermost list
pub record Passes (base : Declarations) (scope : Scope) (kind : Kind) (last : Declared) : Type 0 where
  pub through : Declared
  pub outer : IsOuter base through
  pub to : LeadsTo [] scope kind through
  pub on : LeadsTo [] through.scope (kind_of through.tree) last

module _ (base : Declarations) (last : Declared) where
  abbrev Ways : Scope → Kind → Type 0
  Ways scope kind = LeadsTo (base ∷ []) scope kind last ⊎ Passes base scope kind last

  in_front : (scope inner : Scope) (kind part : Kind)
      → ((name : Declared) → LeadsTo [] inner part name → LeadsTo [] scope kind name)
      → (LeadsTo (base ∷ []) inner part last → LeadsTo (base ∷ []) scope kind last) → Ways inner part → Ways scope kind
  in_front scope inner kind part every one (inl inside) = inl (one inside)
  in_front scope inner kind part every one (inr passes) = inr (record {
    through = passes.through;
    outer = passes.outer;
    to = every passes.through passes.to;
    on = passes.on;
  })

  pub ways : (scope : Scope) (kind : Kind) → Ends base scope → LeadsTo [] scope kind last → Ways scope kind
  ways scope _ ends (guarded.LeadsTo.in_union _ _ trees part _ one on) =
      in_front scope scope _ (kind_of part) (λ name. guarded.LeadsTo.in_union [] scope trees part name one)
      (guarded.LeadsTo.in_union (base ∷ []) scope trees part last one) (ways scope (kind_of part) ends on)
  ways scope _ ends (guarded.LeadsTo.in_first _ _ part signs _ on) =
      in_front scope scope _ (kind_of part) (λ name. guarded.LeadsTo.in_first [] scope part signs name)
      (guarded.LeadsTo.in_first (base ∷ []) scope part signs last) (ways scope (kind_of part) ends on)
  ways scope _ ends (guarded.LeadsTo.in_signed _ _ first part signs _ one on) =
      in_front scope scope _ (kind_of part) (λ name. guarded.LeadsTo.in_signed [] scope first part signs name one)
      (guarded.LeadsTo.in_signed (base ∷ []) scope first part signs last one) (ways scope (kind_of part) ends on)
  ways scope _ ends (guarded.LeadsTo.under_where _ _ part declarations _ on) =
      in_front scope (declarations ∷ scope) _ (kind_of part)
      (λ name. guarded.LeadsTo.under_where [] scope part declarations name)
      (guarded.LeadsTo.under_where (base ∷ []) scope part declarations last)
      (ways (declarations ∷ scope) (kind_of part) (Ends.under base declarations scope ends) on)
  ways scope _ ends (guarded.LeadsTo.named _ _ name _ found) =
      inl (guarded.LeadsTo.named (base ∷ []) scope name last found)
  ways scope _ ends (guarded.LeadsTo.through_name _ _ name first _ found inside on) =
      by (where_declared base scope name first ends found) (λ there. ways first.scope (kind_of first.tree) there on)
    where
      by : IsOuter base first ⊎ IsInner base first → (Ends base first.scope → Ways first.scope (kind_of first.tree))
          → Ways scope (type.Named name)
      by (inl outer) later = inr (record {
        through = first;
        outer = outer;
        to = guarded.LeadsTo.named [] scope name first found;
        on = on;
      })
      by (inr inner) later = in_front scope first.scope (type.Named name) (kind_of first.tree)
          (λ other. guarded.LeadsTo.through_name [] scope name first other found inside)
          (guarded.LeadsTo.through_name (base ∷ []) scope name first last found inner.inside) (later inner.ends)
