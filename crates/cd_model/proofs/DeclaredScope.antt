-- What a name is declared as stands under one list of declarations at least.
use Rattle.std.proofs.Common.{◌≡◌, ◌<◌, [], ◌∷◌, Option, Some, None, length, subst, arith}
use Rattle.std.proofs.lemmas.Option.{none-some, same_Some}
use Rattle.cd_syntax.specs.Name.{Name}
use Rattle.cd_syntax.specs.TypeTree.{Tree}
use Rattle.cd_model.specs.Scope.{Scope, Declared, tree_in, declared_or, declared_as}

pub stands_in_a_list : (scope : Scope) (name : Name) (is : Declared) → declared_as scope name ≡ Some is → 0 < length is.scope
stands_in_a_list [] name is found = absurd (none-some is found)
stands_in_a_list (declarations ∷ outer) name is found =
    by_tree (tree_in declarations name) found (stands_in_a_list outer name is)
  where
    by_tree : (first : Option Tree) → declared_or first name (declarations ∷ outer) (declared_as outer name) ≡ Some is
        → (declared_as outer name ≡ Some is → 0 < length is.scope) → 0 < length is.scope
    by_tree None found later = later found
    by_tree (Some first) found later =
        subst (λ (is : Declared). 0 < length is.scope) (same_Some _ is found) (omega arith)
