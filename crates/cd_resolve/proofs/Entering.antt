-- Names whose trees are not read yet are put one by one.
use Rattle.std.proofs.Common.{◌≡◌, refl, ap, sym, ◌∙◌, ℕ, zero, suc, ◌+◌, List, [], ◌∷◌, ◌++◌, map, length, None, arith}
use Rattle.std.proofs.lemmas.List.{append_assoc, length-map}
use Rattle.cd_syntax.specs.TypeTree.{Declarations, declarations_of}
use Rattle.cd_syntax.specs.PlainTree.{plain_declaration}
use Rattle.cd_syntax.specs.declared.type_tree.Declaration.{Declaration as CodeDeclaration}
use Rattle.cd_shared.specs.Equation.{Equations}
use Rattle.cd_resolve.specs.Inner.ScopeLevels.{number_in}
use Rattle.cd_resolve.specs.Inner.Walk.{unread, entered}
use Rattle.cd_resolve.proofs.Counting.{number_is}

unread_more : (count : ℕ) → unread count ++ None ∷ [] ≡ unread (suc count)
unread_more zero = refl
unread_more (suc count) = ap (λ more. None ∷ more) (unread_more count)

-- one name more
pub enters_more : (s : Equations) (count : ℕ) → (s ++ unread count) ++ None ∷ [] ≡ s ++ unread (count + 1)
enters_more s count =
    let next : suc count ≡ count + 1 = omega arith in
    append_assoc s (unread count) (None ∷ []) ∙ ap (λ more. s ++ more) (unread_more count ∙ ap unread next)

-- as many as the list has declarations
pub enters_all : (s : Equations) (items : List CodeDeclaration) (declarations : Declarations)
    → declarations_of (map plain_declaration items) ≡ declarations
    → s ++ unread (length items) ≡ entered declarations s
enters_all s items declarations are =
    ap (λ count. s ++ unread count)
    (sym (length-map items plain_declaration) ∙ sym (number_is (map plain_declaration items)) ∙ ap number_in are)
