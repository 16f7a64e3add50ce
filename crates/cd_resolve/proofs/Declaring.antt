-- The walk over one declaration of a list and then over those after it.
use Rattle.std.proofs.Common.{◌≡◌, ℕ, zero, suc, ◌+◌, ◌<◌, Bool, List, [], ◌∷◌, ◌++◌, map, length, get_or, take, refl}
use Rattle.std.proofs.Common.{ap}
use Rattle.std.proofs.Common.{◌∙◌, arith}
use Rattle.std.specs.Prelude.{◌||◌}
use Rattle.cd_syntax.specs.Name.{Name}
use Rattle.cd_syntax.specs.TypeTree.{Declaration, Declarations, ADeclaration, declarations_of}
use Rattle.cd_syntax.specs.PlainTree.{plain_declaration}
use Rattle.cd_syntax.specs.declared.type_tree.Declaration.{Declaration as CodeDeclaration}
use Rattle.cd_resolve.specs.Inner.BuiltinNames.{is_among, is_builtin}
use Rattle.cd_resolve.specs.Inner.Finding.{ScopeLevels, State, innermost, reported_if, start_of, found_in, found_in_declared}
use Rattle.cd_resolve.specs.Inner.NamesDeclared.{names_in}

-- the names before the next declaration, and its name, are those before the one after it
next_name : (items : List CodeDeclaration) (index : ℕ) (item : CodeDeclaration) → item ≡ get_or items index item
    → index < length items
    → take (suc index) (names_in (declarations_of (map plain_declaration items)))
    ≡ take index (names_in (declarations_of (map plain_declaration items))) ++ (plain_declaration item).name ∷ []
next_name [] index item is within = absurd (omega arith)
next_name (first ∷ rest) zero item is within = rw is refl
next_name (first ∷ rest) (suc index) item is within =
    ap (λ names. (plain_declaration first).name ∷ names) (next_name rest index item is (omega arith))

pub one_name_more : (items : List CodeDeclaration) (declarations : Declarations) (index : ℕ) (item : CodeDeclaration)
    → declarations_of (map plain_declaration items) ≡ declarations → item ≡ get_or items index item
    → index < length items
    → take (index + 1) (names_in declarations) ≡ take index (names_in declarations)
    ++ (plain_declaration item).name ∷ []
one_name_more items declarations index item are is within =
    let on : index + 1 ≡ suc index = omega arith in
    rw are at (ap (λ count. take count (names_in (declarations_of (map plain_declaration items)))) on
    ∙ next_name items index item is within)

pub declared_more : (levels : ScopeLevels) (list : ℕ) (seen more : List Name) (one : Declaration) (rest : Declarations)
    (s after next : State Declarations) (again : Bool) (start : _)
    → again ≡ is_among seen one.name → more ≡ seen ++ one.name ∷ [] → start ≡ start_of again list one.name
    → after ≡ reported_if (again || is_builtin one.name) one.name one.at s
    → next ≡ found_in innermost levels start one.tree after
    → found_in_declared innermost levels list more rest next ≡ found_in_declared innermost levels list seen
    (ADeclaration one.name one.at one.tree rest) s
declared_more levels list seen more one rest s after next again start is_again is_more is_start is_after is_next =
    rw (is_next, is_after, is_start, is_more, is_again) refl
