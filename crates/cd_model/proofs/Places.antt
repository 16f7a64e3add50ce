-- Things that answer alike at places of written types, and what is made of them by connectives and names.
use Rattle.std.proofs.Common.{Bool, true, false, not, ◌∷◌, ◌↔◌}
use Rattle.cd_syntax.specs.Name.{Name}
use Rattle.cd_syntax.specs.declared.builtin.BuiltinName.{BuiltinName}
use Rattle.cd_syntax.specs.TypeTree as type
use Rattle.cd_syntax.specs.TypeTree.{Tree, tree, Kind, Trees, NoTree, ATree, Signs, NoSign, ASign, Declarations}
use Rattle.cd_model.specs.BuiltIns.{built_in}
use Rattle.cd_model.specs.Formula as formula
use Rattle.cd_model.specs.Guarded.{IsOneOf, IsSigned}
use Rattle.cd_model.specs.Guarded as guarded
use Rattle.cd_model.specs.Scope.{Scope}
use Rattle.cd_model.specs.Types.{Reader, at_head}
use Rattle.cd_model.specs.Written.{WrittenType, Names, kind_of, type_named, head_of, tree_holds, kind_holds, each_holds, one_holds, signs_hold}
use Rattle.cd_model.proofs.BothWays.{itself, both_agree, one_agrees}

abbrev pub AlikeAtNames : (Scope → Kind → Type 0) → (one other : Names) → Type 0
AlikeAtNames Place one other = (scope : Scope) (name : Name) → Place scope (type.Named name) → (answer : Bool)
    → one scope name answer ↔ other scope name answer

-- places among which are all those that connectives and `where` stand round
pub record AreClosed (Place : Scope → Kind → Type 0) : Type 0 where
  pub in_union : (scope : Scope) (trees : Trees) (is : Tree) → IsOneOf is trees → Place scope (type.Union trees)
      → Place scope (kind_of is)
  pub in_first : (scope : Scope) (is : Tree) (signs : Signs) → Place scope (type.Meet is signs) → Place scope (kind_of is)
  pub in_signed : (scope : Scope) (first is : Tree) (signs : Signs) → IsSigned is signs
      → Place scope (type.Meet first signs) → Place scope (kind_of is)
  pub under_where : (scope : Scope) (is : Tree) (declarations : Declarations) → Place scope (type.Where is declarations)
      → Place (declarations ∷ scope) (kind_of is)

module _ (Place : Scope → Kind → Type 0) (closed : AreClosed Place) (one other : Reader WrittenType)
    (at_heads : (scope : Scope) (kind : Kind) → Place scope kind → (answer : Bool)
    → at_head one (head_of scope kind) answer ↔ at_head other (head_of scope kind) answer)
    (built_ins : (name : BuiltinName) (answer : Bool)
    → formula.holds (formula.at_formula one) (built_in type_named name) answer ↔ formula.holds (formula.at_formula other) (built_in type_named name) answer)
    (names names' : Names) (names_alike : AlikeAtNames Place names names') where
  mutual
    pub tree_alike : (scope : Scope) (is : Tree) → Place scope (kind_of is) → (answer : Bool)
        → tree_holds one names scope is answer ↔ tree_holds other names' scope is answer
    tree_alike scope (tree span kind) place answer = kind_alike scope kind place answer

    pub kind_alike : (scope : Scope) (kind : Kind) → Place scope kind → (answer : Bool)
        → kind_holds one names scope kind answer ↔ kind_holds other names' scope kind answer
    kind_alike scope (type.Builtin name) place answer = built_ins name answer
    kind_alike scope (type.Union trees) place true =
        some_alike scope trees (λ is among. closed.in_union scope trees is among place) true
    kind_alike scope (type.Union trees) place false =
        each_alike scope trees (λ is among. closed.in_union scope trees is among place) false
    kind_alike scope (type.Meet first signs) place true = both_agree
        (tree_alike scope first (closed.in_first scope first signs place) true)
        (signs_alike scope signs (λ is among. closed.in_signed scope first is signs among place) true)
    kind_alike scope (type.Meet first signs) place false = one_agrees
        (tree_alike scope first (closed.in_first scope first signs place) false)
        (signs_alike scope signs (λ is among. closed.in_signed scope first is signs among place) false)
    kind_alike scope (type.Named name) place answer = names_alike scope name place answer
    kind_alike scope (type.Where is declarations) place answer =
        tree_alike (declarations ∷ scope) is (closed.under_where scope is declarations place) answer
    kind_alike scope kind place answer = at_heads scope kind place answer

    each_alike : (scope : Scope) (trees : Trees) → ((is : Tree) → IsOneOf is trees → Place scope (kind_of is))
        → (answer : Bool) → each_holds one names scope trees answer ↔ each_holds other names' scope trees answer
    each_alike scope NoTree places answer = itself
    each_alike scope (ATree first rest) places answer = both_agree
        (tree_alike scope first (places first (guarded.IsOneOf.first first rest)) answer)
        (each_alike scope rest (λ is among. places is (guarded.IsOneOf.later is first rest among)) answer)

    some_alike : (scope : Scope) (trees : Trees) → ((is : Tree) → IsOneOf is trees → Place scope (kind_of is))
        → (answer : Bool) → one_holds one names scope trees answer ↔ one_holds other names' scope trees answer
    some_alike scope NoTree places answer = itself
    some_alike scope (ATree first rest) places answer = one_agrees
        (tree_alike scope first (places first (guarded.IsOneOf.first first rest)) answer)
        (some_alike scope rest (λ is among. places is (guarded.IsOneOf.later is first rest among)) answer)

    signs_alike : (scope : Scope) (signs : Signs) → ((is : Tree) → IsSigned is signs → Place scope (kind_of is))
        → (answer : Bool) → signs_hold one names scope signs answer ↔ signs_hold other names' scope signs answer
    signs_alike scope NoSign places answer = itself
    signs_alike scope (ASign kept first rest) places true = both_agree
        (tree_alike scope first (places first (guarded.IsSigned.first kept first rest)) kept)
        (signs_alike scope rest (λ is among. places is (guarded.IsSigned.later kept is first rest among)) true)
    signs_alike scope (ASign kept first rest) places false = one_agrees
        (tree_alike scope first (places first (guarded.IsSigned.first kept first rest)) (not kept))
        (signs_alike scope rest (λ is among. places is (guarded.IsSigned.later kept is first rest among)) false)
