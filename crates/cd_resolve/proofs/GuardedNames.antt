-- Where no fault stands, the names that are declared do not lead back to themselves.
use Rattle.std.proofs.Common.{◌≡◌, ℕ, ◌⊎◌, inl, inr, List, [], ◌∷◌, ◌++◌, refl, sym, subst}
use Rattle.cd_syntax.specs.Name.{Name}
use Rattle.cd_syntax.specs.declared.tokens.Span.{Span}
use Rattle.cd_syntax.specs.TypeTree.{Tree, tree, Kind, Builtin, Ints, Chars, Atom, Text, Tuple, Arrows, Union, Meet}
use Rattle.cd_syntax.specs.TypeTree.{Sequence, Record, Xml, Named, Where, Variable, Default, Trees, NoTree, ATree}
use Rattle.cd_syntax.specs.TypeTree.{Signs, NoSign, ASign, Fields, NoField, AField, Declarations, NoDeclaration}
use Rattle.cd_syntax.specs.TypeTree.{ADeclaration, Regular, regular, RegularKind, Nothing, Item, Seq, Alt, Repeat}
use Rattle.cd_syntax.specs.TypeTree.{Capture, Regulars, NoRegular, ARegular, Rest, Closed, Open, Typed}
use Rattle.cd_model.specs.AllOf.{AllOf}
use Rattle.cd_model.specs.Scope.{Scope, Declared, names_in, names_in_kind, names_in_trees, names_in_signs}
use Rattle.cd_model.specs.Scope.{names_in_fields, names_declared, names_in_regular, names_in_regular_kind}
use Rattle.cd_model.specs.Scope.{names_in_regulars, names_in_rest, names_over}
use Rattle.cd_model.specs.Guarded.{IsOneOf, IsSigned, LeadsTo, IsGuarded, NamesAreGuarded}
use Rattle.cd_model.specs.Guarded as guarded
use Rattle.cd_model.specs.Written.{kind_of}
use Rattle.cd_model.proofs.Covered.{each_both}
use Rattle.cd_resolve.specs.Faults.{Fault, IsField, IsItem, IsItemOfOne, IsPart, IsDeclared, DeclaredAgain, IsFirst}
use Rattle.cd_resolve.specs.Faults.{IsFault, IsFaultOfList}
use Rattle.cd_resolve.specs.Faults as fault
use Rattle.cd_resolve.proofs.OuterNames.{Ends, IsOuter, Passes, composed, ways}

first_declared : (name : Name) (at : ℕ) (is : Tree) (declarations : Declarations) → IsFirst name at is declarations
    → IsDeclared name at is declarations
first_declared name at is _ (fault.IsFirst.here _ _ _ rest) = fault.IsDeclared.first name at is rest
first_declared name at is _ (fault.IsFirst.later _ other _ there _ another rest differ on) =
    fault.IsDeclared.later name other at there is another rest (first_declared name at is rest on)

-- a name whose scope ends in this list, and which does not lead back to itself inside of the lists `outer`
pub record IsApart (base : Declarations) (outer : Scope) (is : Declared) : Type 0 where
  pub ends : Ends base is.scope
  pub guarded : LeadsTo outer is.scope (kind_of is.tree) is → ⊥

-- what no fault in a list of declarations says of each of them
pub record IsSound (outer scope : Scope) (declarations : Declarations) : Type 0 where
  pub first : (name : Name) (at : ℕ) (is : Tree) → IsFirst name at is declarations
      → LeadsTo outer scope (kind_of is) (record { name = name; scope = scope; tree = is }) → ⊥
  pub inside : (name : Name) (at : ℕ) (is : Tree) → IsDeclared name at is declarations → (fault : Fault)
      → IsFault outer scope is fault → ⊥
  pub once : (name : Name) (at : ℕ) → DeclaredAgain name at declarations → ⊥

sound_list : (outer scope : Scope) (declarations : Declarations)
    → ((fault : Fault) → IsFaultOfList outer scope declarations fault → ⊥) → IsSound outer scope declarations
sound_list outer scope declarations none = record {
  first = λ name at is first leads. none _
      (fault.IsFaultOfList.unguarded outer scope declarations name at is first leads);
  inside = λ name at is one wrong is_wrong. none wrong
      (fault.IsFaultOfList.in_declared outer scope declarations name at is wrong one is_wrong);
  once = λ name at again. none _ (fault.IsFaultOfList.twice outer scope declarations name at again);
}

sound_rest : (outer scope : Scope) (name : Name) (at : ℕ) (is : Tree) (rest : Declarations)
    → IsSound outer scope (ADeclaration name at is rest) → IsSound outer scope rest
sound_rest outer scope name at is rest sound = record {
  first = λ other there another first. sound.first other there another
      (fault.IsFirst.later other name there at another is rest (λ same. differs other there another first same) first);
  inside = λ other there another one. sound.inside other there another
      (fault.IsDeclared.later other name there at another is rest one);
  once = λ other there again. sound.once other there (fault.DeclaredAgain.later other name there at is rest again);
}
  where
    differs : (other : Name) (there : ℕ) (another : Tree) → IsFirst other there another rest → other ≡ name → ⊥
    differs other there another first same = sound.once name there
        (fault.DeclaredAgain.here name there at another is rest
        (subst (λ other. IsDeclared other there another rest) same (first_declared other there another rest first)))

module _ (base : Declarations) (outer : Scope) where
  abbrev Fact : Declared → Type 0
  Fact = IsApart base outer

  -- no fault stands in this tree
  abbrev NoFault : Scope → Tree → Type 0
  NoFault scope is = (fault : Fault) → IsFault outer scope is fault → ⊥

  mutual
    pub each_in : (scope : Scope) (is : Tree) → Ends base scope → NoFault scope is → AllOf Fact (names_in scope is)
    each_in scope (tree span kind) ends none = each_in_kind scope span kind ends none
        (λ inner part is_part wrong is. none wrong
        (fault.IsFault.in_part outer scope inner span kind part wrong is_part is))

    each_in_kind : (scope : Scope) (span : Span) (kind : Kind) → Ends base scope → NoFault scope (tree span kind)
        → ((inner : Scope) (part : Tree) → IsPart scope kind inner part → NoFault inner part)
        → AllOf Fact (names_in_kind scope kind)
    each_in_kind scope span (Tuple trees) ends none parts = each_in_trees scope trees ends
        (λ part one. parts scope part (fault.IsPart.in_tuple scope part trees one))
    each_in_kind scope span (Arrows trees) ends none parts = each_in_trees scope trees ends
        (λ part one. parts scope part (fault.IsPart.in_arrows scope part trees one))
    each_in_kind scope span (Union trees) ends none parts = each_in_trees scope trees ends
        (λ part one. parts scope part (fault.IsPart.in_union scope part trees one))
    each_in_kind scope span (Meet first signs) ends none parts =
        each_both Fact (names_in scope first) (names_in_signs scope signs)
        (each_in scope first ends (parts scope first (fault.IsPart.in_first scope first signs)))
        (each_in_signs scope signs ends
        (λ part one. parts scope part (fault.IsPart.in_signed scope first part signs one)))
    each_in_kind scope span (Sequence is) ends none parts = each_in_regular scope is ends
        (λ part one. parts scope part (fault.IsPart.in_sequence scope part is one))
    each_in_kind scope span (Record fields rest) ends none parts =
        each_both Fact (names_in_fields scope fields) (names_in_rest scope rest)
        (each_in_fields scope fields ends
        (λ label at part one. parts scope part (fault.IsPart.in_record scope label at part fields rest one)))
        (each_in_rest scope rest ends (λ part same. parts scope part
        (subst (λ rest. IsPart scope (Record fields rest) scope part) (sym same)
        (fault.IsPart.in_rest scope fields part))))
    each_in_kind scope span (Xml tag attributes content) ends none parts =
        each_both Fact (names_in scope tag ++ names_in scope attributes) (names_in scope content)
        (each_both Fact (names_in scope tag) (names_in scope attributes)
        (each_in scope tag ends (parts scope tag (fault.IsPart.in_tag scope tag attributes content)))
        (each_in scope attributes ends
        (parts scope attributes (fault.IsPart.in_attributes scope tag attributes content))))
        (each_in scope content ends (parts scope content (fault.IsPart.in_content scope tag attributes content)))
    each_in_kind scope span (Where is declarations) ends none parts =
        let within = Ends.under base declarations scope ends in
        each_both Fact (names_declared (declarations ∷ scope) declarations) (names_in (declarations ∷ scope) is)
        (each_declared (declarations ∷ scope) declarations within (sound_list outer (declarations ∷ scope) declarations
        (λ wrong wrong_is. none wrong (fault.IsFault.in_where outer scope span is declarations wrong wrong_is))))
        (each_in (declarations ∷ scope) is within
        (parts (declarations ∷ scope) is (fault.IsPart.under_where scope is declarations)))
    each_in_kind scope span (Builtin _) ends none parts = tt
    each_in_kind scope span (Ints _ _) ends none parts = tt
    each_in_kind scope span (Chars _ _) ends none parts = tt
    each_in_kind scope span (Atom _) ends none parts = tt
    each_in_kind scope span (Text _) ends none parts = tt
    each_in_kind scope span (Named _) ends none parts = tt
    each_in_kind scope span (Variable _) ends none parts = tt
    each_in_kind scope span (Default _ _) ends none parts = tt

    each_in_trees : (scope : Scope) (trees : Trees) → Ends base scope
        → ((part : Tree) → IsOneOf part trees → NoFault scope part) → AllOf Fact (names_in_trees scope trees)
    each_in_trees scope NoTree ends parts = tt
    each_in_trees scope (ATree first rest) ends parts =
        each_both Fact (names_in scope first) (names_in_trees scope rest)
        (each_in scope first ends (parts first (guarded.IsOneOf.first first rest)))
        (each_in_trees scope rest ends (λ part one. parts part (guarded.IsOneOf.later part first rest one)))

    each_in_signs : (scope : Scope) (signs : Signs) → Ends base scope
        → ((part : Tree) → IsSigned part signs → NoFault scope part) → AllOf Fact (names_in_signs scope signs)
    each_in_signs scope NoSign ends parts = tt
    each_in_signs scope (ASign kept first rest) ends parts =
        each_both Fact (names_in scope first) (names_in_signs scope rest)
        (each_in scope first ends (parts first (guarded.IsSigned.first kept first rest)))
        (each_in_signs scope rest ends (λ part one. parts part (guarded.IsSigned.later kept part first rest one)))

    each_in_rest : (scope : Scope) (rest : Rest) → Ends base scope
        → ((part : Tree) → rest ≡ Typed part → NoFault scope part) → AllOf Fact (names_in_rest scope rest)
    each_in_rest scope Closed ends parts = tt
    each_in_rest scope Open ends parts = tt
    each_in_rest scope (Typed is) ends parts = each_in scope is ends (parts is refl)

    each_in_fields : (scope : Scope) (fields : Fields) → Ends base scope
        → ((label : Name) (at : ℕ) (part : Tree) → IsField label at part fields → NoFault scope part)
        → AllOf Fact (names_in_fields scope fields)
    each_in_fields scope NoField ends parts = tt
    each_in_fields scope (AField label at optional first rest) ends parts =
        each_both Fact (names_in scope first) (names_in_fields scope rest)
        (each_in scope first ends (parts label at first (fault.IsField.first label at optional first rest)))
        (each_in_fields scope rest ends (λ other there part one. parts other there part
        (fault.IsField.later other label there at optional part first rest one)))

    pub each_declared : (scope : Scope) (declarations : Declarations) → Ends base scope
        → IsSound outer scope declarations → AllOf Fact (names_declared scope declarations)
    each_declared scope NoDeclaration ends sound = tt
    each_declared scope (ADeclaration name at is rest) ends sound = (
      record { ends = ends; guarded = sound.first name at is (fault.IsFirst.here name at is rest) },
      each_both Fact (names_in scope is) (names_declared scope rest)
          (each_in scope is ends (sound.inside name at is (fault.IsDeclared.first name at is rest)))
          (each_declared scope rest ends (sound_rest outer scope name at is rest sound)),
    )

    each_in_regular : (scope : Scope) (is : Regular) → Ends base scope
        → ((part : Tree) → IsItem part is → NoFault scope part) → AllOf Fact (names_in_regular scope is)
    each_in_regular scope (regular span kind) ends parts = each_in_regular_kind scope span kind ends parts

    each_in_regular_kind : (scope : Scope) (span : Span) (kind : RegularKind) → Ends base scope
        → ((part : Tree) → IsItem part (regular span kind) → NoFault scope part)
        → AllOf Fact (names_in_regular_kind scope kind)
    each_in_regular_kind scope span Nothing ends parts = tt
    each_in_regular_kind scope span (Item is) ends parts = each_in scope is ends (parts is (fault.IsItem.item span is))
    each_in_regular_kind scope span (Seq all) ends parts = each_in_regulars scope all ends
        (λ part one. parts part (fault.IsItem.in_seq span part all one))
    each_in_regular_kind scope span (Alt all) ends parts = each_in_regulars scope all ends
        (λ part one. parts part (fault.IsItem.in_alt span part all one))
    each_in_regular_kind scope span (Repeat all post) ends parts = each_in_regular scope all ends
        (λ part one. parts part (fault.IsItem.repeated span part all post one))
    each_in_regular_kind scope span (Capture name all) ends parts = each_in_regular scope all ends
        (λ part one. parts part (fault.IsItem.captured span part name all one))

    each_in_regulars : (scope : Scope) (all : Regulars) → Ends base scope
        → ((part : Tree) → IsItemOfOne part all → NoFault scope part) → AllOf Fact (names_in_regulars scope all)
    each_in_regulars scope NoRegular ends parts = tt
    each_in_regulars scope (ARegular first rest) ends parts =
        each_both Fact (names_in_regular scope first) (names_in_regulars scope rest)
        (each_in_regular scope first ends (λ part one. parts part (fault.IsItemOfOne.first part first rest one)))
        (each_in_regulars scope rest ends (λ part one. parts part (fault.IsItemOfOne.later part first rest one)))

each_on : (First Second : Declared → Type 0) (names : List Declared) → ((is : Declared) → First is → Second is)
    → AllOf First names → AllOf Second names
each_on First Second [] on each = tt
each_on First Second (name ∷ names) on each = (on name each.0, each_on First Second names on each.1)

module _ (base : Declarations) (none : (fault : Fault) → IsFaultOfList [] (base ∷ []) base fault → ⊥) where
  -- a name of the list does not lead back to itself
  outer_guarded : (is : Declared) → IsOuter base is → IsGuarded is
  outer_guarded is outer leads =
      by is.scope outer.alone outer.first leads
    where
      by : (scope : Scope) → scope ≡ base ∷ [] → IsFirst is.name outer.at is.tree base
          → LeadsTo [] scope (kind_of is.tree) (record { name = is.name; scope = scope; tree = is.tree }) → ⊥
      by scope alone first leads = none _
          (fault.IsFaultOfList.unguarded [] (base ∷ []) base is.name outer.at is.tree first (subst
          (λ scope. LeadsTo [] scope (kind_of is.tree) (record { name = is.name; scope = scope; tree = is.tree }))
          alone leads))

  -- nor does a name that is declared inside of it, since it would do so by a name of the list
  inner_guarded : (is : Declared) → IsApart base (base ∷ []) is → IsGuarded is
  inner_guarded is apart leads = by (ways base is is.scope (kind_of is.tree) apart.ends leads)
    where
      by : LeadsTo (base ∷ []) is.scope (kind_of is.tree) is ⊎ Passes base is.scope (kind_of is.tree) is → ⊥
      by (inl inside) = apart.guarded inside
      by (inr passes) = outer_guarded passes.through passes.outer
          (composed passes.through.scope (kind_of passes.through.tree) is passes.through passes.on passes.to)

  pub names_are_guarded : (is : Tree) → ((fault : Fault) → IsFault (base ∷ []) (base ∷ []) is fault → ⊥)
      → NamesAreGuarded (record { scope = base ∷ []; tree = is })
  names_are_guarded is none_inside =
      each_both IsGuarded (names_in (base ∷ []) is) (names_over (base ∷ []))
      (each_on (IsApart base (base ∷ [])) IsGuarded (names_in (base ∷ []) is) inner_guarded
      (each_in base (base ∷ []) (base ∷ []) is (Ends.outermost base) none_inside))
      (each_both IsGuarded (names_declared (base ∷ []) base) []
      (each_on (IsApart base []) IsGuarded (names_declared (base ∷ []) base) (λ is apart. apart.guarded)
      (each_declared base [] (base ∷ []) base (Ends.outermost base) (sound_list [] (base ∷ []) base none))) tt)
