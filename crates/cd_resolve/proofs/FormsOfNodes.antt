-- The formula at each node is one of the form whose equations the node has, also at connectives and names.
use Rattle.std.proofs.Common.{◌≡◌, ℕ, zero, suc, ◌≤◌, Bool, true, false, List, [], ◌∷◌, Option, Some, None, ◌⊎◌}
use Rattle.std.proofs.Common.{inl, inr, map, length, ap, sym, subst, ◌∙◌, arith}
use Rattle.std.specs.Option.{unwrap_or}
use Rattle.std.proofs.lemmas.Option.{none-some}
use Rattle.cd_sets.specs.declared.node_id.NodeId.{NodeId}
use Rattle.cd_syntax.specs.Name.{Name}
use Rattle.cd_syntax.specs.TypeTree as type
use Rattle.cd_syntax.specs.TypeTree.{Tree, tree, Kind, Trees, NoTree, ATree, Signs, NoSign, ASign}
use Rattle.cd_model.specs.BuiltIns.{EMPTY, node}
use Rattle.cd_model.specs.Formula.{Graph, Formulas, AFormula, formula_at, formulas_of}
use Rattle.cd_model.specs.Guarded.{IsGuarded, IsOneOf, IsSigned}
use Rattle.cd_model.specs.Guarded as guarded
use Rattle.cd_model.specs.Scope.{Scope, Declared}
use Rattle.cd_model.specs.Written.{WrittenType, kind_of}
use Rattle.cd_model.proofs.Covered.{led_to}
use Rattle.cd_model.proofs.Leading.{IsIn, without, shorter, Leads, leads_closed, is_undeclared, leads_on}
use Rattle.cd_model.proofs.Places as places
use Rattle.cd_resolve.specs.Inner.Names.{node_of}
use Rattle.cd_shared.specs.Equation.{Equations, Same}
use Rattle.cd_resolve.specs.Inner.Equates.{Equates, EquatesKind, EquatesEach, EquatesSigns, AllEquated}
use Rattle.cd_resolve.specs.Inner.ScopeLevels.{ScopeLevels, scope_of, node_under}
use Rattle.cd_resolve.specs.Inner.Members.{Sign}
use Rattle.cd_resolve.specs.Inner.Solves.{Solves, signed}
use Rattle.cd_resolve.proofs.BuiltInNodes.{Begins}
use Rattle.cd_resolve.proofs.SimplifiedMembers.{is_union, is_meet}
use Rattle.cd_resolve.proofs.GivenFormulas.{solved}
use Rattle.cd_resolve.proofs.FormsOfHeads.{as_nothing, alone_form, form_at_node}
use Rattle.cd_resolve.proofs.KnownNames.{IsGiven, known_here}
use Rattle.cd_resolve.proofs.NamesFound.{IsInside, IsOutside, found}
use Rattle.cd_resolve.proofs.NodesOfTypes.{Stands, placed, alone}
use Rattle.cd_model.proofs.Resolved as form
use Rattle.cd_model.proofs.Resolved.{IsForm, IsFormOf, AreFormsOf, AreSigned, MeansIn, KnownIn}

module _ (graph : Graph) (first : ℕ) (equations : Equations) (names : List (Name × NodeId)) (base : Scope)
    (Fact : Declared → Type 0) (guards : (is : Declared) → Fact is → IsGuarded is) (seen : List Declared)
    (among : (is : Declared) → Fact is → IsIn is seen) (count : ℕ) (fits : length seen ≤ count)
    (solves : Solves graph first equations) (begins : Begins graph)
    (at_names : (name : Name) → IsGiven graph count base name (node_of names name)) where
  -- a form under these levels leads to these names alone
  abbrev LeadsHere : List Declared → ScopeLevels → Kind → Type 0
  LeadsHere some levels kind = Leads Fact some (scope_of base levels) kind

  abbrev StandsHere : NodeId → WrittenType → Type 0
  StandsHere = Stands first equations names base Fact

  abbrev IsFormAt : ℕ → NodeId → ScopeLevels → Kind → Type 0
  IsFormAt most id levels kind =
      IsFormOf (MeansIn graph) (KnownIn graph count) StandsHere most (formula_at graph id) (scope_of base levels) kind

  abbrev AreFormsHere : ℕ → Formulas → ScopeLevels → Trees → Type 0
  AreFormsHere most all levels trees = AreFormsOf (MeansIn graph) (KnownIn graph count) StandsHere most all
      (scope_of base levels) trees

  abbrev AreSignedHere : ℕ → Formulas → ScopeLevels → Signs → Type 0
  AreSignedHere most all levels signs = AreSigned (MeansIn graph) (KnownIn graph count) StandsHere most all
      (scope_of base levels) signs

  -- names that lead to some names alone have their forms, with so many names to use up
  abbrev FormsAtNames : List Declared → ℕ → Type 0
  FormsAtNames some most = (levels : ScopeLevels) (name : Name) (id : NodeId) → AllEquated first equations names levels
      → id ≡ node_under names levels name → LeadsHere some levels (type.Named name)
      → IsFormAt most id levels (type.Named name)

  module _ (some : List Declared) (most : ℕ) (named : FormsAtNames some most) where
    leading : places.AreClosed (Leads Fact some)
    leading = leads_closed Fact some

    -- a form that is no connective and no name
    of_form : (levels : ScopeLevels) (kind : Kind) (id : NodeId) → IsForm kind → AllEquated first equations names levels
        → EquatesKind first equations names levels kind id → LeadsHere some levels kind → IsFormAt most id levels kind
    of_form levels kind id is_form around equates leads =
        form_at_node graph first equations names base Fact solves begins count most levels kind id is_form
        (record { around = around; equates = equates; covered = leads.covered })

    -- what is after a sign
    of_sign : (kept : Bool) (id : NodeId) (all : Formulas) (levels : ScopeLevels) (one : Tree) (signs : Signs)
        → IsFormAt most id levels (kind_of one) → AreSignedHere most all levels signs
        → AreSignedHere most (AFormula (signed kept (formula_at graph id)) all) levels (ASign kept one signs)
    of_sign true id all levels one signs formed are = form.kept most _ all (scope_of base levels) one signs formed are
    of_sign false id all levels one signs formed are =
        form.taken_out most _ all (scope_of base levels) one signs formed are

    mutual
      pub tree_form : (levels : ScopeLevels) (is : Tree) (id : NodeId) → AllEquated first equations names levels
          → Equates first equations names levels is id → LeadsHere some levels (kind_of is)
          → IsFormAt most id levels (kind_of is)
      tree_form levels (tree span kind) id around equates leads = kind_form levels kind id around equates leads

      pub kind_form : (levels : ScopeLevels) (kind : Kind) (id : NodeId) → AllEquated first equations names levels
          → EquatesKind first equations names levels kind id → LeadsHere some levels kind → IsFormAt most id levels kind
      kind_form levels (type.Builtin name) id around equates leads =
          alone_form graph first equations names base Fact solves begins count most (scope_of base levels)
          (type.Builtin name) id tt equates
      kind_form levels (type.Union trees) id around equates leads =
          form.union most _ _ (scope_of base levels) trees
          (each_form levels trees equates.0 around equates.2
          (λ is one. leading.in_union (scope_of base levels) trees is one leads))
          (is_union graph begins first equations solves id equates.0 equates.1)
      kind_form levels (type.Meet one signs) id around equates leads =
          form.meet most _ _ _ (scope_of base levels) one signs
          (tree_form levels one equates.0 around equates.3 (leading.in_first (scope_of base levels) one signs leads))
          (signed_form levels signs equates.1 around equates.4
          (λ is among. leading.in_signed (scope_of base levels) one is signs among leads))
          (is_meet graph begins first equations solves id ((true, equates.0) ∷ equates.1) equates.2)
      kind_form levels (type.Named name) id around equates leads = named levels name id around equates leads
      kind_form levels (type.Where is declarations) id around equates leads =
          form.under_where most _ (scope_of base levels) is declarations
          (tree_form (record { declarations = declarations; first = equates.0 } ∷ levels) is id (equates.1, around)
          equates.2 (leading.under_where (scope_of base levels) is declarations leads))
      kind_form levels kind id around equates leads = of_form levels kind id tt around equates leads

      each_form : (levels : ScopeLevels) (trees : Trees) (ids : List NodeId) → AllEquated first equations names levels
          → EquatesEach first equations names levels trees ids
          → ((is : Tree) → IsOneOf is trees → LeadsHere some levels (kind_of is))
          → AreFormsHere most (formulas_of (map (formula_at graph) ids)) levels trees
      each_form levels NoTree [] around equates leads = form.no_more most (scope_of base levels)
      each_form levels NoTree (one ∷ ids) around equates leads = elim equates [ ]
      each_form levels (ATree is rest) [] around equates leads = elim equates [ ]
      each_form levels (ATree is rest) (one ∷ ids) around equates leads =
          form.one_more most _ _ (scope_of base levels) is rest
          (tree_form levels is one around equates.0 (leads is (guarded.IsOneOf.first is rest)))
          (each_form levels rest ids around equates.1
          (λ other among. leads other (guarded.IsOneOf.later other is rest among)))

      signed_form : (levels : ScopeLevels) (signs : Signs) (ids_signed : List Sign) → AllEquated first equations names levels
          → EquatesSigns first equations names levels signs ids_signed
          → ((is : Tree) → IsSigned is signs → LeadsHere some levels (kind_of is))
          → AreSignedHere most (formulas_of (map (λ sign. signed sign.0 (formula_at graph sign.1)) ids_signed))
          levels signs
      signed_form levels NoSign [] around equates leads = form.no_sign most (scope_of base levels)
      signed_form levels NoSign (sign ∷ ids_signed) around equates leads = elim equates [ ]
      signed_form levels (ASign kept is rest) [] around equates leads = elim equates [ ]
      signed_form levels (ASign kept is rest) (sign ∷ ids_signed) around equates leads =
          subst (λ (so : Bool). AreSignedHere most
          (AFormula (signed so (formula_at graph sign.1))
          (formulas_of (map (λ sign. signed sign.0 (formula_at graph sign.1)) ids_signed)))
          levels (ASign kept is rest)) (sym equates.0)
          (of_sign kept sign.1 _ levels is rest
          (tree_form levels is sign.1 around equates.1 (leads is (guarded.IsSigned.first kept is rest)))
          (signed_form levels rest ids_signed around equates.2
          (λ other among. leads other (guarded.IsSigned.later kept other is rest among))))

  -- a name that no list declares which it stands under
  outside_form : (some : List Declared) (most : ℕ) → length some ≤ most → length some ≤ count
      → (levels : ScopeLevels) (name : Name) (id : NodeId) → id ≡ node_under names levels name
      → LeadsHere some levels (type.Named name)
      → IsOutside first equations names base levels name → IsFormAt most id levels (type.Named name)
  outside_form some most fits_most fits_count levels name id id_is leads outside =
      by_node (node_of names name) (id_is ∙ outside.there) (at_names name)
    where
      by_node : (found : Option NodeId) → id ≡ unwrap_or found EMPTY → IsGiven graph count base name found
          → IsFormAt most id levels (type.Named name)
      by_node None there nowhere =
          as_nothing graph first equations names base Fact solves begins count most (scope_of base levels)
          (type.Named name) id there (form.undeclared most (scope_of base levels) name (outside.declared ∙ nowhere))
      by_node (Some given) there is = subst (λ id. IsFormAt most id levels (type.Named name)) (sym there)
          (form.known most (formula_at graph given) (scope_of base levels) name
          (known_here Fact guards seen among count fits graph given most some fits_most fits_count base
          (scope_of base levels) name (sym outside.declared) leads is))

  -- a name that a list declares which it stands under, where its tree has its form with one name less
  inside_form : (some : List Declared) (most : ℕ) → length some ≤ suc most → length some ≤ count
      → (levels : ScopeLevels) (name : Name) (id : NodeId) → id ≡ node_under names levels name
      → LeadsHere some levels (type.Named name)
      → (inside : IsInside first equations names base levels name)
      → ((fewer : List Declared) → length fewer ≤ most → length fewer ≤ count → FormsAtNames fewer most)
      → IsFormAt (suc most) id levels (type.Named name)
  inside_form some most fits_most fits_count levels name id id_is leads inside next =
      subst (λ formula. IsFormOf (MeansIn graph) (KnownIn graph count) StandsHere (suc most) formula scope
      (type.Named name)) (sym at_root)
      (form.named most (formula_at graph inside.has_root.root) scope name is inside.declared
      (tree_form fewer most
      (next fewer (shorter is some place most fits_most) (shorter is some place count (omega arith)))
      inside.inner inside.is inside.has_root.root inside.around inside.has_root.equates
      (leads_on Fact some scope name is inside.declared
      (guards is (led_to Fact [] scope (type.Named name) is on leads.covered)) place leads)))
    where
      scope : Scope
      scope = scope_of base levels

      is : Declared
      is = record { name = name; scope = scope_of base inside.inner; tree = inside.is }

      on : guarded.LeadsTo [] scope (type.Named name) is
      on = guarded.LeadsTo.named [] scope name is inside.declared

      place : IsIn is some
      place = leads.to is on

      fewer : List Declared
      fewer = without is some place

      at_root : formula_at graph id ≡ formula_at graph inside.has_root.root
      at_root = ap (formula_at graph) (id_is ∙ inside.there)
          ∙ solved graph first equations (node inside.number) (Same inside.has_root.root) solves inside.has_root.same

  -- a name with at least as many to use up as it leads to
  name_form : (most : ℕ) (some : List Declared) → length some ≤ most → length some ≤ count → FormsAtNames some most
  name_form zero some fits_most fits_count levels name id around id_is leads =
      by_list (found first equations names base levels name around)
    where
      by_list : IsInside first equations names base levels name ⊎ IsOutside first equations names base levels name
          → IsFormAt zero id levels (type.Named name)
      by_list (inl inside) = absurd (none-some _
          (sym (is_undeclared Fact some fits_most (scope_of base levels) name leads) ∙ inside.declared))
      by_list (inr outside) = outside_form some zero fits_most fits_count levels name id id_is leads outside
  name_form (suc most) some fits_most fits_count levels name id around id_is leads =
      by_list (found first equations names base levels name around) (name_form most)
    where
      by_list : IsInside first equations names base levels name ⊎ IsOutside first equations names base levels name
          → ((fewer : List Declared) → length fewer ≤ most → length fewer ≤ count → FormsAtNames fewer most)
          → IsFormAt (suc most) id levels (type.Named name)
      by_list (inl inside) next = inside_form some most fits_most fits_count levels name id id_is leads inside next
      by_list (inr outside) next = outside_form some (suc most) fits_most fits_count levels name id id_is leads outside

  -- so the formula of each node that stands for a type is one of its form
  pub forms : (id : NodeId) (one : WrittenType) → StandsHere id one
      → IsFormOf (MeansIn graph) (KnownIn graph count) StandsHere count (formula_at graph id) one.scope one.kind
  forms _ _ (placed levels kind id is) =
      kind_form seen count (name_form count seen fits fits) levels kind id is.around is.equates
      (record {
        covered = is.covered;
        to = λ name on. among name (led_to Fact [] (scope_of base levels) kind name on is.covered);
      })
  forms _ _ (alone kind id is equates) =
      alone_form graph first equations names base Fact solves begins count count [] kind id is equates
