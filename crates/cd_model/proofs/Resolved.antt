-- Nodes whose formulas are those of written types stand for them.
use Rattle.std.proofs.Common.{◌≡◌, ℕ, zero, suc, ◌≤◌, ◌<◌, Bool, true, false, ◌∷◌, ◌++◌, Some, None, ◌↔◌, refl, sym, subst, length, arith}
use Rattle.std.proofs.lemmas.Bool.{false≢true}
use Rattle.cd_sets.specs.declared.node_id.NodeId.{NodeId}
use Rattle.cd_syntax.specs.Name.{Name}
use Rattle.cd_syntax.specs.declared.builtin.BuiltinName.{BuiltinName}
use Rattle.cd_syntax.specs.TypeTree as type
use Rattle.cd_syntax.specs.TypeTree.{Tree, tree, Kind, Trees, NoTree, ATree, Signs, NoSign, ASign, Declarations}
use Rattle.cd_model.specs.Alike.{Standing, HeadsStand, ReadAlike, PresentAlike}
use Rattle.cd_model.specs.BuiltIns.{built_in, built_ins}
use Rattle.cd_model.specs.Formula as formula
use Rattle.cd_model.specs.Formula.{Graph, Formula, Formulas, NoFormula, AFormula, at_formula, holds, each_holds, one_holds, formula_at, nodes, in_node}
use Rattle.cd_model.specs.Interfaces.{Interfaces, admits, value_in_node}
use Rattle.cd_model.specs.Scope.{Scope, Declared, declared_as}
use Rattle.cd_model.specs.StandsFor.{StandsFor}
use Rattle.cd_model.specs.Thing.{Thing, IsElement, IsValue}
use Rattle.cd_model.specs.Types.{Head, Reader, at_head, reader, no_closure, closure_maps, element_answers, value_answers}
use Rattle.cd_model.specs.Written.{WrittenType, Written, Names, kind_of, type_of, type_named, number_of_names, head_of, tree_holds, kind_holds, declared_holds, name_holds, written}
use Rattle.cd_model.specs.Written as written
use Rattle.cd_model.proofs.BothWays.{itself, turned, through, both_agree, one_agrees}
use Rattle.cd_model.proofs.FormulasAlike.{FormulasStand, formulas_alike, of_its_head}
use Rattle.cd_model.proofs.Simplified.{IsUnion, IsMeet, union_holds, meet_holds}
use Rattle.cd_model.proofs.Sorts.{elements, values}
use Rattle.cd_model.proofs.ValuesAlike.{elements_by, values_by}

-- a form that is neither a connective nor a name
abbrev pub IsForm : Kind → Type 0
IsForm (type.Builtin name) = ⊥
IsForm (type.Union trees) = ⊥
IsForm (type.Meet first signs) = ⊥
IsForm (type.Named name) = ⊥
IsForm (type.Where is declarations) = ⊥
IsForm kind = Unit {0}

-- which formulas mean which heads, and which are known to answer as a name in a scope where so many names are left to use up
abbrev pub Meaning : Type 1
Meaning = Formula → Head NodeId → Type 0

abbrev pub Knowing : Type 1
Knowing = ℕ → Formula → Scope → Name → Type 0

-- A formula is that of a form, where formulas mean heads and are known for names, and these nodes are those of the form's
-- parts. That of a union or a meet has each of its members once, but for those that change nothing. It leads through so
-- many names, one after another, at most
mutual
  pub data IsFormOf (Means : Meaning) (Known : Knowing) (Stands : Standing NodeId WrittenType)
      : ℕ → Formula → Scope → Kind → Type 0 where
    by_head : (most : ℕ) (is : Formula) (scope : Scope) (kind : Kind) (first : Head NodeId) (second : Head WrittenType)
        → IsForm kind → Means is first → head_of scope kind ≡ Some second → HeadsStand Stands first second
        → IsFormOf Means Known Stands most is scope kind
    no_head : (most : ℕ) (scope : Scope) (kind : Kind) → IsForm kind → head_of scope kind ≡ None
        → IsFormOf Means Known Stands most formula.Nothing scope kind
    by_name : (most : ℕ) (is : Formula) (scope : Scope) (name : BuiltinName)
        → FormulasStand Stands is (built_in type_named name) → IsFormOf Means Known Stands most is scope (type.Builtin name)
    union : (most : ℕ) (is : Formula) (all : Formulas) (scope : Scope) (trees : Trees)
        → AreFormsOf Means Known Stands most all scope trees
        → IsUnion is all → IsFormOf Means Known Stands most is scope (type.Union trees)
    meet : (most : ℕ) (is one : Formula) (all : Formulas) (scope : Scope) (first : Tree) (signs : Signs)
        → IsFormOf Means Known Stands most one scope (kind_of first) → AreSigned Means Known Stands most all scope signs
        → IsMeet is (AFormula one all) → IsFormOf Means Known Stands most is scope (type.Meet first signs)
    under_where : (most : ℕ) (is : Formula) (scope : Scope) (one : Tree) (declarations : Declarations)
        → IsFormOf Means Known Stands most is (declarations ∷ scope) (kind_of one)
        → IsFormOf Means Known Stands most is scope (type.Where one declarations)
    named : (most : ℕ) (is : Formula) (scope : Scope) (name : Name) (declared : Declared)
        → declared_as scope name ≡ Some declared → IsFormOf Means Known Stands most is declared.scope (kind_of declared.tree)
        → IsFormOf Means Known Stands (suc most) is scope (type.Named name)
    known : (most : ℕ) (is : Formula) (scope : Scope) (name : Name) → Known most is scope name
        → IsFormOf Means Known Stands most is scope (type.Named name)
    undeclared : (most : ℕ) (scope : Scope) (name : Name) → declared_as scope name ≡ None
        → IsFormOf Means Known Stands most formula.Nothing scope (type.Named name)

  pub data AreFormsOf (Means : Meaning) (Known : Knowing) (Stands : Standing NodeId WrittenType)
      : ℕ → Formulas → Scope → Trees → Type 0 where
    no_more : (most : ℕ) (scope : Scope) → AreFormsOf Means Known Stands most NoFormula scope NoTree
    one_more : (most : ℕ) (is : Formula) (all : Formulas) (scope : Scope) (one : Tree) (trees : Trees)
        → IsFormOf Means Known Stands most is scope (kind_of one) → AreFormsOf Means Known Stands most all scope trees
        → AreFormsOf Means Known Stands most (AFormula is all) scope (ATree one trees)

  pub data AreSigned (Means : Meaning) (Known : Knowing) (Stands : Standing NodeId WrittenType)
      : ℕ → Formulas → Scope → Signs → Type 0 where
    no_sign : (most : ℕ) (scope : Scope) → AreSigned Means Known Stands most NoFormula scope NoSign
    kept : (most : ℕ) (is : Formula) (all : Formulas) (scope : Scope) (one : Tree) (signs : Signs)
        → IsFormOf Means Known Stands most is scope (kind_of one) → AreSigned Means Known Stands most all scope signs
        → AreSigned Means Known Stands most (AFormula is all) scope (ASign true one signs)
    taken_out : (most : ℕ) (is : Formula) (all : Formulas) (scope : Scope) (one : Tree) (signs : Signs)
        → IsFormOf Means Known Stands most is scope (kind_of one) → AreSigned Means Known Stands most all scope signs
        → AreSigned Means Known Stands most (AFormula (formula.Not is) all) scope (ASign false one signs)

-- a form that is no connective holds what its head does
at_form : (read : Reader WrittenType) (names : Names) (scope : Scope) (kind : Kind) → IsForm kind → (answer : Bool)
    → kind_holds read names scope kind answer ↔ at_head read (head_of scope kind) answer
at_form read names scope (type.Builtin name) form answer = absurd form
at_form read names scope (type.Union trees) form answer = absurd form
at_form read names scope (type.Meet first signs) form answer = absurd form
at_form read names scope (type.Named name) form answer = absurd form
at_form read names scope (type.Where is declarations) form answer = absurd form
at_form read names scope kind form answer = itself

at_tree : (read : Reader WrittenType) (names : Names) (scope : Scope) (is : Tree) (answer : Bool)
    → kind_holds read names scope (kind_of is) answer ↔ tree_holds read names scope is answer
at_tree read names scope (tree span kind) answer = itself

-- what a formula answers that is known for a name
abbrev pub AnswersAsName : (first : Reader NodeId) (second : Reader WrittenType) → Knowing
AnswersAsName first second most is scope name = (count : ℕ) → most ≤ count → (answer : Bool)
    → holds (at_formula first) is answer ↔ name_holds second count scope name answer

module _ (Means : Meaning) (Known : Knowing) (Stands : Standing NodeId WrittenType)
    (first : Reader NodeId) (second : Reader WrittenType) (alike : ReadAlike Stands first second)
    (means : (is : Formula) (head : Head NodeId) → Means is head → (answer : Bool)
    → holds (at_formula first) is answer ↔ first head answer)
    (knows : (most : ℕ) (is : Formula) (scope : Scope) (name : Name) → Known most is scope name
    → AnswersAsName first second most is scope name) where
  mutual
    pub forms_alike : (most : ℕ) (is : Formula) (scope : Scope) (kind : Kind) → IsFormOf Means Known Stands most is scope kind
        → (count : ℕ) → most ≤ count → (answer : Bool)
        → holds (at_formula first) is answer ↔ kind_holds second (name_holds second count) scope kind answer
    forms_alike _ _ _ _ (by_head most is scope kind one other form meant found stands) count fits answer =
        through (means is one meant answer) (through (alike one other stands answer)
        (subst (λ head. at_head second head answer ↔ kind_holds second (name_holds second count) scope kind answer) found
        (turned (at_form second (name_holds second count) scope kind form answer))))
    forms_alike _ _ _ _ (no_head most scope kind form found) count fits answer =
        subst (λ head. at_head second head answer ↔ kind_holds second (name_holds second count) scope kind answer) found
        (turned (at_form second (name_holds second count) scope kind form answer))
    forms_alike _ _ _ _ (by_name most is scope name stand) count fits answer =
        formulas_alike Stands first second alike is (built_in type_named name) stand answer
    forms_alike _ _ _ _ (union most is all scope trees are simplified) count fits true =
        through (union_holds (at_formula first) is all simplified true)
        (some_alike most all scope trees are count fits true)
    forms_alike _ _ _ _ (union most is all scope trees are simplified) count fits false =
        through (union_holds (at_formula first) is all simplified false)
        (each_alike most all scope trees are count fits false)
    forms_alike _ _ _ _ (meet most is one all scope first_tree signs form are simplified) count fits true =
        through (meet_holds (at_formula first) is (AFormula one all) simplified true) (both_agree
        (through (forms_alike most one scope (kind_of first_tree) form count fits true)
        (at_tree second (name_holds second count) scope first_tree true))
        (all_signed most all scope signs are count fits))
    forms_alike _ _ _ _ (meet most is one all scope first_tree signs form are simplified) count fits false =
        through (meet_holds (at_formula first) is (AFormula one all) simplified false) (one_agrees
        (through (forms_alike most one scope (kind_of first_tree) form count fits false)
        (at_tree second (name_holds second count) scope first_tree false))
        (one_signed most all scope signs are count fits))
    forms_alike _ _ _ _ (under_where most is scope one declarations form) count fits answer =
        through (forms_alike most is (declarations ∷ scope) (kind_of one) form count fits answer)
        (at_tree second (name_holds second count) (declarations ∷ scope) one answer)
    forms_alike _ _ _ _ (named most is scope name declared found form) zero fits answer = absurd (omega arith)
    forms_alike _ _ _ _ (named most is scope name declared found form) (suc count) fits answer =
        subst (λ found. holds (at_formula first) is answer ↔ declared_holds second (name_holds second count) found answer) (sym found)
        (through (forms_alike most is declared.scope (kind_of declared.tree) form count (omega arith) answer)
        (at_tree second (name_holds second count) declared.scope declared.tree answer))
    forms_alike _ _ _ _ (known most is scope name answers) count fits answer = knows most is scope name answers count fits answer
    forms_alike _ _ _ _ (undeclared most scope name found) zero fits answer = itself
    forms_alike _ _ _ _ (undeclared most scope name found) (suc count) fits answer =
        subst (λ found. (answer ≡ false) ↔ declared_holds second (name_holds second count) found answer) (sym found) itself

    each_alike : (most : ℕ) (all : Formulas) (scope : Scope) (trees : Trees) → AreFormsOf Means Known Stands most all scope trees
        → (count : ℕ) → most ≤ count → (answer : Bool)
        → each_holds (at_formula first) all answer ↔ written.each_holds second (name_holds second count) scope trees answer
    each_alike _ _ _ _ (no_more most scope) count fits answer = itself
    each_alike _ _ _ _ (one_more most is all scope one trees form are) count fits answer = both_agree
        (through (forms_alike most is scope (kind_of one) form count fits answer) (at_tree second (name_holds second count) scope one answer))
        (each_alike most all scope trees are count fits answer)

    some_alike : (most : ℕ) (all : Formulas) (scope : Scope) (trees : Trees) → AreFormsOf Means Known Stands most all scope trees
        → (count : ℕ) → most ≤ count → (answer : Bool)
        → one_holds (at_formula first) all answer ↔ written.one_holds second (name_holds second count) scope trees answer
    some_alike _ _ _ _ (no_more most scope) count fits answer = itself
    some_alike _ _ _ _ (one_more most is all scope one trees form are) count fits answer = one_agrees
        (through (forms_alike most is scope (kind_of one) form count fits answer) (at_tree second (name_holds second count) scope one answer))
        (some_alike most all scope trees are count fits answer)

    all_signed : (most : ℕ) (all : Formulas) (scope : Scope) (signs : Signs) → AreSigned Means Known Stands most all scope signs
        → (count : ℕ) → most ≤ count
        → each_holds (at_formula first) all true ↔ written.signs_hold second (name_holds second count) scope signs true
    all_signed _ _ _ _ (no_sign most scope) count fits = (λ h. refl, λ h. tt)
    all_signed _ _ _ _ (kept most is all scope one signs form are) count fits = both_agree
        (through (forms_alike most is scope (kind_of one) form count fits true) (at_tree second (name_holds second count) scope one true))
        (all_signed most all scope signs are count fits)
    all_signed _ _ _ _ (taken_out most is all scope one signs form are) count fits = both_agree
        (through (forms_alike most is scope (kind_of one) form count fits false) (at_tree second (name_holds second count) scope one false))
        (all_signed most all scope signs are count fits)

    one_signed : (most : ℕ) (all : Formulas) (scope : Scope) (signs : Signs) → AreSigned Means Known Stands most all scope signs
        → (count : ℕ) → most ≤ count
        → one_holds (at_formula first) all false ↔ written.signs_hold second (name_holds second count) scope signs false
    one_signed _ _ _ _ (no_sign most scope) count fits = (λ h. elim h [ ], λ h. absurd (false≢true h))
    one_signed _ _ _ _ (kept most is all scope one signs form are) count fits = one_agrees
        (through (forms_alike most is scope (kind_of one) form count fits false) (at_tree second (name_holds second count) scope one false))
        (one_signed most all scope signs are count fits)
    one_signed _ _ _ _ (taken_out most is all scope one signs form are) count fits = one_agrees
        (through (forms_alike most is scope (kind_of one) form count fits true) (at_tree second (name_holds second count) scope one true))
        (one_signed most all scope signs are count fits)

-- A formula means a head where all elements and all values answer the same at both. A formula that has a head means it; the
-- formula of the first state of a regular expression means the expression
pub record MeansIn (graph : Graph) (is : Formula) (head : Head NodeId) : Type 0 where
  pub elements : (e : Thing) (answer : Bool) → holds (at_formula (reader (nodes graph) no_closure e)) is answer ↔ reader (nodes graph) no_closure e head answer
  pub values : (interfaces : Interfaces) (v : Thing) (answer : Bool)
      → holds (at_formula (reader (nodes graph) (closure_maps (nodes graph) (admits interfaces)) v)) is answer
      ↔ reader (nodes graph) (closure_maps (nodes graph) (admits interfaces)) v head answer

-- a formula that has a head means it
pub means_its_head : (graph : Graph) (is : Formula) (head : Head NodeId) → formula.head_of is ≡ Some head → MeansIn graph is head
means_its_head graph is head found = record {
  elements = λ e answer. of_its_head (reader (nodes graph) no_closure e) is head found answer;
  values = λ interfaces v answer.
      of_its_head (reader (nodes graph) (closure_maps (nodes graph) (admits interfaces)) v) is head found answer;
}

-- A formula is known for a name where all elements and all values answer the same at both
pub record KnownIn (graph : Graph) (total : ℕ) (most : ℕ) (is : Formula) (scope : Scope) (name : Name) : Type 0 where
  pub elements : (e : Thing) → IsElement e
      → AnswersAsName (reader (nodes graph) no_closure e) (reader (written total) no_closure e) most is scope name
  pub values : (interfaces : Interfaces) (v : Thing) → IsValue v
      → AnswersAsName (reader (nodes graph) (closure_maps (nodes graph) (admits interfaces)) v)
      (reader (written total) (closure_maps (written total) (admits interfaces)) v) most is scope name

-- a node and a written type at which all elements and all values answer the same, with so many names to use up
pub record AnswersAs (graph : Graph) (id : NodeId) (one : WrittenType) (count : ℕ) : Type 0 where
  pub elements : (e : Thing) → IsElement e → (answer : Bool) → in_node graph e id answer ↔ element_answers (written count) e one answer
  pub values : (interfaces : Interfaces) (v : Thing) → IsValue v → (answer : Bool)
      → value_in_node graph interfaces v id answer ↔ value_answers (written count) (admits interfaces) v one answer

module _ (graph : Graph) (Stands : Standing NodeId WrittenType) (count : ℕ)
    (forms : (id : NodeId) (one : WrittenType) → Stands id one
    → IsFormOf (MeansIn graph) (KnownIn graph count) Stands count (formula_at graph id) one.scope one.kind) where
  element_present : PresentAlike IsElement Stands (nodes graph) (written count) no_closure no_closure
  element_present e element alike id one stands answer = forms_alike (MeansIn graph) (KnownIn graph count) Stands
      (reader (nodes graph) no_closure e) (reader (written count) no_closure e) alike
      (λ is head means. means.elements e) (λ most is scope name known. known.elements e element)
      count (formula_at graph id) one.scope one.kind (forms id one stands) count (omega arith) answer

  value_present : (interfaces : Interfaces) → PresentAlike IsValue Stands (nodes graph) (written count)
      (closure_maps (nodes graph) (admits interfaces)) (closure_maps (written count) (admits interfaces))
  value_present interfaces v value alike id one stands answer = forms_alike (MeansIn graph) (KnownIn graph count) Stands
      (reader (nodes graph) (closure_maps (nodes graph) (admits interfaces)) v)
      (reader (written count) (closure_maps (written count) (admits interfaces)) v) alike
      (λ is head means. means.values interfaces v) (λ most is scope name known. known.values interfaces v value)
      count (formula_at graph id) one.scope one.kind (forms id one stands) count (omega arith) answer

  answers_by_forms : (id : NodeId) (one : WrittenType) → Stands id one → AnswersAs graph id one count
  answers_by_forms id one stands = record {
    elements = λ e element answer. elements_by elements (λ pairs sound. sound) Stands (nodes graph) (written count) element_present
        e element id one stands answer;
    values = λ interfaces v value answer. values_by elements (λ pairs sound. sound) Stands (nodes graph) (written count)
        element_present (admits interfaces) (admits interfaces) (λ function pairs sound. itself) values (value_present interfaces)
        v value id one stands answer;
  }

  pub stands_by_forms : (id : NodeId) (is : Written) → number_of_names is ≡ count → Stands id (type_of is) → id.0 < length graph
      → (more : Graph) × (graph ≡ built_ins ++ more) → StandsFor graph id is
  stands_by_forms id is same stands below begins =
      let answers : AnswersAs graph id (type_of is) (number_of_names is) =
      subst (AnswersAs graph id (type_of is)) (sym same) (answers_by_forms id (type_of is) stands) in
      record {
        is_node = below;
        begins = begins;
        elements = λ e answer element. answers.elements e element answer;
        values = λ interfaces v answer value. answers.values interfaces v value answer;
      }
