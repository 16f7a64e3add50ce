-- What a graph is known by: it is sound, it begins with the built-in nodes, and both stay so where formulas are added.
use Rattle.std.proofs.Common.{◌≡◌, ℕ, zero, suc, map, get_or, ◌<◌, ◌≤◌, List, [], ◌∷◌, ◌++◌, length, take, drop, Option, Some, None, Result, Ok, Err, OnOk, OnErr, sym, ap, ◌∙◌, subst, arith}
use Rattle.std.proofs.Props.{props}
use Rattle.std.proofs.lemmas.List.{take-append-le, take-append-drop, length-take}
use Rattle.std.specs.Coded.{×_prop, Unit-prop}
use mathlib.Core.Logic.{∥∥₁_elim}
use Rattle.cd_syntax.specs.Name.{Name, IsLabel}
use Rattle.cd_syntax.specs.Name.{IsAbove}
use Rattle.cd_model.specs.AllOf.{AllOf}
use Rattle.cd_model.specs.Formula.{Formula, Formulas, Nothing, Everything, Ints, Chars, Atoms, Pair, Xml, Record, Arrow, And, Or, Not, NoFormula, AFormula, Field, Graph, AreRisingLabels, IsFormula, AreFormulas, IsGraph}
use Rattle.cd_model.specs.BuiltIns.{built_ins}
use Rattle.cd_graph.specs.PlainFormula.{plain}
use Rattle.cd_graph.specs.declared.formula.Formula.{Formula as CodeFormula}
use Rattle.cd_graph.proofs.Same.{formulas_are_a_set}

-- each of these facts has one proof at most
each_in_one_way : {X : Type 0} → (fact : X → Type 0) → ((one : X) → IsProp (fact one)) → (list : List X)
    → IsProp (AllOf fact list)
each_in_one_way fact once [] = Unit-prop
each_in_one_way fact once (one ∷ rest) = ×_prop (once one) (each_in_one_way fact once rest)

label_in_one_way : (name : Name) → IsProp (IsLabel name)
label_in_one_way name = hlevel props

above_in_one_way : (before : Option Name) (label : Name) → IsProp (IsAbove before label)
above_in_one_way None label = Unit-prop
above_in_one_way (Some before) label = hlevel props

labels_in_one_way : (before : Option Name) (named : List (Name × Field)) → IsProp (AreRisingLabels before named)
labels_in_one_way before [] = Unit-prop
labels_in_one_way before (field ∷ named) =
    hlevel (label_in_one_way field.0, above_in_one_way before field.0, labels_in_one_way (Some field.0) named)

mutual
  formula_in_one_way : (nodes : ℕ) (is : Formula) → IsProp (IsFormula nodes is)
  formula_in_one_way nodes Nothing = Unit-prop
  formula_in_one_way nodes Everything = Unit-prop
  formula_in_one_way nodes (Ints set) = Unit-prop
  formula_in_one_way nodes (Chars set) = Unit-prop
  formula_in_one_way nodes (Atoms set) = each_in_one_way IsLabel label_in_one_way set.names
  formula_in_one_way nodes (Pair first second) = hlevel props
  formula_in_one_way nodes (Xml tag attributes content) = hlevel props
  formula_in_one_way nodes (Record named rest) =
      let fields : IsProp (AllOf (λ field. field.1.type.0 < nodes) named) =
      each_in_one_way (λ field. field.1.type.0 < nodes) (λ field. hlevel props) named in
      hlevel (labels_in_one_way None named, fields, props)
  formula_in_one_way nodes (Arrow argument result) = hlevel props
  formula_in_one_way nodes (And formulas) = formulas_in_one_way nodes formulas
  formula_in_one_way nodes (Or formulas) = formulas_in_one_way nodes formulas
  formula_in_one_way nodes (Not is) = formula_in_one_way nodes is

  formulas_in_one_way : (nodes : ℕ) (formulas : Formulas) → IsProp (AreFormulas nodes formulas)
  formulas_in_one_way nodes NoFormula = Unit-prop
  formulas_in_one_way nodes (AFormula is rest) = ×_prop (formula_in_one_way nodes is) (formulas_in_one_way nodes rest)

-- so what a graph keeps in its ghost fields can be had
pub sound : (graph : Graph) → ∥ IsGraph graph ∥₁ → IsGraph graph
sound graph kept =
    ∥∥₁_elim kept (each_in_one_way (IsFormula (length graph)) (formula_in_one_way (length graph)) graph) (λ is. is)

graphs_are_a_set : IsSet Graph
graphs_are_a_set = hlevel (formulas_are_a_set, props)

pub begins : (graph : Graph) → ∥ take 14 graph ≡ built_ins ∥₁ → take 14 graph ≡ built_ins
begins graph kept = ∥∥₁_elim kept (graphs_are_a_set (take 14 graph) built_ins) (λ is. is)

-- a graph that begins with the built-in nodes is these and others after them, and the other way
pub with_others : (graph : Graph) → take 14 graph ≡ built_ins → (more : Graph) × (graph ≡ built_ins ++ more)
with_others graph begun = (drop 14 graph, sym (take-append-drop 14 graph) ∙ ap (λ first. first ++ drop 14 graph) begun)

pub without_others : (graph : Graph) → ((more : Graph) × (graph ≡ built_ins ++ more)) → take 14 graph ≡ built_ins
without_others graph all = ap (take 14) all.1

pub still_begins : (graph batch : Graph) → take 14 graph ≡ built_ins → take 14 (graph ++ batch) ≡ built_ins
still_begins graph batch begins =
    let count : length (take 14 graph) ≡ 14 = ap length begins in
    let enough : 14 ≤ length graph = omega (arith, count, length-take 14 graph) in
    take-append-le 14 graph batch enough ∙ begins

-- a fact of what a call left, which either added or kept
pub either_way : {T E : Type 0} → (fact : Graph → Type 0) (graph both now : Graph) (result : Result T E)
    → OnOk result (now ≡ both) → OnErr result (now ≡ graph) → fact graph → fact both → fact now
either_way fact graph both now (Ok one) added kept was is = subst fact (sym added) is
either_way fact graph both now (Err one) added kept was is = subst fact (sym kept) was

-- where all formulas are of a graph, the one at a place is
pub item_is_sound : (nodes : ℕ) (items : List CodeFormula) (place : ℕ) (d : CodeFormula) → AllOf (IsFormula nodes) (map plain items)
    → place < length items → IsFormula nodes (plain (get_or items place d))
item_is_sound nodes [] place d each within = absurd (omega arith)
item_is_sound nodes (is ∷ items) zero d each within = each.0
item_is_sound nodes (is ∷ items) (suc place) d each within = item_is_sound nodes items place d each.1 (omega arith)
