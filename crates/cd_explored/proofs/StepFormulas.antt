-- Formulas of steps: of what is taken, of a constant that is put, and of what is gathered.
use Rattle.std.proofs.Common.{◌≡◌, ◌↔◌, ◌<◌, ℕ, Bool, true, false, ◌++◌, length, refl, sym, subst}
use Rattle.std.proofs.Common.{append_assoc, ◌∙◌}
use Rattle.std.proofs.lemmas.Bool.{true≢false}
use Rattle.cd_sets.specs.declared.node_id.NodeId.{NodeId}
use Rattle.cd_sets.specs.declared.question.Question.{Question}
use Rattle.cd_syntax.specs.declared.constant.Constant.{Constant}
use Rattle.cd_model.specs.Formula as formula
use Rattle.cd_model.specs.Formula.{Graph, Formula, IsGraph, asked, at_formula, formula_at, holds}
use Rattle.cd_model.specs.Formula.{in_node}
use Rattle.cd_model.specs.Formula.{nodes as at_node}
use Rattle.cd_model.specs.Interfaces.{Interfaces, admits, value_in_node, value_reader}
use Rattle.cd_model.specs.Thing as thing
use Rattle.cd_model.specs.Thing.{Thing, IsElement, IsValue}
use Rattle.cd_model.specs.Types.{Answers, Mapping, reader, answers, no_closure, closure_maps}
use Rattle.cd_model.proofs.BothWays.{itself, turned, through, both_agree}
use Rattle.cd_model.proofs.Extending.{kept_formulas, kept_values, kept_value_formulas}
use Rattle.cd_model.proofs.Sorts as sorts
use Rattle.cd_model.proofs.Sorts.{Sort}
use Rattle.cd_matching.specs.Sequences.{thing_of}
use Rattle.cd_rules.specs.Family.{AsksNodes}
use Rattle.cd_products.specs.Keeping.{IsFormulaOfQuestion}
use Rattle.cd_filter.specs.Table.{Place, Takes, Puts, Gathers}
use Rattle.cd_explored.specs.CaptureNodes.{IsFormulaOf}
use Rattle.cd_explored.specs.StepFormulas.{HoldsAlone}
use Rattle.cd_explored.proofs.LongerTables.{all_agree, old_alike}
use Rattle.cd_explored.proofs.NodesStay.{formula_kept}

-- what all things of the sort answer alike, and that a variable is itself
with_itself : {A B : Type 0} (variable : ℕ) → A ↔ B → A ↔ ((variable ≡ variable) × B)
with_itself variable agree = (λ a. (refl, agree.0 a), λ h. agree.1 h.1)

-- pairs of an item and of what is gathered after it
module _ (graph : Graph) (closed : ℕ → Mapping NodeId) (sort : Sort) (item : Question)
    (item_node next_node : NodeId) where
  abbrev in_it : Thing → Answers NodeId
  in_it = answers (at_node graph) closed

  abbrev HoldsPair : Thing → Type 0
  HoldsPair d =
      holds (at_formula (reader (at_node graph) closed d)) (formula.Pair item_node next_node) true

  abbrev IsPairOf : Thing → Type 0
  IsPairOf d = (first rest : Thing) × sort.Of first × sort.Of rest
      × (d ≡ thing.Pair first rest) × asked (in_it first) item true × in_it rest next_node true

  abbrev HoldsItem : Type 0
  HoldsItem = (d : Thing) → sort.Of d → in_it d item_node true ↔ asked (in_it d) item true

  pair_of : HoldsItem → (d : Thing) → sort.Of d → HoldsPair d → IsPairOf d
  pair_of items (thing.Pair d e) sound h = let parts = sort.pair d e sound in
      (d, e, parts.0, parts.1, refl, (items d parts.0).0 h.0, h.1)
  pair_of items (thing.Integer n) sound h = absurd (true≢false h)
  pair_of items (thing.Character c) sound h = absurd (true≢false h)
  pair_of items (thing.Atom name) sound h = absurd (true≢false h)
  pair_of items (thing.Xml d e f) sound h = absurd (true≢false h)
  pair_of items (thing.Record fields) sound h = absurd (true≢false h)
  pair_of items (thing.Function pairs) sound h = absurd (true≢false h)
  pair_of items (thing.Closure function environment) sound h = absurd (true≢false h)

  of_pair : HoldsItem → (d : Thing) → IsPairOf d → HoldsPair d
  of_pair items d (first, rest, sound_first, sound_rest, made, inside, inside_rest) =
      subst HoldsPair (sym made) ((items first sound_first).1 inside, inside_rest)

module _ (graph : Graph) (sound : IsGraph graph) (question : Question)
    (asks : AsksNodes (length graph) question) (f : Formula)
    (answer : IsFormulaOfQuestion graph question f) (rest : Graph) where
  abbrev longer : Graph
  longer = graph ++ rest

  -- the formula answers so in each longer graph
  elements_answer : (e : Thing) → IsElement e
      → holds (at_formula (reader (at_node longer) no_closure e)) f true
      ↔ asked (in_node longer e) question true
  elements_answer e sort = through (turned (kept_formulas graph rest sound e f true answer.sound))
      (through (turned (answer.elements e sort)) (old_alike graph rest sound question asks e))

  values_answer : (interfaces : Interfaces) (v : Thing) → IsValue v
      → holds (at_formula (value_reader longer interfaces v)) f true
      ↔ asked (value_in_node longer interfaces v) question true
  values_answer interfaces v sort = through
      (turned (kept_value_formulas graph rest sound (admits interfaces) (admits interfaces)
      (λ function pairs element. itself) v f true answer.sound))
      (through (turned (answer.values interfaces v sort))
      (both_agree
      (all_agree (λ id. id.0 < length graph) (λ id. value_in_node graph interfaces v id true)
      (λ id. value_in_node longer interfaces v id true) (kept true) question.pos asks.0)
      (all_agree (λ id. id.0 < length graph) (λ id. value_in_node graph interfaces v id false)
      (λ id. value_in_node longer interfaces v id false) (kept false) question.neg asks.1)))
    where
      kept : (given : Bool) (id : NodeId) → id.0 < length graph
          → value_in_node graph interfaces v id given ↔ value_in_node longer interfaces v id given
      kept given id below = kept_values graph rest sound (admits interfaces) (admits interfaces)
          (λ function pairs element. itself) v id given below

module _ (graph rest : Graph) (variable : ℕ) (id : Place → NodeId) where
  module _ (sound : IsGraph graph) (question : Question)
      (asks : AsksNodes (length graph) question) (f : Formula)
      (answer : IsFormulaOfQuestion graph question f) where
    abbrev all : Graph
    all = graph ++ rest

    values_so : (more : Graph) (interfaces : Interfaces) (v : Thing) → IsValue v
        → holds (at_formula (value_reader (all ++ more) interfaces v)) f true
        ↔ asked (value_in_node (all ++ more) interfaces v) question true
    values_so more interfaces v sort = subst
        (λ g. holds (at_formula (value_reader g interfaces v)) f true
        ↔ asked (value_in_node g interfaces v) question true) (sym (append_assoc graph rest more))
        (values_answer graph sound question asks f answer (rest ++ more) interfaces v sort)

    -- what is taken
    pub taken_formula : (number : ℕ) → IsFormulaOf all variable id (record {
      place = record { number = number; question = question };
      step = Takes variable;
      formula = f;
    })
    taken_formula number = record {
      elements = λ e element.
          with_itself variable (elements_answer graph sound question asks f answer rest e element);
      values = λ more interfaces still of_graph v value.
          with_itself variable (values_so more interfaces v value);
    }

    -- what is gathered, where the node of the items has the formula of the question
    pub gathered_formula : (place next : Place) (item_node : NodeId)
        → item_node.0 < length all → formula_at all item_node ≡ f
        → IsFormulaOf all variable id (record {
          place = place;
          step = Gathers variable question next;
          formula = formula.Pair item_node (id next);
        })
    gathered_formula place next item_node below is = record {
      elements = λ e element. with_itself variable (
        pair_of all no_closure sorts.elements question item_node (id next) items e element,
        of_pair all no_closure sorts.elements question item_node (id next) items e,
      );
      values = λ more interfaces still of_graph v value. with_itself variable (
        pair_of (all ++ more) (closure_maps (at_node (all ++ more)) (admits interfaces))
            sorts.values question item_node (id next) (value_items more interfaces) v value,
        of_pair (all ++ more) (closure_maps (at_node (all ++ more)) (admits interfaces))
            sorts.values question item_node (id next) (value_items more interfaces) v,
      );
    }
      where
        items : HoldsItem all no_closure sorts.elements question item_node (id next)
        items d element = subst
            (λ g. holds (at_formula (reader (at_node all) no_closure d)) g true
            ↔ asked (in_node all d) question true) (sym is)
            (elements_answer graph sound question asks f answer rest d element)

        value_items : (more : Graph) (interfaces : Interfaces)
            → HoldsItem (all ++ more) (closure_maps (at_node (all ++ more)) (admits interfaces))
            sorts.values question item_node (id next)
        value_items more interfaces d value = subst
            (λ g. holds (at_formula (value_reader (all ++ more) interfaces d)) g true
            ↔ asked (value_in_node (all ++ more) interfaces d) question true)
            (sym (formula_kept all more item_node.0 below ∙ is)) (values_so more interfaces d value)

-- what is put
pub put_formula : (graph : Graph) (variable : ℕ) (id : Place → NodeId) (place : Place)
    (constant : Constant) (f : Formula) → HoldsAlone graph (thing_of constant) f
    → IsFormulaOf graph variable id
    (record { place = place; step = Puts variable constant; formula = f })
put_formula graph variable id place constant f alone = record {
  elements = λ e element. with_itself variable (alone.elements e element);
  values = λ more interfaces still of_graph v value.
      with_itself variable (alone.values more interfaces v still of_graph value);
}
