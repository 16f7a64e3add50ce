-- Nodes that hold results for integers of two nodes.
use Rattle.std.proofs.Common.{◌≡◌, ℤ, ℕ, true, true≢false, List, [], ◌∷◌}
use Rattle.std.proofs.Common.{◌++◌, length, refl, sym, ap, subst, ◌∙◌}
use Rattle.cd_sets.specs.declared.interval.Interval.{Interval}
use Rattle.cd_sets.specs.declared.node_id.NodeId.{NodeId}
use Rattle.cd_sets.specs.declared.question.Question.{Question}
use Rattle.cd_sets.specs.Interval.{holds as holds_integer}
use Rattle.cd_syntax.specs.Integer.{IsInteger}
use Rattle.cd_model.specs.BuiltIns.{node}
use Rattle.cd_model.specs.Formula as formula
use Rattle.cd_model.specs.Formula.{Graph, Formula, IsFormula, IsIn, formula_at}
use Rattle.cd_model.specs.Membership.{holds, reader, asked, answers}
use Rattle.cd_model.specs.Thing as thing
use Rattle.cd_model.specs.Thing.{Thing, IsElement}
use Rattle.cd_meaning.specs.Integers.{IsResultOf}
use Rattle.cd_meaning.specs.Sets.{elements_of}
use Rattle.cd_rules.specs.BasicSets.{question_passes, integer_test}
use Rattle.cd_rules.specs.Needs.{question}
use Rattle.cd_rules.proofs.BasicSetsExact.{integers_exact}
use Rattle.cd_products.specs.Keeping.{HoldSame}
use Rattle.cd_operators.specs.declared.operation.Operation.{Operation}
use Rattle.cd_operators.specs.Inner.Bounds.{compute}
use Rattle.cd_operators.specs.Inner.Combined.{AreOfTwo}
use Rattle.cd_operators.specs.Inner.Results.{AreIntegersOf, AreResults}

-- the formula that is put in alone
at_end : (graph : Graph) (f : Formula) → formula_at (graph ++ f ∷ []) (node (length graph)) ≡ f
at_end [] f = refl
at_end (g ∷ graph) f = at_end graph f

formula_last : (graph : Graph) (f : Formula) (id : NodeId) → id.0 ≡ length graph
    → formula_at (graph ++ f ∷ []) id ≡ f
formula_last graph f id is =
    ap (λ (n : ℕ). formula_at (graph ++ f ∷ []) (node n)) is ∙ at_end graph f

module _ (operation : Operation) (graph : Graph) (first second : NodeId)
    (one other all : List Interval) (one_is : AreIntegersOf graph first one)
    (other_is : AreIntegersOf graph second other) (exact : AreOfTwo operation one other all)
    (id : NodeId) (is : id.0 ≡ length graph) where
  abbrev whole : Graph
  whole = graph ++ formula.Ints all ∷ []

  at_it : (e : Thing) → IsIn whole e id → holds (reader whole e) (formula.Ints all) true
  at_it e = subst (λ (f : Formula). holds (reader whole e) f true)
      (formula_last graph (formula.Ints all) id is)

  of_it : (e : Thing) → holds (reader whole e) (formula.Ints all) true → IsIn whole e id
  of_it e = subst (λ (f : Formula). holds (reader whole e) f true)
      (sym (formula_last graph (formula.Ints all) id is))

  abbrev Result : Thing → Type 0
  Result = IsResultOf (compute operation) (elements_of graph first) (elements_of graph second)

  has_it : (e : Thing) → IsElement e → Result e → IsIn whole e id
  has_it e element (a, b, of_a, of_b, in_first, in_second, of_result, same) =
      subst (λ (e : Thing). IsIn whole e id) (sym same)
      (of_it (thing.Integer (compute operation a b)) ((exact (compute operation a b) of_result).1
      (a, b, of_a, of_b, (one_is a of_a).1 in_first, (other_is b of_b).1 in_second, refl)))

  only_it : (e : Thing) → IsElement e → IsIn whole e id → Result e
  only_it (thing.Integer z) element inside =
      let of = (exact z element).0 (at_it (thing.Integer z) inside) in (
        of.0,
        of.1,
        of.2,
        of.3,
        (one_is of.0 of.2).0 of.4,
        (other_is of.1 of.3).0 of.5,
        subst IsInteger (sym of.6) element,
        ap thing.Integer (sym of.6),
      )
  only_it (thing.Character c) element inside =
      absurd (true≢false (at_it (thing.Character c) inside))
  only_it (thing.Atom name) element inside =
      absurd (true≢false (at_it (thing.Atom name) inside))
  only_it (thing.Pair one other) element inside =
      absurd (true≢false (at_it (thing.Pair one other) inside))
  only_it (thing.Xml tag attributes content) element inside =
      absurd (true≢false (at_it (thing.Xml tag attributes content) inside))
  only_it (thing.Record fields) element inside =
      absurd (true≢false (at_it (thing.Record fields) inside))
  only_it (thing.Function pairs) element inside =
      absurd (true≢false (at_it (thing.Function pairs) inside))
  only_it (thing.Closure function environment) element inside = absurd element

  pub results_there : AreResults operation graph whole first second id
  results_there = record { has = has_it; only = only_it }

-- and those of a node that holds the same
pub same_results : (operation : Operation) (old new : Graph) (first second id other : NodeId)
    → AreResults operation old new first second id → HoldSame new id other
    → AreResults operation old new first second other
same_results operation old new first second id other are same = record {
  has = λ e element of. (same.elements e element).0 (are.has e element of);
  only = λ e element inside. are.only e element ((same.elements e element).1 inside);
}

-- the integers of a node, by the sets of a question that asks for it alone
pub integers_there : (graph : Graph) (id : NodeId) (asking : Question) (set : List Interval)
    → asking ≡ question (id ∷ []) []
    → ((z : ℤ) → IsInteger z → holds_integer set z
    ≡ question_passes (integer_test z) graph asking) → AreIntegersOf graph id set
integers_there graph id asking set alone exact z is = (
  λ inside. (subst (λ (q : Question). asked (answers graph (thing.Integer z)) q true) alone
      ((integers_exact graph asking z).1 (sym (exact z is) ∙ inside))).0.0,
  λ inside. exact z is ∙ (integers_exact graph asking z).0
      (subst (λ (q : Question). asked (answers graph (thing.Integer z)) q true) (sym alone)
      ((inside, tt), tt)),
)
