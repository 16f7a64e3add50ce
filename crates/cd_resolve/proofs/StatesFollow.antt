-- A graph that solves the equations of a sequence's states holds the sequence in the first of them.
use Rattle.std.proofs.Common.{◌≡◌, ℕ, ◌+◌, ◌<◌, ◌≤◌, List, [], ◌∷◌, ◌++◌, ◌⊎◌, inl, inr, length, map, take, drop, sym}
use Rattle.std.proofs.Common.{ap, subst, ◌∙◌, arith}
use Rattle.std.specs.Option.{unwrap_or}
use Rattle.std.proofs.lemmas.Bool.{cases_lt}
use Rattle.std.proofs.lemmas.List.{drop_more, take-append-drop, length-take-le, append_assoc}
use Rattle.std.proofs.lemmas.Option.{slice_get_past, unwrap_or-slice_get}
use Rattle.cd_sets.specs.declared.node_id.NodeId.{NodeId}
use Rattle.cd_model.specs.BuiltIns.{node}
use Rattle.cd_model.specs.Formula.{Graph, Formula, Nothing, Or, formula_at}
use Rattle.cd_regex.specs.Automaton.{Follow, state_formula, all_states, sequence_formulas}
use Rattle.cd_regex.specs.Regular.{Regular, AsksBelow}
use Rattle.cd_regex.specs.Sequences.{HoldsSequences}
use Rattle.cd_regex.proofs.Holding.{batch_holds}
use Rattle.cd_shared.specs.Equation.{Equations, Is}
use Rattle.cd_resolve.specs.Inner.Equates.{HaveFormulas}
use Rattle.cd_resolve.specs.Inner.Solves.{Solves}
use Rattle.cd_resolve.proofs.GivenFormulas.{solved}

-- the formulas of a graph from a node on hold the sequences of an expression
pub record HoldsAt (graph : Graph) (id : NodeId) (regular : Regular) : Type 0 where
  pub before : Graph
  pub batch : Graph
  pub after : Graph
  pub parts : graph ≡ before ++ batch ++ after
  pub long : length before ≡ id.0
  pub holds : HoldsSequences id.0 regular batch

-- a node that holds one of some formulas is one of the graph
abbrev IsOr : Formula → Type 0
IsOr (Or formulas) = Unit {0}
IsOr is = ⊥

is_node : (graph : Graph) (number : ℕ) → IsOr (formula_at graph (node number)) → number < length graph
is_node graph number is_or = by_length (cases_lt number (length graph))
  where
    by_length : (number < length graph) ⊎ (length graph ≤ number) → number < length graph
    by_length (inl within) = within
    by_length (inr past) = absurd
        (subst (λ found. IsOr (unwrap_or found Nothing)) (slice_get_past graph number past) is_or)

module _ (graph : Graph) (first : ℕ) (equations : Equations) (solves : Solves graph first equations) where
  -- a graph goes on with the formulas of states that follow one another
  is_state : (number : ℕ) (state : Follow) (rest : List Follow)
      → HaveFormulas first equations number (map state_formula (state ∷ rest)) → number < length graph
  is_state number state rest have = is_node graph number
      (subst IsOr (sym (solved graph first equations (node number) (Is (state_formula state)) solves have.0)) tt)

  goes_on : (number : ℕ) (states : List Follow) → HaveFormulas first equations number (map state_formula states)
      → drop number graph ≡ map state_formula states ++ drop (number + length states) graph
  goes_on number [] have = ap (λ number. drop number graph) (omega arith)
  goes_on number (state ∷ rest) have =
      drop_more graph number Nothing (is_state number state rest have)
      ∙ ap (λ formula. formula ∷ drop (number + 1) graph)
      (sym (unwrap_or-slice_get graph number Nothing)
      ∙ solved graph first equations (node number) (Is (state_formula state)) solves have.0)
      ∙ ap (λ formulas. state_formula state ∷ formulas)
      (goes_on (number + 1) rest have.1
      ∙ ap (λ (past : ℕ). map state_formula rest ++ drop past graph) (omega arith))

  pub sequence_holds : (id : NodeId) (is : Regular) → HaveFormulas first equations id.0 (sequence_formulas id.0 is)
      → AsksBelow id.0 is → HoldsAt graph id is
  sequence_holds id is have asks = record {
    before = take id.0 graph;
    batch = sequence_formulas id.0 is;
    after = drop (id.0 + length (all_states is id.0)) graph;
    parts = sym (take-append-drop id.0 graph)
        ∙ ap (λ rest. take id.0 graph ++ rest) (goes_on id.0 (all_states is id.0) have)
        ∙ sym (append_assoc (take id.0 graph) (sequence_formulas id.0 is)
        (drop (id.0 + length (all_states is id.0)) graph));
    long = length-take-le id.0 graph (omega (arith, is_state id.0 _ _ have));
    holds = batch_holds is id.0 asks;
  }
