-- Formulas of a graph are formulas of a longer graph, and have the same numbers there.
use Rattle.std.proofs.Common.{◌≡◌, ◌<◌, ◌≤◌, ◌+◌, ℕ, zero, suc, List, [], ◌∷◌, ◌++◌, length, Some}
use Rattle.std.proofs.Common.{refl, ap, ◌∙◌, arith, length-append}
use Rattle.std.specs.List.{slice_get}
use Rattle.std.specs.Option.{unwrap_or}
use Rattle.cd_syntax.specs.Name.{Name}
use Rattle.cd_model.specs.AllOf.{AllOf}
use Rattle.cd_model.specs.BuiltIns.{node}
use Rattle.cd_model.specs.Formula.{Formula, Formulas, Nothing, Everything, Ints, Chars, Atoms, Pair}
use Rattle.cd_model.specs.Formula.{Xml, Record, Arrow, And, Or, Not, NoFormula, AFormula, Field}
use Rattle.cd_model.specs.Formula.{Graph, IsFormula, AreFormulas, IsGraph, formula_at, formulas_of}
use Rattle.cd_model.proofs.ByNumber.{got_after}
use Rattle.cd_model.proofs.Ones.{each_weaker, each_of_lists}

mutual
  pub formula_among_more : (nodes more : ℕ) → nodes ≤ more → (is : Formula) → IsFormula nodes is
      → IsFormula more is
  formula_among_more nodes more larger Nothing sound = tt
  formula_among_more nodes more larger Everything sound = tt
  formula_among_more nodes more larger (Ints set) sound = tt
  formula_among_more nodes more larger (Chars set) sound = tt
  formula_among_more nodes more larger (Atoms set) sound = sound
  formula_among_more nodes more larger (Pair first second) sound = (omega arith, omega arith)
  formula_among_more nodes more larger (Xml tag attributes content) sound =
      (omega arith, omega arith, omega arith)
  formula_among_more nodes more larger (Record named rest) sound = (
    sound.0,
    each_weaker (λ (field : Name × Field). field.1.type.0 < nodes)
        (λ (field : Name × Field). field.1.type.0 < more) (λ field small. omega arith) named
        sound.1,
    omega arith,
  )
  formula_among_more nodes more larger (Arrow argument result) sound = (omega arith, omega arith)
  formula_among_more nodes more larger (And formulas) sound =
      formulas_among_more nodes more larger formulas sound
  formula_among_more nodes more larger (Or formulas) sound =
      formulas_among_more nodes more larger formulas sound
  formula_among_more nodes more larger (Not is) sound =
      formula_among_more nodes more larger is sound

  formulas_among_more : (nodes more : ℕ) → nodes ≤ more → (formulas : Formulas)
      → AreFormulas nodes formulas → AreFormulas more formulas
  formulas_among_more nodes more larger NoFormula sound = tt
  formulas_among_more nodes more larger (AFormula is rest) sound = (
    formula_among_more nodes more larger is sound.0,
    formulas_among_more nodes more larger rest sound.1,
  )

-- all of a list
pub each_among_more : (nodes more : ℕ) → nodes ≤ more → (all : List Formula)
    → AllOf (IsFormula nodes) all → AllOf (IsFormula more) all
each_among_more nodes more larger all each =
    each_weaker (IsFormula nodes) (IsFormula more) (formula_among_more nodes more larger) all each

-- so a graph is one with more formulas too
pub graph_with_more : (graph batch : Graph) → IsGraph graph
    → AllOf (IsFormula (length graph + length batch)) batch → IsGraph (graph ++ batch)
graph_with_more graph batch sound more =
    let all : ℕ = length graph + length batch in
    rw (length-append graph batch) (each_of_lists (IsFormula all) graph batch
    (each_among_more (length graph) all (omega arith) graph sound) more)

-- formulas of a graph are those of a connective
pub are_formulas : (nodes : ℕ) (all : List Formula) → AllOf (IsFormula nodes) all
    → AreFormulas nodes (formulas_of all)
are_formulas nodes [] each = tt
are_formulas nodes (is ∷ all) each = (each.0, are_formulas nodes all each.1)

-- the formula of a node is one of the graph
pub sound_at : (count : ℕ) (graph : Graph) (id : ℕ) → AllOf (IsFormula count) graph
    → id < length graph → IsFormula count (formula_at graph (node id))
sound_at count [] id each below = absurd (omega (arith, below))
sound_at count (is ∷ graph) zero each below = each.0
sound_at count (is ∷ graph) (suc id) each below =
    sound_at count graph id each.1 (omega (arith, below))

-- an old node has its formula in a longer graph
pub formula_kept : (graph more : Graph) (id : ℕ) → id < length graph
    → formula_at graph (node id) ≡ formula_at (graph ++ more) (node id)
formula_kept [] more id below = absurd (omega (arith, below))
formula_kept (is ∷ graph) more zero below = refl
formula_kept (is ∷ graph) more (suc id) below = formula_kept graph more id (omega (arith, below))

-- and a new one the formula that was put there
pub formula_after : (graph batch : Graph) (number : ℕ) (is : Formula)
    → slice_get batch number ≡ Some is
    → formula_at (graph ++ batch) (node (length graph + number)) ≡ is
formula_after graph batch number is there =
    ap (λ found. unwrap_or found Nothing) (got_after graph batch number ∙ there)
