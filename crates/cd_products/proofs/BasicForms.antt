-- What is basic by its form holds no thing with parts.
use Rattle.std.proofs.Common.{◌≡◌, inl, inr, Bool, true, false, ◌&&◌, ◌||◌, ℕ, zero, suc, List}
use Rattle.std.proofs.Common.{[], ◌∷◌, map, take, drop, refl, sym, ap, ◌∙◌, true≢false}
use Rattle.std.proofs.lemmas.Bool.{and_parts}
use Rattle.cd_sets.specs.declared.node_id.NodeId.{NodeId}
use Rattle.cd_sets.specs.declared.interval.Interval.{Interval}
use Rattle.cd_sets.specs.Characters.{CharInterval}
use Rattle.cd_sets.specs.Atoms.{Atoms}
use Rattle.cd_model.specs.AllOf.{AllOf}
use Rattle.cd_model.specs.Formula as formula
use Rattle.cd_model.specs.Formula.{Formula, Formulas, NoFormula, AFormula, Graph, formula_at}
use Rattle.cd_model.specs.Formula.{formulas_of}
use Rattle.cd_model.specs.Membership.{Reader, at_nodes, holds, each_holds, one_holds}
use Rattle.cd_graph.specs.PlainFormula.{plain}
use Rattle.cd_graph.specs.declared.formula.Formula.{Formula as CodeFormula}
use Rattle.cd_products.specs.Inner.Basic.{is_basic, one_is_basic, all_are_basic, one_node_is_basic}

-- by halves
and_assoc : (a b c : Bool) → ((a && b) && c) ≡ (a && (b && c))
and_assoc true b c = refl
and_assoc false b c = refl

or_assoc : (a b c : Bool) → ((a || b) || c) ≡ (a || (b || c))
or_assoc true b c = refl
or_assoc false b c = refl

pub one_of_halves : (half : ℕ) (all : List CodeFormula)
    → (one_is_basic (formulas_of (map plain (take half all)))
    || one_is_basic (formulas_of (map plain (drop half all))))
    ≡ one_is_basic (formulas_of (map plain all))
one_of_halves zero all = refl
one_of_halves (suc half) [] = refl
one_of_halves (suc half) (first ∷ rest) =
    or_assoc (is_basic (plain first)) (one_is_basic (formulas_of (map plain (take half rest))))
    (one_is_basic (formulas_of (map plain (drop half rest))))
    ∙ ap (is_basic (plain first) ||◌) (one_of_halves half rest)

pub all_of_halves : (half : ℕ) (all : List CodeFormula)
    → (all_are_basic (formulas_of (map plain (take half all)))
    && all_are_basic (formulas_of (map plain (drop half all))))
    ≡ all_are_basic (formulas_of (map plain all))
all_of_halves zero all = refl
all_of_halves (suc half) [] = refl
all_of_halves (suc half) (first ∷ rest) =
    and_assoc (is_basic (plain first)) (all_are_basic (formulas_of (map plain (take half rest))))
    (all_are_basic (formulas_of (map plain (drop half rest))))
    ∙ ap (is_basic (plain first) &&◌) (all_of_halves half rest)

-- where one of two tests is true, and neither may be
either_fails : (a b : Bool) → (a || b) ≡ true → (a ≡ true → ⊥) → (b ≡ true → ⊥) → ⊥
either_fails true b one first second = first refl
either_fails false b one first second = second one

-- a thing that is in no set of integers, of characters and of atoms
pub record IsInNoSet (read : Reader) : Type 0 where
  pub integers : (set : List Interval) → read (formula.Ints set) true → ⊥
  pub characters : (set : List CharInterval) → read (formula.Chars set) true → ⊥
  pub atoms : (set : Atoms) → read (formula.Atoms set) true → ⊥

module _ (read : Reader) (sets : IsInNoSet read) where
  mutual
    pub not_held : (f : Formula) → is_basic f ≡ true → holds read f true → ⊥
    not_held formula.Nothing basic held = true≢false held
    not_held formula.Everything basic held = true≢false (sym basic)
    not_held (formula.Ints set) basic held = sets.integers set held
    not_held (formula.Chars set) basic held = sets.characters set held
    not_held (formula.Atoms set) basic held = sets.atoms set held
    not_held (formula.And formulas) basic held = not_each formulas basic held
    not_held (formula.Or formulas) basic held = not_one formulas basic held
    not_held (formula.Not f) basic held = true≢false (sym basic)
    not_held (formula.Pair first second) basic held = true≢false (sym basic)
    not_held (formula.Xml tag attributes content) basic held = true≢false (sym basic)
    not_held (formula.Record named rest) basic held = true≢false (sym basic)
    not_held (formula.Arrow argument result) basic held = true≢false (sym basic)

    not_each : (all : Formulas) → one_is_basic all ≡ true → each_holds read all true → ⊥
    not_each NoFormula basic held = true≢false (sym basic)
    not_each (AFormula f rest) basic held = either_fails (is_basic f) (one_is_basic rest) basic
        (λ is. not_held f is held.0) (λ is. not_each rest is held.1)

    not_one : (all : Formulas) → all_are_basic all ≡ true → one_holds read all true → ⊥
    not_one NoFormula basic held = held
    not_one (AFormula f rest) basic (inl here) =
        not_held f (and_parts (is_basic f) (all_are_basic rest) basic).0 here
    not_one (AFormula f rest) basic (inr later) =
        not_one rest (and_parts (is_basic f) (all_are_basic rest) basic).1 later

  -- nor in a node that is basic
  pub not_in_all : (graph : Graph) (ids : List NodeId) → one_node_is_basic graph ids ≡ true
      → AllOf (λ id. at_nodes graph read id true) ids → ⊥
  not_in_all graph [] basic inside = true≢false (sym basic)
  not_in_all graph (id ∷ ids) basic inside = either_fails (is_basic (formula_at graph id))
      (one_node_is_basic graph ids) basic
      (λ is. not_held (formula_at graph id) is inside.0)
      (λ is. not_in_all graph ids is inside.1)
