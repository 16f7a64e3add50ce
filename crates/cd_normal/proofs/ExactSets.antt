-- Sets that hold exactly what passes, where nodes are taken one by one and sets by halves.
use Rattle.std.proofs.Common.{◌≡◌, ℕ, zero, suc, ◌-◌, ◌<◌, ◌≤◌, Bool, true, false, not, ◌&&◌, ◌||◌, List, [], ◌∷◌}
use Rattle.std.proofs.Common.{take, drop, length, get_or, refl, sym, ap, ◌∙◌, arith}
use Rattle.std.proofs.Math.Seq.{drop-length}
use Rattle.cd_sets.specs.declared.node_id.NodeId.{NodeId}
use Rattle.cd_model.specs.Formula.{Formula, Graph, formula_at, formulas_of}
use Rattle.cd_rules.specs.BasicSets.{passes, all_pass, one_passes, in_all, in_none, integer_test, character_test, atom_test}
use Rattle.cd_normal.specs.declared.basic_sets.Basics.{Basics}
use Rattle.cd_normal.specs.Inner.ExactSets.{Passing, AreExact}
use Rattle.cd_normal.proofs.Lists.{from_item_or}

-- sets that hold what passes hold what passes in other words
pub exact_so : (one other : Passing) → ((test : Formula → Bool) → one test ≡ other test) → (sets : Basics) → AreExact one sets
    → AreExact other sets
exact_so one other same sets exact = (
  λ z is. exact.0 z is ∙ same (integer_test z),
  λ x is. exact.1 x is ∙ same (character_test x),
  λ name is. exact.2 name is ∙ same (atom_test name),
)

-- what passes both halves passes all, and what passes one of them passes one
and_assoc : (one two rest : Bool) → ((one && two) && rest) ≡ (one && (two && rest))
and_assoc true two rest = refl
and_assoc false two rest = refl

or_assoc : (one two rest : Bool) → ((one || two) || rest) ≡ (one || (two || rest))
or_assoc true two rest = refl
or_assoc false two rest = refl

pub all_of_halves : (test : Formula → Bool) (half : ℕ) (formulas : List Formula)
    → (all_pass test (formulas_of (take half formulas)) && all_pass test (formulas_of (drop half formulas)))
    ≡ all_pass test (formulas_of formulas)
all_of_halves test zero formulas = refl
all_of_halves test (suc half) [] = refl
all_of_halves test (suc half) (one ∷ rest) =
    and_assoc (passes test one) (all_pass test (formulas_of (take half rest))) (all_pass test (formulas_of (drop half rest)))
    ∙ ap (λ passed. passes test one && passed) (all_of_halves test half rest)

pub one_of_halves : (test : Formula → Bool) (half : ℕ) (formulas : List Formula)
    → (one_passes test (formulas_of (take half formulas)) || one_passes test (formulas_of (drop half formulas)))
    ≡ one_passes test (formulas_of formulas)
one_of_halves test zero formulas = refl
one_of_halves test (suc half) [] = refl
one_of_halves test (suc half) (one ∷ rest) =
    or_assoc (passes test one) (one_passes test (formulas_of (take half rest))) (one_passes test (formulas_of (drop half rest)))
    ∙ ap (λ passed. passes test one || passed) (one_of_halves test half rest)

-- one more node, which is wanted or refused
module _ (graph : Graph) (ids : List NodeId) (index : ℕ) (other : NodeId) (some : 0 < index) (most : index ≤ length ids)
    (formula : Formula) (is : formula ≡ formula_at graph (get_or ids (index - 1) other)) (test : Formula → Bool) where
  pub one_wanted : (passes test formula && in_all test graph (drop index ids)) ≡ in_all test graph (drop (index - 1) ids)
  one_wanted = ap (λ formula. passes test formula && in_all test graph (drop index ids)) is
      ∙ sym (ap (in_all test graph) (from_item_or ids index other some most))

  pub one_refused : (passed : Bool) → ((passed && in_none test graph (drop index ids)) && not (passes test formula))
      ≡ (passed && in_none test graph (drop (index - 1) ids))
  one_refused passed = turned passed (in_none test graph (drop index ids)) (not (passes test formula))
      ∙ ap (λ formula. passed && (not (passes test formula) && in_none test graph (drop index ids))) is
      ∙ sym (ap (λ left. passed && in_none test graph left) (from_item_or ids index other some most))
    where
      turned : (one two three : Bool) → ((one && two) && three) ≡ (one && (three && two))
      turned false two three = refl
      turned true true true = refl
      turned true true false = refl
      turned true false true = refl
      turned true false false = refl

-- before the last node nothing is taken
pub none_refused : (graph : Graph) (ids : List NodeId) (test : Formula → Bool) (passed : Bool)
    → passed ≡ (passed && in_none test graph (drop (length ids) ids))
none_refused graph ids test true = sym (ap (in_none test graph) (drop-length ids))
none_refused graph ids test false = refl

-- of no nodes all is wanted, and of the last one what is in it
pub no_nodes : (graph : Graph) (ids : List NodeId) → length ids ≡ 0 → (test : Formula → Bool) → true ≡ in_all test graph ids
no_nodes graph [] none test = refl
no_nodes graph (id ∷ ids) none test = absurd (omega arith)

pub and_true : (one : Bool) → one ≡ (one && true)
and_true true = refl
and_true false = refl

pub last_wanted : (graph : Graph) (ids : List NodeId) (other : NodeId) → 0 < length ids → (formula : Formula)
    → formula ≡ formula_at graph (get_or ids (length ids - 1) other) → (test : Formula → Bool)
    → passes test formula ≡ in_all test graph (drop (length ids - 1) ids)
last_wanted graph ids other some formula is test = and_true (passes test formula)
    ∙ ap (λ left. passes test formula && in_all test graph left) (sym (drop-length ids))
    ∙ one_wanted graph ids (length ids) other some (omega arith) formula is test

-- the nodes before a place and those from it on are all
pub all_of_parts : (test : Formula → Bool) (graph : Graph) (index : ℕ) (ids : List NodeId)
    → (in_all test graph (drop index ids) && in_all test graph (take index ids)) ≡ in_all test graph ids
all_of_parts test graph zero ids = sym (and_true (in_all test graph ids))
all_of_parts test graph (suc index) [] = refl
all_of_parts test graph (suc index) (id ∷ ids) =
    turned (in_all test graph (drop index ids)) (passes test (formula_at graph id)) (in_all test graph (take index ids))
    ∙ ap (λ rest. passes test (formula_at graph id) && rest) (all_of_parts test graph index ids)
  where
    turned : (one two three : Bool) → (one && (two && three)) ≡ (two && (one && three))
    turned true two three = refl
    turned false true three = refl
    turned false false three = refl
