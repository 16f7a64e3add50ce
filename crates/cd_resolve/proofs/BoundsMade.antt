-- The equations that are made of bounded nodes are bounded.
use Rattle.std.proofs.Common.{ℕ, ℤ, ◌+◌, ◌<◌, ◌≤◌, Bool, true, false, List, [], ◌∷◌, map, length, Option, Some, None}
use Rattle.std.proofs.Common.{arith}
use Rattle.std.specs.Prelude.{nat_le, int_le, if◌then◌else◌}
use Rattle.std.specs.Option.{unwrap_or}
use Rattle.std.proofs.lemmas.List.{length-append, length-map}
use Rattle.cd_sets.specs.declared.node_id.NodeId.{NodeId}
use Rattle.cd_syntax.specs.Integer.{LEAST, GREATEST}
use Rattle.cd_syntax.specs.Name.{Name, IsLabel}
use Rattle.cd_model.specs.AllOf.{AllOf}
use Rattle.cd_model.specs.Formula.{Formula, Field, Ints, Chars, Pair, Record, IsFormula}
use Rattle.cd_regex.specs.Regular.{AsksBelow}
use Rattle.cd_regex.specs.Automaton.{sequence_formulas}
use Rattle.cd_regex.proofs.Holding.{batch_holds}
use Rattle.cd_shared.specs.Equation.{Equation, Equations, Is, And, Or}
use Rattle.cd_resolve.specs.Inner.Leaves.{integers, characters, Joint, Pairs, Arrows, joined, sorted}
use Rattle.cd_resolve.specs.Inner.Members.{Sign}
use Rattle.cd_resolve.specs.Inner.Solves.{IsNode}
use Rattle.cd_resolve.specs.Inner.Walk.{pushed, leaf, walked_text, chained, united, met, ReadRegular, sequenced}
use Rattle.cd_resolve.proofs.Growing.{appends_longer, pushed_appends, leaf_appends, chained_appends}
use Rattle.cd_model.proofs.FormulasAmongMore.{formula_among_more}
use Rattle.cd_model.proofs.Ones.{each_weaker}
use Rattle.cd_resolve.proofs.NodesOfWalks.{IsOfNodes, leaf_has, text_has, chained_has}
use Rattle.cd_resolve.proofs.NodesBounded.{AreBounded, both_bounded, pushed_bounded, formulas_bounded}
use Rattle.cd_resolve.proofs.Rising.{sorted_rises}
use Rattle.cd_resolve.proofs.SortedKept.{sorted_keeps}

-- a formula, if there is one, of a graph with so many nodes
abbrev pub IsLeaf : ℕ → Option Formula → Type 0
IsLeaf nodes None = Unit {0}
IsLeaf nodes (Some formula) = IsFormula nodes formula

-- a formula that stands under a test
leaf_if : (nodes : ℕ) (is : Bool) (formula : Formula) → IsFormula nodes formula
    → IsLeaf nodes (if is then Some formula else None)
leaf_if nodes true formula sound = sound
leaf_if nodes false formula sound = tt

-- integers from a low one to a high one
pub integers_leaf : (nodes : ℕ) (low high : Option ℤ) → IsLeaf nodes (integers low high)
integers_leaf nodes low high = leaf_if nodes (int_le (unwrap_or low LEAST) (unwrap_or high GREATEST))
    (Ints (record { low = unwrap_or low LEAST; high = unwrap_or high GREATEST } ∷ [])) tt

-- and characters
pub characters_leaf : (nodes low high : ℕ) → IsLeaf nodes (characters low high)
characters_leaf nodes low high =
    leaf_if nodes (nat_le low high) (Chars (record { low = low; high = high } ∷ [])) tt

-- either kind of joint makes a formula
joint_is : (nodes : ℕ) (joint : Joint) (one other : NodeId) → one.0 < nodes → other.0 < nodes
    → IsFormula nodes (joined joint one other)
joint_is nodes Pairs one other first second = (first, second)
joint_is nodes Arrows one other first second = (first, second)

-- The equations are over the first nodes and over nodes of so many equations
module _ (nodes first : ℕ) (names : List (Name × NodeId))
    (facts : IsOfNodes first names (IsNode nodes first)) (count : ℕ) where
  abbrev Node : ℕ → NodeId → Type 0
  Node n id = IsNode nodes first n id

  abbrev Bounded : Equations → Type 0
  Bounded s = AreBounded nodes first count s

  -- a node is one still, and below all that has no equation
  pub still : (n : ℕ) (id : NodeId) → n ≤ count → Node n id → Node count id
  still n id longer is = facts.grows n count id longer is

  pub small : (n : ℕ) (id : NodeId) → n ≤ count → Node n id → id.0 < first + count
  small n id longer is = facts.below count id (still n id longer is)

  -- a leaf, a text and a chain of nodes
  pub leaf_bounded : (formula : Option Formula) (s : Equations) → IsLeaf (first + count) formula → Bounded s
      → Bounded (leaf first formula s).1
  leaf_bounded (Some formula) s is bounded = pushed_bounded nodes first count (Is formula) s bounded is
  leaf_bounded None s is bounded = bounded

  pub text_bounded : (text : List ℕ) (s : Equations) → length (walked_text first text s).1 ≤ count → Bounded s
      → Bounded (walked_text first text s).1
  text_bounded [] s long bounded = bounded
  text_bounded (c ∷ text) s long bounded =
      let rest = walked_text first text s in
      let one = leaf first (characters c c) rest.1 in
      let equation : Equation = Is (Pair one.0 rest.0) in
      let last = appends_longer one.1 _ (pushed_appends first equation one.1) in
      let before = appends_longer rest.1 one.1 (leaf_appends first (characters c c) rest.1) in
      let left = leaf_has first names (IsNode nodes first) facts (characters c c) rest.1 in
      let right = text_has first names (IsNode nodes first) facts text s in
      pushed_bounded nodes first count equation one.1
      (leaf_bounded (characters c c) rest.1 (characters_leaf (first + count) c c)
      (text_bounded text s (omega arith) bounded))
      (small (length one.1) one.0 (omega arith) left, small (length rest.1) rest.0 (omega arith) right)

  pub chained_bounded : (joint : Joint) (ids : List NodeId) (s : Equations) → AllOf (Node (length s)) ids
      → length (chained first joint ids s).1 ≤ count → Bounded s → Bounded (chained first joint ids s).1
  chained_bounded joint [] s each long bounded = bounded
  chained_bounded joint (one ∷ []) s each long bounded = bounded
  chained_bounded joint (one ∷ next ∷ rest) s each long bounded =
      let other = chained first joint (next ∷ rest) s in
      let equation : Equation = Is (joined joint one other.0) in
      let last = appends_longer other.1 _ (pushed_appends first equation other.1) in
      let before = appends_longer s other.1 (chained_appends first joint (next ∷ rest) s) in
      let right = chained_has first names (IsNode nodes first) facts joint (next ∷ rest) s each.1 in
      pushed_bounded nodes first count equation other.1
      (chained_bounded joint (next ∷ rest) s each.1 (omega arith) bounded)
      (joint_is (first + count) joint one other.0 (small (length s) one (omega arith) each.0)
      (small (length other.1) other.0 (omega arith) right))

  -- a union and a meet
  pub united_bounded : (ids : List NodeId) (s : Equations) → AllOf (Node (length s)) ids → length s ≤ count → Bounded s
      → Bounded (united first ids s).1
  united_bounded [] s each long bounded = bounded
  united_bounded (one ∷ []) s each long bounded = bounded
  united_bounded (one ∷ other ∷ rest) s each long bounded =
      pushed_bounded nodes first count (Or (one ∷ other ∷ rest)) s bounded
      (each_weaker (Node (length s)) (Node count) (λ id. still (length s) id long) (one ∷ other ∷ rest) each)

  signs_bounded : (signs : List Sign) (s : Equations) → AllOf (λ sign. Node (length s) sign.1) signs → length s ≤ count
      → Bounded s → Bounded (pushed first (And signs) s).1
  signs_bounded signs s each long bounded = pushed_bounded nodes first count (And signs) s bounded
      (each_weaker (λ (sign : Sign). Node (length s) sign.1) (λ (sign : Sign). Node count sign.1)
      (λ sign. still (length s) sign.1 long) signs each)

  pub met_bounded : (signs : List Sign) (s : Equations) → AllOf (λ sign. Node (length s) sign.1) signs
      → length s ≤ count
      → Bounded s → Bounded (met first signs s).1
  met_bounded [] s each long bounded = bounded
  met_bounded ((true, one) ∷ []) s each long bounded = bounded
  met_bounded ((false, one) ∷ []) s each long bounded = signs_bounded ((false, one) ∷ []) s each long bounded
  met_bounded ((true, one) ∷ other ∷ rest) s each long bounded =
      signs_bounded ((true, one) ∷ other ∷ rest) s each long bounded
  met_bounded ((false, one) ∷ other ∷ rest) s each long bounded =
      signs_bounded ((false, one) ∷ other ∷ rest) s each long bounded

  -- a sequence, whose items stand before its states
  pub sequenced_bounded : (one : ReadRegular) → AsksBelow (first + length one.1) one.0
      → length (sequenced first one).1 ≤ count → Bounded one.1 → Bounded (sequenced first one).1
  sequenced_bounded one asks long bounded =
      let formulas = sequence_formulas (first + length one.1) one.0 in
      let states = map (λ (formula : Formula). Some (Is formula)) formulas in
      let both = length-append one.1 states in
      let many = length-map formulas (λ (formula : Formula). Some (Is formula)) in
      let sound = (batch_holds one.0 (first + length one.1) asks).sound in
      both_bounded nodes first count one.1 states bounded
      (formulas_bounded nodes first count formulas
      (each_weaker (IsFormula (first + length one.1 + length formulas)) (IsFormula (first + count))
      (λ formula. formula_among_more (first + length one.1 + length formulas) (first + count) (omega arith) formula)
      formulas sound))

  -- fields, which have the labels that are written, and a rest, which was read after them
  pub recorded_bounded : (fields : List (Name × Field)) (before : ℕ) (rest : NodeId) (s : Equations)
      → AllOf (λ field. Node before field.1.type) fields → AllOf (λ field. IsLabel field.0) fields
      → Node (length s) rest → before ≤ count → length s ≤ count → Bounded s
      → Bounded (pushed first (Is (Record (sorted fields) rest)) s).1
  recorded_bounded fields before rest s each labels is short long bounded =
      pushed_bounded nodes first count (Is (Record (sorted fields) rest)) s bounded (
        sorted_rises fields labels,
        sorted_keeps (λ (field : Name × Field). field.1.type.0 < first + count) fields
            (each_weaker (λ (field : Name × Field). Node before field.1.type)
            (λ (field : Name × Field). field.1.type.0 < first + count)
            (λ field. small before field.1.type short) fields each),
        small (length s) rest long is,
      )
