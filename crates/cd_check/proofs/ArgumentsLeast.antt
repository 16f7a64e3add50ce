-- Least types of arguments and of operators, each on what stands before it.
use Rattle.std.proofs.Common.{◌≡◌, ◌<◌, ◌≤◌, ◌+◌, ℕ, List, map, drop, length, get_or, subst}
use Rattle.std.proofs.lemmas.List.{drop_all}
use Rattle.cd_sets.specs.declared.node_id.NodeId.{NodeId}
use Rattle.cd_model.specs.Formula.{Graph, IsGraph}
use Rattle.cd_model.specs.Scope.{Scope}
use Rattle.cd_program.specs.Expr.{Expr, Exprs, AnExpr, Tail, Tails, ATail, Apply, Chain, exprs_of, tails_of}
use Rattle.cd_program.specs.PlainExpr.{plain, plain_tail}
use Rattle.cd_program.specs.declared.expr.Expr.{Expr as CodeExpr}
use Rattle.cd_program.specs.declared.expr.Tail.{Tail as CodeTail}
use Rattle.cd_meaning.specs.Sets.{◌⊆◌, elements_of}
use Rattle.cd_typing.specs.Later.{IsLater}
use Rattle.cd_typing.specs.Typ.{Typ, typ, In, IsType, Types}
use Rattle.cd_typing.specs.Typing.{Has, KindHas, ArgumentsHave, TailsHave}
use Rattle.cd_typing.proofs.Subsets.{through}
use Rattle.cd_least.specs.Least.{IsArgumentLeast, IsTailLeast}
use Rattle.cd_check.specs.Inner.Chains.{NarrowsOn}
use Rattle.cd_check.specs.Inner.Environment.{Nodes, AreOfTypes, AreNodesOf}
use Rattle.cd_check.specs.Inner.Known.{IsBelow}
use Rattle.cd_check.proofs.Loops.{left_is}
use Rattle.cd_check.proofs.TypesLater.{types_later}

module _ {A : Type 0} (have : Types → (self : Typ) → A → Typ → Type 0) (nodes : Nodes) where
  -- what is given for all of these is within each type that they have on any wider type
  abbrev pub Narrow : (old new : Graph) → (self : NodeId) → A → NodeId → Type 0
  Narrow old new self all id = (types : Types) → AreOfTypes old nodes types → (wider : Typ) → IsType wider
      → elements_of old self ⊆ In wider → (t : Typ) → have types wider all t → elements_of new id ⊆ In t

  pub narrows_first : (old : Graph) (all : A) (self : NodeId) → NarrowsOn have old nodes (typ old self) old all all self
  narrows_first old all self = record { narrows = λ types of wider is fewer t has. (wider, is, fewer, has) }

  pub narrows_further : (old : Graph) → IsGraph old → AreNodesOf old nodes → (graph new : Graph) → IsLater old graph → (start : Typ)
      (all left rest : A) (id result : NodeId) → NarrowsOn have old nodes start graph all left id
      → ((types : Types) → AreOfTypes graph nodes types → (middle t : Typ) → IsType middle → elements_of graph id ⊆ In middle
      → have types middle left t → (after : Typ) × IsType after × (elements_of new result ⊆ In after) × have types after rest t)
      → NarrowsOn have old nodes start new all rest result
  narrows_further old sound are graph new later start all left rest id result before step = record {
    narrows = λ types of wider is fewer t has. let one = before.narrows types of wider is fewer t has in
        step types (types_later old graph later sound nodes are types of) one.0 t one.1 one.2 one.3;
  }

module _ (scope : Scope) (types : Types) (self result : Typ) (middle t : Typ) (is : IsType middle) (fewer : In self ⊆ In middle) where
  argument_narrows : (e : Expr) (rest : Exprs) → IsArgumentLeast scope types self e result → ArgumentsHave scope types middle (AnExpr e rest) t
      → (after : Typ) × IsType after × (In result ⊆ In after) × ArgumentsHave scope types after rest t
  argument_narrows e rest least has = (has.1, has.4, least middle has.0 has.1 fewer has.2 has.3 has.5, has.6)

  tail_narrows : (tail : Tail) (rest : Tails) → IsTailLeast scope types self tail result → TailsHave scope types middle (ATail tail rest) t
      → (after : Typ) × IsType after × (In result ⊆ In after) × TailsHave scope types after rest t
  tail_narrows tail rest least has = (has.0, has.1, least middle has.0 is fewer has.2, has.3)

module _ (scope : Scope) (nodes : Nodes) (old : Graph) (start : Typ) where
  -- one step of a loop over arguments, and over operators
  module _ (sound : IsGraph old) (are : AreNodesOf old nodes) (graph new : Graph) (later : IsLater old graph) (id result : NodeId) where
    pub one_argument_narrows : (all : Exprs) (items : List CodeExpr) (index : ℕ) (item : CodeExpr) → item ≡ get_or items index item
        → index < length items → NarrowsOn (ArgumentsHave scope) old nodes start graph all (exprs_of (map plain (drop index items))) id
        → ((types : Types) → AreOfTypes graph nodes types → IsArgumentLeast scope types (typ graph id) (plain item) (typ new result))
        → NarrowsOn (ArgumentsHave scope) old nodes start new all (exprs_of (map plain (drop (index + 1) items))) result
    one_argument_narrows all items index item at within before least = let rest = exprs_of (map plain (drop (index + 1) items)) in
        narrows_further (ArgumentsHave scope) nodes old sound are graph new later start all (exprs_of (map plain (drop index items))) rest
        id result before
        (λ types of middle t is fewer has. argument_narrows scope types (typ graph id) (typ new result) middle t is fewer (plain item) rest
        (least types of)
        (subst (λ (left : List CodeExpr). ArgumentsHave scope types middle (exprs_of (map plain left)) t) (left_is items index item at within) has))

    pub one_tail_narrows : (all : Tails) (items : List CodeTail) (index : ℕ) (item : CodeTail) → item ≡ get_or items index item
        → index < length items → NarrowsOn (TailsHave scope) old nodes start graph all (tails_of (map plain_tail (drop index items))) id
        → ((types : Types) → AreOfTypes graph nodes types → IsTailLeast scope types (typ graph id) (plain_tail item) (typ new result))
        → NarrowsOn (TailsHave scope) old nodes start new all (tails_of (map plain_tail (drop (index + 1) items))) result
    one_tail_narrows all items index item at within before least = let rest = tails_of (map plain_tail (drop (index + 1) items)) in
        narrows_further (TailsHave scope) nodes old sound are graph new later start all (tails_of (map plain_tail (drop index items))) rest
        id result before
        (λ types of middle t is fewer has. tail_narrows scope types (typ graph id) (typ new result) middle t is fewer (plain_tail item) rest
        (least types of)
        (subst (λ (left : List CodeTail). TailsHave scope types middle (tails_of (map plain_tail left)) t) (left_is items index item at within) has))

module _ (scope : Scope) (nodes : Nodes) (old graph : Graph) (self id : NodeId) where
  -- where nothing is left
  pub all_arguments_narrow : (all : Exprs) (items : List CodeExpr) (index : ℕ) → length items ≤ index
      → NarrowsOn (ArgumentsHave scope) old nodes (typ old self) graph all (exprs_of (map plain (drop index items))) id
      → Narrow (ArgumentsHave scope) nodes old graph self all id
  all_arguments_narrow all items index past before types of wider is fewer t has = let one = before.narrows types of wider is fewer t has in
      through (elements_of graph id) (In one.0) (In t) one.2
      (subst (λ (left : List CodeExpr). ArgumentsHave scope types one.0 (exprs_of (map plain left)) t) (drop_all index items past) one.3)

  pub all_tails_narrow : (all : Tails) (items : List CodeTail) (index : ℕ) → length items ≤ index
      → NarrowsOn (TailsHave scope) old nodes (typ old self) graph all (tails_of (map plain_tail (drop index items))) id
      → Narrow (TailsHave scope) nodes old graph self all id
  all_tails_narrow all items index past before types of wider is fewer t has = let one = before.narrows types of wider is fewer t has in
      through (elements_of graph id) (In one.0) (In t) one.2
      (subst (λ (left : List CodeTail). TailsHave scope types one.0 (tails_of (map plain_tail left)) t) (drop_all index items past) one.3)

module _ (scope : Scope) (nodes : Nodes) (old : Graph) (sound : IsGraph old) (are : AreNodesOf old nodes) (middle new : Graph)
    (later : IsLater old middle) (e : Expr) (self id : NodeId) (least : IsBelow old nodes middle (λ types t. Has scope types e t) self) where
  -- a whole application, and a whole chain
  pub apply_least : (rest : Exprs) → Narrow (ArgumentsHave scope) nodes middle new self rest id
      → IsBelow old nodes new (λ types t. KindHas scope types (Apply (AnExpr e rest)) t) id
  apply_least rest narrow types of t is has = narrow types (types_later old middle later sound nodes are types of) has.0 has.1
      (least types of has.0 has.1 has.2) t has.3

  pub chain_least : (tails : Tails) → Narrow (TailsHave scope) nodes middle new self tails id
      → IsBelow old nodes new (λ types t. KindHas scope types (Chain e tails) t) id
  chain_least tails narrow types of t is has = narrow types (types_later old middle later sound nodes are types of) has.0 has.1
      (least types of has.0 has.1 has.2) t has.3
