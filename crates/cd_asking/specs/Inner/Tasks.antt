-- What is left to do while a value is asked at a set of nodes.
use Rattle.std.specs.Prelude.{◌≡◌, ◌<◌, ℕ, zero, suc, ◌+◌, true, List, [], ◌∷◌, ◌++◌, Option, map}
use Rattle.std.specs.Prelude.{Some, None, IfSome}
use Rattle.cd_sets.specs.declared.node_id.NodeId.{NodeId}
use Rattle.cd_sets.specs.IdSet.{holds}
use Rattle.cd_syntax.specs.Name.{Name}
use Rattle.cd_model.specs.AllOf.{AllOf}
use Rattle.cd_model.specs.Formula as formula
use Rattle.cd_model.specs.Formula.{Formula, Formulas, NoFormula, AFormula, Graph, formula_at}
use Rattle.cd_model.specs.Formula.{field_of}
use Rattle.cd_model.specs.Thing as thing
use Rattle.cd_model.specs.Thing.{Thing, Fields, NoField}
use Rattle.cd_asking.specs.Inner.Shapes.{Nodes, Closed, Pair, Xml, Record, is_in, fields_with}
use Rattle.cd_asking.specs.Inner.Shapes.{members}

-- a child of a value
pub data Child : Type 0 where
  First : Child
  Second : Child
  Tag : Child
  Attributes : Child
  Content : Child
  At : Name → Child

-- the node at which a formula that is no connective asks the child
abbrev pub led : Formula → Child → Option NodeId
led (formula.Pair one other) First = Some one
led (formula.Pair one other) Second = Some other
led (formula.Xml one other last) Tag = Some one
led (formula.Xml one other last) Attributes = Some other
led (formula.Xml one other last) Content = Some last
led (formula.Record named rest) (At label) = Some (field_of named rest label).type
led is child = None

-- a fact of each formula in a formula that is no connective
abbrev mutual
  pub EachBasic : (Formula → Type 0) → Formula → Type 0
  EachBasic fact formula.Nothing = Unit {0}
  EachBasic fact formula.Everything = Unit {0}
  EachBasic fact (formula.And formulas) = EachOfFormulas fact formulas
  EachBasic fact (formula.Or formulas) = EachOfFormulas fact formulas
  EachBasic fact (formula.Not is) = EachBasic fact is
  EachBasic fact is = fact is

  pub EachOfFormulas : (Formula → Type 0) → Formulas → Type 0
  EachOfFormulas fact NoFormula = Unit {0}
  EachOfFormulas fact (AFormula is rest) = EachBasic fact is × EachOfFormulas fact rest

-- the set has each node at which one of these formulas asks the child
abbrev pub AsksIn : Child → (next : List NodeId) → Formula → Type 0
AsksIn child next is = EachBasic (λ one. IfSome (led one child) (λ id. holds next id ≡ true)) is

abbrev pub AskIn : Child → (next : List NodeId) → Formulas → Type 0
AskIn child next formulas =
    EachOfFormulas (λ one. IfSome (led one child) (λ id. holds next id ≡ true)) formulas

abbrev pub Covers : Graph → Child → (set next : List NodeId) → Type 0
Covers graph child set next = AllOf (λ id. AsksIn child next (formula_at graph id)) set

-- the nodes of the one set are in the other
abbrev pub Includes : (old new : List NodeId) → Type 0
Includes old new = (id : NodeId) → holds old id ≡ true → holds new id ≡ true

-- its nodes have numbers below this one
abbrev pub HoldsBelow : ℕ → List NodeId → Type 0
HoldsBelow bound set = (id : NodeId) → holds set id ≡ true → id.0 < bound

-- a set of nodes by its members
abbrev pub among : List NodeId → Nodes
among ids = holds ids

-- fields that have answered
abbrev pub answered : List (Name × List NodeId) → List (Name × Nodes)
answered done = map (λ field. (field.0, among field.1)) done

-- What is done with the next answer, by the child that gives it. The rest of the value is asked
-- then; what has answered is known by the nodes that hold it
pub data Task : Type 0 where
  OfSecond : (second : Thing) (set : List NodeId) → Task
  -- so many pairs in a row, which all have the same first child
  OfPairs : (set first : List NodeId) (count : ℕ) → Task
  OfAttributes : (attributes content : Thing) (set : List NodeId) → Task
  OfContent : (content : Thing) (set tag : List NodeId) → Task
  OfXml : (set tag attributes : List NodeId) → Task
  OfField : (set : List NodeId) (done : List (Name × List NodeId)) (label : Name) (left : Fields)
      → Task

abbrev pub again : {X : Type 0} → ℕ → (X → X) → X → X
again zero step x = x
again (suc n) step x = again n step (step x)

abbrev pub paired : Graph → (set first second : List NodeId) → List NodeId
paired graph set first second = members graph (Pair (among first) (among second)) set

abbrev pub after : Graph → Closed → Task → (answer : List NodeId) → List NodeId
after graph closed (OfSecond second set) answer =
    members graph (Pair (among answer) (is_in graph closed second)) set
after graph closed (OfPairs set first count) answer = again count (paired graph set first) answer
after graph closed (OfAttributes attributes content set) answer =
    members graph
    (Xml (among answer) (is_in graph closed attributes) (is_in graph closed content)) set
after graph closed (OfContent content set tag) answer =
    members graph (Xml (among tag) (among answer) (is_in graph closed content)) set
after graph closed (OfXml set tag attributes) answer =
    members graph (Xml (among tag) (among attributes) (among answer)) set
after graph closed (OfField set done label left) answer =
    let fields = answered done ++ (label, among answer) ∷ fields_with graph closed left in
    members graph (Record fields) set

-- what all tasks make of an answer, the last one first
abbrev pub finish : Graph → Closed → List Task → (answer : List NodeId) → List NodeId
finish graph closed [] answer = answer
finish graph closed (task ∷ tasks) answer =
    after graph closed task (finish graph closed tasks answer)

-- how many steps a value may take, and what a task leaves to do
abbrev mutual
  pub size : Thing → ℕ
  size (thing.Pair first second) = 3 + (size first + size second)
  size (thing.Xml tag attributes content) = 4 + (size tag + (size attributes + size content))
  size (thing.Record fields) = 1 + size_of_fields fields
  size is = 1

  pub size_of_fields : Fields → ℕ
  size_of_fields NoField = 1
  size_of_fields (thing.Field label value rest) = 1 + (size value + size_of_fields rest)

abbrev pub weight : Task → ℕ
weight (OfSecond second set) = 2 + size second
weight (OfAttributes attributes content set) = 3 + (size attributes + size content)
weight (OfContent content set tag) = 2 + size content
weight (OfField set done label left) = size_of_fields left
weight is = 1
