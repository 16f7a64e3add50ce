-- Equal nodes that are named by one number: each node has a class, which is a node that holds the
-- same.
use Rattle.std.specs.Prelude.{◌≡◌, ℕ, ◌+◌, ◌-◌, ◌<◌, ◌≤◌, ◌⊎◌, Bool, List, map, length, Some}
use Rattle.std.specs.Prelude.{nat_le, if◌then◌else◌}
use Rattle.std.specs.List.{slice_get}
use Rattle.std.specs.Option.{option_map, unwrap_or}
use Rattle.cd_sets.specs.declared.node_id.NodeId.{NodeId}
use Rattle.cd_syntax.specs.Name.{Name}
use Rattle.cd_model.specs.BuiltIns.{node}
use Rattle.cd_model.specs.Formula as formula
use Rattle.cd_model.specs.Formula.{Graph, Formula, Formulas, NoFormula, AFormula, Field}
use Rattle.cd_model.specs.Formula.{formula_at}
use Rattle.cd_shared.specs.declared.classes.Classes.{Classes}
use Rattle.cd_shared.specs.Equation.{Equation, Equations, Is, Same, And, Or}

-- the class of a node, where these are the classes of the nodes from a number on
abbrev pub class_of : (first : ℕ) → List NodeId → NodeId → NodeId
class_of first ids id =
    if nat_le first id.0 then unwrap_or (slice_get ids (id.0 - first)) id else id

abbrev pub class_in : Classes → NodeId → NodeId
class_in classes = class_of classes.first classes.ids.items

module _ (class : NodeId → NodeId) where
  -- the same with the classes of the nodes that are named
  abbrev pub renamed_field : Name × Field → Name × Field
  renamed_field field = (
    field.0,
    record {
      optional = field.1.optional;
      type = class field.1.type;
    },
  )

  abbrev mutual
    pub renamed_formula : Formula → Formula
    renamed_formula formula.Nothing = formula.Nothing
    renamed_formula formula.Everything = formula.Everything
    renamed_formula (formula.Ints set) = formula.Ints set
    renamed_formula (formula.Chars set) = formula.Chars set
    renamed_formula (formula.Atoms set) = formula.Atoms set
    renamed_formula (formula.Pair first second) = formula.Pair (class first) (class second)
    renamed_formula (formula.Xml tag attributes content) =
        formula.Xml (class tag) (class attributes) (class content)
    renamed_formula (formula.Record named rest) =
        formula.Record (map renamed_field named) (class rest)
    renamed_formula (formula.Arrow argument result) = formula.Arrow (class argument) (class result)
    renamed_formula (formula.And formulas) = formula.And (renamed_formulas formulas)
    renamed_formula (formula.Or formulas) = formula.Or (renamed_formulas formulas)
    renamed_formula (formula.Not is) = formula.Not (renamed_formula is)

    pub renamed_formulas : Formulas → Formulas
    renamed_formulas NoFormula = NoFormula
    renamed_formulas (AFormula is rest) = AFormula (renamed_formula is) (renamed_formulas rest)

  -- An equation with the classes of the nodes that its formula names. What a name or a connective
  -- stands over stays, since its formula is a copy of formulas that are renamed
  abbrev pub renamed_equation : Equation → Equation
  renamed_equation (Is is) = Is (renamed_formula is)
  renamed_equation equation = equation

  abbrev pub classed_sign : Bool × NodeId → Bool × NodeId
  classed_sign sign = (sign.0, class sign.1)

  -- an equation with the classes of all nodes, by which two are compared
  abbrev pub classed : Equation → Equation
  classed (Is is) = Is (renamed_formula is)
  classed (Same id) = Same (class id)
  classed (And signs) = And (map classed_sign signs)
  classed (Or ids) = Or (map class ids)

-- an equation that is not one node's alone
abbrev pub IsNoName : Equation → Type 0
IsNoName (Same id) = ⊥
IsNoName equation = Unit {0}

-- Equations of nodes from this number on, with the classes of nodes in their formulas. Each other
-- node is a class of its own. A name has the class of what it stands for, and nodes of one class
-- have the same equation, but for the classes of the nodes in it
pub record AreRenamed (class : NodeId → NodeId) (first : ℕ) (equations shared : Equations) : Type 0
  where
    pub renamed : shared ≡ map (option_map (renamed_equation class)) equations
    pub each : (number : ℕ) → number < length equations
        → (equation : Equation) × (slice_get equations number ≡ Some (Some equation))
    pub before : (id : NodeId) → id.0 < first → class id ≡ id
    pub past : (id : NodeId) → first + length equations ≤ id.0 → class id ≡ id
    pub below : (id : NodeId) → id.0 < first + length equations
        → (class id).0 < first + length equations
    pub once : (id : NodeId) → class (class id) ≡ class id
    pub name : (number : ℕ) (id : NodeId) → slice_get equations number ≡ Some (Some (Same id))
        → class (node (first + number)) ≡ class id
    pub own : (number : ℕ) (equation : Equation)
        → slice_get equations number ≡ Some (Some equation) → IsNoName equation
        → first ≤ (class (node (first + number))).0
    pub alike : (one other : ℕ) (equation next : Equation)
        → slice_get equations one ≡ Some (Some equation)
        → slice_get equations other ≡ Some (Some next) → IsNoName equation → IsNoName next
        → class (node (first + one)) ≡ class (node (first + other))
        → classed class equation ≡ classed class next

-- equations in which equal nodes are named by one number, or, where none are found, the same
-- equations
abbrev pub AreShared : (NodeId → NodeId) → (first : ℕ) → (equations shared : Equations) → Type 0
AreShared class first equations shared = AreRenamed class first equations shared
    ⊎ ((id : NodeId) → class id ≡ id) × (shared ≡ equations)

-- Two graphs whose nodes have the same formulas, but for the classes of the nodes in them, and so
-- do a node and its class
pub record IsImage (class : NodeId → NodeId) (graph image : Graph) : Type 0 where
  pub once : (id : NodeId) → class (class id) ≡ class id
  pub renamed : map (renamed_formula class) image ≡ map (renamed_formula class) graph
  pub alike : (id : NodeId) → renamed_formula class (formula_at graph (class id))
      ≡ renamed_formula class (formula_at graph id)
