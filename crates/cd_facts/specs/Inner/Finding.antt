-- Whether the element of a shape is in a formula, as far as it follows from what is known of the
-- shape's parts; or else the first part and node of which this has to be known.
use Rattle.std.specs.Prelude.{◌≡◌, ℕ, ◌<◌, Bool, true, false, not, ◌++◌, List, [], ◌∷◌}
use Rattle.std.specs.Prelude.{Option, Some, None, map}
use Rattle.cd_sets.specs.declared.node_id.NodeId.{NodeId}
use Rattle.cd_sets.specs.Interval as integers
use Rattle.cd_sets.specs.Characters.{holds_character}
use Rattle.cd_sets.specs.Atoms as atoms
use Rattle.cd_syntax.specs.Name.{Name, IsLabel}
use Rattle.cd_model.specs.Formula as formula
use Rattle.cd_model.specs.Formula.{Formula, Formulas, NoFormula, AFormula, Field, field_of}
use Rattle.cd_elements.specs.declared.shape.ElementId.{ElementId}
use Rattle.cd_elements.specs.declared.shape.Shape.{Shape}
use Rattle.cd_elements.specs.declared.shape.Shape.TheVariants.{Int, Char, Atom, Pair, Xml, Record}
use Rattle.cd_elements.specs.declared.shape.Shape.TheVariants.{Fun}
use Rattle.cd_facts.specs.declared.finding.Finding.{Finding}
use Rattle.cd_facts.specs.declared.finding.Finding.TheVariants.{Known, Unknown}
use Rattle.cd_facts.specs.Inner.Rising.{item_at}

-- both, one of both, and the opposite; the second does not count where the first decides
abbrev pub both : Finding → Finding → Finding
both (Known true) other = other
both (Known false) other = Known false
both (Unknown id node) other = Unknown id node

abbrev pub one_of : Finding → Finding → Finding
one_of (Known true) other = Known true
one_of (Known false) other = other
one_of (Unknown id node) other = Unknown id node

abbrev pub opposite : Finding → Finding
opposite (Known answer) = Known (not answer)
opposite (Unknown id node) = Unknown id node

-- the labels of a record type and of a record
abbrev pub labels : List (Name × Field) → List (Name × ElementId) → List Name
labels named parts = map (λ field. field.0) named ++ map (λ part. part.0) parts

module _ (known : ElementId → NodeId → Option Bool) where
  abbrev pub look_by : Option Bool → ElementId → NodeId → Finding
  look_by (Some answer) id node = Known answer
  look_by None id node = Unknown id node

  abbrev pub look : ElementId → NodeId → Finding
  look id node = look_by (known id node) id node

  abbrev pub finding_at_field : Option ElementId → Field → Finding
  finding_at_field None field = Known field.optional
  finding_at_field (Some id) field = look id field.type

  -- at each of these labels a record is as its type says
  abbrev pub finding_at_labels : List (Name × ElementId) → List (Name × Field) → (rest : NodeId)
      → List Name → Finding
  finding_at_labels parts named rest [] = Known true
  finding_at_labels parts named rest (label ∷ labels) =
      both (finding_at_field (item_at parts label) (field_of named rest label))
      (finding_at_labels parts named rest labels)

  -- a part at a label that a type does not name is in its rest
  abbrev pub finding_at_other : {X : Type 0} → Option X → ElementId → (rest : NodeId) → Finding
  finding_at_other None id rest = look id rest
  finding_at_other (Some field) id rest = Known true

  abbrev pub finding_at_others : {X : Type 0} → List (Name × X) → (rest : NodeId)
      → List (Name × ElementId) → Finding
  finding_at_others named rest [] = Known true
  finding_at_others named rest (part ∷ parts) =
      both (finding_at_other (item_at named part.0) part.1 rest)
      (finding_at_others named rest parts)

  -- each pair maps the one node into the other
  abbrev pub finding_at_result : Option ElementId → NodeId → Finding
  finding_at_result None node = Known false
  finding_at_result (Some id) node = look id node

  abbrev pub finding_at_pairs : List (ElementId × Option ElementId) → (argument result : NodeId)
      → Finding
  finding_at_pairs [] argument result = Known true
  finding_at_pairs (pair ∷ pairs) argument result =
      both (one_of (opposite (look pair.0 argument)) (finding_at_result pair.1 result))
      (finding_at_pairs pairs argument result)

  abbrev mutual
    pub finding_of : Shape → Formula → Finding
    finding_of shape formula.Nothing = Known false
    finding_of shape formula.Everything = Known true
    finding_of shape (formula.And formulas) = finding_of_all shape formulas
    finding_of shape (formula.Or formulas) = finding_of_any shape formulas
    finding_of shape (formula.Not is) = opposite (finding_of shape is)
    finding_of (Int n) (formula.Ints set) = Known (integers.holds set n)
    finding_of (Char c) (formula.Chars set) = Known (holds_character set c)
    finding_of (Atom name) (formula.Atoms set) = Known (atoms.holds set name)
    finding_of (Pair first second) (formula.Pair one other) =
        both (look first one) (look second other)
    finding_of (Xml tag attributes content) (formula.Xml one other last) =
        both (look tag one) (both (look attributes other) (look content last))
    finding_of (Record parts) (formula.Record named rest) =
        finding_at_labels parts named rest (labels named parts)
    finding_of (Fun pairs) (formula.Arrow argument result) = finding_at_pairs pairs argument result
    finding_of shape is = Known false

    pub finding_of_all : Shape → Formulas → Finding
    finding_of_all shape NoFormula = Known true
    finding_of_all shape (AFormula is rest) = both (finding_of shape is) (finding_of_all shape rest)

    pub finding_of_any : Shape → Formulas → Finding
    finding_of_any shape NoFormula = Known false
    finding_of_any shape (AFormula is rest) =
        one_of (finding_of shape is) (finding_of_any shape rest)

-- where an answer is known, the fact of it
abbrev pub Justifies : (Bool → Type 0) → Finding → Type 0
Justifies fact (Known answer) = fact answer
Justifies fact (Unknown id node) = Unit {0}

-- what has to be known first is not known, and is of an element below the bound, at one of so many
-- nodes
abbrev pub AsksPart : (ElementId → NodeId → Option Bool) → (bound size : ℕ) → Finding → Type 0
AsksPart known bound size (Known answer) = Unit {0}
AsksPart known bound size (Unknown id node) =
    (id.0 < bound) × (node.0 < size) × (known id node ≡ None)

-- the name of an atom is a label
abbrev pub HasLabel : Shape → Type 0
HasLabel (Atom name) = IsLabel name
HasLabel _ = Unit {0}
