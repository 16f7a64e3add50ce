-- Formulas over types, as plain data: types stand only under constructors. And graphs, whose types
-- are their nodes.
use Rattle.std.specs.Prelude.{◌≡◌, ℕ, ◌<◌, Bool, true, false, not, List, [], ◌∷◌, Option, Some}
use Rattle.std.specs.Prelude.{None, ◌⊎◌, length}
use Rattle.std.specs.List.{slice_get}
use Rattle.std.specs.Option.{unwrap_or}
use Rattle.cd_sets.specs.declared.node_id.NodeId.{NodeId}
use Rattle.cd_sets.specs.declared.question.Question.{Question}
use Rattle.cd_sets.specs.declared.interval.Interval.{Interval}
use Rattle.cd_sets.specs.Interval as integers
use Rattle.cd_sets.specs.Characters.{CharInterval, holds_character}
use Rattle.cd_sets.specs.Atoms.{Atoms as AtomSet}
use Rattle.cd_sets.specs.Atoms as atoms
use Rattle.cd_syntax.specs.Name.{Name, IsLabel}
use Rattle.cd_syntax.specs.Name.{IsAbove}
use Rattle.cd_model.specs.AllOf.{AllOf, AnyOf}
use Rattle.cd_model.specs.Thing.{Thing, IsElement}
pub use Rattle.cd_model.specs.Types.{field_of}
use Rattle.cd_model.specs.Types.{FieldOf, Head, Integers, Characters, Atoms as AtomsIn, Products}
use Rattle.cd_model.specs.Types.{Xmls, Records, Arrows, Answers, Reader, Presentation, at_head}
use Rattle.cd_model.specs.Types.{element_answers}

mutual
  pub data FormulaOf (X : Type 0) : Type 0 where
    Nothing : FormulaOf X
    Everything : FormulaOf X
    -- these integers, these characters, these atoms
    Ints : List Interval → FormulaOf X
    Chars : List CharInterval → FormulaOf X
    Atoms : AtomSet → FormulaOf X
    -- the pairs, and the XML things, whose parts are in these types
    Pair : (first second : X) → FormulaOf X
    Xml : (tag attributes content : X) → FormulaOf X
    -- the records with these fields, where at any other label there is nothing or what is in `rest`
    Record : (named : List (Name × FieldOf X)) (rest : X) → FormulaOf X
    -- the functions that map what is in the one type into the other
    Arrow : (argument result : X) → FormulaOf X
    -- what is in each of these, in one of these, and not in this one
    And : FormulasOf X → FormulaOf X
    Or : FormulasOf X → FormulaOf X
    Not : FormulaOf X → FormulaOf X

  pub data FormulasOf (X : Type 0) : Type 0 where
    NoFormula : FormulasOf X
    AFormula : FormulaOf X → FormulasOf X → FormulasOf X

-- a list as formulas
abbrev pub formulas_of : {X : Type 0} → List (FormulaOf X) → FormulasOf X
formulas_of [] = NoFormula
formulas_of (first ∷ rest) = AFormula first (formulas_of rest)

-- the head of a formula that is no connective
abbrev pub head_of : {X : Type 0} → FormulaOf X → Option (Head X)
head_of (Ints set) = Some (Integers (integers.holds set))
head_of (Chars set) = Some (Characters (holds_character set))
head_of (Atoms set) = Some (AtomsIn (atoms.holds set))
head_of (Pair first second) = Some (Products first second)
head_of (Xml tag attributes content) = Some (Xmls tag attributes content)
head_of (Record named rest) = Some (Records named rest)
head_of (Arrow argument result) = Some (Arrows argument result)
head_of is = None

-- what a thing answers at each formula that is no connective: what its reader answers at the head
abbrev pub FormulaReader : Type 0 → Type 1
FormulaReader X = FormulaOf X → Bool → Type 0

abbrev pub at_formula : {X : Type 0} → Reader X → FormulaReader X
at_formula read = λ is. at_head read (head_of is)

-- and what it answers at any formula
abbrev mutual
  pub holds : {X : Type 0} → FormulaReader X → FormulaOf X → Bool → Type 0
  holds read Nothing answer = answer ≡ false
  holds read Everything answer = answer ≡ true
  holds read (And formulas) true = each_holds read formulas true
  holds read (And formulas) false = one_holds read formulas false
  holds read (Or formulas) true = one_holds read formulas true
  holds read (Or formulas) false = each_holds read formulas false
  holds read (Not is) answer = holds read is (not answer)
  holds read is answer = read is answer

  -- it answers so at each of these, and at one of these
  pub each_holds : {X : Type 0} → FormulaReader X → FormulasOf X → Bool → Type 0
  each_holds read NoFormula answer = Unit {0}
  each_holds read (AFormula is rest) answer = holds read is answer × each_holds read rest answer

  pub one_holds : {X : Type 0} → FormulaReader X → FormulasOf X → Bool → Type 0
  one_holds read NoFormula answer = ⊥
  one_holds read (AFormula is rest) answer = holds read is answer ⊎ one_holds read rest answer

-- formulas over the nodes of a graph
abbrev pub Formula : Type 0
Formula = FormulaOf NodeId

abbrev pub Formulas : Type 0
Formulas = FormulasOf NodeId

abbrev pub Field : Type 0
Field = FieldOf NodeId

-- a node is named by its place in the list, from 0
abbrev pub Graph : Type 0
Graph = List (Formula)

-- the formula of a node; a number that names none holds nothing
abbrev pub formula_at : Graph → NodeId → Formula
formula_at graph id = unwrap_or (slice_get graph id.0) Nothing

-- the nodes of a graph as types
abbrev pub nodes : Graph → Presentation NodeId
nodes graph read = λ id. holds (at_formula read) (formula_at graph id)

-- what an element answers at each node of a graph
abbrev pub in_node : Graph → Thing → Answers NodeId
in_node graph is = element_answers (nodes graph) is

-- an element is in a node, or outside it
abbrev pub IsIn : Graph → Thing → NodeId → Type 0
IsIn graph is id = in_node graph is id true

abbrev pub IsOutside : Graph → Thing → NodeId → Type 0
IsOutside graph is id = in_node graph is id false

-- each element of the one node is in the other
abbrev pub IsWithin : Graph → NodeId → NodeId → Type 0
IsWithin graph one other = (is : Thing) → IsElement is → IsIn graph is one → IsIn graph is other

-- what a thing answers at a question: it is in each node of `pos` and in none of `neg`
abbrev pub asked : Answers NodeId → Question → Bool → Type 0
asked answer question true = AllOf (λ id. answer id true) question.pos
    × AllOf (λ id. answer id false) question.neg
asked answer question false = AnyOf (λ id. answer id false) question.pos
    ⊎ AnyOf (λ id. answer id true) question.neg

-- each is a label, and they rise strictly
abbrev pub AreRisingLabels : {X : Type 0} → Option Name → List (Name × X) → Type 0
AreRisingLabels before [] = Unit {0}
AreRisingLabels before (field ∷ named) = IsLabel field.0 × IsAbove before field.0
    × AreRisingLabels (Some field.0) named

-- a formula of a graph with so many nodes: its node numbers are below that, its names are atoms and
-- rising labels
abbrev mutual
  pub IsFormula : (nodes : ℕ) → Formula → Type 0
  IsFormula nodes (Atoms set) = AllOf IsLabel set.names
  IsFormula nodes (Pair first second) = (first.0 < nodes) × (second.0 < nodes)
  IsFormula nodes (Xml tag attributes content) = (tag.0 < nodes) × (attributes.0 < nodes)
      × (content.0 < nodes)
  IsFormula nodes (Record named rest) = AreRisingLabels None named
      × AllOf (λ field. field.1.type.0 < nodes) named × (rest.0 < nodes)
  IsFormula nodes (Arrow argument result) = (argument.0 < nodes) × (result.0 < nodes)
  IsFormula nodes (And formulas) = AreFormulas nodes formulas
  IsFormula nodes (Or formulas) = AreFormulas nodes formulas
  IsFormula nodes (Not formula) = IsFormula nodes formula
  IsFormula nodes is = Unit {0}

  pub AreFormulas : (nodes : ℕ) → Formulas → Type 0
  AreFormulas nodes NoFormula = Unit {0}
  AreFormulas nodes (AFormula formula rest) = IsFormula nodes formula × AreFormulas nodes rest

-- each formula is one of this graph; that a graph begins with the built-in nodes is said apart
abbrev pub IsGraph : Graph → Type 0
IsGraph graph = AllOf (IsFormula (length graph)) graph
