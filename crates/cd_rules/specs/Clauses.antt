-- The clauses of a conjunct: what it says of the things of one kind.
use Rattle.std.specs.Prelude.{◌≡◌, Bool, true, false, List, [], ◌∷◌, Option, Some, None}
use Rattle.cd_sets.specs.declared.node_id.NodeId.{NodeId}
use Rattle.cd_sets.specs.declared.interval.Interval.{Interval}
use Rattle.cd_sets.specs.Characters.{CharInterval}
use Rattle.cd_sets.specs.Atoms.{Atoms as AtomSet}
use Rattle.cd_syntax.specs.Name.{Name}
use Rattle.cd_sets.specs.declared.question.Question.{Question}
use Rattle.cd_model.specs.AllOf.{AllOf, AnyOf}
use Rattle.cd_model.specs.Formula as formula
use Rattle.cd_model.specs.Formula.{Graph, Formula, Field}
use Rattle.cd_model.specs.Kinds.{Kind, AnInteger, ACharacter, AnAtom, APair, AnXml, ARecord}
use Rattle.cd_model.specs.Kinds.{AFunction}
use Rattle.cd_model.specs.Membership.{Reader}
use Rattle.cd_rules.specs.Dnf.{Conjunct, dnf_of}

-- the nodes of the parts of a formula
abbrev pub Pair : Type 0
Pair = NodeId × NodeId

abbrev pub Triple : Type 0
Triple = NodeId × NodeId × NodeId

pub record RecordType : Type 0 where
  pub named : List (Name × Field)
  pub rest : NodeId

-- the formulas of one kind that are wanted, and those that are refused, each by its parts
pub data Clause : Type 0 where
  Ints : (wanted refused : List (List Interval)) → Clause
  Chars : (wanted refused : List (List CharInterval)) → Clause
  Atoms : (wanted refused : List AtomSet) → Clause
  Pairs : (wanted refused : List Pair) → Clause
  Xmls : (wanted refused : List Triple) → Clause
  Records : (wanted refused : List RecordType) → Clause
  Arrows : (wanted refused : List Pair) → Clause

-- the kind of the things that a formula is of
abbrev pub kind_of_formula : Formula → Option Kind
kind_of_formula (formula.Ints set) = Some AnInteger
kind_of_formula (formula.Chars set) = Some ACharacter
kind_of_formula (formula.Atoms set) = Some AnAtom
kind_of_formula (formula.Pair first second) = Some APair
kind_of_formula (formula.Xml tag attributes content) = Some AnXml
kind_of_formula (formula.Record named rest) = Some ARecord
kind_of_formula (formula.Arrow argument result) = Some AFunction
kind_of_formula is = None

-- all wanted literals are of this kind
abbrev pub AllOfKind : Kind → Conjunct → Type 0
AllOfKind kind conjunct = AllOf
    (λ literal. literal.wanted ≡ true → kind_of_formula literal.is ≡ Some kind) conjunct

-- the parts of a formula, where it is of this kind
abbrev pub integers_of : Formula → Option (List Interval)
integers_of (formula.Ints set) = Some set
integers_of is = None

abbrev pub characters_of : Formula → Option (List CharInterval)
characters_of (formula.Chars set) = Some set
characters_of is = None

abbrev pub atoms_of : Formula → Option AtomSet
atoms_of (formula.Atoms set) = Some set
atoms_of is = None

abbrev pub pair_of : Formula → Option Pair
pair_of (formula.Pair first second) = Some (first, second)
pair_of is = None

abbrev pub xml_of : Formula → Option Triple
xml_of (formula.Xml tag attributes content) = Some (tag, attributes, content)
xml_of is = None

abbrev pub record_of : Formula → Option RecordType
record_of (formula.Record named rest) = Some (record { named = named; rest = rest })
record_of is = None

abbrev pub arrow_of : Formula → Option Pair
arrow_of (formula.Arrow argument result) = Some (argument, result)
arrow_of is = None

-- those of the wanted literals of a conjunct, or of the refused ones
abbrev pub one_more : {X : Type 0} → (sign wanted : Bool) → Option X → List X → List X
one_more true true (Some x) rest = x ∷ rest
one_more false false (Some x) rest = x ∷ rest
one_more sign wanted x rest = rest

abbrev pub parts_in : {X : Type 0} → (Formula → Option X) → (sign : Bool) → Conjunct → List X
parts_in parts_of sign [] = []
parts_in parts_of sign (literal ∷ rest) =
    one_more sign literal.wanted (parts_of literal.is) (parts_in parts_of sign rest)

-- A conjunct has a clause of each kind to which all its wanted literals belong: its wanted and its
-- refused literals of that kind
abbrev pub IsOfParts : {X : Type 0} → Kind → (Formula → Option X) → Conjunct
    → (wanted refused : List X) → Type 0
IsOfParts kind parts_of conjunct wanted refused = AllOfKind kind conjunct
    × (wanted ≡ parts_in parts_of true conjunct) × (refused ≡ parts_in parts_of false conjunct)

abbrev pub IsClauseOf : Conjunct → Clause → Type 0
IsClauseOf conjunct (Ints wanted refused) = IsOfParts AnInteger integers_of conjunct wanted refused
IsClauseOf conjunct (Chars wanted refused) =
    IsOfParts ACharacter characters_of conjunct wanted refused
IsClauseOf conjunct (Atoms wanted refused) = IsOfParts AnAtom atoms_of conjunct wanted refused
IsClauseOf conjunct (Pairs wanted refused) = IsOfParts APair pair_of conjunct wanted refused
IsClauseOf conjunct (Xmls wanted refused) = IsOfParts AnXml xml_of conjunct wanted refused
IsClauseOf conjunct (Records wanted refused) = IsOfParts ARecord record_of conjunct wanted refused
IsClauseOf conjunct (Arrows wanted refused) = IsOfParts AFunction arrow_of conjunct wanted refused

-- a question has the clauses of its conjuncts
abbrev pub IsClauseOfQuestion : Graph → Question → Clause → Type 0
IsClauseOfQuestion graph question clause =
    AnyOf (λ conjunct. IsClauseOf conjunct clause) (dnf_of graph question)

-- a thing of a kind is in each wanted formula and outside each refused one
abbrev pub IsInParts : {X : Type 0} → (kind of : Kind) → Reader → (X → Formula)
    → (wanted refused : List X) → Type 0
IsInParts kind of reader formula_of wanted refused = (kind ≡ of)
    × AllOf (λ parts. reader (formula_of parts) true) wanted
    × AllOf (λ parts. reader (formula_of parts) false) refused

-- a thing of this kind, which reads formulas so, is in a clause
abbrev pub IsInClause : Kind → Reader → Clause → Type 0
IsInClause kind reader (Ints wanted refused) =
    IsInParts kind AnInteger reader formula.Ints wanted refused
IsInClause kind reader (Chars wanted refused) =
    IsInParts kind ACharacter reader formula.Chars wanted refused
IsInClause kind reader (Atoms wanted refused) =
    IsInParts kind AnAtom reader formula.Atoms wanted refused
IsInClause kind reader (Pairs wanted refused) =
    IsInParts kind APair reader (λ parts. formula.Pair parts.0 parts.1) wanted refused
IsInClause kind reader (Xmls wanted refused) =
    IsInParts kind AnXml reader (λ parts. formula.Xml parts.0 parts.1 parts.2) wanted refused
IsInClause kind reader (Records wanted refused) =
    IsInParts kind ARecord reader (λ type. formula.Record type.named type.rest) wanted refused
IsInClause kind reader (Arrows wanted refused) =
    IsInParts kind AFunction reader (λ parts. formula.Arrow parts.0 parts.1) wanted refused
