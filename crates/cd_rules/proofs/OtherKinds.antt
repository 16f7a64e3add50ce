-- A thing is outside each formula that is not of its kind, connectives too.
use Rattle.std.proofs.Common.{◌≡◌, ℕ, ℤ, false, Some, refl}
use Rattle.cd_syntax.specs.Name.{Name}
use Rattle.cd_model.specs.Thing as thing
use Rattle.cd_model.specs.Thing.{Thing}
use Rattle.cd_model.specs.Formula as formula
use Rattle.cd_model.specs.Formula.{Formula, Graph}
use Rattle.cd_sets.specs.declared.node_id.NodeId.{NodeId}
use Rattle.cd_model.specs.Formula.{at_formula}
use Rattle.cd_model.specs.Types as types
use Rattle.cd_model.specs.Types.{Items, items_of_atom, atom_at, with_sequences, no_closure}
use Rattle.cd_model.specs.Kinds.{Kind, AnInteger, ACharacter, AnAtom, APair, AnXml, ARecord, AFunction, kind_of}
use Rattle.cd_model.specs.Membership as node
use Rattle.cd_model.specs.Membership.{Reader, Answers, Labelled, Mapping, integer_reader, character_reader, atom_reader}
use Rattle.cd_model.specs.Membership.{pair_reader, xml_reader, record_reader, function_reader}
use Rattle.cd_rules.specs.Clauses.{kind_of_formula}
use Rattle.cd_rules.proofs.Things.{reader_of, answers_of, labelled_of, mapping_of}

-- a formula that is not of this kind
abbrev pub IsOfOther : Kind → Formula → Type 0
IsOfOther kind is = kind_of_formula is ≡ Some kind → ⊥

-- a thing that is outside each formula of another kind
abbrev pub IsOutsideOtherKinds : Kind → Reader → Type 0
IsOutsideOtherKinds kind reader = (is : Formula) → IsOfOther kind is → reader is false

-- readers of things of one kind
elsewhere_integer : (n : ℤ) → IsOutsideOtherKinds AnInteger (integer_reader n)
elsewhere_integer n (formula.Ints set) other = absurd (other refl)
elsewhere_integer n _ other = refl

elsewhere_character : (c : ℕ) → IsOutsideOtherKinds ACharacter (character_reader c)
elsewhere_character c (formula.Chars set) other = absurd (other refl)
elsewhere_character c _ other = refl

elsewhere_atom : (name : Name) → IsOutsideOtherKinds AnAtom (atom_reader name)
elsewhere_atom name (formula.Atoms set) other = absurd (other refl)
elsewhere_atom name _ other = refl

elsewhere_pair : (first second : Answers) → IsOutsideOtherKinds APair (pair_reader first second)
elsewhere_pair first second (formula.Pair one another) other = absurd (other refl)
elsewhere_pair first second _ other = refl

elsewhere_xml : (tag attributes content : Answers) → IsOutsideOtherKinds AnXml (xml_reader tag attributes content)
elsewhere_xml tag attributes content (formula.Xml one another last) other = absurd (other refl)
elsewhere_xml tag attributes content _ other = refl

elsewhere_record : (labelled : Labelled) → IsOutsideOtherKinds ARecord (record_reader labelled)
elsewhere_record labelled (formula.Record named rest) other = absurd (other refl)
elsewhere_record labelled _ other = refl

elsewhere_function : (mapping : Mapping) → IsOutsideOtherKinds AFunction (function_reader mapping)
elsewhere_function mapping (formula.Arrow argument result) other = absurd (other refl)
elsewhere_function mapping _ other = refl

elsewhere_sequence : (items : Items Answers) (read : types.Reader NodeId) (kind : Kind) → IsOutsideOtherKinds kind (at_formula read)
    → IsOutsideOtherKinds kind (at_formula (with_sequences items read))
elsewhere_sequence items read kind out (formula.Ints set) other = out (formula.Ints set) other
elsewhere_sequence items read kind out (formula.Chars set) other = out (formula.Chars set) other
elsewhere_sequence items read kind out (formula.Atoms set) other = out (formula.Atoms set) other
elsewhere_sequence items read kind out (formula.Pair a b) other = out (formula.Pair a b) other
elsewhere_sequence items read kind out (formula.Xml a b c) other = out (formula.Xml a b c) other
elsewhere_sequence items read kind out (formula.Record a b) other = out (formula.Record a b) other
elsewhere_sequence items read kind out (formula.Arrow a b) other = out (formula.Arrow a b) other
elsewhere_sequence items read kind out _ other = refl

-- a thing is outside formulas of other kinds
module _ (graph : Graph) (closed : ℕ → Mapping) where
  pub thing_is_elsewhere : (is : Thing) → IsOutsideOtherKinds (kind_of is) (reader_of graph closed is)
  thing_is_elsewhere (thing.Integer n) = elsewhere_integer n
  thing_is_elsewhere (thing.Character c) = elsewhere_character c
  thing_is_elsewhere (thing.Atom name) = elsewhere_sequence (items_of_atom name) (atom_at name) AnAtom (elsewhere_atom name)
  thing_is_elsewhere (thing.Pair first second) = elsewhere_sequence _ _ APair
      (elsewhere_pair (answers_of graph closed first) (answers_of graph closed second))
  thing_is_elsewhere (thing.Xml tag attributes content) = elsewhere_xml
      (answers_of graph closed tag) (answers_of graph closed attributes) (answers_of graph closed content)
  thing_is_elsewhere (thing.Record fields) = elsewhere_record (labelled_of graph closed fields)
  thing_is_elsewhere (thing.Function pairs) = elsewhere_function (mapping_of graph closed pairs)
  thing_is_elsewhere (thing.Closure function environment) = elsewhere_function (closed function)

pub is_elsewhere : (graph : Graph) (is : Thing) → IsOutsideOtherKinds (kind_of is) (node.reader graph is)
is_elsewhere graph = thing_is_elsewhere graph no_closure
