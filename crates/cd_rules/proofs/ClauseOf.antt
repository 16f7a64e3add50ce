-- A thing of a kind that meets a conjunct is in the conjunct's clause of that kind.
use Rattle.std.proofs.Common.{◌≡◌, ℕ, ℤ, Bool, true, false, List, [], ◌∷◌, Option, Some, None, IfSome, refl, subst}
use Rattle.std.proofs.lemmas.Bool.{true≢false}
use Rattle.cd_syntax.specs.Name.{Name}
use Rattle.cd_model.specs.Thing as thing
use Rattle.cd_model.specs.Thing.{Thing}
use Rattle.cd_model.specs.AllOf.{AllOf}
use Rattle.cd_model.specs.Formula as formula
use Rattle.cd_model.specs.Formula.{Formula, Graph}
use Rattle.cd_sets.specs.declared.node_id.NodeId.{NodeId}
use Rattle.cd_model.specs.Formula.{at_formula}
use Rattle.cd_model.specs.Types as types
use Rattle.cd_model.specs.Types.{Items, items_of_atom, atom_at, with_sequences, no_closure}
use Rattle.cd_model.specs.Kinds.{Kind, AnInteger, ACharacter, AnAtom, APair, AnXml, ARecord, AFunction, kind_of}
use Rattle.cd_model.specs.Membership as node
use Rattle.cd_model.specs.Membership.{Reader, Answers, Labelled, Mapping, integer_reader, character_reader, atom_reader}
use Rattle.cd_model.specs.Membership.{pair_reader, xml_reader, record_reader, function_reader}
use Rattle.cd_rules.specs.Dnf.{Conjunct, Meets}
use Rattle.cd_rules.specs.Clauses.{Clause, Ints, Chars, Atoms, Pairs, Xmls, Records, Arrows, kind_of_formula, AllOfKind}
use Rattle.cd_rules.specs.Clauses.{integers_of, characters_of, atoms_of, pair_of, xml_of, record_of, arrow_of}
use Rattle.cd_rules.specs.Clauses.{one_more, parts_in, IsClauseOf, IsInClause}
use Rattle.cd_rules.proofs.Things.{reader_of, answers_of, labelled_of, mapping_of}

-- a thing that is in formulas of one kind alone
abbrev pub IsOfKind : Kind → Reader → Type 0
IsOfKind kind reader = (is : Formula) → reader is true → kind_of_formula is ≡ Some kind

-- the parts of a formula, where it has these, are read as the formula is
abbrev ReadAlike : {X : Type 0} → Reader → (Formula → Option X) → (X → Formula) → Type 0
ReadAlike reader parts_of formula_of =
    (is : Formula) (answer : Bool) → reader is answer → IfSome (parts_of is) (λ parts. reader (formula_of parts) answer)

module _ (reader : Reader) where
  -- all wanted literals of a conjunct that is met are of the thing's kind
  all_of : (kind : Kind) → IsOfKind kind reader → (conjunct : Conjunct) → Meets reader conjunct → AllOfKind kind conjunct
  all_of kind of_kind [] meets = tt
  all_of kind of_kind (literal ∷ rest) meets = (
    λ wanted. of_kind literal.is (subst (λ (answer : Bool). reader literal.is answer) wanted meets.0),
    all_of kind of_kind rest meets.1,
  )

  -- and the parts of its literals of a kind read as the conjunct asks
  module _ {X : Type 0} (parts_of : Formula → Option X) (formula_of : X → Formula) where
    read_one : (sign wanted : Bool) (is : Option X) (rest : List X) → IfSome is (λ parts. reader (formula_of parts) wanted)
        → AllOf (λ parts. reader (formula_of parts) sign) rest
        → AllOf (λ parts. reader (formula_of parts) sign) (one_more sign wanted is rest)
    read_one true true (Some parts) rest is each = (is, each)
    read_one false false (Some parts) rest is each = (is, each)
    read_one true true None rest is each = each
    read_one false false None rest is each = each
    read_one true false is rest _ each = each
    read_one false true is rest _ each = each

    read_parts : ReadAlike reader parts_of formula_of → (sign : Bool) (conjunct : Conjunct) → Meets reader conjunct
        → AllOf (λ parts. reader (formula_of parts) sign) (parts_in parts_of sign conjunct)
    read_parts alike sign [] meets = tt
    read_parts alike sign (literal ∷ rest) meets =
        read_one sign literal.wanted (parts_of literal.is) (parts_in parts_of sign rest)
        (alike literal.is literal.wanted meets.0) (read_parts alike sign rest meets.1)

  integers_alike : ReadAlike reader integers_of formula.Ints
  integers_alike (formula.Ints set) answer is = is
  integers_alike _ answer is = tt

  characters_alike : ReadAlike reader characters_of formula.Chars
  characters_alike (formula.Chars set) answer is = is
  characters_alike _ answer is = tt

  atoms_alike : ReadAlike reader atoms_of formula.Atoms
  atoms_alike (formula.Atoms set) answer is = is
  atoms_alike _ answer is = tt

  pairs_alike : ReadAlike reader pair_of (λ parts. formula.Pair parts.0 parts.1)
  pairs_alike (formula.Pair first second) answer is = is
  pairs_alike _ answer is = tt

  xmls_alike : ReadAlike reader xml_of (λ parts. formula.Xml parts.0 parts.1 parts.2)
  xmls_alike (formula.Xml tag attributes content) answer is = is
  xmls_alike _ answer is = tt

  records_alike : ReadAlike reader record_of (λ type. formula.Record type.named type.rest)
  records_alike (formula.Record named rest) answer is = is
  records_alike _ answer is = tt

  arrows_alike : ReadAlike reader arrow_of (λ parts. formula.Arrow parts.0 parts.1)
  arrows_alike (formula.Arrow argument result) answer is = is
  arrows_alike _ answer is = tt

  -- the clause of a conjunct for each kind, and that its wanted and its refused formulas are read
  -- so
  pub in_integers : IsOfKind AnInteger reader → (conjunct : Conjunct) → Meets reader conjunct
      → IsClauseOf conjunct (Ints (parts_in integers_of true conjunct) (parts_in integers_of false conjunct))
      × AllOf (λ set. reader (formula.Ints set) true) (parts_in integers_of true conjunct)
      × AllOf (λ set. reader (formula.Ints set) false) (parts_in integers_of false conjunct)
  in_integers of_kind conjunct meets = (
    (all_of AnInteger of_kind conjunct meets, refl, refl),
    read_parts integers_of formula.Ints integers_alike true conjunct meets,
    read_parts integers_of formula.Ints integers_alike false conjunct meets,
  )

  pub in_characters : IsOfKind ACharacter reader → (conjunct : Conjunct) → Meets reader conjunct
      → IsClauseOf conjunct (Chars (parts_in characters_of true conjunct) (parts_in characters_of false conjunct))
      × AllOf (λ set. reader (formula.Chars set) true) (parts_in characters_of true conjunct)
      × AllOf (λ set. reader (formula.Chars set) false) (parts_in characters_of false conjunct)
  in_characters of_kind conjunct meets = (
    (all_of ACharacter of_kind conjunct meets, refl, refl),
    read_parts characters_of formula.Chars characters_alike true conjunct meets,
    read_parts characters_of formula.Chars characters_alike false conjunct meets,
  )

  pub in_atoms : IsOfKind AnAtom reader → (conjunct : Conjunct) → Meets reader conjunct
      → IsClauseOf conjunct (Atoms (parts_in atoms_of true conjunct) (parts_in atoms_of false conjunct))
      × AllOf (λ set. reader (formula.Atoms set) true) (parts_in atoms_of true conjunct)
      × AllOf (λ set. reader (formula.Atoms set) false) (parts_in atoms_of false conjunct)
  in_atoms of_kind conjunct meets = (
    (all_of AnAtom of_kind conjunct meets, refl, refl),
    read_parts atoms_of formula.Atoms atoms_alike true conjunct meets,
    read_parts atoms_of formula.Atoms atoms_alike false conjunct meets,
  )

  pub in_pairs : IsOfKind APair reader → (conjunct : Conjunct) → Meets reader conjunct
      → IsClauseOf conjunct (Pairs (parts_in pair_of true conjunct) (parts_in pair_of false conjunct))
      × AllOf (λ parts. reader (formula.Pair parts.0 parts.1) true) (parts_in pair_of true conjunct)
      × AllOf (λ parts. reader (formula.Pair parts.0 parts.1) false) (parts_in pair_of false conjunct)
  in_pairs of_kind conjunct meets = (
    (all_of APair of_kind conjunct meets, refl, refl),
    read_parts pair_of (λ parts. formula.Pair parts.0 parts.1) pairs_alike true conjunct meets,
    read_parts pair_of (λ parts. formula.Pair parts.0 parts.1) pairs_alike false conjunct meets,
  )

  pub in_xmls : IsOfKind AnXml reader → (conjunct : Conjunct) → Meets reader conjunct
      → IsClauseOf conjunct (Xmls (parts_in xml_of true conjunct) (parts_in xml_of false conjunct))
      × AllOf (λ parts. reader (formula.Xml parts.0 parts.1 parts.2) true) (parts_in xml_of true conjunct)
      × AllOf (λ parts. reader (formula.Xml parts.0 parts.1 parts.2) false) (parts_in xml_of false conjunct)
  in_xmls of_kind conjunct meets = (
    (all_of AnXml of_kind conjunct meets, refl, refl),
    read_parts xml_of (λ parts. formula.Xml parts.0 parts.1 parts.2) xmls_alike true conjunct meets,
    read_parts xml_of (λ parts. formula.Xml parts.0 parts.1 parts.2) xmls_alike false conjunct meets,
  )

  pub in_records : IsOfKind ARecord reader → (conjunct : Conjunct) → Meets reader conjunct
      → IsClauseOf conjunct (Records (parts_in record_of true conjunct) (parts_in record_of false conjunct))
      × AllOf (λ type. reader (formula.Record type.named type.rest) true) (parts_in record_of true conjunct)
      × AllOf (λ type. reader (formula.Record type.named type.rest) false) (parts_in record_of false conjunct)
  in_records of_kind conjunct meets = (
    (all_of ARecord of_kind conjunct meets, refl, refl),
    read_parts record_of (λ type. formula.Record type.named type.rest) records_alike true conjunct meets,
    read_parts record_of (λ type. formula.Record type.named type.rest) records_alike false conjunct meets,
  )

  pub in_arrows : IsOfKind AFunction reader → (conjunct : Conjunct) → Meets reader conjunct
      → IsClauseOf conjunct (Arrows (parts_in arrow_of true conjunct) (parts_in arrow_of false conjunct))
      × AllOf (λ parts. reader (formula.Arrow parts.0 parts.1) true) (parts_in arrow_of true conjunct)
      × AllOf (λ parts. reader (formula.Arrow parts.0 parts.1) false) (parts_in arrow_of false conjunct)
  in_arrows of_kind conjunct meets = (
    (all_of AFunction of_kind conjunct meets, refl, refl),
    read_parts arrow_of (λ parts. formula.Arrow parts.0 parts.1) arrows_alike true conjunct meets,
    read_parts arrow_of (λ parts. formula.Arrow parts.0 parts.1) arrows_alike false conjunct meets,
  )

-- for any kind
pub in_clause : (kind : Kind) (reader : Reader)
    → ((is : Formula) → reader is true → kind_of_formula is ≡ Some kind)
    → (conjunct : Conjunct) → Meets reader conjunct → (clause : Clause) × IsClauseOf conjunct clause × IsInClause kind reader clause
in_clause AnInteger reader of_kind conjunct meets = let is = in_integers reader of_kind conjunct meets in
    (Ints (parts_in integers_of true conjunct) (parts_in integers_of false conjunct), is.0, (refl, is.1, is.2))
in_clause ACharacter reader of_kind conjunct meets = let is = in_characters reader of_kind conjunct meets in
    (Chars (parts_in characters_of true conjunct) (parts_in characters_of false conjunct), is.0, (refl, is.1, is.2))
in_clause AnAtom reader of_kind conjunct meets = let is = in_atoms reader of_kind conjunct meets in
    (Atoms (parts_in atoms_of true conjunct) (parts_in atoms_of false conjunct), is.0, (refl, is.1, is.2))
in_clause APair reader of_kind conjunct meets = let is = in_pairs reader of_kind conjunct meets in
    (Pairs (parts_in pair_of true conjunct) (parts_in pair_of false conjunct), is.0, (refl, is.1, is.2))
in_clause AnXml reader of_kind conjunct meets = let is = in_xmls reader of_kind conjunct meets in
    (Xmls (parts_in xml_of true conjunct) (parts_in xml_of false conjunct), is.0, (refl, is.1, is.2))
in_clause ARecord reader of_kind conjunct meets = let is = in_records reader of_kind conjunct meets in
    (Records (parts_in record_of true conjunct) (parts_in record_of false conjunct), is.0, (refl, is.1, is.2))
in_clause AFunction reader of_kind conjunct meets = let is = in_arrows reader of_kind conjunct meets in
    (Arrows (parts_in arrow_of true conjunct) (parts_in arrow_of false conjunct), is.0, (refl, is.1, is.2))

-- readers of things of one kind
pub kind_of_integer : (n : ℤ) → IsOfKind AnInteger (integer_reader n)
kind_of_integer n (formula.Ints set) is = refl
kind_of_integer n _ is = absurd (true≢false is)

pub kind_of_character : (c : ℕ) → IsOfKind ACharacter (character_reader c)
kind_of_character c (formula.Chars set) is = refl
kind_of_character c _ is = absurd (true≢false is)

kind_of_atom : (name : Name) → IsOfKind AnAtom (atom_reader name)
kind_of_atom name (formula.Atoms set) is = refl
kind_of_atom name _ is = absurd (true≢false is)

pub kind_of_pair : (first second : Answers) → IsOfKind APair (pair_reader first second)
kind_of_pair first second (formula.Pair one other) is = refl
kind_of_pair first second _ is = absurd (true≢false is)

pub kind_of_xml : (tag attributes content : Answers) → IsOfKind AnXml (xml_reader tag attributes content)
kind_of_xml tag attributes content (formula.Xml one other last) is = refl
kind_of_xml tag attributes content _ is = absurd (true≢false is)

pub kind_of_record : (labelled : Labelled) → IsOfKind ARecord (record_reader labelled)
kind_of_record labelled (formula.Record named rest) is = refl
kind_of_record labelled _ is = absurd (true≢false is)

pub kind_of_function : (mapping : Mapping) → IsOfKind AFunction (function_reader mapping)
kind_of_function mapping (formula.Arrow argument result) is = refl
kind_of_function mapping _ is = absurd (true≢false is)

-- sequences are no formulas
kind_of_sequence : (items : Items Answers) (read : types.Reader NodeId) (kind : Kind) → IsOfKind kind (at_formula read)
    → IsOfKind kind (at_formula (with_sequences items read))
kind_of_sequence items read kind of (formula.Ints set) is = of (formula.Ints set) is
kind_of_sequence items read kind of (formula.Chars set) is = of (formula.Chars set) is
kind_of_sequence items read kind of (formula.Atoms set) is = of (formula.Atoms set) is
kind_of_sequence items read kind of (formula.Pair a b) is = of (formula.Pair a b) is
kind_of_sequence items read kind of (formula.Xml a b c) is = of (formula.Xml a b c) is
kind_of_sequence items read kind of (formula.Record a b) is = of (formula.Record a b) is
kind_of_sequence items read kind of (formula.Arrow a b) is = of (formula.Arrow a b) is
kind_of_sequence items read kind of _ is = absurd (true≢false is)

-- a thing is in formulas of its kind alone
module _ (graph : Graph) (closed : ℕ → Mapping) where
  pub kind_of_thing : (is : Thing) → IsOfKind (kind_of is) (reader_of graph closed is)
  kind_of_thing (thing.Integer n) = kind_of_integer n
  kind_of_thing (thing.Character c) = kind_of_character c
  kind_of_thing (thing.Atom name) = kind_of_sequence (items_of_atom name) (atom_at name) AnAtom (kind_of_atom name)
  kind_of_thing (thing.Pair first second) = kind_of_sequence _ _ APair
      (kind_of_pair (answers_of graph closed first) (answers_of graph closed second))
  kind_of_thing (thing.Xml tag attributes content) = kind_of_xml
      (answers_of graph closed tag) (answers_of graph closed attributes) (answers_of graph closed content)
  kind_of_thing (thing.Record fields) = kind_of_record (labelled_of graph closed fields)
  kind_of_thing (thing.Function pairs) = kind_of_function (mapping_of graph closed pairs)
  kind_of_thing (thing.Closure function environment) = kind_of_function (closed function)

pub kind_of_element : (graph : Graph) (is : Thing) → IsOfKind (kind_of is) (node.reader graph is)
kind_of_element graph = kind_of_thing graph no_closure
