-- A thing of a kind that is in a clause of a conjunct meets the conjunct.
use Rattle.std.proofs.Common.{◌≡◌, Bool, true, false, List, [], ◌∷◌, Option, Some, None, refl, subst}
use Rattle.cd_model.specs.AllOf.{AllOf}
use Rattle.cd_model.specs.Formula as formula
use Rattle.cd_model.specs.Formula.{Formula}
use Rattle.cd_model.specs.Kinds.{Kind, AnInteger, ACharacter, AnAtom, APair, AnXml, ARecord, AFunction}
use Rattle.cd_model.specs.Membership.{Reader}
use Rattle.cd_rules.specs.Dnf.{Conjunct, Meets}
use Rattle.cd_rules.specs.Clauses.{Clause, Ints, Chars, Atoms, Pairs, Xmls, Records, Arrows, kind_of_formula, AllOfKind}
use Rattle.cd_rules.specs.Clauses.{integers_of, characters_of, atoms_of, pair_of, xml_of, record_of, arrow_of}
use Rattle.cd_rules.specs.Clauses.{one_more, parts_in, IsOfParts, IsInParts, IsClauseOf, IsInClause}
use Rattle.cd_rules.proofs.OtherKinds.{IsOfOther, IsOutsideOtherKinds}

-- parts that make this formula, or none where it is of another kind
abbrev Makes : {X : Type 0} → Kind → (X → Formula) → Option X → Formula → Type 0
Makes kind formula_of (Some parts) is = formula_of parts ≡ is
Makes kind formula_of None is = IsOfOther kind is

-- the parts of a formula of this kind make it
abbrev MadeOfParts : {X : Type 0} → Kind → (Formula → Option X) → (X → Formula) → Type 0
MadeOfParts kind parts_of formula_of = (is : Formula) → Makes kind formula_of (parts_of is) is

integers_make : MadeOfParts AnInteger integers_of formula.Ints
integers_make (formula.Ints set) = refl
integers_make _ = λ same. cc

characters_make : MadeOfParts ACharacter characters_of formula.Chars
characters_make (formula.Chars set) = refl
characters_make _ = λ same. cc

atoms_make : MadeOfParts AnAtom atoms_of formula.Atoms
atoms_make (formula.Atoms set) = refl
atoms_make _ = λ same. cc

pair_makes : MadeOfParts APair pair_of (λ parts. formula.Pair parts.0 parts.1)
pair_makes (formula.Pair first second) = refl
pair_makes _ = λ same. cc

xml_makes : MadeOfParts AnXml xml_of (λ parts. formula.Xml parts.0 parts.1 parts.2)
xml_makes (formula.Xml tag attributes content) = refl
xml_makes _ = λ same. cc

record_makes : MadeOfParts ARecord record_of (λ type. formula.Record type.named type.rest)
record_makes (formula.Record named rest) = refl
record_makes _ = λ same. cc

arrow_makes : MadeOfParts AFunction arrow_of (λ parts. formula.Arrow parts.0 parts.1)
arrow_makes (formula.Arrow argument result) = refl
arrow_makes _ = λ same. cc

-- for one kind
module _ {X : Type 0} (kind : Kind) (parts_of : Formula → Option X) (formula_of : X → Formula) (reader : Reader) where
  -- the parts read as a literal of this sign asks
  abbrev Read : Bool → X → Type 0
  Read sign parts = reader (formula_of parts) sign

  -- from what is so of the wanted and of the refused parts, what is so of the first literal and of the others' parts
  read_first : IsOutsideOtherKinds kind reader → (wanted : Bool) (is : Formula) (parts : Option X) (trues falses : List X)
      → Makes kind formula_of parts is → (wanted ≡ true → kind_of_formula is ≡ Some kind)
      → AllOf (Read true) (one_more true wanted parts trues) → AllOf (Read false) (one_more false wanted parts falses)
      → reader is wanted × AllOf (Read true) trues × AllOf (Read false) falses
  read_first elsewhere true is (Some parts) trues falses makes of_kind inside outside =
      (subst (λ (is : Formula). reader is true) makes inside.0, inside.1, outside)
  read_first elsewhere true is None trues falses makes of_kind inside outside = absurd (makes (of_kind refl))
  read_first elsewhere false is (Some parts) trues falses makes of_kind inside outside =
      (subst (λ (is : Formula). reader is false) makes outside.0, inside, outside.1)
  read_first elsewhere false is None trues falses makes of_kind inside outside = (elsewhere is makes, inside, outside)

  -- where all wanted literals are of the kind, the parts say what is so of each literal
  pub meets_of_parts : MadeOfParts kind parts_of formula_of → IsOutsideOtherKinds kind reader
      → (conjunct : Conjunct) → AllOfKind kind conjunct → AllOf (Read true) (parts_in parts_of true conjunct)
      → AllOf (Read false) (parts_in parts_of false conjunct) → Meets reader conjunct
  meets_of_parts makes elsewhere [] of_kind inside outside = tt
  meets_of_parts makes elsewhere (literal ∷ rest) of_kind inside outside =
      let first = read_first elsewhere literal.wanted literal.is (parts_of literal.is)
      (parts_in parts_of true rest) (parts_in parts_of false rest) (makes literal.is) of_kind.0 inside outside in
      (first.0, meets_of_parts makes elsewhere rest of_kind.1 first.1 first.2)

  -- so it is of the clause of this kind
  meets_of_clause : MadeOfParts kind parts_of formula_of → (of : Kind) → IsOutsideOtherKinds of reader
      → (conjunct : Conjunct) (wanted refused : List X) → IsOfParts kind parts_of conjunct wanted refused
      → IsInParts of kind reader formula_of wanted refused → Meets reader conjunct
  meets_of_clause makes of elsewhere conjunct wanted refused is inside = meets_of_parts makes
      (subst (λ (kind : Kind). IsOutsideOtherKinds kind reader) inside.0 elsewhere) conjunct is.0
      (subst (AllOf (Read true)) is.1 inside.1) (subst (AllOf (Read false)) is.2 inside.2)

-- for any kind
pub clause_back : (kind : Kind) (reader : Reader) → IsOutsideOtherKinds kind reader → (conjunct : Conjunct) (clause : Clause)
    → IsClauseOf conjunct clause → IsInClause kind reader clause → Meets reader conjunct
clause_back kind reader elsewhere conjunct (Ints wanted refused) =
    meets_of_clause AnInteger integers_of formula.Ints reader integers_make kind elsewhere conjunct wanted refused
clause_back kind reader elsewhere conjunct (Chars wanted refused) =
    meets_of_clause ACharacter characters_of formula.Chars reader characters_make kind elsewhere conjunct wanted refused
clause_back kind reader elsewhere conjunct (Atoms wanted refused) =
    meets_of_clause AnAtom atoms_of formula.Atoms reader atoms_make kind elsewhere conjunct wanted refused
clause_back kind reader elsewhere conjunct (Pairs wanted refused) = meets_of_clause APair pair_of
    (λ parts. formula.Pair parts.0 parts.1) reader pair_makes kind elsewhere conjunct wanted refused
clause_back kind reader elsewhere conjunct (Xmls wanted refused) = meets_of_clause AnXml xml_of
    (λ parts. formula.Xml parts.0 parts.1 parts.2) reader xml_makes kind elsewhere conjunct wanted refused
clause_back kind reader elsewhere conjunct (Records wanted refused) = meets_of_clause ARecord record_of
    (λ type. formula.Record type.named type.rest) reader record_makes kind elsewhere conjunct wanted refused
clause_back kind reader elsewhere conjunct (Arrows wanted refused) = meets_of_clause AFunction arrow_of
    (λ parts. formula.Arrow parts.0 parts.1) reader arrow_makes kind elsewhere conjunct wanted refused
