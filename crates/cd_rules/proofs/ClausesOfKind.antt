-- The clauses of a question of one kind are what the conjuncts of the kind want and refuse.
use Rattle.std.proofs.Common.{◌≡◌, ◌↔◌, true, false, List, Option, Some, None, refl, sym, true≢false}
use Rattle.cd_sets.specs.declared.question.Question.{Question}
use Rattle.cd_model.specs.AllOf.{AnyOf}
use Rattle.cd_model.specs.Formula as formula
use Rattle.cd_model.specs.Formula.{Formula, Graph}
use Rattle.cd_model.specs.Kinds.{APair, AnXml, ARecord, AFunction}
use Rattle.cd_rules.specs.Dnf.{Conjunct}
use Rattle.cd_rules.specs.Clauses.{Pair, Triple, RecordType, Pairs, Xmls, Records, Arrows, kind_of_formula, IsClauseOfQuestion}
use Rattle.cd_rules.specs.Clauses.{pair_of, xml_of, record_of, arrow_of, parts_in}
use Rattle.cd_rules.specs.KindDnf.{is_of, kind_dnf_of}
use Rattle.cd_rules.proofs.KindDnfExact.{clause_of_kind}
use Rattle.cd_rules.proofs.KindDnfBack.{kind_clause_of}

-- a conjunct wants and refuses these
abbrev pub HasParts : {X : Type 0} → (Formula → Option X) → (wanted refused : List X) → Conjunct → Type 0
HasParts parts_of wanted refused conjunct = (wanted ≡ parts_in parts_of true conjunct) × (refused ≡ parts_in parts_of false conjunct)

pair_kind : (is : Formula) → is_of APair is ≡ true → kind_of_formula is ≡ Some APair
pair_kind (formula.Pair first second) same = refl
pair_kind _ same = absurd (true≢false (sym same))

is_pair : (is : Formula) → kind_of_formula is ≡ Some APair → is_of APair is ≡ true
is_pair (formula.Pair first second) same = refl
is_pair _ same = absurd cc

no_pair : (is : Formula) → is_of APair is ≡ false → pair_of is ≡ None
no_pair (formula.Pair first second) same = absurd (true≢false same)
no_pair _ same = refl

pub pairs_of_kind : (graph : Graph) (question : Question) (wanted refused : List Pair)
    → IsClauseOfQuestion graph question (Pairs wanted refused)
    ↔ AnyOf (HasParts pair_of wanted refused) (kind_dnf_of APair graph question)
pairs_of_kind graph question wanted refused = (
  clause_of_kind APair pair_of no_pair is_pair graph question wanted refused,
  kind_clause_of APair pair_kind pair_of no_pair wanted refused graph question,
)

xml_kind : (is : Formula) → is_of AnXml is ≡ true → kind_of_formula is ≡ Some AnXml
xml_kind (formula.Xml tag attributes content) same = refl
xml_kind _ same = absurd (true≢false (sym same))

is_xml : (is : Formula) → kind_of_formula is ≡ Some AnXml → is_of AnXml is ≡ true
is_xml (formula.Xml tag attributes content) same = refl
is_xml _ same = absurd cc

no_xml : (is : Formula) → is_of AnXml is ≡ false → xml_of is ≡ None
no_xml (formula.Xml tag attributes content) same = absurd (true≢false same)
no_xml _ same = refl

pub xmls_of_kind : (graph : Graph) (question : Question) (wanted refused : List Triple)
    → IsClauseOfQuestion graph question (Xmls wanted refused)
    ↔ AnyOf (HasParts xml_of wanted refused) (kind_dnf_of AnXml graph question)
xmls_of_kind graph question wanted refused = (
  clause_of_kind AnXml xml_of no_xml is_xml graph question wanted refused,
  kind_clause_of AnXml xml_kind xml_of no_xml wanted refused graph question,
)

record_kind : (is : Formula) → is_of ARecord is ≡ true → kind_of_formula is ≡ Some ARecord
record_kind (formula.Record named rest) same = refl
record_kind _ same = absurd (true≢false (sym same))

is_record : (is : Formula) → kind_of_formula is ≡ Some ARecord → is_of ARecord is ≡ true
is_record (formula.Record named rest) same = refl
is_record _ same = absurd cc

no_record : (is : Formula) → is_of ARecord is ≡ false → record_of is ≡ None
no_record (formula.Record named rest) same = absurd (true≢false same)
no_record _ same = refl

pub records_of_kind : (graph : Graph) (question : Question) (wanted refused : List RecordType)
    → IsClauseOfQuestion graph question (Records wanted refused)
    ↔ AnyOf (HasParts record_of wanted refused) (kind_dnf_of ARecord graph question)
records_of_kind graph question wanted refused = (
  clause_of_kind ARecord record_of no_record is_record graph question wanted refused,
  kind_clause_of ARecord record_kind record_of no_record wanted refused graph question,
)

arrow_kind : (is : Formula) → is_of AFunction is ≡ true → kind_of_formula is ≡ Some AFunction
arrow_kind (formula.Arrow argument result) same = refl
arrow_kind _ same = absurd (true≢false (sym same))

is_arrow : (is : Formula) → kind_of_formula is ≡ Some AFunction → is_of AFunction is ≡ true
is_arrow (formula.Arrow argument result) same = refl
is_arrow _ same = absurd cc

no_arrow : (is : Formula) → is_of AFunction is ≡ false → arrow_of is ≡ None
no_arrow (formula.Arrow argument result) same = absurd (true≢false same)
no_arrow _ same = refl

pub arrows_of_kind : (graph : Graph) (question : Question) (wanted refused : List Pair)
    → IsClauseOfQuestion graph question (Arrows wanted refused)
    ↔ AnyOf (HasParts arrow_of wanted refused) (kind_dnf_of AFunction graph question)
arrows_of_kind graph question wanted refused = (
  clause_of_kind AFunction arrow_of no_arrow is_arrow graph question wanted refused,
  kind_clause_of AFunction arrow_kind arrow_of no_arrow wanted refused graph question,
)
