-- The questions that must have elements for a conjunct of a kind.
use Rattle.std.specs.Prelude.{◌≡◌, true, false, List, [], ◌∷◌, map}
use Rattle.cd_sets.specs.declared.question.Question.{Question}
use Rattle.cd_syntax.specs.Name.{Name}
use Rattle.cd_model.specs.AllOf.{AllOf, AnyOf}
use Rattle.cd_model.specs.Kinds.{Kind, APair, AnXml, ARecord, AFunction}
use Rattle.cd_rules.specs.Dnf.{Conjunct}
use Rattle.cd_rules.specs.Clauses.{RecordType, parts_in, pair_of, xml_of, record_of, arrow_of}
use Rattle.cd_rules.specs.Needs.{question, pair_way, xml_way}
use Rattle.cd_rules.specs.PartialConjuncts.{Partial}
use Rattle.cd_rules.specs.Rows.{field_at}

-- the question of what all these types say of a label for which one of them asks
abbrev pub IsFieldNeed : List RecordType → Question → Type 0
IsFieldNeed types asked = (label : Name)
    × AnyOf (λ type. (field_at type label).optional ≡ false) types
    × (question (map (λ type. (field_at type label).type) types) [] ≡ asked)

-- of what is wanted the question of a part; of functions that of the argument of a refused arrow
abbrev pub IsNeed : Kind → Conjunct → Question → Type 0
IsNeed APair conjunct asked =
    AnyOf (λ need. need ≡ asked) (pair_way (parts_in pair_of true conjunct) ([], []))
IsNeed AnXml conjunct asked =
    AnyOf (λ need. need ≡ asked) (xml_way (parts_in xml_of true conjunct) ([], [], []))
IsNeed ARecord conjunct asked = IsFieldNeed (parts_in record_of true conjunct) asked
IsNeed AFunction conjunct asked =
    AnyOf (λ parts. question (parts.0 ∷ []) [] ≡ asked) (parts_in arrow_of false conjunct)
IsNeed _ conjunct asked = ⊥

-- there is a first conjunct, and each of these is such a question for it
abbrev pub AreNeedsOfFirst : List Partial → List Question → Type 0
AreNeedsOfFirst conjuncts asked = (first : Partial) × (rest : List Partial)
    × (conjuncts ≡ first ∷ rest) × AllOf (IsNeed first.kind first.conjunct) asked
