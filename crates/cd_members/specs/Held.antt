-- That a member which is left of a task holds what was made for the task.
use Rattle.std.specs.Prelude.{◌≡◌, ◌⊎◌, ℕ, Bool, true, false, List, [], ◌∷◌, Option, Some, None}
use Rattle.std.specs.Prelude.{slice_get}
use Rattle.cd_model.specs.Formula as formula
use Rattle.cd_model.specs.Formula.{Graph}
use Rattle.cd_model.specs.Membership.{answers, reader}
use Rattle.cd_model.specs.Thing.{Thing, Fields, Pair, Xml, Record}
use Rattle.cd_rules.specs.Clauses as rules
use Rattle.cd_rules.specs.Clauses.{Triple, RecordType}
use Rattle.cd_rules.specs.InRow.{IsForRow, thing_at}
use Rattle.cd_rules.specs.Tasks.{Task, PairTask, XmlTask, ArrowTask, RecordTask, row_of_given}

-- a pair, an XML element and an element are in formulas of the parts of such
abbrev pub pair_in : Graph → (first second : Thing) → rules.Pair → Bool → Type 0
pair_in graph first second parts =
    reader graph (Pair first second) (formula.Pair parts.0 parts.1)

abbrev pub xml_in : Graph → (tag attributes content : Thing) → Triple → Bool → Type 0
xml_in graph tag attributes content parts =
    reader graph (Xml tag attributes content) (formula.Xml parts.0 parts.1 parts.2)

abbrev pub record_in : Graph → Thing → RecordType → Bool → Type 0
record_in graph e type = reader graph e (formula.Record type.named type.rest)

-- a pair of a function breaks an arrow: its argument is in the arrow's argument, and it has no
-- result in the arrow's result
abbrev pub breaks : Graph → (from : Thing) → (to : Option Thing) → rules.Pair → Bool → Type 0
breaks graph from None arrow answer = answers graph from arrow.0 answer
breaks graph from (Some to) arrow true =
    answers graph from arrow.0 true × answers graph to arrow.1 false
breaks graph from (Some to) arrow false =
    answers graph from arrow.0 false ⊎ answers graph to arrow.1 true

-- there is a member at this place, and a fact is so of it
abbrev pub IsSoAt : {X : Type 0} → (X → Bool → Type 0) → List X → ℕ → Type 0
IsSoAt {X} fact members place = (x : X) × (slice_get members place ≡ Some x) × fact x true

-- The member at this place of those left holds what was made of these parts:
--     a record for the row of what was given;
--     the pair of two parts;
--     the XML element of three parts;
--     for an arrow, the pair of a function that has these parts, and that breaks the arrow there.
--     Where there is one part alone the pair has no result.
abbrev pub IsHeldAt : Graph → (parts : List Thing) → Task → (place : ℕ) → Type 0
IsHeldAt graph parts (RecordTask wanted refused given left) place = (fields : Fields)
    × IsForRow (answers graph) (thing_at fields) (row_of_given wanted refused given)
    × IsSoAt (record_in graph (Record fields)) left place
IsHeldAt graph (first ∷ second ∷ []) (PairTask wanted refused given left) place =
    IsSoAt (pair_in graph first second) left place
IsHeldAt graph (tag ∷ attributes ∷ content ∷ []) (XmlTask wanted refused given left) place =
    IsSoAt (xml_in graph tag attributes content) left place
IsHeldAt graph (from ∷ []) (ArrowTask refused wanted given left) place =
    IsSoAt (breaks graph from None) left place
IsHeldAt graph (from ∷ to ∷ []) (ArrowTask refused wanted given left) place =
    IsSoAt (breaks graph from (Some to)) left place
IsHeldAt graph parts task place = ⊥
