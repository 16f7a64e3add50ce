-- A pair whose parts meet both questions of a way of a clause's need is in the clause; and so an XML element.
use Rattle.std.proofs.Common.{◌≡◌, true, false, List, [], ◌∷◌, map}
use Rattle.cd_sets.specs.declared.node_id.NodeId.{NodeId}
use Rattle.cd_model.specs.AllOf.{AllOf, AnyOf}
use Rattle.cd_model.specs.BuiltIns.{ATOM, RECORD}
use Rattle.cd_model.specs.Formula as formula
use Rattle.cd_model.specs.Membership.{Answers, asked, pair_reader, xml_reader}
use Rattle.cd_rules.specs.Clauses.{Pair, Triple}
use Rattle.cd_rules.specs.Needs.{question, splits, splits_in_three}
use Rattle.cd_rules.proofs.Answered.{map_of_each, each_of_asked}
use Rattle.cd_rules.proofs.Sides.{splits_back, splits_in_three_back}

-- what has two facts of each of a list, and three, has them together
pub both_of_each : {X : Type 0} (one other : X → Type 0) (xs : List X)
    → AllOf one xs → AllOf other xs → AllOf (λ x. one x × other x) xs
both_of_each one other [] each_one each_other = tt
both_of_each one other (x ∷ xs) each_one each_other =
    ((each_one.0, each_other.0), both_of_each one other xs each_one.1 each_other.1)

pub three_of_each : {X : Type 0} (one other last : X → Type 0) (xs : List X) → AllOf one xs → AllOf other xs → AllOf last xs
    → AllOf (λ x. one x × other x × last x) xs
three_of_each one other last [] each_one each_other each_last = tt
three_of_each one other last (x ∷ xs) each_one each_other each_last =
    ((each_one.0, each_other.0, each_last.0), three_of_each one other last xs each_one.1 each_other.1 each_last.1)

-- what answers the question of these parts answers so at the part of each
pub parts_of_asked : {X : Type 0} (answers : Answers) (part : X → NodeId) (wanted refused : List X)
    → asked answers (question (map part wanted) (map part refused)) true
    → AllOf (λ parts. answers (part parts) true) wanted × AllOf (λ parts. answers (part parts) false) refused
parts_of_asked answers part wanted refused is =
    let each = each_of_asked answers (map part wanted) (map part refused) is in
    (map_of_each part (λ id. answers id true) wanted each.0, map_of_each part (λ id. answers id false) refused each.1)

-- the same where one node more is wanted
pub parts_of_asked_more : {X : Type 0} (answers : Answers) (more : NodeId) (part : X → NodeId) (wanted refused : List X)
    → asked answers (question (more ∷ map part wanted) (map part refused)) true
    → answers more true × AllOf (λ parts. answers (part parts) true) wanted
    × AllOf (λ parts. answers (part parts) false) refused
parts_of_asked_more answers more part wanted refused is =
    let each = each_of_asked answers (more ∷ map part wanted) (map part refused) is in (
      each.0.0,
      map_of_each part (λ id. answers id true) wanted each.0.1,
      map_of_each part (λ id. answers id false) refused each.1,
    )

-- a pair whose parts meet both questions of a way is in the clause
pub pairs_back : (first second : Answers) (wanted refused : List Pair) (sides : List Pair × List Pair)
    → AnyOf (λ other. other ≡ sides) (splits refused)
    → asked first (question (map (λ parts. parts.0) wanted) (map (λ parts. parts.0) sides.0)) true
    → asked second (question (map (λ parts. parts.1) wanted) (map (λ parts. parts.1) sides.1)) true
    → AllOf (λ parts. pair_reader first second (formula.Pair parts.0 parts.1) true) wanted
    × AllOf (λ parts. pair_reader first second (formula.Pair parts.0 parts.1) false) refused
pairs_back first second wanted refused sides is of_first of_second =
    let at_first = parts_of_asked first (λ (parts : Pair). parts.0) wanted sides.0 of_first in
    let at_second = parts_of_asked second (λ (parts : Pair). parts.1) wanted sides.1 of_second in (
      both_of_each (λ (parts : Pair). first parts.0 true) (λ parts. second parts.1 true) wanted at_first.0 at_second.0,
      splits_back (λ (parts : Pair). first parts.0 false) (λ parts. second parts.1 false) refused sides is
          at_first.1 at_second.1,
    )

-- an XML element whose parts meet all questions of a way is in the clause, and its tag is an atom, its attributes a record
pub xmls_back : (tag attributes content : Answers) (wanted refused : List Triple)
    (sides : List Triple × List Triple × List Triple)
    → AnyOf (λ other. other ≡ sides) (splits_in_three refused)
    → asked tag (question (ATOM ∷ map (λ parts. parts.0) wanted) (map (λ parts. parts.0) sides.0)) true
    → asked attributes (question (RECORD ∷ map (λ parts. parts.1) wanted) (map (λ parts. parts.1) sides.1)) true
    → asked content (question (map (λ parts. parts.2) wanted) (map (λ parts. parts.2) sides.2)) true
    → tag ATOM true × attributes RECORD true
    × AllOf (λ parts. xml_reader tag attributes content (formula.Xml parts.0 parts.1 parts.2) true) wanted
    × AllOf (λ parts. xml_reader tag attributes content (formula.Xml parts.0 parts.1 parts.2) false) refused
xmls_back tag attributes content wanted refused sides is of_tag of_attributes of_content =
    let at_tag = parts_of_asked_more tag ATOM (λ (parts : Triple). parts.0) wanted sides.0 of_tag in
    let at_attributes = parts_of_asked_more attributes RECORD (λ (parts : Triple). parts.1) wanted sides.1 of_attributes in
    let at_content = parts_of_asked content (λ (parts : Triple). parts.2) wanted sides.2 of_content in (
      at_tag.0,
      at_attributes.0,
      three_of_each (λ (parts : Triple). tag parts.0 true) (λ parts. attributes parts.1 true)
          (λ parts. content parts.2 true) wanted at_tag.1 at_attributes.1 at_content.0,
      splits_in_three_back (λ (parts : Triple). tag parts.0 false) (λ parts. attributes parts.1 false)
          (λ parts. content parts.2 false) refused sides is at_tag.2 at_attributes.2 at_content.1,
    )
