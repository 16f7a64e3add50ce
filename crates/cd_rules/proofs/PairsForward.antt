-- A pair of a clause has its parts in both questions of one of the ways of the clause's need.
use Rattle.std.proofs.Common.{true, false, List, [], ◌∷◌, map}
use Rattle.cd_sets.specs.declared.node_id.NodeId.{NodeId}
use Rattle.cd_sets.specs.declared.question.Question.{Question}
use Rattle.cd_model.specs.AllOf.{AllOf, AnyOf}
use Rattle.cd_model.specs.Formula as formula
use Rattle.cd_model.specs.Membership.{Answers, asked, pair_reader}
use Rattle.cd_rules.specs.Clauses.{Pair}
use Rattle.cd_rules.specs.InWay.{AreInWay}
use Rattle.cd_rules.specs.Needs.{Way, question, pair_way, splits}
use Rattle.cd_rules.proofs.Asking.{each_of_map, asked_of_each}
use Rattle.cd_model.proofs.Ones.{each_weaker, one_weaker, one_of_map}
use Rattle.cd_rules.proofs.Sides.{HaveBoth, one_splits}
use Rattle.cd_rules.proofs.Things.{IsAskedFact}

-- what answers so at one part of each of some pairs of nodes answers the question of these parts
pub asked_of_parts : {X : Type 0} (answers : Answers) (part : X → NodeId) (wanted refused : List X)
    → AllOf (λ parts. answers (part parts) true) wanted → AllOf (λ parts. answers (part parts) false) refused
    → asked answers (question (map part wanted) (map part refused)) true
asked_of_parts answers part wanted refused inside outside = asked_of_each answers (map part wanted) (map part refused)
    (each_of_map part (λ id. answers id true) wanted inside) (each_of_map part (λ id. answers id false) refused outside)

-- where parts are in the questions of a way, what is so of each question that a part is in is so of all of them
abbrev pub EachGives : (Question → Type 0) → List Answers → Type 0
EachGives Fact [] = Unit {0}
EachGives Fact (answers ∷ parts) = IsAskedFact Fact answers × EachGives Fact parts

pub facts_of_way : (Fact : Question → Type 0) (parts : List Answers) → EachGives Fact parts → (way : Way) → AreInWay parts way → AllOf Fact way
facts_of_way Fact [] gives [] within = tt
facts_of_way Fact [] gives (question ∷ way) within = absurd within
facts_of_way Fact (answers ∷ parts) gives [] within = absurd within
facts_of_way Fact (answers ∷ parts) gives (question ∷ way) within =
    (gives.0 question within.0, facts_of_way Fact parts gives.1 way within.1)

-- a pair of a clause has its parts in one way
pub pair_in_way : (first second : Answers) (wanted refused : List Pair)
    → AllOf (λ parts. pair_reader first second (formula.Pair parts.0 parts.1) true) wanted
    → AllOf (λ parts. pair_reader first second (formula.Pair parts.0 parts.1) false) refused
    → AnyOf (AreInWay (first ∷ second ∷ [])) (map (pair_way wanted) (splits refused))
pair_in_way first second wanted refused inside outside =
    one_of_map (pair_way wanted) (AreInWay (first ∷ second ∷ [])) (splits refused)
    (one_weaker (HaveBoth out_first out_second) (λ given. AreInWay (first ∷ second ∷ []) (pair_way wanted given)) of_way (splits refused)
    (one_splits out_first out_second refused outside))
  where
    out_first : Pair → Type 0
    out_first = λ parts. first parts.0 false

    out_second : Pair → Type 0
    out_second = λ parts. second parts.1 false

    in_first : AllOf (λ (parts : Pair). first parts.0 true) wanted
    in_first = each_weaker (λ (parts : Pair). first parts.0 true × second parts.1 true) (λ parts. first parts.0 true) (λ parts is. is.0) wanted inside

    in_second : AllOf (λ (parts : Pair). second parts.1 true) wanted
    in_second = each_weaker (λ (parts : Pair). first parts.0 true × second parts.1 true) (λ parts. second parts.1 true) (λ parts is. is.1) wanted inside

    of_way : (given : List Pair × List Pair) → HaveBoth out_first out_second given
        → AreInWay (first ∷ second ∷ []) (pair_way wanted given)
    of_way given both = (
      asked_of_parts first (λ parts. parts.0) wanted given.0 in_first both.0,
      (asked_of_parts second (λ parts. parts.1) wanted given.1 in_second both.1, tt),
    )

-- so what is so of each question that a part of it is in is so of both questions of one way
pub pairs_forward : (first second : Answers) (Fact : Question → Type 0) → IsAskedFact Fact first → IsAskedFact Fact second
    → (wanted refused : List Pair)
    → AllOf (λ parts. pair_reader first second (formula.Pair parts.0 parts.1) true) wanted
    → AllOf (λ parts. pair_reader first second (formula.Pair parts.0 parts.1) false) refused
    → AnyOf (AllOf Fact) (map (pair_way wanted) (splits refused))
pairs_forward first second Fact of_first of_second wanted refused inside outside =
    one_weaker (AreInWay (first ∷ second ∷ [])) (AllOf Fact)
    (facts_of_way Fact (first ∷ second ∷ []) (of_first, (of_second, tt)))
    (map (pair_way wanted) (splits refused)) (pair_in_way first second wanted refused inside outside)
