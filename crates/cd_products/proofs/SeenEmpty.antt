-- Questions that are seen to have no element.
use Rattle.std.proofs.Common.{◌≡◌, ◌≤◌, ◌-◌, true, List, [], ◌∷◌, length, take, drop, get_or}
use Rattle.std.proofs.Common.{inl, inr, subst, arith}
use Rattle.std.proofs.Math.Seq.{take-length}
use Rattle.std.specs.List.{list_any}
use Rattle.cd_sets.specs.declared.node_id.NodeId.{NodeId}
use Rattle.cd_sets.specs.declared.question.Question.{Question}
use Rattle.cd_sets.specs.IdSet.{holds}
use Rattle.cd_model.specs.Formula.{Graph, in_node}
use Rattle.cd_rules.proofs.Subsumption.{contradicts_none}
use Rattle.cd_verdicts.proofs.QuestionsSeen.{contradiction_is_subsumed}
use Rattle.cd_products.specs.Inner.Apart.{HasNone, ShareNothing, OneIsApart}
use Rattle.cd_products.proofs.Decided.{elements_apart}

-- one that wants a node that it refuses
pub contradicts_has_none : (graph : Graph) (question : Question)
    → list_any (holds question.neg) question.pos ≡ true → HasNone graph question
contradicts_has_none graph question is has = elim (contradiction_is_subsumed [] question is) [
  | inl none ↦ absurd none
  | inr contradicts ↦ contradicts_none (in_node graph has.0) (elements_apart graph has.0) question
      contradicts has.2
]

-- nodes of which the first has nothing in common with one of the others
first_apart : (graph : Graph) (first : NodeId) (others : List NodeId)
    → OneIsApart graph first others → ShareNothing graph (first ∷ others)
first_apart graph first [] apart e element each = absurd apart
first_apart graph first (other ∷ others) (inl apart) e element each =
    apart e element each.0 each.1.0
first_apart graph first (other ∷ others) (inr later) e element each =
    first_apart graph first others later e element (each.0, each.1.1)

pub one_apart : (graph : Graph) (ids : List NodeId) (none : NodeId) → 1 ≤ length ids
    → OneIsApart graph (get_or ids 0 none) (take (length ids - 1) (drop 1 ids))
    → ShareNothing graph ids
one_apart graph [] none some apart = absurd (omega arith)
one_apart graph (first ∷ others) none some apart =
    let count : length (first ∷ others) - 1 ≡ length others = omega arith in
    first_apart graph first others (subst (OneIsApart graph first) (take-length others)
    (subst (λ n. OneIsApart graph first (take n others)) count apart))
