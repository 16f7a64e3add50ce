-- A number beyond those of a graph holds nothing, as the first node does. So each question asks what one of sets of nodes asks.
use Rattle.std.proofs.Common.{◌≡◌, ℕ, zero, suc, ◌<◌, ◌≤◌, Bool, true, false, List, [], ◌∷◌, ◌++◌, map, length, length-append, refl, sym, ◌∙◌, ap, subst, arith, nat_lt, if◌then◌else◌}
use Rattle.std.proofs.lemmas.Bool.{ltb-true, ltb-false}
use Rattle.cd_sets.specs.declared.node_id.NodeId.{NodeId}
use Rattle.cd_sets.specs.declared.question.Question.{Question}
use Rattle.cd_model.specs.BuiltIns.{built_ins, node, EMPTY}
use Rattle.cd_model.specs.AllOf.{AllOf}
use Rattle.cd_model.specs.Formula.{Graph, Nothing, formula_at, holds}
use Rattle.cd_model.specs.Membership.{Reader, asked, at_nodes}
use Rattle.cd_rules.specs.Family.{AsksNodes}
use Rattle.cd_rules.specs.Needs.{question}
use Rattle.cd_rules.proofs.Answered.{map_of_each, each_of_asked}
use Rattle.cd_rules.proofs.Asking.{each_of_map, each_of_set, asked_of_each}
use Rattle.cd_model.proofs.Ones.{each_weaker, each_of_all}

pub beyond : (graph : Graph) (id : ℕ) → length graph ≤ id → formula_at graph (node id) ≡ Nothing
beyond [] id least = refl
beyond (is ∷ graph) zero least = absurd (omega arith)
beyond (is ∷ graph) (suc id) least = beyond graph id (omega arith)

module _ (graph more : Graph) (begins : graph ≡ built_ins ++ more) where
  pub has_built_ins : 14 ≤ length graph
  has_built_ins = let count = ap length begins in omega (arith, count, length-append built_ins more)

  first_is_empty : formula_at graph EMPTY ≡ Nothing
  first_is_empty = rw begins refl

  -- the node itself, or the first one
  abbrev chosen : Bool → NodeId → NodeId
  chosen below id = if below then id else EMPTY

  abbrev pub named : NodeId → NodeId
  named id = chosen (nat_lt id.0 (length graph)) id

  named_below : (id : NodeId) → (named id).0 < length graph
  named_below id = by_order (nat_lt id.0 (length graph)) (ltb-true id.0 (length graph))
    where
      by_order : (below : Bool) → (below ≡ true → id.0 < length graph) → (chosen below id).0 < length graph
      by_order true is = is refl
      by_order false is = let least = has_built_ins in omega arith

  named_alike : (id : NodeId) → formula_at graph (named id) ≡ formula_at graph id
  named_alike id = by_order (nat_lt id.0 (length graph)) (ltb-false id.0 (length graph))
    where
      by_order : (below : Bool) → (below ≡ false → length graph ≤ id.0) → formula_at graph (chosen below id) ≡ formula_at graph id
      by_order true not = refl
      by_order false not = first_is_empty ∙ sym (beyond graph id.0 (not refl))

  -- what is asked of sets of nodes, where this is asked
  abbrev pub of_nodes : Question → Question
  of_nodes one = question (map named one.pos) (map named one.neg)

  all_below : (ids : List NodeId) → AllOf (λ id. id.0 < length graph) (map named ids)
  all_below ids = each_of_map named (λ id. id.0 < length graph) ids
      (each_of_all (λ id. (named id).0 < length graph) named_below ids)

  pub asks_nodes : (one : Question) → AsksNodes (length graph) (of_nodes one)
  asks_nodes one = (
    each_of_set (λ id. id.0 < length graph) (map named one.pos) (all_below one.pos),
    each_of_set (λ id. id.0 < length graph) (map named one.neg) (all_below one.neg),
  )

  module _ (read : Reader) where
    abbrev Answered : (answer : Bool) → NodeId → Type 0
    Answered answer id = at_nodes graph read id answer

    there : (answer : Bool) (ids : List NodeId) → AllOf (Answered answer) ids → AllOf (Answered answer) (map named ids)
    there answer ids each = each_of_map named (Answered answer) ids
        (each_weaker (Answered answer) (λ id. Answered answer (named id))
        (λ id. subst (λ formula. holds read formula answer) (sym (named_alike id))) ids each)

    back : (answer : Bool) (ids : List NodeId) → AllOf (Answered answer) (map named ids) → AllOf (Answered answer) ids
    back answer ids each = each_weaker (λ id. Answered answer (named id)) (Answered answer)
        (λ id. subst (λ formula. holds read formula answer) (named_alike id)) ids
        (map_of_each named (Answered answer) ids each)

    pub asked_there : (one : Question) → asked (at_nodes graph read) one true → asked (at_nodes graph read) (of_nodes one) true
    asked_there one is = asked_of_each (at_nodes graph read) (map named one.pos) (map named one.neg)
        (there true one.pos is.0) (there false one.neg is.1)

    pub asked_back : (one : Question) → asked (at_nodes graph read) (of_nodes one) true → asked (at_nodes graph read) one true
    asked_back one is = let each = each_of_asked (at_nodes graph read) (map named one.pos) (map named one.neg) is in
        (back true one.pos each.0, back false one.neg each.1)
