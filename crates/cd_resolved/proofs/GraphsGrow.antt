-- Graphs that grow: nodes of names, kernels and interfaces are right in each longer graph.
use Rattle.std.proofs.Common.{◌≡◌, ◌<◌, ◌++◌, ℕ, zero, suc, List, [], ◌∷◌, length, length-append, append-nil, append_assoc, sym, ap, subst, refl, ◌∙◌, arith}
use Rattle.cd_sets.specs.declared.node_id.NodeId.{NodeId}
use Rattle.cd_model.specs.AllOf.{AllOf}
use Rattle.cd_model.specs.BuiltIns.{node}
use Rattle.cd_model.specs.Formula.{Graph, IsGraph, formula_at}
use Rattle.cd_model.specs.Scope.{Scope}
use Rattle.cd_model.proofs.Ones.{each_weaker}
use Rattle.cd_model.proofs.StandsKept.{stands_kept}
use Rattle.cd_matching.specs.WrittenPattern.{in_scope}
use Rattle.cd_program.specs.Expr.{Signature}
use Rattle.cd_resolve.specs.Named.{Names, AreNamed}
use Rattle.cd_resolve.proofs.Kept.{names_kept}
use Rattle.cd_names.specs.Arrows.{AreArrows}
use Rattle.cd_meet.specs.Meets.{IsMeet}
use Rattle.cd_resolved.specs.Interfaces.{HasInterface}
use Rattle.cd_resolved.specs.Resolved.{HasNodes}
use Rattle.cd_resolved.specs.declared.function_nodes.FunctionNodes.{FunctionNodes}

-- a graph that begins with another one
abbrev pub Grows : Graph → Graph → Type 0
Grows old new = (more : Graph) × (new ≡ old ++ more)

pub as_it_was : (old : Graph) → Grows old old
as_it_was old = ([], sym (append-nil old))

pub kept : (old new : Graph) → new ≡ old → Grows old new
kept old new same = ([], same ∙ sym (append-nil old))

pub further : (old mid new : Graph) → Grows old mid → Grows mid new → Grows old new
further old mid new first second = (
  first.0 ++ second.0,
  second.1 ∙ ap (λ all. all ++ second.0) first.1 ∙ append_assoc old first.0 second.0,
)

-- names
pub names_grown : (graph new : Graph) (names : Names) → IsGraph graph → Grows graph new → AreNamed graph names → AreNamed new names
names_grown graph new names sound grown are =
    subst (λ g. AreNamed g names) (sym grown.1) (names_kept graph grown.0 names sound are)

-- old nodes
old_formula : (graph more : Graph) (n : ℕ) → n < length graph → formula_at (graph ++ more) (node n) ≡ formula_at graph (node n)
old_formula [] more n below = absurd (omega (arith, below))
old_formula (f ∷ graph) more zero below = refl
old_formula (f ∷ graph) more (suc n) below = old_formula graph more n (omega arith)

-- arrows of interfaces, and their meets
module _ (graph more : Graph) where
  pub arrows_stay : (scope : Scope) → IsGraph graph → (interface : List Signature) (arrows : List (NodeId × NodeId))
      → AreArrows scope graph interface arrows → AreArrows scope (graph ++ more) interface arrows
  arrows_stay scope sound [] [] are = tt
  arrows_stay scope sound [] (arrow ∷ arrows) are = absurd are
  arrows_stay scope sound (one ∷ rest) [] are = absurd are
  arrows_stay scope sound (one ∷ rest) (arrow ∷ arrows) are = (
    stands_kept graph more arrow.0 (in_scope scope one.takes) sound are.0,
    stands_kept graph more arrow.1 (in_scope scope one.gives) sound are.1,
    arrows_stay scope sound rest arrows are.2,
  )

  pub meet_stays : (arrows : List (NodeId × NodeId)) (id : NodeId) → IsMeet graph arrows id → IsMeet (graph ++ more) arrows id
  meet_stays arrows id meet = record {
    is_node = omega (arith, meet.is_node, length-append graph more);
    formula = old_formula graph more id.0 meet.is_node ∙ meet.formula;
  }

  pub interface_stays : (scope : Scope) → IsGraph graph → (interface : List Signature) (arrows : List (NodeId × NodeId)) (whole : NodeId)
      → HasInterface scope graph interface arrows whole → HasInterface scope (graph ++ more) interface arrows whole
  interface_stays scope sound interface arrows whole has = record {
    arrows_stand = arrows_stay scope sound interface arrows has.arrows_stand;
    is_meet = meet_stays arrows whole has.is_meet;
  }

-- as graphs that grew
pub arrows_grown : (scope : Scope) (graph new : Graph) → IsGraph graph → Grows graph new → (interface : List Signature)
    (arrows : List (NodeId × NodeId)) → AreArrows scope graph interface arrows → AreArrows scope new interface arrows
arrows_grown scope graph new sound grown interface arrows are =
    subst (λ g. AreArrows scope g interface arrows) (sym grown.1) (arrows_stay graph grown.0 scope sound interface arrows are)

pub interfaces_grown : (scope : Scope) (graph new : Graph) → IsGraph graph → Grows graph new → (all : List FunctionNodes)
    → AllOf (HasNodes scope graph) all → AllOf (HasNodes scope new) all
interfaces_grown scope graph new sound grown all have = subst (λ g. AllOf (HasNodes scope g) all) (sym grown.1)
    (each_weaker (HasNodes scope graph) (HasNodes scope (graph ++ grown.0))
    (λ one. interface_stays graph grown.0 scope sound _ one.arrows.items one.whole) all have)
