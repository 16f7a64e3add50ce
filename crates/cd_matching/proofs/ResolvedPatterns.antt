-- A pattern whose nodes stand for written types stands for the written pattern, and does so in
-- each longer graph.
use Rattle.std.proofs.Common.{◌++◌, Bool, Option}
use Rattle.cd_sets.specs.declared.node_id.NodeId.{NodeId}
use Rattle.cd_syntax.specs.Name.{Name}
use Rattle.cd_syntax.specs.TypeTree.{Tree}
use Rattle.cd_model.proofs.StandsKept.{stands_kept}
use Rattle.cd_model.specs.Formula.{Graph, IsGraph, in_node}
use Rattle.cd_model.specs.Interfaces.{value_in_node, value_in_written}
use Rattle.cd_model.specs.Scope.{Scope}
use Rattle.cd_model.specs.StandsFor.{StandsFor}
use Rattle.cd_model.specs.Thing.{Thing, IsElement, IsValue}
use Rattle.cd_model.specs.Written.{in_written}
use Rattle.std.specs.Prelude.{◌↔◌}
use Rattle.cd_matching.specs.Captures.{Captures}
use Rattle.cd_matching.specs.Naming.{IsNamed}
use Rattle.cd_matching.specs.Pattern.{Pattern}
use Rattle.cd_matching.specs.PatternsAlike.{Alike}
use Rattle.cd_matching.specs.Takes.{Answering, IsRight, Takes, PatternStandsFor, IsResolved}
use Rattle.cd_matching.specs.WrittenPattern.{pattern_of}
use Rattle.cd_matching.proofs.NamedAlike.{named_alike}
use Rattle.cd_matching.proofs.PatternsAlike.{composed, turned, alike_too}

-- the same things are taken where the types answer alike at each place
module _ {T U : Type 0} (answers : Answering T) (others : Answering U) (Of : Thing → Type 0)
    (Are : T → U → Type 0)
    (agree : (t : T) (u : U) → Are t u → (d : Thing) (answer : Bool) → Of d
    → answers d t answer → others d u answer) where
  taken_too : (p : Pattern T) (q : Pattern U) (d : Thing) (result : Option (Captures Name))
      → Alike Are p q → Takes answers Of p d result → Takes others Of q d result
  taken_too p q d result alike takes = record {
    tested = takes.tested;
    right = composed Are (IsRight answers Of) (IsRight others Of)
        (λ t u test are right e is. agree t u are e (test e) is (right e is))
        p q takes.tested alike takes.right;
    gives = takes.gives;
  }

module _ {T U : Type 0} (answers : Answering T) (others : Answering U) (Of : Thing → Type 0)
    (Are : T → U → Type 0)
    (agree : (t : T) (u : U) → Are t u → (d : Thing) (answer : Bool) → Of d
    → answers d t answer ↔ others d u answer) where
  taken_alike : (p : Pattern T) (q : Pattern U) (d : Thing) (result : Option (Captures Name))
      → Alike Are p q → Takes answers Of p d result ↔ Takes others Of q d result
  taken_alike p q d result alike = (
    taken_too answers others Of Are (λ t u are e answer is. (agree t u are e answer is).0)
        p q d result alike,
    taken_too others answers Of (λ u t. Are t u)
        (λ u t are e answer is. (agree t u are e answer is).1)
        q p d result (turned Are p q alike),
  )

pub resolved_stands : (graph : Graph) (p : Pattern NodeId) (scope : Scope) (written : Tree)
    → IsResolved graph p scope written → IsNamed (pattern_of scope written)
    → PatternStandsFor graph p scope written
resolved_stands graph p scope written resolved named = record {
  elements = λ e result is. taken_alike (in_node graph) in_written IsElement (StandsFor graph)
      (λ id type stands. stands.elements) p (pattern_of scope written) e result resolved;
  values = λ interfaces v result is. taken_alike (value_in_node graph interfaces)
      (value_in_written interfaces) IsValue (StandsFor graph)
      (λ id type stands. stands.values interfaces) p (pattern_of scope written) v result resolved;
  named = named_alike (StandsFor graph) p (pattern_of scope written) resolved named;
}

pub resolved_kept : (graph more : Graph) (p : Pattern NodeId) (scope : Scope) (written : Tree)
    → IsGraph graph → IsResolved graph p scope written → IsResolved (graph ++ more) p scope written
resolved_kept graph more p scope written sound =
    alike_too (StandsFor graph) (StandsFor (graph ++ more))
    (λ id type. stands_kept graph more id type sound) p (pattern_of scope written)
