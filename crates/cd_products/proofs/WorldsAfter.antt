-- What is after a world that is after another is after the other, and a test stays right.
use Rattle.std.proofs.Common.{Bool, List, sym, subst, ◌∙◌}
use Rattle.cd_sets.specs.declared.question.Question.{Question}
use Rattle.cd_empty.specs.Seen.{Seen, graph_of}
use Rattle.cd_empty.proofs.GrowingWorlds.{and_further}
use Rattle.cd_products.specs.Inner.After.{IsAfter}
use Rattle.cd_products.specs.Inner.Tests.{IsTest}

pub and_after : (first second third : Seen) → IsAfter first second → IsAfter second third
    → IsAfter first third
and_after first second third one other = record {
  graph = other.graph ∙ one.graph;
  grows = and_further first second third one.grows other.grows;
}

pub test_after : (old new : Seen) → IsAfter old new → (test : List Question → Bool)
    → IsTest (graph_of old) test → IsTest (graph_of new) test
test_after old new after test is = subst (λ graph. IsTest graph test) (sym after.graph) is
