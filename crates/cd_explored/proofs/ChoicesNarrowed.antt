-- Questions of elements and values, narrowed by the first of two nodes.
use Rattle.std.proofs.Common.{◌≡◌, ◌++◌, true, false, [], ◌∷◌, ap, subst, sym, ◌∙◌, append_assoc}
use Rattle.std.proofs.Common.{append-nil, List, length}
use Rattle.cd_sets.specs.declared.node_id.NodeId.{NodeId}
use Rattle.cd_sets.specs.declared.question.Question.{Question}
use Rattle.cd_sets.specs.IdSet.{holds}
use Rattle.cd_model.specs.BuiltIns.{built_ins}
use Rattle.cd_model.specs.Formula.{Graph, IsGraph, in_node}
use Rattle.cd_model.specs.Interfaces.{Interfaces, value_in_node}
use Rattle.cd_model.specs.Thing.{Thing, IsElement, IsValue}
use Rattle.cd_rules.specs.Family.{AsksNodes}
use Rattle.cd_rules.specs.Needs as needs
use Rattle.cd_verdicts.specs.Verdicts.{IsExact}
use Rattle.cd_verdicts.specs.declared.verdict.Verdict.{Verdict}
use Rattle.cd_verdicts.specs.declared.verdict.Verdict.TheVariants.{Empty}
use Rattle.cd_products.specs.Products.{AreInterfacesOf}
use Rattle.cd_products.specs.QuestionBoxes.{AreDecided, within_node, without_node}
use Rattle.cd_products.proofs.Decided.{elements_decided}
use Rattle.cd_filter.proofs.ValuesDecided.{decided}
use Rattle.cd_explored.specs.Inner.Choices.{IsChoice, IsSwapped, HasNothing}
use Rattle.cd_explored.specs.Inner.NodeSteps.{AreNarrowed}
use Rattle.cd_explored.proofs.Narrowed.{within_asks, without_asks}
use Rattle.cd_explored.proofs.NarrowedChoices as narrowed
use Rattle.cd_explored.proofs.ReplacedNodes.{swapped_asks}

-- a verdict that a question is empty
pub nothing_if_empty : (graph : Graph) (table : List Thing) (question : Question)
    (verdict : Verdict) → IsExact graph table question verdict → verdict ≡ Empty
    → HasNothing graph question
nothing_if_empty graph table question verdict exact is =
    subst (IsExact graph table question) is exact

module _ (graph : Graph) (own first second : NodeId) (choice : IsChoice graph own first second)
    (question : Question) (asks : AsksNodes (length graph) question) where
  -- what is in the first node
  pub taken_narrowed : (swapped taken : Question) → IsSwapped own first question swapped
      → taken ≡ within_node first swapped → AreNarrowed graph true first question taken
  taken_narrowed swapped taken is same = subst (AreNarrowed graph true first question) (sym same)
      (record {
        elements = narrowed.taken_narrows (in_node graph) IsElement own first second
            choice.elements question swapped is;
        values = λ more interfaces sound arrows. narrowed.taken_narrows
            (value_in_node (graph ++ more) interfaces) IsValue own first second
            (choice.values more interfaces sound arrows) question swapped is;
        asks = within_asks (length graph) first swapped choice.first_within
            (swapped_asks (length graph) own first question swapped is choice.first_within asks);
      })

  -- and what is outside it
  module _ (rest : Question) (is : IsSwapped own second question rest) where
    rest_asks : AsksNodes (length graph) rest
    rest_asks = swapped_asks (length graph) own second question rest is choice.second_within asks

    pub rest_narrowed : (others : Question) → others ≡ without_node first rest
        → AreNarrowed graph false first question others
    rest_narrowed others same = subst (AreNarrowed graph false first question) (sym same)
        (record {
          elements = narrowed.rest_narrows (in_node graph) IsElement own first second
              choice.elements question rest is;
          values = λ more interfaces sound arrows. narrowed.rest_narrows
              (value_in_node (graph ++ more) interfaces) IsValue own first second
              (choice.values more interfaces sound arrows) question rest is;
          asks = without_asks (length graph) first rest choice.first_within rest_asks;
        })

    module _ (begins : Graph) (built_in : graph ≡ built_ins ++ begins) where
      values_decided : (more : Graph) (interfaces : Interfaces) → IsGraph (graph ++ more)
          → AreInterfacesOf (graph ++ more) interfaces
          → AreDecided (value_in_node (graph ++ more) interfaces) IsValue
      values_decided more interfaces sound arrows = decided (graph ++ more) interfaces (record {
        others = begins ++ more;
        built_in = ap (λ g. g ++ more) built_in ∙ append_assoc built_ins begins more;
        sound = sound;
        later = [];
        still_sound = subst IsGraph (sym (append-nil (graph ++ more))) sound;
        arrows = subst (λ g. AreInterfacesOf g interfaces) (sym (append-nil (graph ++ more)))
            arrows;
      })

      -- where nothing is taken, the rest is all outside
      pub untaken_narrowed : (taken : Question) → AreNarrowed graph true first question taken
          → HasNothing graph taken → AreNarrowed graph false first question rest
      untaken_narrowed taken inside none = record {
        elements = narrowed.rest_untaken (in_node graph) IsElement own first second
            choice.elements question rest is (elements_decided graph) taken inside.elements none.0;
        values = λ more interfaces sound arrows. narrowed.rest_untaken
            (value_in_node (graph ++ more) interfaces) IsValue own first second
            (choice.values more interfaces sound arrows) question rest is
            (values_decided more interfaces sound arrows) taken
            (inside.values more interfaces sound arrows) (none.1 more interfaces);
        asks = rest_asks;
      }

      -- and where the nodes are apart
      pub apart_narrowed : holds question.pos own ≡ true
          → HasNothing graph (needs.question (first ∷ second ∷ []) [])
          → AreNarrowed graph false first question rest
      apart_narrowed wanted none = record {
        elements = narrowed.rest_apart (in_node graph) IsElement own first second
            choice.elements question rest is (elements_decided graph) wanted none.0;
        values = λ more interfaces sound arrows. narrowed.rest_apart
            (value_in_node (graph ++ more) interfaces) IsValue own first second
            (choice.values more interfaces sound arrows) question rest is
            (values_decided more interfaces sound arrows) wanted (none.1 more interfaces);
        asks = rest_asks;
      }
