-- The nodes of the truth values hold these alone.
use Rattle.std.proofs.Common.{◌≡◌, subst, Bool, true, false}
use Rattle.cd_sets.specs.declared.node_id.NodeId.{NodeId}
use Rattle.cd_model.specs.Formula.{Graph}
use Rattle.cd_meaning.specs.Sets.{◌⊆◌, elements_of}
use Rattle.cd_typing.specs.Operators.{truth}
use Rattle.cd_check.specs.declared.base.Base.{Base}
use Rattle.cd_check.specs.Inner.Environment.{Nodes}
use Rattle.cd_check.specs.Inner.Ready.{IsReady}
use Rattle.cd_check.specs.Inner.Sides.{truth_node, AreTogether}
use Rattle.cd_check.proofs.SidesLeast.{together_truth}

pub truth_held : (base : Base) (graph : Graph) (locals : Nodes) → IsReady base graph locals → (value : Bool)
    → (λ d. d ≡ truth value) ⊆ elements_of graph (truth_node base value)
truth_held base graph locals ready true = ready.yes.has
truth_held base graph locals ready false = ready.no.has

pub truth_alone : (base : Base) (graph : Graph) (locals : Nodes) → IsReady base graph locals → (value : Bool)
    → elements_of graph (truth_node base value) ⊆ (λ d. d ≡ truth value)
truth_alone base graph locals ready true = ready.yes.only
truth_alone base graph locals ready false = ready.no.only

-- what is tested has the value, where an element is in both nodes
pub tested_has : (base : Base) (graph : Graph) (locals : Nodes) → IsReady base graph locals → (tested id : NodeId) (value : Bool)
    → id ≡ truth_node base value → AreTogether (elements_of graph tested) (elements_of graph id) → elements_of graph tested (truth value)
tested_has base graph locals ready tested id value is both =
    together_truth graph tested (truth_node base value) value (truth_alone base graph locals ready value)
    (subst (λ (node : NodeId). AreTogether (elements_of graph tested) (elements_of graph node)) is both)
