-- What a check goes by is ready, where its parts were put into a graph one after the other.
use Rattle.std.proofs.Common.{◌≡◌, ◌∙◌, ◌<◌, Bool, true, false, [], ◌++◌, refl, sym, ap, subst, map, length, append_assoc, codes}
use Rattle.std.specs.Str.{chars}
use Rattle.cd_sets.specs.declared.node_id.NodeId.{NodeId}
use Rattle.cd_syntax.specs.Name.{Name, IsLabel}
use Rattle.cd_model.specs.AllOf.{AllOf}
use Rattle.cd_model.specs.BuiltIns.{built_ins}
use Rattle.cd_model.specs.Formula.{Graph, IsGraph}
use Rattle.cd_model.specs.Thing.{Thing, Atom}
use Rattle.cd_meaning.specs.Sets.{◌⊆◌, elements_of}
use Rattle.cd_operators.specs.Tools.{AreTools}
use Rattle.cd_typing.specs.Later.{IsLater}
use Rattle.cd_typing.specs.Operators.{truth}
use Rattle.cd_typing.proofs.Later.{later_still}
use Rattle.cd_placed.specs.Patterns.{all_patterns}
use Rattle.cd_resolved.specs.Resolved.{IsResolved, function_nodes}
use Rattle.cd_check.specs.declared.base.Base.{Base}
use Rattle.cd_check.specs.Inner.Divided.{AreSited, sited_pattern}
use Rattle.cd_check.specs.Inner.Promises.{IsPromised}
use Rattle.cd_check.specs.Inner.Environment.{AreNodesOf}
use Rattle.cd_check.specs.Inner.Programs.{IsAtomNode}
use Rattle.cd_check.specs.Inner.Ready.{IsReady, IsTruth, program_of, scope_of, seen_by}
use Rattle.cd_check.proofs.Divided.{all_sited_later}
use Rattle.cd_check.proofs.Tests.{is_truth}
use Rattle.cd_check.proofs.ReadyLater.{promised_later, nodes_of_later, tools_later, truth_later}

pub true_characters : chars (codes "true") ≡ codes "true"
unfolding chars
true_characters = refl

pub false_characters : chars (codes "false") ≡ codes "false"
unfolding chars
false_characters = refl

-- a node of an atom that is a truth value
pub truth_of : (graph : Graph) (value : Bool) (name : Name) (id : NodeId) → Atom name ≡ truth value → id.0 < length graph
    → IsAtomNode graph name id → IsTruth graph value id
truth_of graph value name id same below is = record {
  is_node = below;
  only = subst (λ (thing : Thing). elements_of graph id ⊆ (λ d. d ≡ thing)) same is.only;
  has = subst (λ (thing : Thing). (λ d. d ≡ thing) ⊆ elements_of graph id) same is.has;
}

-- the tools are put into a graph, and then the one truth value and the other one
module _ (base : Base) (start tooled one last : Graph) (sound : IsGraph start) (first : IsLater start tooled) (second : IsLater tooled one)
    (third : IsLater one last) where
  pub base_ready : (more : Graph) → start ≡ built_ins ++ more → AreNodesOf start (seen_by base [])
      → IsResolved base.resolved.now → map sited_pattern base.sites.now ≡ all_patterns (program_of base)
      → AreSited start (scope_of base) base.sites.now → AllOf (IsPromised (scope_of base) start) (function_nodes base.resolved.now)
      → AreTools tooled base.tools → IsTruth one true base.yes → IsTruth last false base.no → IsReady base last []
  base_ready more begins nodes resolved patterns sited promised tools is_yes is_no = record {
    more = more ++ all.more;
    begins = all.is ∙ ap (λ graph. graph ++ all.more) begins ∙ append_assoc built_ins more all.more;
    sound = third.sound;
    nodes = nodes_of_later start last all sound (seen_by base []) nodes;
    resolved = resolved;
    patterns = patterns;
    sited = all_sited_later start last all (scope_of base) base.sites.now sited;
    promised = promised_later start last all sound (scope_of base) (function_nodes base.resolved.now) promised;
    tools = tools_later tooled last (later_still tooled one last second third) first.sound base.tools tools;
    yes = truth_later one last third second.sound true base.yes is_yes;
    no = is_no;
  }
    where
      all : IsLater start last
      all = later_still start tooled last first (later_still tooled one last second third)

pub true_label : IsLabel (chars (codes "true"))
true_label = subst (λ (name : Name). IsLabel name) (sym true_characters) (is_truth true)

pub false_label : IsLabel (chars (codes "false"))
false_label = subst (λ (name : Name). IsLabel name) (sym false_characters) (is_truth false)
