-- Kernels of patterns stay right where the graph grows.
use Rattle.std.proofs.Common.{◌<◌, ◌++◌, ℕ, List, length, length-append, sym, subst, arith}
use Rattle.cd_syntax.specs.TypeTree.{Tree}
use Rattle.cd_sets.specs.declared.node_id.NodeId.{NodeId}
use Rattle.cd_model.specs.AllOf.{AllOf}
use Rattle.cd_model.specs.Formula.{Graph, IsGraph}
use Rattle.cd_model.specs.Scope.{Scope}
use Rattle.cd_model.proofs.Ones.{each_weaker}
use Rattle.cd_matching.specs.Kernel.{Kernel, KernelNode, Test, Bind, Put, Pair, Xml, Record, Both, First, Gather, IsSound, IsSoundNode}
use Rattle.cd_matching.specs.Kernel.{optional_types}
use Rattle.cd_matching.specs.PlainKernel.{plain_kernel}
use Rattle.cd_matching.proofs.ResolvedPatterns.{resolved_kept}
use Rattle.cd_resolved.specs.Kernels.{IsKernelOf}
use Rattle.cd_resolved.specs.Resolved.{HasKernel, pattern_of}
use Rattle.cd_resolved.specs.declared.pattern_kernel.PatternKernel.{PatternKernel}
use Rattle.cd_resolved.proofs.GraphsGrow.{Grows}

-- a kernel is sound where more are types
module _ {T : Type 0} (P Q : T → Type 0) (weaker : (type : T) → P type → Q type) where
  sound_node : (nodes : List (KernelNode T)) (variables : ℕ) (node : KernelNode T) → IsSoundNode nodes variables P node
      → IsSoundNode nodes variables Q node
  sound_node nodes variables (Test type) sound = weaker type sound
  sound_node nodes variables (Bind variable) sound = sound
  sound_node nodes variables (Put variable constant) sound = sound
  sound_node nodes variables (Pair first second) sound = sound
  sound_node nodes variables (Xml tag attributes content) sound = sound
  sound_node nodes variables (Record fields more) sound = (sound.0, sound.1, each_weaker P Q weaker (optional_types fields) sound.2)
  sound_node nodes variables (Both first second) sound = sound
  sound_node nodes variables (First first second) sound = sound
  sound_node nodes variables (Gather variable first second) sound = sound

  pub sound_weaker : (kernel : Kernel T) → IsSound P kernel → IsSound Q kernel
  sound_weaker kernel sound = record {
    root = sound.root;
    parts = sound.parts;
    nodes = each_weaker (IsSoundNode kernel.nodes (length kernel.variables) P) (IsSoundNode kernel.nodes (length kernel.variables) Q)
        (sound_node kernel.nodes (length kernel.variables)) kernel.nodes sound.nodes;
    ends = sound.ends;
    binds = sound.binds;
  }

module _ (graph more : Graph) (sound : IsGraph graph) (scope : Scope) where
  pub kernel_stays : (written : Tree) (kernel : Kernel NodeId) → IsKernelOf graph scope written kernel
      → IsKernelOf (graph ++ more) scope written kernel
  kernel_stays written kernel is = record {
    p = is.p;
    resolved = resolved_kept graph more is.p scope written sound is.resolved;
    named = is.named;
    alike = is.alike;
    sound = sound_weaker (λ id. id.0 < length graph) (λ id. id.0 < length (graph ++ more))
        (λ id below. omega (arith, below, length-append graph more)) kernel is.sound;
    constants = is.constants;
  }

  pub kernels_stay : (kernels : List PatternKernel) → AllOf (HasKernel scope graph) kernels → AllOf (HasKernel scope (graph ++ more)) kernels
  kernels_stay kernels have = each_weaker (HasKernel scope graph) (HasKernel scope (graph ++ more))
      (λ one. kernel_stays (pattern_of one) (plain_kernel one.kernel)) kernels have

-- as a graph that grew
pub kernels_grown : (scope : Scope) (graph new : Graph) → IsGraph graph → Grows graph new → (kernels : List PatternKernel)
    → AllOf (HasKernel scope graph) kernels → AllOf (HasKernel scope new) kernels
kernels_grown scope graph new sound grown kernels have =
    subst (λ g. AllOf (HasKernel scope g) kernels) (sym grown.1) (kernels_stay graph grown.0 sound scope kernels have)
