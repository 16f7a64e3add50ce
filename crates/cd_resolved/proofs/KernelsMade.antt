-- What is made of a resolved pattern is a kernel of the written one.
use Rattle.std.proofs.Common.{◌≡◌, ◌<◌, ◌≤◌, ◌++◌, ℕ, length, length-append, sym, subst, arith}
use Rattle.cd_sets.specs.declared.node_id.NodeId.{NodeId}
use Rattle.cd_syntax.specs.TypeTree.{Tree}
use Rattle.cd_model.specs.BuiltIns.{built_ins}
use Rattle.cd_model.specs.Formula.{Graph}
use Rattle.cd_model.specs.Scope.{Scope}
use Rattle.cd_model.specs.StandsFor.{StandsFor}
use Rattle.cd_matching.specs.Kernel.{Kernel, IsSound}
use Rattle.cd_matching.specs.Naming.{IsNamed}
use Rattle.cd_matching.specs.Pattern.{Pattern}
use Rattle.cd_matching.specs.Takes.{IsResolved}
use Rattle.cd_matching.specs.WrittenPattern.{pattern_of}
use Rattle.cd_kernel.specs.Making.{TakesAlike}
use Rattle.cd_kernel.specs.WellMade.{IsWellMade}
use Rattle.cd_resolved.specs.Kernels.{IsKernelOf}
use Rattle.cd_resolved.proofs.ConstantsAlike.{constants_alike}

pub is_kernel : (old seen new more : Graph) (same : seen ≡ old) (added : new ≡ old ++ more) (p : Pattern NodeId) (kernel : Kernel NodeId)
    → (rest : Graph) × (old ≡ built_ins ++ rest)
    → ((nodes : ℕ) → length built_ins ≤ nodes → IsWellMade (λ id. id.0 < nodes) p → IsSound (λ id. id.0 < nodes) kernel)
    → IsWellMade (λ id. id.0 < length (seen ++ more)) p → (scope : Scope) (written : Tree) → IsResolved (seen ++ more) p scope written
    → IsNamed (pattern_of scope written) → TakesAlike p kernel → IsKernelOf new scope written kernel
is_kernel old seen new more same added p kernel begins sound made scope written resolved named alike =
    subst (λ (g : Graph). IsKernelOf g scope written kernel) (sym added) (record {
      p = p;
      resolved = subst (λ (g : Graph). IsResolved (g ++ more) p scope written) same resolved;
      named = named;
      alike = alike;
      sound = sound (length (old ++ more))
          (subst (λ (g : Graph). length built_ins ≤ length (g ++ more)) (sym begins.1) (grind (arith, length-append)))
          (subst (λ (g : Graph). IsWellMade (λ id. id.0 < length (g ++ more)) p) same made);
      constants = constants_alike (StandsFor (seen ++ more)) (λ id. id.0 < length (seen ++ more)) p (pattern_of scope written) made resolved;
    })
