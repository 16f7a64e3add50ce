use Rattle.std.proofs.Common.{◌≡◌, refl, sym, subst, take}
use Rattle.cd_model.specs.Formula.{Graph, IsGraph}
use Rattle.cd_model.specs.BuiltIns.{built_ins}
use Rattle.cd_model.proofs.SoundBuiltIns.{built_ins_are_sound}
use Rattle.cd_graph.proofs.graph.Graph.new.Goals as goal

pub invariant_of-result : goal.invariant_of-result
invariant_of-result c = record {
  sound = ∣ subst IsGraph (sym c.in_ok-built_ins.ensures) built_ins_are_sound ∣₁;
  built_in = ∣ subst (λ (graph : Graph). take 14 graph ≡ built_ins) (sym c.in_ok-built_ins.ensures) refl ∣₁;
}
