-- A node that stands for a written type does so in each longer graph.
use Rattle.std.proofs.Common.{◌≡◌, ℕ, zero, suc, ◌<◌, List, [], ◌∷◌, ◌++◌, length, ap, refl, ◌∙◌, arith}
use Rattle.cd_sets.specs.declared.node_id.NodeId.{NodeId}
use Rattle.cd_model.specs.BuiltIns.{built_ins}
use Rattle.cd_model.specs.Formula.{Graph, IsGraph}
use Rattle.cd_model.specs.Interfaces.{admits}
use Rattle.cd_model.specs.StandsFor.{StandsFor}
use Rattle.cd_model.specs.Written.{Written}
use Rattle.cd_model.proofs.BothWays.{itself, turned, through}
use Rattle.cd_model.proofs.Extending.{kept_elements, kept_values}

joined : {A : Type 0} (first second third : List A) → (first ++ second) ++ third ≡ first ++ (second ++ third)
joined [] second third = refl
joined (one ∷ first) second third = ap (λ rest. one ∷ rest) (joined first second third)

longer : {A : Type 0} (first second : List A) (n : ℕ) → n < length first → n < length (first ++ second)
longer [] second n below = absurd (omega arith)
longer (one ∷ first) second zero below = omega arith
longer (one ∷ first) second (suc n) below = let step : _ = longer first second n (omega arith) in omega arith

pub stands_kept : (graph more : Graph) (id : NodeId) (type : Written) → IsGraph graph → StandsFor graph id type
    → StandsFor (graph ++ more) id type
stands_kept graph more id type sound stands = record {
  is_node = longer graph more id.0 stands.is_node;
  begins = (
    stands.begins.0 ++ more,
    ap (λ all. all ++ more) stands.begins.1 ∙ joined built_ins stands.begins.0 more,
  );
  elements = λ is answer element.
      through (turned (kept_elements graph more sound is id answer stands.is_node)) (stands.elements is answer element);
  values = λ interfaces is answer value. through
      (turned (kept_values graph more sound (admits interfaces) (admits interfaces) (λ function pairs sound. itself) is id answer stands.is_node))
      (stands.values interfaces is answer value);
}
