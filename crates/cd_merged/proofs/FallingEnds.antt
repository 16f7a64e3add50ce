-- Ways through nodes that lead to earlier ones end.
use Rattle.std.proofs.Common.{ℕ, ◌<◌, List, length, arith}
use Rattle.std.proofs.lemmas.Option.{slice_get_within}
use Rattle.cd_model.proofs.Ones.{each_weaker}
use Rattle.cd_matching.specs.Kernel.{KernelNode, leads_to, Ends}
use Rattle.cd_matching.proofs.Falling.{is_there, ends_by_falling}
use Rattle.cd_merged.specs.Merged.{IsFalling}

pub falling_ends : {T : Type 0} (nodes : List (KernelNode T)) → IsFalling nodes → (number : ℕ)
    → number < length nodes → Ends nodes (length nodes) number
falling_ends {T} nodes falling = ends_by_falling T nodes (λ number. number)
    (λ number node there. let within = slice_get_within nodes number node there in
    each_weaker (λ next. next < number) (λ next. (next < number) × (next < length nodes))
    (λ next less. (less, omega (arith, less, within))) (leads_to node)
    (falling number node there))
    (is_there nodes) (λ number within. within)
