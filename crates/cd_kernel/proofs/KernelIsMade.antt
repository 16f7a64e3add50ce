-- The kernel that the code makes of a pattern is made of it.
use Rattle.std.proofs.Common.{◌<◌, ℕ, zero, suc, true, [], length, refl, ◌∙◌, arith}
use Rattle.std.proofs.lemmas.Option.{none-some, slice_get_within}
use Rattle.cd_model.proofs.Ones.{each_weaker}
use Rattle.cd_sets.specs.declared.node_id.NodeId.{NodeId}
use Rattle.cd_matching.specs.Kernel.{Ends, leads_to}
use Rattle.cd_kernel.specs.Labelled.{HasLabels}
use Rattle.cd_matching.specs.Naming.{IsNamed}
use Rattle.cd_matching.specs.Pattern.{Pattern}
use Rattle.cd_matching.proofs.Falling.{is_there, ends_by_falling}
use Rattle.cd_kernel.specs.Making.{IsMade}
use Rattle.cd_kernel.specs.Inner.Building.{Nodes, built, kernel_of}
use Rattle.cd_kernel.specs.Inner.Gathering.{with_variables}
use Rattle.cd_kernel.proofs.GatheredNames.{variables_among, among_numbered}
use Rattle.cd_kernel.proofs.GoodPatterns.{good}
use Rattle.cd_kernel.proofs.GrowingNodes.{Falls}
use Rattle.cd_kernel.proofs.PatternsBuilt.{pattern_is}
use Rattle.cd_kernel.proofs.PatternsMade.{pattern_is_made}

nothing_falls : Falls []
nothing_falls zero node h = absurd (none-some node h)
nothing_falls (suc number) node h = absurd (none-some node h)

falling_ends : (nodes : Nodes) → Falls nodes → (number : ℕ) → number < length nodes
    → Ends nodes (length nodes) number
falling_ends nodes falls = ends_by_falling NodeId nodes (λ number. number)
    (λ number node h. each_weaker (λ next. next < number)
    (λ next. (next < number) × (next < length nodes))
    (λ next lower. let within = slice_get_within nodes number node h in
    (lower, omega (arith, within, lower))) (leads_to node) (falls number node h))
    (is_there nodes) (λ number within. within)

pub kernel_is_made : (p : Pattern NodeId) → IsNamed p → HasLabels p → IsMade p (kernel_of p)
kernel_is_made p named labels =
    let variables = with_variables p [] in
    let nodes = (built variables true p []).1 in
    record {
      made = pattern_is variables nodes (λ name. true) true p [] (good p named labels)
          (λ name b. (refl, among_numbered variables name (variables_among p [] name ∙ b)))
          (λ number x h. h);
      ends = falling_ends nodes ((pattern_is_made variables true p []).grows.falls nothing_falls);
    }
