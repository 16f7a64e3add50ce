use Rattle.std.proofs.Common.{◌≡◌, ◌∙◌, ap₂, subst, IfOk}
use Rattle.cd_cells.specs.Table.{table}
use Rattle.cd_evaluation.specs.Lists.{before}
use Rattle.cd_operations.specs.Along.{items_along}
use Rattle.cd_operations.specs.Endings.{plain_ending}
use Rattle.cd_cells.proofs.GrownTables.{thing_grown}
use Rattle.cd_operations.proofs.Joining.{flat}
use Rattle.cd_operations.proofs.joins.flattened.Goals as goal

pub returns-clause-is : goal.returns-clause-is
returns-clause-is c =
    let value = thing_grown _ _ c.in_ok-nil.ensures.grows _ c.requires in
    let items = c.in_ok-results.ensures.items
    ∙ ap₂ (λ all onto. before (items_along all) (items_along onto)) value c.in_ok-nil.ensures.is.is in
    subst (λ outcome. IfOk c.joined.result (λ ending. plain_ending (table c.joined.new.values) ending ≡ outcome))
    (flat _ _ c.if-not-is_sequence.ensures items) c.joined.ensures.is
