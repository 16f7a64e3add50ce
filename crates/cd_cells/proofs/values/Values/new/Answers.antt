use Rattle.cd_cells.proofs.SharedCells.{none_shared}
use Rattle.cd_cells.proofs.values.Values.new.Goals as goal

pub invariant_of-result-clause-known : goal.invariant_of-result-clause-known
invariant_of-result-clause-known c =
    let shared = c.new-3.ensures in
    none_shared c.new-2.result _ c.new-3.result shared.letters shared.atoms shared.nil shared.no_fields
