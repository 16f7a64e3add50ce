-- Code that is ready for a table is ready for it when it has grown.
use Rattle.cd_cells.specs.Table.{names, Grows}
use Rattle.cd_cells.specs.declared.values.Values.{Values}
use Rattle.cd_code.specs.Compiled.{IsReady}
use Rattle.cd_code.specs.declared.code.Code.{Code}
use Rattle.cd_code.proofs.ReadyStays.{ready_grown}

pub still_ready : (old new : Values) (code : Code) → IsReady (names old) code → Grows old new → IsReady (names new) code
still_ready = ready_grown
