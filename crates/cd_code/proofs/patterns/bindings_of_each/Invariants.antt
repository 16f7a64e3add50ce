use Rattle.std.proofs.Common.{take}
use Rattle.cd_cells.specs.Table.{names, Grows}
use Rattle.cd_code.specs.Inner.Bindings.{AreAllBound}
use Rattle.cd_code.proofs.patterns.bindings_of_each.Given as goal

-- those before are bound
abbrev pub invariant-loop-one : goal.invariant-loop-one
invariant-loop-one l = record {
  bound : AreAllBound (names l.values) (take l.one-index l.kernels) l.all.items;
  grows : Grows l.fn.values l.values;
}
