use Rattle.std.proofs.Common.{map, take}
use Rattle.std.specs.List.{AllZip}
use Rattle.cd_graph.specs.Nodes.{nodes}
use Rattle.cd_graph.specs.PlainFormula.{plain}
use Rattle.cd_records.specs.Inner.Plain.{plain_rest}
use Rattle.cd_records.specs.Inner.Rests.{HoldsRest}
use Rattle.cd_records.specs.Inner.Standing.{Adds}
use Rattle.cd_records.proofs.rest_formulas.formulas_of.Given as goal

-- the formulas so far are those of the first rests
abbrev pub invariant-loop-rest : goal.invariant-loop-rest
invariant-loop-rest l = record {
  holding : AllZip (HoldsRest (nodes l.graph) (map plain l.batch.items) l.label)
      (map plain_rest (take l.rest-index l.rests)) (map plain l.formulas.items);
  adds : Adds (nodes l.graph) (map plain l.fn.batch.items) (map plain l.batch.items);
}
