use Rattle.std.proofs.Common.{map, take}
use Rattle.cd_graph.specs.Nodes.{nodes}
use Rattle.cd_graph.specs.PlainFormula.{plain, plain_named}
use Rattle.cd_records.specs.Inner.Plain.{plain_said}
use Rattle.cd_records.specs.Inner.Standing.{Adds, AreFieldsOf}
use Rattle.cd_records.proofs.record_type.fields_of.Given as goal

-- the fields so far are those of the first entries
abbrev pub invariant-loop-one : goal.invariant-loop-one
invariant-loop-one l = record {
  fields : AreFieldsOf (nodes l.graph) (map plain l.batch.items)
      (map plain_said (take l.one-index l.said)) (plain_named l.named.items);
  adds : Adds (nodes l.graph) (map plain l.fn.batch.items) (map plain l.batch.items);
}
