use Rattle.std.proofs.Common.{◌≡◌, drop, None}
use Rattle.cd_model.specs.Formula.{AreRisingLabels}
use Rattle.cd_graph.specs.PlainFormula.{plain_named}
use Rattle.cd_facts.specs.Inner.Known.{known}
use Rattle.cd_facts.proofs.FieldsInTurn.{in_turn}
use Rattle.cd_facts.proofs.facts_of_parts.at_named.Given as goal

-- it depends on the fields and the parts that are left
abbrev pub invariant-loop-label : goal.invariant-loop-label
invariant-loop-label l = AreRisingLabels None l.left
    × (in_turn (known l.facts) l.left (plain_named (drop l.label-index l.label-items))
    ≡ in_turn (known l.facts) l.parts (plain_named l.fields.named))
