use Rattle.std.proofs.Common.{◌≡◌, drop, None}
use Rattle.cd_model.specs.Formula.{AreRisingLabels}
use Rattle.cd_facts.specs.Inner.Known.{known}
use Rattle.cd_facts.specs.Inner.Finding.{finding_at_others}
use Rattle.cd_facts.proofs.facts_of_parts.at_others.Given as goal

-- it depends on the parts and the fields that are left
abbrev pub invariant-loop-label : goal.invariant-loop-label
invariant-loop-label l = AreRisingLabels None l.left
    × (finding_at_others (known l.facts) l.left l.fields.rest (drop l.label-index l.parts)
    ≡ finding_at_others (known l.facts) l.fields.named l.fields.rest l.parts)
