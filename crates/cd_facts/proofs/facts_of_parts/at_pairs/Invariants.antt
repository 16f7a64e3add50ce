use Rattle.std.proofs.Common.{◌≡◌, drop}
use Rattle.cd_facts.specs.Inner.Known.{known}
use Rattle.cd_facts.specs.Inner.Finding.{finding_at_pairs}
use Rattle.cd_facts.proofs.facts_of_parts.at_pairs.Given as goal

-- it depends on the pairs that are left
abbrev pub invariant-loop-pair : goal.invariant-loop-pair
invariant-loop-pair l = finding_at_pairs (known l.facts) (drop l.pair-index l.pairs) l.argument l.mapped
    ≡ finding_at_pairs (known l.facts) l.pairs l.argument l.mapped
