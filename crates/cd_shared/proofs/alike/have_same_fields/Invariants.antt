use Rattle.std.proofs.Common.{◌≡◌, map, drop}
use Rattle.cd_graph.specs.PlainFormula.{plain_named}
use Rattle.cd_shared.specs.Shared.{class_in, renamed_field}
use Rattle.cd_shared.proofs.alike.have_same_fields.Given as goal

-- the lists have the same classes where what is left of them has
abbrev pub invariant-loop-index : goal.invariant-loop-index
invariant-loop-index l = l.joined.one ≡ l.joined.other → map (renamed_field (class_in l.classes)) (plain_named (drop l.index l.some))
    ≡ map (renamed_field (class_in l.classes)) (plain_named (drop l.index l.others))
    → map (renamed_field (class_in l.classes)) (plain_named l.some)
    ≡ map (renamed_field (class_in l.classes)) (plain_named l.others)
