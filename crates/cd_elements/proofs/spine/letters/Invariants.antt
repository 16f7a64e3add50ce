use Rattle.std.proofs.Common.{◌≡◌, ◌++◌, map, drop}
use Rattle.std.specs.Option.{option_map}
use Rattle.cd_elements.specs.Elements.{table}
use Rattle.cd_elements.specs.Inner.Tasks.{part_in}
use Rattle.cd_elements.specs.Inner.Looks.{letters_of}
use Rattle.cd_elements.proofs.spine.letters.Given as goal

-- the characters so far, and those of the parts that are left, are those of all
abbrev pub invariant-loop-id : goal.invariant-loop-id
invariant-loop-id l =
    let parts = map (part_in (table l.elements)) in
    let left = letters_of (parts (drop l.id-index l.firsts)) in
    option_map (λ characters. l.characters.items ++ characters) left ≡ letters_of (parts l.firsts)
