use Rattle.std.proofs.Common.{◌≡◌, ◌++◌, map, drop}
use Rattle.cd_syntax.specs.TypeTree.{fields_of}
use Rattle.cd_syntax.specs.PlainTree.{plain_field, plain_fields}
use Rattle.cd_graph.specs.PlainFormula.{plain_named}
use Rattle.cd_resolve.specs.Inner.FreeFields.{free_named}
use Rattle.cd_resolve.proofs.read.free_fields.Given as goal

-- what is made, and what is to be made of the fields that are left, are all
abbrev pub invariant-loop-field : goal.invariant-loop-field
invariant-loop-field l =
    plain_named l.made.items ++ free_named (fields_of (map plain_field (drop l.field-index l.field-items)))
    ≡ free_named (plain_fields l.fields)
