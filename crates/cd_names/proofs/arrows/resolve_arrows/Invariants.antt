use Rattle.std.proofs.Common.{◌≡◌, ◌++◌, drop, map}
use Rattle.cd_program.specs.PlainExpr.{plain_interface, plain_signature}
use Rattle.cd_resolve.specs.Wanted.{wanted_tree}
use Rattle.cd_names.specs.ProgramFaults.{arrow_types}
use Rattle.cd_names.proofs.arrows.resolve_arrows.Given as goal

-- what was wanted so far, and what the rest wants, is what all want
abbrev pub invariant-loop-signature : goal.invariant-loop-signature
invariant-loop-signature l = map wanted_tree l.wanted.items ++ arrow_types (map plain_signature (drop l.signature-index l.signature-items))
    ≡ arrow_types (plain_interface l.interface)
