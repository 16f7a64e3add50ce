use Rattle.std.proofs.Common.{rules, ◌≡◌, subst}
use Rattle.cd_syntax.specs.PlainTree.{plain_declarations}
use Rattle.cd_syntax.specs.TypeTree.{NoDeclaration}
use Rattle.cd_replies.specs.Naming.{RefusesNames}
use Rattle.cd_replies.proofs.TextReading.{none_refused}
use Rattle.cd_sub.proofs.sub.Goals as goal

-- no naming fault stands where nothing is declared
pub unreachable-requires : goal.unreachable-requires
unreachable-requires c =
    let none : plain_declarations c.of-none.result ≡ NoDeclaration = search (rules, c.of-none.ensures, c.new.ensures) in
    none_refused c.in-Err-Refused.field-0-0
    (subst (λ list. RefusesNames list c.in-Err-Refused.field-0-0) none
    (rw (c.in-Err-Refused.is, c.in-Err-Refused.field-0-is) at c.sub_with.ensures.refused))
