use Rattle.std.proofs.Common.{◌≡◌, None, [], ap, ◌∙◌, subst}
use Rattle.cd_syntax.specs.PlainTree.{plain_declarations}
use Rattle.cd_resolve.specs.Inner.Check.{all_faults}
use Rattle.cd_resolve.specs.Least.{least_from, IsLeast}
use Rattle.cd_resolve.specs.Inner.Finding.{innermost, found_in_list}
use Rattle.cd_resolve.proofs.Checking.{declared_sound, declared_reported}
use Rattle.cd_resolve.proofs.TypesArePatterns.{declarations_are_patterns}
use Rattle.cd_resolve.proofs.read.read_declarations.Goals as goal

pub walk_list-requires : goal.walk_list-requires
walk_list-requires c = declarations_are_patterns (plain_declarations c.args.declared.now) c.requires

-- where no fault is reported there is none, and one that is reported is the least
pub returns-in-Ok-clause-sound : goal.returns-in-Ok-clause-sound
returns-in-Ok-clause-sound c =
    let declared = plain_declarations c.args.declared.now in
    let found = c.in_ok-level.ensures.found ∙ ap (found_in_list innermost [] declared) c.new-found.ensures in
    declared_sound declared (subst (λ found. least_from None (all_faults found) ≡ None) found c.in-Ok.ensures.sound)

pub returns-clause-fault : goal.returns-clause-fault
returns-clause-fault c =
    let declared = plain_declarations c.args.declared.now in
    let found = c.in_ok-level.ensures.found ∙ ap (found_in_list innermost [] declared) c.new-found.ensures in
    declared_reported declared c.in-Err.error
    (subst (λ found. IsLeast (least_from None (all_faults found)) c.in-Err.error) found c.in-Err.ensures.fault)
