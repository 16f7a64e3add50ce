use Rattle.std.proofs.Common.{◌≡◌, None, subst}
use Rattle.cd_syntax.specs.PlainTree.{plain}
use Rattle.cd_resolve.specs.Named.{declared_by}
use Rattle.cd_resolve.specs.Inner.Check.{all_faults}
use Rattle.cd_resolve.specs.Least.{least_from, IsLeast}
use Rattle.cd_resolve.proofs.Checking.{type_sound, type_reported}
use Rattle.cd_resolve.proofs.read.read_type.Goals as goal

-- where no fault is reported there is none, and one that is reported is the least
pub returns-in-Ok-clause-sound : goal.returns-in-Ok-clause-sound
returns-in-Ok-clause-sound c = type_sound (declared_by c.args.names.now) (plain c.args.tree.now)
    (subst (λ found. least_from None (all_faults found) ≡ None) c.in_ok-root.ensures.found c.in-Ok.ensures.sound)

pub returns-in-Err-clause-fault : goal.returns-in-Err-clause-fault
returns-in-Err-clause-fault c = type_reported (declared_by c.args.names.now) (plain c.args.tree.now) c.in-Err.error
    (subst (λ found. IsLeast (least_from None (all_faults found)) c.in-Err.error) c.in_ok-root.ensures.found
    c.in-Err.ensures.fault)
