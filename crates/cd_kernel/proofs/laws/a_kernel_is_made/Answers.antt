use Rattle.cd_kernel.proofs.MadeExample.{is_made, is_named, is_well_made, has_alternatives}
use Rattle.cd_kernel.proofs.MadeExample.{has_no_more}
use Rattle.cd_kernel.proofs.laws.a_kernel_is_made.Goals as goal

pub returns-clause-made : goal.returns-clause-made
returns-clause-made c = is_made

pub returns-clause-named : goal.returns-clause-named
returns-clause-named c = is_named

pub returns-clause-well_made : goal.returns-clause-well_made
returns-clause-well_made c = is_well_made

pub returns-clause-alternatives : goal.returns-clause-alternatives
returns-clause-alternatives c = has_alternatives

pub returns-clause-no_more : goal.returns-clause-no_more
returns-clause-no_more c = has_no_more
