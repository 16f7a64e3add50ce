use Rattle.std.proofs.Common.{List, subst}
use Rattle.std.specs.List.{IsDistinct}
use Rattle.cd_explored.specs.declared.want.Want.{Want}
use Rattle.cd_explored.proofs.WantsOnce.{same_want, wants_once}
use Rattle.cd_explored.proofs.wants.Wants.knows.Goals as goal

-- no two wants of the set are equal
pub returns : goal.returns
returns c = wants_once c.args.self.now
    (subst (λ (wants : List Want). IsDistinct same_want wants) c.self.view_is c.len-len.ensures.unique)
