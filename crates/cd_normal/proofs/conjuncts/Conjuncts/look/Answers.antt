use Rattle.std.proofs.Common.{◌-◌, refl}
use Rattle.cd_normal.specs.Inner.PlainPartial.{plain_partial}
use Rattle.cd_normal.proofs.Stacks.{same_put}
use Rattle.cd_normal.proofs.conjuncts.Conjuncts.look.Goals as goal

-- whether a conjunct was looked at is no part of what it is
pub returns-then-count-gt0 : goal.returns-then-count-gt0
returns-then-count-gt0 c = same_put plain_partial c.args.self.now.items.items (c.len-count.result - 1) c.index_mut.result.now _
    c.index_mut.ensures.value refl
