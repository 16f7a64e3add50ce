use Rattle.std.proofs.Common.{sym, subst}
use Rattle.std.specs.Prelude.{OnOk}
use Rattle.cd_asking.specs.Inner.Running.{ArePut}
use Rattle.cd_asking.specs.declared.task.Task.{Task}
use Rattle.cd_asking.proofs.Putting.{put_last}
use Rattle.cd_asking.proofs.tasks.put.Goals as goal

pub returns-in-OfPairs : goal.returns-in-OfPairs
returns-in-OfPairs c = subst (λ (task : Task). OnOk c.put_pairs.result (ArePut c.args.tasks.now.items task c.put_pairs.new.tasks.items))
    (sym c.in-OfPairs.is) c.put_pairs.ensures

pub returns-in_ok-push-in_default : goal.returns-in_ok-push-in_default
returns-in_ok-push-in_default c = put_last c.args.tasks.now.items c.args.task c.push.new.self.items c.in_ok-push-in_default.ensures.items
