use Rattle.std.proofs.Common.{refl}
use Rattle.cd_asking.proofs.Putting.{put_all}
use Rattle.cd_asking.proofs.tasks.put_pairs.Goals as goal

pub returns : goal.returns
returns c = put_all c.take_pairs.new.tasks.items c.args.set c.args.first c.in_ok-others.others c.args.count _ c.args.tasks.now.items
    c.push.new.self.items c.in_ok-others.ensures.taken refl c.in_ok-push.ensures.items
