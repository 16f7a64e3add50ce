use Rattle.std.proofs.Common.{sym, ◌∙◌}
use Rattle.std.specs.Result.{is_ok}
use Rattle.cd_moves.proofs.RowsFollowed.{put_once}
use Rattle.cd_moves.proofs.moves.Moves.add.Goals as goal

pub invariant_of-self : goal.invariant_of-self
invariant_of-self c = record {
  once = put_once c.args.self.now.moves.items c.push.new.self.items c.args.one
      (is_ok c.push.result) c.args.self.now.once (sym c.has.ensures ∙ c.if-not-has.true)
      c.push.ensures.items;
}
