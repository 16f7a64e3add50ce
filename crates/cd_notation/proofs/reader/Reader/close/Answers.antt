use Rattle.cd_notation.proofs.Closing.{closed, can_put}
use Rattle.cd_notation.proofs.reader.Reader.close.Goals as goal

pub put-requires-clause-within : goal.put-requires-clause-within
put-requires-clause-within c = (can_put _ _ c.args.self.now _ _ _ _ c.in_ok-id.ensures.grows c.in_ok-id.ensures.pairs c.requires.end c.requires.forms).within

pub put-requires-clause-forms : goal.put-requires-clause-forms
put-requires-clause-forms c =
    let can = can_put _ _ c.args.self.now _ _ _ _ c.in_ok-id.ensures.grows c.in_ok-id.ensures.pairs c.requires.end c.requires.forms in
    (can.trees, can.are)

pub returns-clause-leads : goal.returns-clause-leads
returns-clause-leads c = closed _ _ _ c.args.self.now _ _ _ _ _ _ c.in_ok-id.ensures.grows c.in_ok-id.ensures.pairs c.in_ok-put.ensures.stands
