use Rattle.cd_graph.specs.Nodes.{nodes}
use Rattle.cd_cells.specs.Table.{names}
use Rattle.cd_asking.specs.Known.{KnowsOf}
use Rattle.cd_asking.specs.Inner.Shapes.{Character}
use Rattle.cd_asking.proofs.Kept.{more_letters, found_later, still_within}
use Rattle.cd_asking.proofs.asker.Asker.new_letter.Goals as goal
use Rattle.cd_asking.proofs.asker.Asker.new_letter.Goals.{After-put}

knows : (c : After-put) → KnowsOf (nodes c.args.graph.now) (names c.args.values.now) (record (c.answer.new.self) { letters = c.put.new.self })
knows c =
    let known = c.answer.ensures.right in
    record {
      nodes = known.nodes;
      pairs = known.pairs;
      xmls = known.xmls;
      letters = more_letters (nodes c.args.graph.now) c.answer.new.self.sets c.answer.new.self.letters c.put.new.self c.args.set c.args.c
          c.in_ok-answer.answer known.letters (still_within c.args.self.now.sets c.answer.new.self.sets c.answer.ensures.grows.0 c.args.set.0 c.requires.within)
          c.if-code-ge128.false (found_later c.args.self.now.sets c.answer.new.self.sets c.answer.ensures.grows.0 (nodes c.args.graph.now) (Character c.args.c)
          c.args.set c.in_ok-answer.answer c.requires.within c.in_ok-answer.ensures.found) c.put.ensures.only;
      leads = known.leads;
      answers = known.answers;
      recent = known.recent;
    }

pub returns-in_err-put-clause-right : goal.returns-in_err-put-clause-right
returns-in_err-put-clause-right c = knows (goal.at.returns-in_err-put-clause-right c).After-put

pub returns-clause-right : goal.returns-clause-right
returns-clause-right c = knows (goal.at.returns-clause-right c).After-put
