use Rattle.cd_graph.specs.Nodes.{nodes}
use Rattle.cd_cells.specs.Table.{names}
use Rattle.cd_asking.specs.Known.{KnowsOf}
use Rattle.cd_asking.specs.Inner.Entries.{IsRecent}
use Rattle.cd_asking.proofs.Kept.{more_slots, new_answer}
use Rattle.cd_asking.proofs.asker.Asker.answer.Goals as goal
use Rattle.cd_asking.proofs.asker.Asker.answer.Goals.{After-put}

-- it was asked not long ago
pub returns-in-Some-clause-found : goal.returns-in-Some-clause-found
returns-in-Some-clause-found c =
    let recent = rw c.in-Some.is at c.recent_answer.ensures in
    (c.requires.right.recent recent.0 (record { question = record { set = c.args.set; case = c.args.case }; answer = c.in-Some.answer }) recent.1).3

knows : (c : After-put) → KnowsOf (nodes c.args.graph.now) (names c.args.values.now) (record (c.other_answer.new.self) { recent = c.put.new.self })
knows c =
    let known = c.other_answer.ensures.right in
    record {
      nodes = known.nodes;
      pairs = known.pairs;
      xmls = known.xmls;
      letters = known.letters;
      leads = known.leads;
      answers = known.answers;
      recent = more_slots (IsRecent (nodes c.args.graph.now) c.other_answer.new.self.sets (names c.args.values.now) c.other_answer.new.self.rows)
          c.other_answer.new.self.recent c.put.new.self c.place.result
          (record { question = record { set = c.args.set; case = c.args.case }; answer = c.in_ok-answer.answer }) known.recent
          (new_answer c.args.self.now.sets c.other_answer.new.self.sets c.other_answer.ensures.grows.0 (names c.args.values.now) c.args.self.now.rows
          c.other_answer.new.self.rows c.other_answer.ensures.grows.1 (nodes c.args.graph.now) c.args.set c.args.case c.in_ok-answer.answer
          c.requires.within c.requires.case c.requires.parts c.in_ok-answer.ensures.found) c.put.ensures.only;
    }

pub returns-in_err-put-clause-right : goal.returns-in_err-put-clause-right
returns-in_err-put-clause-right c = knows (goal.at.returns-in_err-put-clause-right c).After-put

pub returns-clause-right : goal.returns-clause-right
returns-clause-right c = knows (goal.at.returns-clause-right c).After-put
