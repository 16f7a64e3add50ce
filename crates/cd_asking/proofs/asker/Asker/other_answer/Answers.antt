use Rattle.std.proofs.Common.{sym, ◌∙◌, subst}
use Rattle.cd_model.specs.AllOf.{AllOf}
use Rattle.cd_graph.specs.Nodes.{nodes}
use Rattle.cd_cells.specs.Table.{names}
use Rattle.cd_asking.specs.Inner.Entries.{IsAnswer}
use Rattle.cd_asking.proofs.Kept.{knows_more, grown_none, found, inserted, new_answer}
use Rattle.cd_asking.proofs.SameKeys.{same_question, same_questions}
use Rattle.cd_asking.proofs.asker.Asker.other_answer.Goals as goal

entry : (c : goal.In-Some) → IsAnswer (nodes c.args.graph.now) c.args.self.now.sets (names c.args.values.now) c.args.self.now.rows
    (record { set = c.args.set; case = c.args.case }, c.in-Some.answer)
entry c = found same_question same_questions (IsAnswer (nodes c.args.graph.now) c.args.self.now.sets (names c.args.values.now) c.args.self.now.rows)
    c.args.self.now.answers.entries _ _ c.requires.right.answers (sym c.get.ensures.value ∙ sym c.copied.ensures ∙ c.in-Some.is)

pub returns-in-Some-clause-found : goal.returns-in-Some-clause-found
returns-in-Some-clause-found c = (entry c).3

-- more sets change nothing
pub returns-in_err-answer-clause-right : goal.returns-in_err-answer-clause-right
returns-in_err-answer-clause-right c = knows_more (nodes c.args.graph.now) (names c.args.values.now) c.args.self.now c.find_case.new.sets
    c.args.self.now.rows c.find_case.ensures.grows (grown_none c.args.self.now.rows) c.find_case.ensures.sound c.requires.right

pub returns-in_err-insert-clause-right : goal.returns-in_err-insert-clause-right
returns-in_err-insert-clause-right c =
    let known = knows_more (nodes c.args.graph.now) (names c.args.values.now) c.args.self.now c.find_case.new.sets c.args.self.now.rows c.find_case.ensures.grows
    (grown_none c.args.self.now.rows) c.find_case.ensures.sound c.requires.right in
    record {
      nodes = known.nodes;
      pairs = known.pairs;
      xmls = known.xmls;
      letters = known.letters;
      leads = known.leads;
      recent = known.recent;
      answers = subst (AllOf (IsAnswer (nodes c.args.graph.now) c.find_case.new.sets (names c.args.values.now) c.args.self.now.rows)) (sym c.in_err-insert.ensures.err) known.answers;
    }

pub returns-clause-right : goal.returns-clause-right
returns-clause-right c =
    let known = knows_more (nodes c.args.graph.now) (names c.args.values.now) c.args.self.now c.find_case.new.sets c.args.self.now.rows c.find_case.ensures.grows
    (grown_none c.args.self.now.rows) c.find_case.ensures.sound c.requires.right in
    record {
      nodes = known.nodes;
      pairs = known.pairs;
      xmls = known.xmls;
      letters = known.letters;
      leads = known.leads;
      recent = known.recent;
      answers = subst (AllOf (IsAnswer (nodes c.args.graph.now) c.find_case.new.sets (names c.args.values.now) c.args.self.now.rows)) (sym c.in_ok-insert.ensures.entries)
          (inserted same_question same_questions (IsAnswer (nodes c.args.graph.now) c.find_case.new.sets (names c.args.values.now) c.args.self.now.rows) c.args.self.now.answers.entries _ _ known.answers
          (new_answer c.args.self.now.sets c.find_case.new.sets c.find_case.ensures.grows (names c.args.values.now) c.args.self.now.rows c.args.self.now.rows
          (grown_none c.args.self.now.rows) (nodes c.args.graph.now) c.args.set c.args.case c.in_ok-answer.answer c.requires.within c.requires.case
          c.requires.parts c.in_ok-answer.ensures.found));
    }
