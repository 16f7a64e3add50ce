use Rattle.std.proofs.Common.{sym, ◌∙◌, subst, List}
use Rattle.cd_sets.specs.declared.node_id.NodeId.{NodeId}
use Rattle.cd_model.specs.AllOf.{AllOf}
use Rattle.cd_graph.specs.Nodes.{nodes}
use Rattle.cd_cells.specs.Cells.{name_at}
use Rattle.cd_cells.specs.Table.{names}
use Rattle.cd_asking.specs.Inner.Asked.{set_at}
use Rattle.cd_asking.specs.Inner.Entries.{IsLead}
use Rattle.cd_asking.specs.Inner.Tasks.{Covers, At}
use Rattle.cd_asking.proofs.Kept.{knows_more, grown_none, found, inserted, stays, still_within}
use Rattle.cd_asking.proofs.SameKeys.{same_lead, same_leads}
use Rattle.cd_asking.proofs.asker.Asker.lead.Goals as goal

entry : (c : goal.In-Some) → IsLead (nodes c.args.graph.now) c.args.self.now.sets (names c.args.values.now)
    (record { set = c.args.set; label = c.args.label }, c.in-Some.next)
entry c = found same_lead same_leads (IsLead (nodes c.args.graph.now) c.args.self.now.sets (names c.args.values.now)) c.args.self.now.leads.entries _ _
    c.requires.right.leads (sym c.get.ensures.value ∙ sym c.copied.ensures ∙ c.in-Some.is)

pub returns-in-Some-clause-covers : goal.returns-in-Some-clause-covers
returns-in-Some-clause-covers c = (entry c).3

pub returns-in-Some-clause-within : goal.returns-in-Some-clause-within
returns-in-Some-clause-within c = (entry c).2

-- more sets change nothing
pub returns-in_err-next-clause-right : goal.returns-in_err-next-clause-right
returns-in_err-next-clause-right c = knows_more (nodes c.args.graph.now) (names c.args.values.now) c.args.self.now c.find_lead.new.sets
    c.args.self.now.rows c.find_lead.ensures.grows (grown_none c.args.self.now.rows) c.find_lead.ensures.sound c.requires.right

pub returns-in_err-insert-clause-right : goal.returns-in_err-insert-clause-right
returns-in_err-insert-clause-right c =
    let known = knows_more (nodes c.args.graph.now) (names c.args.values.now) c.args.self.now c.find_lead.new.sets c.args.self.now.rows c.find_lead.ensures.grows
    (grown_none c.args.self.now.rows) c.find_lead.ensures.sound c.requires.right in
    record {
      nodes = known.nodes;
      pairs = known.pairs;
      xmls = known.xmls;
      letters = known.letters;
      leads = subst (AllOf (IsLead (nodes c.args.graph.now) c.find_lead.new.sets (names c.args.values.now))) (sym c.in_err-insert.ensures.err) known.leads;
      answers = known.answers;
      recent = known.recent;
    }

pub returns-clause-right : goal.returns-clause-right
returns-clause-right c =
    let known = knows_more (nodes c.args.graph.now) (names c.args.values.now) c.args.self.now c.find_lead.new.sets c.args.self.now.rows c.find_lead.ensures.grows
    (grown_none c.args.self.now.rows) c.find_lead.ensures.sound c.requires.right in
    record {
      nodes = known.nodes;
      pairs = known.pairs;
      xmls = known.xmls;
      letters = known.letters;
      leads = subst (AllOf (IsLead (nodes c.args.graph.now) c.find_lead.new.sets (names c.args.values.now))) (sym c.in_ok-insert.ensures.entries)
          (inserted same_lead same_leads (IsLead (nodes c.args.graph.now) c.find_lead.new.sets (names c.args.values.now)) c.args.self.now.leads.entries _ _
          known.leads (
            c.requires.label,
            still_within c.args.self.now.sets c.find_lead.new.sets c.find_lead.ensures.grows c.args.set.0 c.requires.within,
            c.in_ok-next.ensures.within,
            subst (λ (set : List NodeId). Covers (nodes c.args.graph.now) (At (name_at (names c.args.values.now) c.args.label)) set
                (set_at c.find_lead.new.sets c.in_ok-next.next))
                (sym (stays c.args.self.now.sets c.find_lead.new.sets c.find_lead.ensures.grows c.args.set c.requires.within)) c.in_ok-next.ensures.covers,
          ));
      answers = known.answers;
      recent = known.recent;
    }
