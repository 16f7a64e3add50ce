use Rattle.std.proofs.Common.{sym, subst, List}
use Rattle.cd_sets.specs.declared.node_id.NodeId.{NodeId}
use Rattle.cd_graph.specs.Nodes.{nodes}
use Rattle.cd_cells.specs.Table.{names}
use Rattle.cd_asking.specs.Known.{KnowsOf}
use Rattle.cd_asking.specs.Inner.Entries.{LeadBoth, ArePairLeads}
use Rattle.cd_asking.proofs.Kept.{knows_more, grown_none, more_slots, stays, still_within}
use Rattle.cd_asking.proofs.asker.Asker.pair_leads.Goals as goal
use Rattle.cd_asking.proofs.asker.Asker.pair_leads.Goals.{After-put}

-- more sets change nothing
pub returns-in_err-leads-clause-right : goal.returns-in_err-leads-clause-right
returns-in_err-leads-clause-right c = knows_more (nodes c.args.graph.now) (names c.args.values.now) c.args.self.now c.find_pair_leads.new.sets
    c.args.self.now.rows c.find_pair_leads.ensures.grows (grown_none c.args.self.now.rows) c.find_pair_leads.ensures.sound c.requires.right

knows : (c : After-put) → KnowsOf (nodes c.args.graph.now) (names c.args.values.now) (record (c.args.self.now) { sets = c.find_pair_leads.new.sets; pairs = c.put.new.self })
knows c =
    let known = knows_more (nodes c.args.graph.now) (names c.args.values.now) c.args.self.now c.find_pair_leads.new.sets c.args.self.now.rows c.find_pair_leads.ensures.grows
    (grown_none c.args.self.now.rows) c.find_pair_leads.ensures.sound c.requires.right in
    record {
      nodes = known.nodes;
      pairs = more_slots (ArePairLeads (nodes c.args.graph.now) c.find_pair_leads.new.sets) c.args.self.now.pairs c.put.new.self c.args.set.0
          c.in_ok-leads.leads known.pairs (
            still_within c.args.self.now.sets c.find_pair_leads.new.sets c.find_pair_leads.ensures.grows c.args.set.0 c.requires.within,
            subst (λ (set : List NodeId). LeadBoth (nodes c.args.graph.now) c.find_pair_leads.new.sets set c.in_ok-leads.leads)
                (sym (stays c.args.self.now.sets c.find_pair_leads.new.sets c.find_pair_leads.ensures.grows c.args.set c.requires.within)) c.in_ok-leads.ensures.leads,
          ) c.put.ensures.only;
      xmls = known.xmls;
      letters = known.letters;
      leads = known.leads;
      answers = known.answers;
      recent = known.recent;
    }

pub returns-in_err-put-clause-right : goal.returns-in_err-put-clause-right
returns-in_err-put-clause-right c = knows (goal.at.returns-in_err-put-clause-right c).After-put

pub returns-clause-right : goal.returns-clause-right
returns-clause-right c = knows (goal.at.returns-clause-right c).After-put
