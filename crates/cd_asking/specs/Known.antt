-- What is known of a graph while values are asked.
use Rattle.std.specs.Prelude.{List}
use Rattle.cd_syntax.specs.Name.{Name}
use Rattle.cd_model.specs.AllOf.{AllOf}
use Rattle.cd_model.specs.Formula.{Graph}
use Rattle.cd_asking.specs.Inner.Asked.{AreNodesOf}
use Rattle.cd_asking.specs.Inner.Entries.{ArePairLeads, AreXmlLeads, AreLetters, IsLead, IsAnswer}
use Rattle.cd_asking.specs.Inner.Entries.{IsRecent}
use Rattle.cd_asking.specs.Inner.Slots.{EachSlot}
use Rattle.cd_asking.specs.declared.asker.Asker.{Asker}

-- all that is known is right of this graph and of values whose names have these numbers
pub record KnowsOf (graph : Graph) (names : List Name) (asker : Asker) : Type 0 where
  pub nodes : AreNodesOf graph asker.sets
  pub pairs : EachSlot (ArePairLeads graph asker.sets) asker.pairs
  pub xmls : EachSlot (AreXmlLeads graph asker.sets) asker.xmls
  pub letters : AreLetters graph asker.sets asker.letters
  pub leads : AllOf (IsLead graph asker.sets names) asker.leads.entries
  pub answers : AllOf (IsAnswer graph asker.sets names asker.rows) asker.answers.entries
  pub recent : EachSlot (IsRecent graph asker.sets names asker.rows) asker.recent
