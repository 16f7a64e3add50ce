-- What is known of sets of nodes while values are asked, entry by entry.
use Rattle.std.specs.Prelude.{◌≡◌, ℕ, ◌<◌, ◌+◌, ◌*◌, List, Option, Some, length}
use Rattle.cd_sets.specs.declared.node_id.NodeId.{NodeId}
use Rattle.cd_syntax.specs.Name.{Name, IsLabel}
use Rattle.cd_model.specs.Formula.{Graph}
use Rattle.cd_cells.specs.Cells.{name_at}
use Rattle.cd_asking.specs.Inner.Shapes.{Character}
use Rattle.cd_cells.specs.Slots.{slot_at}
use Rattle.cd_asking.specs.Inner.Tasks.{Covers, First, Second, Tag, Attributes, Content, At}
use Rattle.cd_asking.specs.Inner.Asked.{set_at, shape_by, IsCase, IsCaseWithin, Found}
use Rattle.cd_asking.specs.declared.row.Answered.{Answered}
use Rattle.cd_asking.specs.declared.node_sets.SetId.{SetId}
use Rattle.cd_asking.specs.declared.asker.Lead.{Lead}
use Rattle.cd_asking.specs.declared.asker.Question.{Question}
use Rattle.cd_asking.specs.declared.asker.Recent.{Recent}
use Rattle.cd_asking.specs.declared.asker.PairLeads.{PairLeads}
use Rattle.cd_asking.specs.declared.asker.XmlLeads.{XmlLeads}

module _ (graph : Graph) (sets : List (List NodeId)) where
  -- the sets have each node at which these nodes ask the parts of a pair
  abbrev pub LeadBoth : (set : List NodeId) → PairLeads → Type 0
  LeadBoth set leads = (leads.first.0 < length sets) × (leads.second.0 < length sets)
      × Covers graph First set (set_at sets leads.first)
      × Covers graph Second set (set_at sets leads.second)

  -- and the parts of an XML value
  abbrev pub LeadAll : (set : List NodeId) → XmlLeads → Type 0
  LeadAll set leads = (leads.tag.0 < length sets) × (leads.attributes.0 < length sets)
      × (leads.content.0 < length sets)
      × Covers graph Tag set (set_at sets leads.tag)
      × Covers graph Attributes set (set_at sets leads.attributes)
      × Covers graph Content set (set_at sets leads.content)

  -- of the set with a number
  abbrev pub ArePairLeads : ℕ → PairLeads → Type 0
  ArePairLeads set leads =
      (set < length sets) × LeadBoth (set_at sets (record { 0 = set })) leads

  abbrev pub AreXmlLeads : ℕ → XmlLeads → Type 0
  AreXmlLeads set leads = (set < length sets) × LeadAll (set_at sets (record { 0 = set })) leads

  -- which nodes of a set hold an ASCII character
  abbrev pub AreLetters : List (Option SetId) → Type 0
  AreLetters letters = (set c : ℕ) (answer : SetId) → c < 128
      → slot_at letters (128 * set + c) ≡ Some answer
      → (set < length sets)
      × Found graph (Character c) (set_at sets (record { 0 = set })) sets answer

  module _ (names : List Name) where
    -- the second set has each node at which the first asks the field
    abbrev pub IsLead : Lead × SetId → Type 0
    IsLead lead = IsLabel (name_at names lead.0.label)
        × (lead.0.set.0 < length sets) × (lead.1.0 < length sets)
        × Covers graph (At (name_at names lead.0.label)) (set_at sets lead.0.set)
        (set_at sets lead.1)

    module _ (rows : List (List Answered)) where
      -- the answer has those nodes of the set that hold the value
      abbrev pub IsAnswer : Question × SetId → Type 0
      IsAnswer answer = (answer.0.set.0 < length sets)
          × IsCase names answer.0.case × IsCaseWithin names sets rows answer.0.case
          × Found graph (shape_by names sets rows answer.0.case) (set_at sets answer.0.set) sets
          answer.1

      -- also where it stands at the place of its question
      abbrev pub IsRecent : ℕ → Recent → Type 0
      IsRecent place recent = IsAnswer (recent.question, recent.answer)
