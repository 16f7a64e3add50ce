-- What formulas and nodes hold, where formulas stand after those of a graph.
use Rattle.std.specs.Prelude.{◌≡◌, ◌<◌, ◌+◌, ◌↔◌, ◌++◌, ℕ, true, false, List, []}
use Rattle.std.specs.Prelude.{◌∷◌, length, map}
use Rattle.std.specs.List.{AllZip}
use Rattle.cd_sets.specs.declared.node_id.NodeId.{NodeId}
use Rattle.cd_sets.specs.declared.question.Question.{Question}
use Rattle.cd_syntax.specs.Name.{Name}
use Rattle.cd_model.specs.AllOf.{AllOf, AnyOf}
use Rattle.cd_model.specs.BuiltIns.{ANY}
use Rattle.cd_model.specs.Formula.{Graph, Formula, Field, IsFormula, asked, holds, in_node}
use Rattle.cd_model.specs.Membership.{reader}
use Rattle.cd_model.specs.Thing as thing
use Rattle.cd_model.specs.Thing.{Thing, IsElement, IsRecord}
use Rattle.cd_rules.specs.Family.{AsksNodes}
use Rattle.cd_rules.specs.InRow.{thing_at, IsInCell}
use Rattle.cd_records.specs.Inner.Entries.{Entry, IsInEntry, InOneQuestion, entry_in}

-- the entry of a label asks nodes among so many
abbrev pub EntryAsks : (nodes : ℕ) → Name × Entry → Type 0
EntryAsks nodes one = AllOf (AsksNodes nodes) one.1.questions

-- fields that let anything stand at the labels of entries
abbrev pub open_fields : List (Name × Entry) → List (Name × Field)
open_fields entries = map (λ one. (one.0, record { optional = true; type = ANY })) entries

module _ (graph : Graph) where
  -- formulas of the graph come after others
  abbrev pub Adds : (old new : List Formula) → Type 0
  Adds old new = (more : List Formula) × (new ≡ old ++ more)
      × AllOf (IsFormula (length graph)) more

  -- a record is at each name as the entries say
  abbrev pub IsAsSaid : List (Name × Entry) → List Question → thing.Fields → Type 0
  IsAsSaid entries every fields = (name : Name)
      → IsInEntry (in_node graph) (thing_at fields name) (entry_in entries every name)

  -- a record has a value of a question at a name that has no entry
  abbrev pub HasOther : List (Name × Entry) → thing.Fields → Question → Type 0
  HasOther entries fields question = (name : Name)
      × (AnyOf (λ one. one.0 ≡ name) entries → ⊥)
      × IsInCell (in_node graph) (thing_at fields name)
      (record { absent = false; value = question })

  -- and so for each of some questions
  abbrev pub IsRest : List (Name × Entry) → List Question → (left : List Question) → thing.Fields
      → Type 0
  IsRest entries every left fields = IsAsSaid entries every fields
      × AllOf (HasOther entries fields) left

  -- where these formulas stand after those of the graph, and then others
  module _ (batch : List Formula) where
    abbrev pub longer : Graph → Graph
    longer more = graph ++ (batch ++ more)

    -- a node holds what is in one of the questions
    pub record HoldsUnion (questions : List Question) (id : NodeId) : Type 0 where
      pub node : id.0 < length graph + length batch
      pub elements : (more : Graph) (e : Thing) → IsElement e
          → InOneQuestion (in_node graph) questions e ↔ in_node (longer more) e id true

    -- a node holds what is outside a question
    pub record HoldsOutside (question : Question) (id : NodeId) : Type 0 where
      pub node : id.0 < length graph + length batch
      pub elements : (more : Graph) (e : Thing) → IsElement e
          → asked (in_node graph e) question true ↔ in_node (longer more) e id false

    -- a field says what an entry says
    pub record IsFieldOf (entry : Entry) (field : Field) : Type 0 where
      pub optional : field.optional ≡ entry.optional
      pub type : HoldsUnion entry.questions field.type

    abbrev pub IsNamedFor : Name × Entry → Name × Field → Type 0
    IsNamedFor one field = (field.0 ≡ one.0) × IsFieldOf one.1 field.1

    abbrev pub AreFieldsOf : List (Name × Entry) → List (Name × Field) → Type 0
    AreFieldsOf entries named = AllZip IsNamedFor entries named

    -- a formula holds records alone, and exactly those for which something is so
    pub record HoldsRecords (IsSo : thing.Fields → Type 0) (f : Formula) : Type 0 where
      pub exact : (more : Graph) (fields : thing.Fields) → IsElement (thing.Record fields)
          → IsSo fields ↔ holds (reader (longer more) (thing.Record fields)) f true
      pub records : (more : Graph) (d : Thing) → holds (reader (longer more) d) f true
          → IsRecord d
      pub sound : IsFormula (length graph + length batch) f

    -- a formula holds the records that have a value of a question at a name that has no entry
    pub record HoldsOther (entries : List (Name × Entry)) (question : Question) (f : Formula)
        : Type 0 where
      pub exact : (more : Graph) (fields : thing.Fields) → IsElement (thing.Record fields)
          → HasOther entries fields question
          ↔ holds (reader (longer more) (thing.Record fields)) f true
      pub sound : IsFormula (length graph + length batch) f

  -- a formula holds the records of another one that have a value for each of some questions at
  -- names without entries
  abbrev pub IsMeet : (old new : List Formula) → List (Name × Entry) → Formula
      → (left : List Question) → Formula → Type 0
  IsMeet old new entries one left f = (every : List Question)
      → HoldsRecords old (IsAsSaid entries every) one
      → HoldsRecords new (IsRest entries every left) f

  -- formulas of the graph, and then one that holds records alone, exactly those for which something
  -- is so, with the node that is to have it
  pub record IsMadeFor (IsSo : thing.Fields → Type 0) (batch : List Formula) (id : NodeId)
      : Type 0 where
    pub before : List Formula
    pub last : Formula
    pub same : batch ≡ before ++ (last ∷ [])
    pub sound : AllOf (IsFormula (length graph)) before
    pub holding : HoldsRecords before IsSo last
    pub number : id.0 ≡ length graph + length before

-- in another graph a node holds records alone, exactly those for which something is so
pub record IsNodeFor (new : Graph) (IsSo : thing.Fields → Type 0) (id : NodeId) : Type 0 where
  pub node : id.0 < length new
  pub exact : (fields : thing.Fields) → IsElement (thing.Record fields)
      → IsSo fields ↔ in_node new (thing.Record fields) id true
  pub records : (d : Thing) → in_node new d id true → IsRecord d
