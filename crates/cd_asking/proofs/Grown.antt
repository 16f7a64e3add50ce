-- What is known stays right when the graph and the names grow.
use Rattle.std.proofs.Common.{◌≡◌, ℕ, ◌<◌, Option, List, [], ◌∷◌, ◌++◌, length, map, refl, sym, ap, ◌∙◌, subst, arith, length-append, append-nil}
use Rattle.std.proofs.lemmas.List.{get_or_append_left}
use Rattle.std.proofs.lemmas.Option.{unwrap_or-slice_get}
use Rattle.cd_sets.specs.declared.node_id.NodeId.{NodeId}
use Rattle.cd_syntax.specs.Name.{Name, IsLabel}
use Rattle.cd_model.specs.AllOf.{AllOf}
use Rattle.cd_model.specs.Formula.{Graph, formula_at, Nothing}
use Rattle.cd_cells.specs.Cells.{name_at}
use Rattle.cd_cells.specs.Table.{names, Grows}
use Rattle.cd_cells.specs.declared.values.Values.{Values}
use Rattle.cd_cells.proofs.InGrown.{name_in_grown}
use Rattle.cd_asking.specs.Known.{KnowsOf}
use Rattle.cd_asking.specs.Inner.Rows.{row_at}
use Rattle.cd_asking.specs.Inner.Shapes as plain
use Rattle.cd_asking.specs.Inner.Shapes.{in_formula, members}
use Rattle.cd_asking.specs.Inner.Tasks.{Child, First, Second, Tag, Attributes, Content, At, AsksIn, Covers, answered}
use Rattle.cd_asking.specs.Inner.Asked.{set_at, shape_by, done_by, IsField, IsCase, IsCaseWithin, AreBelow, AreNodesOf, Found}
use Rattle.cd_asking.specs.Inner.Entries.{ArePairLeads, AreXmlLeads, AreLetters, IsLead, IsAnswer, IsRecent}
use Rattle.cd_asking.specs.declared.node_sets.SetId.{SetId}
use Rattle.cd_asking.specs.declared.asker.Asker.{Asker}
use Rattle.cd_asking.specs.declared.asker.Lead.{Lead}
use Rattle.cd_asking.specs.declared.asker.Question.{Question}
use Rattle.cd_asking.specs.declared.asker.Recent.{Recent}
use Rattle.cd_asking.specs.declared.asker.PairLeads.{PairLeads}
use Rattle.cd_asking.specs.declared.asker.XmlLeads.{XmlLeads}
use Rattle.cd_asking.specs.declared.case.Case.{Case}
use Rattle.cd_asking.specs.declared.case.Case.TheVariants as case
use Rattle.cd_asking.specs.declared.row.Answered.{Answered}
use Rattle.cd_asking.proofs.Kept.{slots_stay, set_below}
use Rattle.cd_asking.proofs.Members.{each_by, both_by, same_filter}

-- the graph grows
module _ (graph more : Graph) where
  formula_in_grown : (id : NodeId) → id.0 < length graph → formula_at (graph ++ more) id ≡ formula_at graph id
  formula_in_grown id within = unwrap_or-slice_get (graph ++ more) id.0 Nothing ∙ get_or_append_left graph more Nothing id.0 within
      ∙ sym (unwrap_or-slice_get graph id.0 Nothing)

  members_in_grown : (shape : plain.Shape) (set : List NodeId) → AreBelow (length graph) set → members (graph ++ more) shape set ≡ members graph shape set
  members_in_grown shape set below = same_filter _ _ set (each_by _ _ set (λ id within. ap (in_formula shape) (formula_in_grown id within)) below)

  covers_in_grown : (child : Child) (set next : List NodeId) → AreBelow (length graph) set → Covers graph child set next → Covers (graph ++ more) child set next
  covers_in_grown child set next below covers =
      both_by _ _ _ set (λ id within asks. subst (AsksIn child next) (sym (formula_in_grown id within)) asks) below covers

  module _ (sets : List (List NodeId)) (nodes : AreNodesOf graph sets) where
    below_at : (set : SetId) → AreBelow (length graph) (set_at sets set)
    below_at set = set_below (length graph) sets set nodes

    found_in_grown : (shape : plain.Shape) (set answer : SetId) → Found graph shape (set_at sets set) sets answer
        → Found (graph ++ more) shape (set_at sets set) sets answer
    found_in_grown shape set answer is = (is.0, is.1 ∙ sym (members_in_grown shape (set_at sets set) (below_at set)))

    pub nodes_in_grown : AreNodesOf (graph ++ more) sets
    nodes_in_grown = each_by _ _ sets (λ set below. each_by _ _ set (λ id within. (let all = length-append graph more in omega (arith, within, all))) below) nodes

    pub both_in_grown : (number : ℕ) (leads : PairLeads) → ArePairLeads graph sets number leads → ArePairLeads (graph ++ more) sets number leads
    both_in_grown number leads is = let set : SetId = record { 0 = number } in (
      is.0,
      (
        is.1.0,
        is.1.1,
        covers_in_grown First (set_at sets set) (set_at sets leads.first) (below_at set) is.1.2,
        covers_in_grown Second (set_at sets set) (set_at sets leads.second) (below_at set) is.1.3,
      ),
    )

    pub all_in_grown : (number : ℕ) (leads : XmlLeads) → AreXmlLeads graph sets number leads → AreXmlLeads (graph ++ more) sets number leads
    all_in_grown number leads is = let set : SetId = record { 0 = number } in (
      is.0,
      (
        is.1.0,
        is.1.1,
        is.1.2,
        covers_in_grown Tag (set_at sets set) (set_at sets leads.tag) (below_at set) is.1.3,
        covers_in_grown Attributes (set_at sets set) (set_at sets leads.attributes) (below_at set) is.1.4,
        covers_in_grown Content (set_at sets set) (set_at sets leads.content) (below_at set) is.1.5,
      ),
    )

    pub letters_in_grown : (letters : List (Option SetId)) → AreLetters graph sets letters → AreLetters (graph ++ more) sets letters
    letters_in_grown letters right set c answer ascii is =
        let was = right set c answer ascii is in (was.0, found_in_grown (plain.Character c) (record { 0 = set }) answer was.1)

    -- and the names
    module _ (names more_names : List Name) where
      is_label : (number : ℕ) → IsLabel (name_at names number) → IsLabel (name_at (names ++ more_names) number)
      is_label number is = subst IsLabel (sym (name_in_grown names more_names number is)) is

      pub lead_in_grown : (lead : Lead × SetId) → IsLead graph sets names lead → IsLead (graph ++ more) sets (names ++ more_names) lead
      lead_in_grown lead is = (
        is_label lead.0.label is.0,
        is.1,
        is.2,
        subst (λ (label : Name). Covers (graph ++ more) (At label) (set_at sets lead.0.set) (set_at sets lead.1))
            (sym (name_in_grown names more_names lead.0.label is.0))
            (covers_in_grown (At (name_at names lead.0.label)) (set_at sets lead.0.set) (set_at sets lead.1) (below_at lead.0.set) is.3),
      )

      module _ (rows : List (List Answered)) where
        done_in_grown : (done : List Answered) → AllOf (IsField names (length sets)) done → map (done_by (names ++ more_names) sets) done ≡ map (done_by names sets) done
        done_in_grown [] are = refl
        done_in_grown (one ∷ done) are = cc (name_in_grown names more_names one.label are.0.0, done_in_grown done are.1)

        shape_in_grown : (is : Case) → IsCase names is → IsCaseWithin names sets rows is → shape_by (names ++ more_names) sets rows is ≡ shape_by names sets rows is
        shape_in_grown (case.Letter c) labelled within = refl
        shape_in_grown (case.Atom name) labelled within = ap plain.Atom (name_in_grown names more_names name labelled)
        shape_in_grown (case.Pair first second) labelled within = refl
        shape_in_grown (case.Xml tag attributes content) labelled within = refl
        shape_in_grown (case.Record row) labelled within = ap (λ done. plain.Record (answered done)) (done_in_grown (row_at rows row) within.1)

        case_in_grown : (is : Case) → IsCase names is → IsCase (names ++ more_names) is
        case_in_grown (case.Atom name) labelled = is_label name labelled
        case_in_grown (case.Letter c) labelled = tt
        case_in_grown (case.Pair first second) labelled = tt
        case_in_grown (case.Xml tag attributes content) labelled = tt
        case_in_grown (case.Record row) labelled = tt

        parts_in_grown : (is : Case) → IsCaseWithin names sets rows is → IsCaseWithin (names ++ more_names) sets rows is
        parts_in_grown (case.Letter c) within = tt
        parts_in_grown (case.Atom name) within = tt
        parts_in_grown (case.Pair first second) within = within
        parts_in_grown (case.Xml tag attributes content) within = within
        parts_in_grown (case.Record row) within =
            (within.0, each_by _ _ (row_at rows row) (λ field is. (is_label field.label is.0, is.1)) within.1)

        pub answer_in_grown : (answer : Question × SetId) → IsAnswer graph sets names rows answer → IsAnswer (graph ++ more) sets (names ++ more_names) rows answer
        answer_in_grown answer is = (
          is.0,
          case_in_grown answer.0.case is.1,
          parts_in_grown answer.0.case is.2,
          subst (λ shape. Found (graph ++ more) shape (set_at sets answer.0.set) sets answer.1) (sym (shape_in_grown answer.0.case is.1 is.2))
              (found_in_grown _ answer.0.set answer.1 is.3),
        )

        pub recent_in_grown : (place : ℕ) (recent : Recent) → IsRecent graph sets names rows place recent
            → IsRecent (graph ++ more) sets (names ++ more_names) rows place recent
        recent_in_grown place recent is = answer_in_grown (recent.question, recent.answer) is

pub knows_in_grown : (graph more : Graph) (names more_names : List Name) (asker : Asker) → KnowsOf graph names asker
    → KnowsOf (graph ++ more) (names ++ more_names) asker
knows_in_grown graph more names more_names asker right = record {
  nodes = nodes_in_grown graph more asker.sets right.nodes;
  pairs = slots_stay _ _ (both_in_grown graph more asker.sets right.nodes) asker.pairs right.pairs;
  xmls = slots_stay _ _ (all_in_grown graph more asker.sets right.nodes) asker.xmls right.xmls;
  letters = letters_in_grown graph more asker.sets right.nodes asker.letters right.letters;
  leads = each_by _ _ asker.leads.entries (lead_in_grown graph more asker.sets right.nodes names more_names) right.leads;
  answers = each_by _ _ asker.answers.entries (answer_in_grown graph more asker.sets right.nodes names more_names asker.rows) right.answers;
  recent = slots_stay _ _ (recent_in_grown graph more asker.sets right.nodes names more_names asker.rows) asker.recent right.recent;
}

-- and when one of them grows
pub knows_in_grown_graph : (graph more : Graph) (names : List Name) (asker : Asker) → KnowsOf graph names asker → KnowsOf (graph ++ more) names asker
knows_in_grown_graph graph more names asker right =
    subst (λ names. KnowsOf (graph ++ more) names asker) (append-nil names) (knows_in_grown graph more names [] asker right)

pub knows_in_grown_names : (graph : Graph) (names more : List Name) (asker : Asker) → KnowsOf graph names asker → KnowsOf graph (names ++ more) asker
knows_in_grown_names graph names more asker right =
    subst (λ graph. KnowsOf graph (names ++ more) asker) (append-nil graph) (knows_in_grown graph [] names more asker right)

-- as when values are added to a table
pub knows_in_grown_values : (graph : Graph) (old new : Values) (asker : Asker) → Grows old new → KnowsOf graph (names old) asker → KnowsOf graph (names new) asker
knows_in_grown_values graph old new asker grows right =
    subst (λ names. KnowsOf graph names asker) (sym grows.labels.1) (knows_in_grown_names graph (names old) grows.labels.0 asker right)
