-- A node for what is left of rows where a label goes holds the records without the label.
use Rattle.std.proofs.Common.{◌≡◌, true, List, [], ◌∷◌, ◌++◌, map, ◌⊎◌, inl, inr, refl, sym, subst}
use Rattle.cd_sets.specs.declared.node_id.NodeId.{NodeId}
use Rattle.cd_syntax.specs.Name.{Name, IsLabel}
use Rattle.cd_model.specs.AllOf.{AllOf, AnyOf}
use Rattle.cd_model.specs.BuiltIns.{built_ins, EMPTY}
use Rattle.cd_model.specs.Formula.{Graph, in_node}
use Rattle.cd_model.specs.Thing as thing
use Rattle.cd_model.specs.Thing.{Thing, Fields, IsElement, IsRecord}
use Rattle.cd_rules.specs.Rows.{Row}
use Rattle.cd_model.proofs.Ones.{one_of_map, map_of_one, one_on_left, one_on_right, one_on_a_side}
use Rattle.cd_model.proofs.ReadHeads.{nothing_in_empty}
use Rattle.cd_rows.specs.RecordRows.{InRecordRow, RowHasWitnesses}
use Rattle.cd_meaning.specs.Records.{HasRecord, IsRestOf, IsWithout}
use Rattle.cd_meaning.specs.Sets.{elements_of}
use Rattle.cd_records.specs.Inner.Rests.{AreRests, IsOfRest, IsOfRests, IsRestNode, Rest}
use Rattle.cd_records.specs.Inner.Rows.{AreRowsOf}
use Rattle.cd_records.specs.Inner.Standing.{IsNodeFor}
use Rattle.cd_records.proofs.BuiltInsBelow.{empty_below}
use Rattle.cd_records.proofs.RestsOfRows.{rest_to_row, row_to_rest}
use Rattle.cd_records.proofs.RowsOfNodes.{record_of_rows, row_of_record}

module _ (graph : Graph) (label : Name) where
  -- a record of one of the rows without the label is one of a rest
  to_rests : (rows : List Row) (rests : List Rest) → AreRests graph label rows rests
      → (fields others : Fields) → IsElement (thing.Record fields)
      → IsWithout label fields others → AnyOf (InRecordRow (in_node graph) fields) rows
      → IsOfRests graph label rests others
  to_rests [] rests same fields others is without one = absurd one
  to_rests (row ∷ rows) rests (lefts, later, are, further, same) fields others is without one =
      subst (λ (rests : List Rest). IsOfRests graph label rests others) (sym same)
      (by_one (to_rests rows later further fields others is without) one)
    where
      Fact : Rest → Type 0
      Fact rest = IsOfRest graph label rest others

      by_one : (AnyOf (InRecordRow (in_node graph) fields) rows → AnyOf Fact later)
          → AnyOf (InRecordRow (in_node graph) fields) (row ∷ rows)
          → AnyOf Fact (map (λ left. (row, left)) lefts ++ later)
      by_one on (inl inside) = one_on_left Fact (map (λ left. (row, left)) lefts) later
          (one_of_map (λ left. (row, left)) Fact lefts
          (row_to_rest graph row label fields others inside without is lefts are))
      by_one on (inr rest) = one_on_right Fact (map (λ left. (row, left)) lefts) later (on rest)

  -- and back
  from_rests : IsLabel label → (rows : List Row) (rests : List Rest)
      → AllOf (RowHasWitnesses (in_node graph) IsElement) rows → AreRests graph label rows rests
      → (others : Fields) → IsElement (thing.Record others)
      → IsOfRests graph label rests others
      → (fields : Fields) × IsElement (thing.Record fields)
      × AnyOf (InRecordRow (in_node graph) fields) rows × IsWithout label fields others
  from_rests is_label [] rests witnesses same others is one =
      absurd (subst (λ (rests : List Rest). IsOfRests graph label rests others) same one)
  from_rests is_label (row ∷ rows) rests witnesses (lefts, later, are, further, same) others is one =
      by_side (from_rests is_label rows later witnesses.1 further others is)
      (one_on_a_side Fact (map (λ left. (row, left)) lefts) later
      (subst (λ (rests : List Rest). IsOfRests graph label rests others) same one))
    where
      Fact : Rest → Type 0
      Fact rest = IsOfRest graph label rest others

      by_side : (AnyOf Fact later → (fields : Fields) × IsElement (thing.Record fields)
          × AnyOf (InRecordRow (in_node graph) fields) rows × IsWithout label fields others)
          → AnyOf Fact (map (λ left. (row, left)) lefts) ⊎ AnyOf Fact later
          → (fields : Fields) × IsElement (thing.Record fields)
          × AnyOf (InRecordRow (in_node graph) fields) (row ∷ rows) × IsWithout label fields others
      by_side on (inl one) =
          let found = rest_to_row graph row label witnesses.0 is_label others is lefts are
          (map_of_one (λ left. (row, left)) Fact lefts one) in
          (found.0, found.1, inl found.2, found.3)
      by_side on (inr one) =
          let found = on one in
          (found.0, found.1, inr found.2, found.3)

module _ (graph before : Graph) (begins : graph ≡ built_ins ++ before) (label : Name)
    (is_label : IsLabel label) (rows : List Row) where
  pub rest_node : (rests : List Rest) → AreRests graph label rows rests → (new : Graph)
      (id : NodeId) → IsNodeFor new (IsOfRests graph label rests) id
      → IsRestNode graph new label rows id
  rest_node rests are new id is_node = record {
    node = is_node.node;
    has = λ a rows_are d is rest. has_rest a rows_are d is rest;
    only = λ a rows_are d is inside. only_rest a rows_are d (is_node.records d inside) is inside;
  }
    where
      has_rest : (a : NodeId) → AreRowsOf graph a rows → (d : Thing) → IsElement d
          → IsRestOf label (elements_of graph a) d → in_node new d id true
      has_rest a rows_are d is (fields, others, same, has, without) = subst
          (λ (d : Thing). in_node new d id true) (sym same)
          ((is_node.exact others (subst IsElement same is)).0
          (to_rests graph label rows rests are fields others has.0 without
          (row_of_record graph before begins a rows rows_are fields has)))

      only_rest : (a : NodeId) → AreRowsOf graph a rows → (d : Thing) → IsRecord d → IsElement d
          → in_node new d id true → IsRestOf label (elements_of graph a) d
      only_rest a rows_are (thing.Record others) record_is is inside =
          let found = from_rests graph label is_label rows rests rows_are.witnesses are others is
          ((is_node.exact others is).1 inside) in (
            found.0,
            others,
            refl,
            record_of_rows graph before begins a rows rows_are found.0 found.1 found.2,
            found.3,
          )
      only_rest a rows_are (thing.Integer n) record_is is inside = absurd record_is
      only_rest a rows_are (thing.Character c) record_is is inside = absurd record_is
      only_rest a rows_are (thing.Atom name) record_is is inside = absurd record_is
      only_rest a rows_are (thing.Pair one other) record_is is inside = absurd record_is
      only_rest a rows_are (thing.Xml tag attributes content) record_is is inside =
          absurd record_is
      only_rest a rows_are (thing.Function pairs) record_is is inside = absurd record_is
      only_rest a rows_are (thing.Closure function environment) record_is is inside =
          absurd record_is

  -- where there is no row there is no record
  pub rest_empty : rows ≡ [] → IsRestNode graph graph label rows EMPTY
  rest_empty none = record {
    node = empty_below graph before begins;
    has = λ a rows_are d is rest. absurd (no_record a rows_are rest.0 rest.3);
    only = λ a rows_are d is inside. absurd (nothing_in_empty graph before begins d inside);
  }
    where
      no_record : (a : NodeId) → AreRowsOf graph a rows → (fields : Fields)
          → HasRecord (elements_of graph a) fields → ⊥
      no_record a rows_are fields has =
          subst (AnyOf (InRecordRow (in_node graph) fields)) none
          (row_of_record graph before begins a rows rows_are fields has)
