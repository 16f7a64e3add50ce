-- The formula at a node with the equations of a form is one of this form, where it is no connective and no name.
use Rattle.std.proofs.Common.{◌≡◌, ℕ, true, false, List, [], ◌∷◌, Some, ◌⊎◌, inl, inr, bytes_eq, unwrap_or}
use Rattle.std.proofs.Common.{refl, sym, ◌∙◌, ap, subst}
use Rattle.std.specs.Prelude.{int_le, nat_le}
use Rattle.std.proofs.Math.Bool.{or-false}
use Rattle.std.proofs.lemmas.Bool.{cases_Bool}
use Rattle.cd_sets.specs.declared.node_id.NodeId.{NodeId}
use Rattle.cd_sets.specs.Characters.{is_among}
use Rattle.cd_sets.specs.Interval.{is_between}
use Rattle.cd_syntax.specs.Integer.{LEAST, GREATEST}
use Rattle.cd_syntax.specs.Name.{Name}
use Rattle.cd_syntax.specs.declared.builtin.BuiltinName.TheVariants as builtin
use Rattle.cd_syntax.specs.TypeTree as type
use Rattle.cd_syntax.specs.TypeTree.{Tree, Kind, Trees, NoTree, ATree}
use Rattle.cd_model.specs.Alike as heads
use Rattle.cd_model.specs.Alike.{FieldsStand, HeadsStand}
use Rattle.cd_model.specs.BuiltIns.{node_named, EMPTY}
use Rattle.cd_model.specs.AllOf.{AllOf}
use Rattle.cd_model.specs.Formula as formula
use Rattle.cd_model.specs.Formula.{Graph, Formula, formula_at}
use Rattle.cd_model.specs.Scope.{Scope, Declared, names_in, names_in_fields, names_in_rest, names_over}
use Rattle.cd_model.specs.Types.{Head, Integers, Characters, field_of}
use Rattle.cd_model.specs.Written as written
use Rattle.cd_model.specs.Written.{WrittenType, kind_of, tuple_rest, arrows_rest, named_in, rest_in}
use Rattle.cd_model.specs.Written.{type_named, within}
use Rattle.cd_model.proofs.Covered.{Covered, each_parts, covered_tree}
use Rattle.cd_model.proofs.CoveredParts.{covered_first, covered_tuple, covered_argument, covered_arrows, covered_xml}
use Rattle.cd_model.proofs.FormulasAlike.{built_ins_stand}
use Rattle.cd_shared.specs.Equation.{Equations, Is}
use Rattle.cd_resolve.specs.Inner.Equates.{IsAt, HasLeaf, Equates, EquatesKind, EquatesChain, EquatesFields}
use Rattle.cd_resolve.specs.Inner.Equates.{EquatesRest, AllEquated}
use Rattle.cd_resolve.specs.Inner.ScopeLevels.{ScopeLevels, scope_of}
use Rattle.cd_resolve.specs.Inner.Leaves.{Pairs, Arrows, characters}
use Rattle.cd_resolve.specs.Inner.Solves.{Solves}
use Rattle.cd_resolve.proofs.BuiltInNodes.{Begins, formula_of_empty, formula_of_name, formula_of_nil}
use Rattle.cd_resolve.proofs.FormsFields.{Named, sorted_fields}
use Rattle.cd_resolve.proofs.FormsSequences.{IsOver, regular_over, means_sequences}
use Rattle.cd_resolve.proofs.FormsSets.{none_between, none_among, means_no_integer, means_no_character}
use Rattle.cd_resolve.proofs.GivenFormulas.{solved}
use Rattle.cd_resolve.proofs.StatesFollow.{sequence_holds}
use Rattle.cd_resolve.proofs.NodesOfTypes.{IsAlone, of_tree, IsOf, Stands, placed, alone, part_stands}
use Rattle.cd_model.proofs.Resolved as form
use Rattle.cd_model.proofs.Resolved.{IsForm, IsFormOf, MeansIn, KnownIn, means_its_head}

module _ (graph : Graph) (first : ℕ) (equations : Equations) (names : List (Name × NodeId)) (base : Scope)
    (Fact : Declared → Type 0) (solves : Solves graph first equations) (begins : Begins graph) (count : ℕ) where
  abbrev pub StandsHere : NodeId → WrittenType → Type 0
  StandsHere = Stands first equations names base Fact

  abbrev pub IsFormHere : ℕ → Formula → Scope → Kind → Type 0
  IsFormHere = IsFormOf (MeansIn graph) (KnownIn graph count) StandsHere

  -- what holds nothing, and what has a formula for its equation
  pub as_nothing : (most : ℕ) (scope : Scope) (kind : Kind) (id : NodeId) → id ≡ EMPTY
      → IsFormHere most formula.Nothing scope kind → IsFormHere most (formula_at graph id) scope kind
  as_nothing most scope kind id there is = subst (λ formula. IsFormHere most formula scope kind)
      (sym (ap (formula_at graph) there ∙ formula_of_empty graph begins)) is

  as_formula : (most : ℕ) (scope : Scope) (kind : Kind) (id : NodeId) (formula : Formula)
      → IsAt first equations id (Is formula) → IsFormHere most formula scope kind
      → IsFormHere most (formula_at graph id) scope kind
  as_formula most scope kind id formula there form = subst (λ formula. IsFormHere most formula scope kind)
      (sym (solved graph first equations id (Is formula) solves there)) form

  -- a formula that has a head
  by_its_head : (most : ℕ) (scope : Scope) (kind : Kind) (is : Formula) (one : Head NodeId) (other : Head WrittenType)
      → IsForm kind → formula.head_of is ≡ Some one → written.head_of scope kind ≡ Some other
      → HeadsStand StandsHere one other
      → IsFormHere most is scope kind
  by_its_head most scope kind is one other is_form of_one of_other stand =
      form.by_head most is scope kind one other is_form (means_its_head graph is one of_one) of_other stand

  -- characters, and the forms in which no name can stand
  chars_form : (most : ℕ) (scope : Scope) (low high : ℕ) (id : NodeId)
      → HasLeaf first equations (characters low high) id
      → IsFormHere most (formula_at graph id) scope (type.Chars low high)
  chars_form most scope low high id equates = by_test (cases_Bool (nat_le low high)) equates
    where
      by_test : (nat_le low high ≡ true) ⊎ (nat_le low high ≡ false) → HasLeaf first equations (characters low high) id
          → IsFormHere most (formula_at graph id) scope (type.Chars low high)
      by_test (inl fits) equates = as_formula most scope (type.Chars low high) id _ (rw fits at equates)
          (by_its_head most scope (type.Chars low high) _ _ _ tt refl refl (heads.characters _ _ (λ c. or-false _)))
      by_test (inr fails) equates = as_nothing most scope (type.Chars low high) id (rw fails at equates)
          (form.by_head most formula.Nothing scope (type.Chars low high) (Characters (λ c. false))
          (Characters (is_among low high)) tt
          (means_no_character graph) refl (heads.characters _ _ (λ c. sym (none_among low high c fails))))

  pub alone_form : (most : ℕ) (scope : Scope) (kind : Kind) (id : NodeId) → IsAlone kind
      → EquatesKind first equations names [] kind id → IsFormHere most (formula_at graph id) scope kind
  alone_form most scope (type.Builtin name) id is equates = subst
      (λ formula. IsFormHere most formula scope (type.Builtin name))
      (sym (ap (formula_at graph) equates ∙ formula_of_name graph begins name))
      (form.by_name most _ scope name (built_ins_stand StandsHere node_named type_named
      (λ name. alone (type.Builtin name) (node_named name) tt refl) name))
  alone_form most scope (type.Chars low high) id is equates = chars_form most scope low high id equates
  alone_form most scope (type.Text []) id is equates = subst (λ formula. IsFormHere most formula scope (type.Text []))
      (sym (ap (formula_at graph) equates ∙ formula_of_nil graph begins))
      (by_its_head most scope (type.Text []) _ _ _ tt refl refl (heads.atoms _ _ (λ name. or-false _)))
  alone_form most scope (type.Text (c ∷ later)) id is equates =
      as_formula most scope (type.Text (c ∷ later)) id _ equates.2
      (by_its_head most scope (type.Text (c ∷ later)) _ _ _ tt refl refl (heads.products _ _ _ _
      (alone (type.Chars c c) equates.0 tt equates.3) (alone (type.Text later) equates.1 tt equates.4)))
  alone_form most scope _ id is equates = absurd is

  -- the equations of a chain's rest are those of what is written there
  tuple_equates : (levels : ScopeLevels) (is : Tree) (rest : Trees) (id : NodeId)
      → EquatesChain first equations names levels Pairs (ATree is rest) id
      → EquatesKind first equations names levels (tuple_rest (ATree is rest)) id
  tuple_equates levels is NoTree id equates = of_tree first equations names levels is id equates
  tuple_equates levels is (ATree next rest) id equates = equates

  arrows_equates : (levels : ScopeLevels) (is : Tree) (rest : Trees) (id : NodeId)
      → EquatesChain first equations names levels Arrows (ATree is rest) id
      → EquatesKind first equations names levels (arrows_rest (ATree is rest)) id
  arrows_equates levels is NoTree id equates = of_tree first equations names levels is id equates
  arrows_equates levels is (ATree next rest) id equates = equates

  abbrev IsHere : ScopeLevels → Kind → NodeId → Type 0
  IsHere = IsOf first equations names base Fact

  part_at : (levels : ScopeLevels) (is : Tree) (id : NodeId) → AllEquated first equations names levels
      → Equates first equations names levels is id
      → Covered Fact (scope_of base levels) (kind_of is) → StandsHere id (within (scope_of base levels) is)
  part_at = part_stands first equations names base Fact

  -- what is found of a label among fields stands for what is written first of it
  fields_stand : (levels : ScopeLevels) (all : type.Fields) (named : Named) (rest : NodeId) (of_rest : WrittenType)
      (label : Name)
      → StandsHere rest of_rest → AllEquated first equations names levels
      → EquatesFields first equations names levels all named
      → AllOf Fact (names_in_fields (scope_of base levels) all) → AllOf Fact (names_over (scope_of base levels))
      → FieldsStand StandsHere (field_of named rest label)
      (field_of (named_in (scope_of base levels) all) of_rest label)
  fields_stand levels type.NoField [] rest of_rest label stands around equates facts over =
      record { optional = refl; type = stands }
  fields_stand levels type.NoField (field ∷ named) rest of_rest label stands around equates facts over =
      elim equates [ ]
  fields_stand levels (type.AField name at optional is fields) [] rest of_rest label stands around equates
      facts over = elim equates [ ]
  fields_stand levels (type.AField name at optional is fields) (field ∷ named) rest of_rest label stands around equates
      facts over = by_name (cases_Bool (bytes_eq name label))
      (fields_stand levels fields named rest of_rest label stands around equates.3 parts.1 over)
    where
      parts : AllOf Fact (names_in (scope_of base levels) is)
          × AllOf Fact (names_in_fields (scope_of base levels) fields)
      parts = each_parts Fact (names_in (scope_of base levels) is) (names_in_fields (scope_of base levels) fields) facts

      FieldIs : Type 0
      FieldIs = FieldsStand StandsHere (field_of (field ∷ named) rest label)
          (field_of (named_in (scope_of base levels) (type.AField name at optional is fields)) of_rest label)

      by_name : (bytes_eq name label ≡ true) ⊎ (bytes_eq name label ≡ false)
          → FieldsStand StandsHere (field_of named rest label)
          (field_of (named_in (scope_of base levels) fields) of_rest label)
          → FieldIs
      by_name (inl same) later = rw equates.0 (rw same (record {
        optional = equates.1;
        type = part_at levels is field.1.type around equates.2
            (covered_tree Fact (scope_of base levels) is parts.0 over);
      }))
      by_name (inr differs) later = rw equates.0 (rw differs later)

  -- the rest of a record
  rest_stands : (levels : ScopeLevels) (rest : type.Rest) (id : NodeId) → AllEquated first equations names levels
      → EquatesRest first equations names levels rest id
      → AllOf Fact (names_in_rest (scope_of base levels) rest) → AllOf Fact (names_over (scope_of base levels))
      → StandsHere id (rest_in (scope_of base levels) rest)
  rest_stands levels type.Closed id around equates facts over = alone (type.Builtin builtin.Empty) id tt equates
  rest_stands levels type.Open id around equates facts over = alone (type.Builtin builtin.Any) id tt equates
  rest_stands levels (type.Typed is) id around equates facts over =
      part_at levels is id around equates (covered_tree Fact (scope_of base levels) is facts over)

  -- the forms of nodes
  pub form_at_node : (most : ℕ) (levels : ScopeLevels) (kind : Kind) (id : NodeId) → IsForm kind → IsHere levels kind id
      → IsFormHere most (formula_at graph id) (scope_of base levels) kind
  form_at_node most levels (type.Ints low high) id is_form is =
      by_test (cases_Bool (int_le (unwrap_or low LEAST) (unwrap_or high GREATEST))) is.equates
    where
      by_test : (int_le (unwrap_or low LEAST) (unwrap_or high GREATEST) ≡ true)
          ⊎ (int_le (unwrap_or low LEAST) (unwrap_or high GREATEST) ≡ false)
          → EquatesKind first equations names levels (type.Ints low high) id
          → IsFormHere most (formula_at graph id) (scope_of base levels) (type.Ints low high)
      by_test (inl fits) equates = as_formula most _ (type.Ints low high) id _ (rw fits at equates)
          (by_its_head most _ (type.Ints low high) _ _ _ tt refl refl (heads.integers _ _ (λ n. or-false _)))
      by_test (inr fails) equates = as_nothing most _ (type.Ints low high) id (rw fails at equates)
          (form.by_head most formula.Nothing _ (type.Ints low high) (Integers (λ n. false))
          (Integers (is_between (unwrap_or low LEAST) (unwrap_or high GREATEST))) tt
          (means_no_integer graph) refl (heads.integers _ _ (λ n. sym (none_between _ _ n fails))))
  form_at_node most levels (type.Chars low high) id is_form is =
      chars_form most (scope_of base levels) low high id is.equates
  form_at_node most levels (type.Atom name) id is_form is = as_formula most _ (type.Atom name) id _ is.equates
      (by_its_head most _ (type.Atom name) _ _ _ tt refl refl (heads.atoms _ _ (λ name. or-false _)))
  form_at_node most levels (type.Text text) id is_form is =
      alone_form most (scope_of base levels) (type.Text text) id tt is.equates
  form_at_node most levels (type.Tuple (ATree one (ATree next rest))) id is_form is =
      as_formula most _ (type.Tuple (ATree one (ATree next rest))) id _ is.equates.2
      (by_its_head most _ (type.Tuple (ATree one (ATree next rest))) _ _ _ tt refl refl (heads.products _ _ _ _
      (part_at levels one is.equates.0 is.around is.equates.3
      (covered_first Fact (scope_of base levels) one (ATree next rest) is.covered))
      (placed levels (tuple_rest (ATree next rest)) is.equates.1 (record {
        around = is.around;
        equates = tuple_equates levels next rest is.equates.1 is.equates.4;
        covered = covered_tuple Fact (scope_of base levels) one (ATree next rest) is.covered;
      }))))
  form_at_node most levels (type.Tuple trees) id is_form is = as_nothing most _ (type.Tuple trees) id is.equates
      (form.no_head most _ (type.Tuple trees) tt refl)
  form_at_node most levels (type.Arrows (ATree one (ATree next rest))) id is_form is =
      as_formula most _ (type.Arrows (ATree one (ATree next rest))) id _ is.equates.2
      (by_its_head most _ (type.Arrows (ATree one (ATree next rest))) _ _ _ tt refl refl (heads.arrows _ _ _ _
      (part_at levels one is.equates.0 is.around is.equates.3
      (covered_argument Fact (scope_of base levels) one (ATree next rest) is.covered))
      (placed levels (arrows_rest (ATree next rest)) is.equates.1 (record {
        around = is.around;
        equates = arrows_equates levels next rest is.equates.1 is.equates.4;
        covered = covered_arrows Fact (scope_of base levels) one (ATree next rest) is.covered;
      }))))
  form_at_node most levels (type.Arrows trees) id is_form is = as_nothing most _ (type.Arrows trees) id is.equates
      (form.no_head most _ (type.Arrows trees) tt refl)
  form_at_node most levels (type.Sequence expression) id is_form is =
      form.by_head most _ (scope_of base levels) (type.Sequence expression) _ _ tt
      (means_sequences graph id is.equates.0
      (sequence_holds graph first equations solves id is.equates.0 is.equates.1 is.equates.3) over.expression over.same)
      refl (heads.sequences _ _ over.stands)
    where
      over : IsOver first equations names base Fact levels is.around is.covered.over is.equates.0
          (written.regular_in (scope_of base levels) expression)
      over = regular_over first equations names base Fact levels is.around is.covered.over expression is.equates.0
          is.equates.2 is.covered.within
  form_at_node most levels (type.Record all rest) id is_form is =
      let scope = scope_of base levels in
      let parts = each_parts Fact (names_in_fields scope all) (names_in_rest scope rest) is.covered.within in
      as_formula most _ (type.Record all rest) id _ is.equates.2
      (by_its_head most _ (type.Record all rest) _ _ _ tt refl refl (heads.records _ _ _ _ (λ label.
      subst (λ field. FieldsStand StandsHere field (field_of (named_in scope all) (rest_in scope rest) label))
      (sym (sorted_fields is.equates.1 is.equates.0 label))
      (fields_stand levels all is.equates.0 is.equates.1 (rest_in scope rest) label
      (rest_stands levels rest is.equates.1 is.around is.equates.4 parts.1 is.covered.over)
      is.around is.equates.3 parts.0 is.covered.over))))
  form_at_node most levels (type.Xml tag attributes content) id is_form is =
      let parts = covered_xml Fact (scope_of base levels) tag attributes content is.covered in
      as_formula most _ (type.Xml tag attributes content) id _ is.equates.3
      (by_its_head most _ (type.Xml tag attributes content) _ _ _ tt refl refl (heads.xmls _ _ _ _ _ _
      (part_at levels tag is.equates.0 is.around is.equates.4 parts.tag_is)
      (part_at levels attributes is.equates.1 is.around is.equates.5 parts.attributes_are)
      (part_at levels content is.equates.2 is.around is.equates.6 parts.content_is)))
  form_at_node most levels (type.Variable name) id is_form is = as_nothing most _ (type.Variable name) id is.equates
      (form.no_head most _ (type.Variable name) tt refl)
  form_at_node most levels (type.Default name constant) id is_form is =
      as_nothing most _ (type.Default name constant) id is.equates
      (form.no_head most _ (type.Default name constant) tt refl)
  form_at_node most levels _ id is_form is = absurd is_form
