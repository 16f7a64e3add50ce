-- The formula at the node of a sequence means its expression, whose items stand for those of the written one.
use Rattle.std.proofs.Common.{◌≡◌, ◌↔◌, ℕ, Bool, List, ◌++◌, refl, ap, sym, subst, ◌∙◌}
use Rattle.cd_sets.specs.declared.node_id.NodeId.{NodeId}
use Rattle.cd_syntax.specs.Name.{Name}
use Rattle.cd_syntax.specs.TypeTree as type
use Rattle.cd_syntax.specs.declared.type_tree.Post.{Post}
use Rattle.cd_syntax.specs.declared.type_tree.Post.TheVariants as post
use Rattle.cd_model.specs.Alike as heads
use Rattle.cd_model.specs.Alike.{RegularsStand, RowsStand}
use Rattle.cd_model.specs.AllOf.{AllOf}
use Rattle.cd_model.specs.Formula.{Graph, formula_at, nodes}
use Rattle.cd_model.specs.Interfaces.{admits}
use Rattle.cd_model.specs.Language as language
use Rattle.cd_model.specs.Scope.{Scope, Declared, names_over}
use Rattle.cd_model.specs.Scope.{names_in_regular, names_in_regular_kind, names_in_regulars}
use Rattle.cd_model.specs.Thing as thing
use Rattle.cd_model.specs.Thing.{Thing}
use Rattle.cd_model.specs.Types as types
use Rattle.cd_model.specs.Types.{Sequences, Presentation, Mapping, reader, items, are_in, no_closure, closure_maps}
use Rattle.cd_model.specs.Written.{WrittenType, regular_in, regular_kind_in, regulars_in}
use Rattle.cd_model.proofs.BothWays.{itself, through}
use Rattle.cd_model.proofs.Covered.{each_parts, covered_tree}
use Rattle.cd_regex.specs.Regular.{Regular, Regulars, NoRegular, ARegular, fits, fits_in_turn, fits_one}
use Rattle.cd_shared.specs.Equation.{Equations}
use Rattle.cd_resolve.specs.Inner.Equates.{AllEquated, EquatesRegular, EquatesRegularKind, EquatesRegulars}
use Rattle.cd_resolve.specs.Inner.ScopeLevels.{ScopeLevels, scope_of}
use Rattle.cd_resolve.specs.Inner.Repeated.{repeated}
use Rattle.cd_resolve.proofs.NodesOfTypes.{Stands, part_stands}
use Rattle.cd_resolve.proofs.StatesFollow.{HoldsAt}
use Rattle.cd_model.proofs.Resolved.{MeansIn}

-- what a thing answers at a sequence
at_sequence : {X : Type 0} (at : Presentation X) (closed : ℕ → Mapping X) (is : Thing) (expression : types.Regular X)
    (answer : Bool)
    → are_in (items at closed is) (types.fits expression) answer ↔ reader at closed is (Sequences expression) answer
at_sequence at closed (thing.Atom name) expression answer = itself
at_sequence at closed (thing.Pair first second) expression answer = itself
at_sequence at closed _ expression answer = itself

-- the formula at a node that holds the sequences of an expression
pub means_sequences : (graph : Graph) (id : NodeId) (is : Regular) → HoldsAt graph id is
    → (expression : types.Regular NodeId) → types.fits expression ≡ fits is
    → MeansIn graph (formula_at graph id) (Sequences expression)
means_sequences graph id is at expression same =
    subst (λ graph. MeansIn graph (formula_at graph id) (Sequences expression)) (sym at.parts) (record {
      elements = λ e answer. through (at.holds.elements at.before at.after e answer at.long) (read no_closure e answer);
      values = λ interfaces v answer. through (at.holds.values at.before at.after interfaces v answer at.long)
          (read (closure_maps (nodes whole) (admits interfaces)) v answer);
    })
  where
    whole : Graph
    whole = at.before ++ at.batch ++ at.after

    read : (closed : ℕ → Mapping NodeId) (e : Thing) (answer : Bool)
        → are_in (items (nodes whole) closed e) (fits is) answer
        ↔ reader (nodes whole) closed e (Sequences expression) answer
    read closed e answer = subst (λ language. are_in (items (nodes whole) closed e) language answer
        ↔ reader (nodes whole) closed e (Sequences expression) answer) same
        (at_sequence (nodes whole) closed e expression answer)

module _ (first : ℕ) (equations : Equations) (names : List (Name × NodeId)) (base : Scope) (Fact : Declared → Type 0)
    (levels : ScopeLevels) (around : AllEquated first equations names levels)
    (over : AllOf Fact (names_over (scope_of base levels))) where
  abbrev StandsHere : NodeId → WrittenType → Type 0
  StandsHere = Stands first equations names base Fact

  abbrev scope : Scope
  scope = scope_of base levels

  -- an expression over nodes that stand for the items of a written one, which the same lists fit as this one
  pub record IsOver (is : Regular) (of : types.Regular WrittenType) : Type 1 where
    pub expression : types.Regular NodeId
    pub stands : RegularsStand StandsHere expression of
    pub same : types.fits expression ≡ fits is

  record AreOver (all : Regulars) (of : types.Regulars WrittenType) : Type 1 where
    pub rows : types.Regulars NodeId
    pub stand : RowsStand StandsHere rows of
    pub in_turn : types.fits_in_turn rows ≡ fits_in_turn all
    pub one : types.fits_one rows ≡ fits_one all

  repeated_same : (how : Post) (expression : types.Regular NodeId) (part : Regular)
      → types.fits expression ≡ fits part
      → types.fits (types.Repeat expression how) ≡ fits (repeated how part)
  repeated_same post.Star expression part same = ap language.star same
  repeated_same post.LazyStar expression part same = ap language.star same
  repeated_same post.Plus expression part same = ap language.plus same
  repeated_same post.LazyPlus expression part same = ap language.plus same
  repeated_same post.Opt expression part same = ap language.optional same
  repeated_same post.LazyOpt expression part same = ap language.optional same

  repeated_over : (part : Regular) (of : types.Regular WrittenType) (how : Post) → IsOver part of
      → IsOver (repeated how part) (types.Repeat of how)
  repeated_over part of how is = record {
    expression = types.Repeat is.expression how;
    stands = heads.repeat is.expression of how is.stands;
    same = repeated_same how is.expression part is.same;
  }

  more_over : (one : Regular) (others : Regulars) (of : types.Regular WrittenType) (rest : types.Regulars WrittenType)
      → IsOver one of → AreOver others rest → AreOver (ARegular one others) (types.ARegular of rest)
  more_over one others of rest is are = record {
    rows = types.ARegular is.expression are.rows;
    stand = heads.one_more is.expression of are.rows rest is.stands are.stand;
    in_turn = ap (λ one. language.followed one (types.fits_in_turn are.rows)) is.same
        ∙ ap (λ others. language.followed (fits one) others) are.in_turn;
    one = ap (λ one. language.either one (types.fits_one are.rows)) is.same
        ∙ ap (λ others. language.either (fits one) others) are.one;
  }

  mutual
    pub regular_over : (is : type.Regular) (regular : Regular) → EquatesRegular first equations names levels is regular
        → AllOf Fact (names_in_regular scope is) → IsOver regular (regular_in scope is)
    regular_over (type.regular span kind) regular equates within = kind_over kind regular equates within

    kind_over : (kind : type.RegularKind) (is : Regular) → EquatesRegularKind first equations names levels kind is
        → AllOf Fact (names_in_regular_kind scope kind) → IsOver is (regular_kind_in scope kind)
    kind_over type.Nothing is equates within = subst (λ is. IsOver is types.NoItem) (sym equates)
        (record { expression = types.NoItem; stands = heads.no_item; same = refl })
    kind_over (type.Item part) is equates within =
        subst (λ is. IsOver is (regular_kind_in scope (type.Item part))) (sym equates.1) (record {
          expression = types.Item equates.0;
          stands = heads.an_item _ _
              (part_stands first equations names base Fact levels part equates.0 around equates.2
              (covered_tree Fact scope part within over));
          same = refl;
        })
    kind_over (type.Seq all) is equates within =
        subst (λ is. IsOver is (types.Seq (regulars_in scope all))) (sym equates.1)
        (let rows : AreOver equates.0 (regulars_in scope all) = rows_over all equates.0 equates.2 within in
        record { expression = types.Seq rows.rows; stands = heads.in_turn _ _ rows.stand; same = rows.in_turn })
    kind_over (type.Alt all) is equates within =
        subst (λ is. IsOver is (types.Alt (regulars_in scope all))) (sym equates.1)
        (let rows : AreOver equates.0 (regulars_in scope all) = rows_over all equates.0 equates.2 within in
        record { expression = types.Alt rows.rows; stands = heads.one_of _ _ rows.stand; same = rows.one })
    kind_over (type.Repeat part post) is equates within =
        subst (λ is. IsOver is (types.Repeat (regular_in scope part) post)) (sym equates.1)
        (repeated_over equates.0 (regular_in scope part) post (regular_over part equates.0 equates.2 within))
    kind_over (type.Capture name part) is equates within =
        subst (λ is. IsOver is (types.Alt types.NoRegular)) (sym equates)
        (record { expression = types.Alt types.NoRegular; stands = heads.one_of _ _ heads.no_more; same = refl })

    rows_over : (all : type.Regulars) (parts : Regulars) → EquatesRegulars first equations names levels all parts
        → AllOf Fact (names_in_regulars scope all) → AreOver parts (regulars_in scope all)
    rows_over type.NoRegular NoRegular equates within =
        record { rows = types.NoRegular; stand = heads.no_more; in_turn = refl; one = refl }
    rows_over type.NoRegular (ARegular one others) equates within = elim equates [ ]
    rows_over (type.ARegular first rest) NoRegular equates within = elim equates [ ]
    rows_over (type.ARegular first rest) (ARegular one others) equates within =
        let facts = each_parts Fact (names_in_regular scope first) (names_in_regulars scope rest) within in
        more_over one others (regular_in scope first) (regulars_in scope rest)
        (regular_over first one equates.0 facts.0) (rows_over rest others equates.1 facts.1)
