-- Operators, words, and what stands after an operand end well with values in the types that their rules ask.
use Rattle.std.proofs.Common.{◌≡◌, ◌∙◌, ℕ, Bool, true, not, [], ◌∷◌, Some, ap, subst}
use Rattle.cd_syntax.specs.Name.{Name}
use Rattle.cd_model.specs.BuiltIns.{BOOL, ATOM, RECORD}
use Rattle.cd_model.specs.Interfaces.{Interfaces}
use Rattle.cd_model.specs.Thing.{Thing, Fields, IsElement, AreFields}
use Rattle.cd_program.specs.declared.operator.Op.{Op}
use Rattle.cd_program.specs.declared.operator.Op.TheVariants as op
use Rattle.cd_program.specs.declared.operator.BuiltIn.{BuiltIn as Word}
use Rattle.cd_meaning.specs.Sets.{◌⊆◌}
use Rattle.cd_meaning.specs.Records.{HasFieldAt, IsFieldOf, IsRestOf}
use Rattle.cd_typing.specs.Typ.{Typ, In, IsType, BuiltIn}
use Rattle.cd_typing.specs.Operators.{truth, IsSkipped, Operates, WordGives}
use Rattle.cd_typing.specs.Results.{IsXmlOf}
use Rattle.cd_evaluation.specs.Runs.{Outcome, Done}
use Rattle.cd_evaluation.specs.Equality.{same}
use Rattle.cd_evaluation.specs.Evaluation.{IsStrict}
use Rattle.cd_evaluation.specs.Operations.{truth_of, operate, word_outcome, dropped, selected, xml}
use Rattle.cd_safety.specs.Operands.{GoodIn}
use Rattle.cd_safety.specs.Sound.{data_type, IsGood, AreGood, IsFine}
use Rattle.cd_safety.specs.ValueIn.{ValueIn}
use Rattle.cd_safety.proofs.BuiltInElements.{truth_here}
use Rattle.cd_safety.proofs.IntegersGiven.{truth_given, truth_read}
use Rattle.cd_safety.proofs.OperandsStandIn.{data_is_type, has_place, outcome_fine, one_fine, two_fine}
use Rattle.cd_safety.proofs.OperationsGood.{truth_good, operate_good, word_good, dropped_good, selected_good, xml_good}
use Rattle.cd_safety.proofs.OperationsStandIn.{TestsNoEquality, truth_stands, truth_same, operate_stands, word_stands, dropped_stands, selected_stands, xml_stands}
use Rattle.cd_safety.proofs.OperatorsGiven.{gives_within, operate_given, word_given}
use Rattle.cd_safety.proofs.RecordsGiven.{dropped_given, selected_given, xml_given}
use Rattle.cd_safety.proofs.SortsByParts.{elements_by_parts, good_by_parts}
use Rattle.cd_safety.proofs.StandInsAgree.{agree}
use Rattle.cd_safety.proofs.TypesPlaced.{shared_graph}

-- an operand in BOOL: its truth value is known, and in its type
pub record IsCondition (s : Typ) (v : Thing) : Type 0 where
  pub value : Bool
  pub is : truth_of v ≡ Some value
  pub inside : In s (truth value)

module _ (fact : ℕ → Fields → Type 0) (interfaces : Interfaces) where
  abbrev Fine : Typ → Outcome → Type 0
  Fine t outcome = IsFine fact interfaces (ValueIn interfaces t) outcome

  -- a truth value in a type
  pub truth_fine : (t : Typ) (b : Bool) → In t (truth b) → Fine t (Done (truth b))
  truth_fine t b inside = (
    truth_good (IsGood fact interfaces) (AreGood fact interfaces) (good_by_parts fact interfaces) b,
    (agree t.graph interfaces (truth b) (truth b) (truth_stands t.graph interfaces b) t.id true).1 inside,
  )

  -- the operands of `if`, `&&` and `||`
  pub condition : (s : Typ) → IsType s → In s ⊆ BuiltIn BOOL → (v : Thing) → GoodIn fact interfaces s v → IsCondition s v
  condition s s_is within v good =
      let all = shared_graph (s ∷ []) (s_is, tt) in
      let e = has_place fact interfaces all.graph all.more all.begins all.sound s all.nodes.0 v good in
      let b = truth_here e.e (within e.e e.is_element e.inside) in
      record {
        value = b.0;
        is = truth_same all.graph interfaces v e.e e.stands ∙ ap truth_of b.1 ∙ truth_read b.0;
        inside = subst (In s) b.1 e.inside;
      }

  -- where `&&` or `||` leaves out its right operand
  pub skipped_fine : (value : Bool) (s t : Typ) → IsSkipped value (In s) (In t) → In s (truth value) → Fine t (Done (truth value))
  skipped_fine value s t rule inside = truth_fine t value (rule.gives inside)

  module _ (r s t : Typ) (r_is : IsType r) (s_is : IsType s) (t_is : IsType t) where
    by_stand_ins : (is : Op) → TestsNoEquality is → IsStrict is → Operates is (In r) (In s) (In t) → (v w : Thing)
        → GoodIn fact interfaces r v → GoodIn fact interfaces s w → Fine t (operate is v w)
    by_stand_ins is other strict rule v w v_good w_good = two_fine fact interfaces r s t r_is s_is t_is (operate is)
        (λ graph. operate_stands graph interfaces is other)
        (λ d e d_is e_is d_in e_in. operate_given (In r) (In s) (In t) d e d_is e_is d_in e_in is strict rule)
        v w v_good w_good
        (operate_good (IsGood fact interfaces) (AreGood fact interfaces) (good_by_parts fact interfaces) is v w v_good.0 w_good.0)

    pub operator_fine : (is : Op) → IsStrict is → Operates is (In r) (In s) (In t) → (v w : Thing)
        → GoodIn fact interfaces r v → GoodIn fact interfaces s w → Fine t (operate is v w)
    operator_fine op.Equal strict rule v w v_good w_good = truth_fine t (same v w) (truth_given (In t) rule.2 (same v w))
    operator_fine op.Unequal strict rule v w v_good w_good = truth_fine t (not (same v w)) (truth_given (In t) rule.2 (not (same v w)))
    operator_fine op.Or strict rule v w v_good w_good = absurd strict
    operator_fine op.And strict rule v w v_good w_good = absurd strict
    operator_fine op.Less strict rule v w v_good w_good = by_stand_ins op.Less tt tt rule v w v_good w_good
    operator_fine op.AtMost strict rule v w v_good w_good = by_stand_ins op.AtMost tt tt rule v w v_good w_good
    operator_fine op.Greater strict rule v w v_good w_good = by_stand_ins op.Greater tt tt rule v w v_good w_good
    operator_fine op.AtLeast strict rule v w v_good w_good = by_stand_ins op.AtLeast tt tt rule v w v_good w_good
    operator_fine op.Concat strict rule v w v_good w_good = by_stand_ins op.Concat tt tt rule v w v_good w_good
    operator_fine op.Plus strict rule v w v_good w_good = by_stand_ins op.Plus tt tt rule v w v_good w_good
    operator_fine op.Minus strict rule v w v_good w_good = by_stand_ins op.Minus tt tt rule v w v_good w_good
    operator_fine op.Times strict rule v w v_good w_good = by_stand_ins op.Times tt tt rule v w v_good w_good
    operator_fine op.Div strict rule v w v_good w_good = by_stand_ins op.Div tt tt rule v w v_good w_good
    operator_fine op.Mod strict rule v w v_good w_good = by_stand_ins op.Mod tt tt rule v w v_good w_good

  module _ (s t : Typ) (s_is : IsType s) (t_is : IsType t) (v : Thing) (good : GoodIn fact interfaces s v) where
    pub word_fine : (is : Word) → WordGives is (In s) (In t) → Fine t (word_outcome is v)
    word_fine is rule = one_fine fact interfaces s t s_is t_is (word_outcome is)
        (λ graph. word_stands graph interfaces is) (λ e element inside. word_given (In s) (In t) e element inside is rule) v good
        (word_good (IsGood fact interfaces) (AreGood fact interfaces) (good_by_parts fact interfaces) is v good.0)

    pub dropped_fine : (label : Name) → In s ⊆ BuiltIn RECORD → IsRestOf label (In s) ⊆ In t → Fine t (dropped label v)
    dropped_fine label are within = one_fine fact interfaces s t s_is t_is (dropped label)
        (λ graph. dropped_stands graph interfaces label)
        (λ e element inside. gives_within (IsRestOf label (In s)) (In t) within (dropped label e)
        (dropped_good IsElement AreFields elements_by_parts label e element) (dropped_given label (In s) are e element inside)) v good
        (dropped_good (IsGood fact interfaces) (AreGood fact interfaces) (good_by_parts fact interfaces) label v good.0)

    pub selected_fine : (label : Name) → In s ⊆ HasFieldAt label → IsFieldOf label (In s) ⊆ In t → Fine t (selected label v)
    selected_fine label have within = one_fine fact interfaces s t s_is t_is (selected label)
        (λ graph. selected_stands graph interfaces label)
        (λ e element inside. gives_within (IsFieldOf label (In s)) (In t) within (selected label e)
        (selected_good IsElement AreFields elements_by_parts label e element) (selected_given label (In s) have e element inside)) v good
        (selected_good (IsGood fact interfaces) (AreGood fact interfaces) (good_by_parts fact interfaces) label v good.0)

  pub xml_fine : (q r s t : Typ) → IsType q → IsType r → IsType s → IsType t → In q ⊆ BuiltIn ATOM → In r ⊆ BuiltIn RECORD
      → IsXmlOf (In q) (In r) (In s) ⊆ In t → (tag attributes content : Thing) → GoodIn fact interfaces q tag
      → GoodIn fact interfaces r attributes → GoodIn fact interfaces s content → Fine t (xml tag attributes content)
  xml_fine q r s t q_is r_is s_is t_is are_atoms are_records within tag attributes content one other last =
      let all = shared_graph (data_type ∷ t ∷ q ∷ r ∷ s ∷ []) (data_is_type, (t_is, (q_is, (r_is, (s_is, tt))))) in
      let d = has_place fact interfaces all.graph all.more all.begins all.sound q all.nodes.1.1.0 tag one in
      let e = has_place fact interfaces all.graph all.more all.begins all.sound r all.nodes.1.1.1.0 attributes other in
      let f = has_place fact interfaces all.graph all.more all.begins all.sound s all.nodes.1.1.1.1.0 content last in
      outcome_fine fact interfaces all.graph t all.nodes.1.0 all.nodes.0 (xml tag attributes content) (xml d.e e.e f.e)
      (xml_stands all.graph interfaces tag attributes content d.e e.e f.e d.stands e.stands f.stands)
      (gives_within (IsXmlOf (In q) (In r) (In s)) (In t) within (xml d.e e.e f.e)
      (xml_good IsElement AreFields elements_by_parts d.e e.e f.e d.is_element e.is_element f.is_element)
      (xml_given (In q) (In r) (In s) are_atoms are_records d.e e.e f.e d.is_element e.is_element d.inside e.inside f.inside))
      (xml_good (IsGood fact interfaces) (AreGood fact interfaces) (good_by_parts fact interfaces) tag attributes content
      one.0 other.0 last.0)
