-- The questions that must have elements for a conjunct: it fails where one of them is subsumed, and
-- they ask nodes of the graph.
use Rattle.std.proofs.Common.{◌≡◌, ◌≤◌, ℕ, Bool, true, false, Option, Some, None, IfSome, List, [], ◌∷◌, map, inl, inr, sym, subst, ap}
use Rattle.cd_sets.specs.declared.question.Question.{Question}
use Rattle.cd_model.specs.AllOf.{AllOf, AnyOf}
use Rattle.cd_model.specs.Formula as formula
use Rattle.cd_model.specs.Formula.{Formula, IsFormula}
use Rattle.cd_model.specs.Kinds.{Kind, AnInteger, ACharacter, AnAtom, APair, AnXml, ARecord, AFunction}
use Rattle.cd_rules.specs.Dnf.{Literal, Conjunct}
use Rattle.cd_rules.specs.Clauses.{Pair, one_more, parts_in, pair_of, xml_of, record_of, arrow_of}
use Rattle.cd_rules.specs.Family.{IsSubsumed, AsksNodes}
use Rattle.cd_rules.specs.Needs.{question, pair_way, xml_way}
use Rattle.cd_rules.specs.PartialConjuncts.{Partial, Signed, partial, PartialFails}
use Rattle.cd_rules.specs.Within.{IsPairWithin, IsXmlWithin, IsTypeWithin}
use Rattle.cd_rules.proofs.Among.{of_each, among_itself}
use Rattle.cd_rules.proofs.Asking.{each_of_map}
use Rattle.cd_rules.proofs.SubsumedConjuncts.{pair_cut, xml_cut, record_cut, arrow_cut}
use Rattle.cd_model.proofs.Ones.{each_weaker, one_weaker, one_with_each, one_leads}
use Rattle.cd_rules.proofs.PartsAsk.{pair_way_asks, xml_way_asks, arrow_way_asks, row_asks}
use Rattle.cd_normal.specs.ConjunctsGoOn.{IsOfNodes, IsNeededByTop}
use Rattle.cd_normal.specs.Inner.IsNeed.{IsNeed, AreNeedsOfFirst}

module _ (family : List Question) where
  subsumed_too : (one other : Question) → one ≡ other → IsSubsumed other family → IsSubsumed one family
  subsumed_too one other same = subst (λ asked. IsSubsumed asked family) (sym same)

  need_fails : (kind : Kind) (conjunct : Conjunct) (left : List Signed) (asked : Question) → IsNeed kind conjunct asked
      → IsSubsumed asked family → PartialFails family (partial kind conjunct left)
  need_fails APair conjunct left asked (inl is) subsumed = pair_cut family conjunct left (inl (subsumed_too _ asked is subsumed))
  need_fails APair conjunct left asked (inr (inl is)) subsumed = pair_cut family conjunct left (inr (subsumed_too _ asked is subsumed))
  need_fails AnXml conjunct left asked (inl is) subsumed = xml_cut family conjunct left (inl (subsumed_too _ asked is subsumed))
  need_fails AnXml conjunct left asked (inr (inl is)) subsumed =
      xml_cut family conjunct left (inr (inl (subsumed_too _ asked is subsumed)))
  need_fails AnXml conjunct left asked (inr (inr (inl is))) subsumed =
      xml_cut family conjunct left (inr (inr (subsumed_too _ asked is subsumed)))
  need_fails ARecord conjunct left asked (label, asks, is) subsumed =
      record_cut family conjunct left label asks (subsumed_too _ asked is subsumed)
  need_fails AFunction conjunct left asked is subsumed = arrow_cut family conjunct left
      (one_weaker (λ parts. question (parts.0 ∷ []) [] ≡ asked) (λ parts. IsSubsumed (question (parts.0 ∷ []) []) family)
      (λ parts same. subsumed_too (question (parts.0 ∷ []) []) asked same subsumed) (parts_in arrow_of false conjunct) is)
  need_fails AnInteger conjunct left asked is subsumed = elim is [ ]
  need_fails ACharacter conjunct left asked is subsumed = elim is [ ]
  need_fails AnAtom conjunct left asked is subsumed = elim is [ ]
  need_fails APair conjunct left asked (inr (inr is)) subsumed = elim is [ ]
  need_fails AnXml conjunct left asked (inr (inr (inr is))) subsumed = elim is [ ]

pub are_needed : (conjuncts : List Partial) (asked : List Question) → AreNeedsOfFirst conjuncts asked
    → AllOf (IsNeededByTop conjuncts) asked
are_needed conjuncts asked (first, rest, is, each) =
    each_weaker (IsNeed first.kind first.conjunct) (IsNeededByTop conjuncts)
    (λ need of. (first, rest, is, λ family subsumed. need_fails family first.kind first.conjunct first.left need of subsumed)) asked each

module _ (nodes : ℕ) where
  abbrev IsLiteral : Literal → Type 0
  IsLiteral literal = IsFormula nodes literal.is

  -- what the parts of each formula have, the parts of a conjunct have
  module _ {X : Type 0} (has : X → Type 0) where
    one_more_has : (sign wanted : Bool) (part : Option X) (rest : List X) → IfSome part has → AllOf has rest
        → AllOf has (one_more sign wanted part rest)
    one_more_has true true (Some part) rest is each = (is, each)
    one_more_has false false (Some part) rest is each = (is, each)
    one_more_has true true None rest is each = each
    one_more_has false false None rest is each = each
    one_more_has true false part rest is each = each
    one_more_has false true part rest is each = each

    parts_have : (parts_of : Formula → Option X) → ((is : Formula) → IsFormula nodes is → IfSome (parts_of is) has)
        → (sign : Bool) (conjunct : Conjunct) → AllOf IsLiteral conjunct → AllOf has (parts_in parts_of sign conjunct)
    parts_have parts_of have sign [] each = tt
    parts_have parts_of have sign (literal ∷ rest) each =
        one_more_has sign literal.wanted (parts_of literal.is) (parts_in parts_of sign rest)
        (have literal.is each.0) (parts_have parts_of have sign rest each.1)

  pair_within : (is : Formula) → IsFormula nodes is → IfSome (pair_of is) (IsPairWithin nodes)
  pair_within (formula.Pair first second) whole = whole
  pair_within _ whole = tt

  xml_within : (is : Formula) → IsFormula nodes is → IfSome (xml_of is) (IsXmlWithin nodes)
  xml_within (formula.Xml tag attributes content) whole = whole
  xml_within _ whole = tt

  record_within : (is : Formula) → IsFormula nodes is → IfSome (record_of is) (IsTypeWithin nodes)
  record_within (formula.Record named rest) whole = (whole.1, whole.2)
  record_within _ whole = tt

  arrow_within : (is : Formula) → IsFormula nodes is → IfSome (arrow_of is) (IsPairWithin nodes)
  arrow_within (formula.Arrow argument result) whole = whole
  arrow_within _ whole = tt

  argument_asks : (asked : Question) (parts : Pair) → (question (parts.0 ∷ []) [] ≡ asked) × IsPairWithin nodes parts
      → AsksNodes nodes asked
  argument_asks asked parts (same, within) = subst (AsksNodes nodes) same (arrow_way_asks nodes parts within ([], []) (tt, tt)).0

  need_asks : 14 ≤ nodes → (kind : Kind) (conjunct : Conjunct) → AllOf IsLiteral conjunct → (asked : Question) → IsNeed kind conjunct asked
      → AsksNodes nodes asked
  need_asks least APair conjunct each asked is =
      let wanted = parts_in pair_of true conjunct in
      of_each (AsksNodes nodes) (pair_way wanted ([], [])) asked
      (pair_way_asks nodes wanted (parts_have (IsPairWithin nodes) pair_of pair_within true conjunct each) ([], []) (tt, tt)) is
  need_asks least AnXml conjunct each asked is =
      let wanted = parts_in xml_of true conjunct in
      of_each (AsksNodes nodes) (xml_way wanted ([], [], [])) asked
      (xml_way_asks nodes least wanted (parts_have (IsXmlWithin nodes) xml_of xml_within true conjunct each) ([], [], []) (tt, tt, tt)) is
  need_asks least ARecord conjunct each asked (label, asks, is) =
      let wanted = parts_in record_of true conjunct in
      subst (AsksNodes nodes) is (row_asks nodes (label ∷ []) wanted
      (parts_have (IsTypeWithin nodes) record_of record_within true conjunct each) [] tt).0.0
  need_asks least AFunction conjunct each asked is =
      let refused = parts_in arrow_of false conjunct in
      one_leads (λ parts. (question (parts.0 ∷ []) [] ≡ asked) × IsPairWithin nodes parts) (argument_asks asked) refused
      (one_with_each (λ parts. question (parts.0 ∷ []) [] ≡ asked) (IsPairWithin nodes) refused is
      (parts_have (IsPairWithin nodes) arrow_of arrow_within false conjunct each))
  need_asks least AnInteger conjunct each asked is = elim is [ ]
  need_asks least ACharacter conjunct each asked is = elim is [ ]
  need_asks least AnAtom conjunct each asked is = elim is [ ]

  pub needs_ask : 14 ≤ nodes → (conjuncts : List Partial) (asked : List Question) → AreNeedsOfFirst conjuncts asked
      → AllOf (IsOfNodes nodes) conjuncts → AllOf (AsksNodes nodes) asked
  needs_ask least conjuncts asked (first, rest, is, each) whole =
      each_weaker (IsNeed first.kind first.conjunct) (AsksNodes nodes)
      (need_asks least first.kind first.conjunct (subst (AllOf (IsOfNodes nodes)) is whole).0.0) asked each

-- the questions of the arguments of arrows
pub arguments_are : (refused : List Pair) (needs : List Question) → needs ≡ map (λ parts. question (parts.0 ∷ []) []) refused
    → AllOf (λ asked. AnyOf (λ parts. question (parts.0 ∷ []) [] ≡ asked) refused) needs
arguments_are refused needs is =
    subst (AllOf IsOfOne) (sym is) (each_of_map (λ parts. question (parts.0 ∷ []) []) IsOfOne refused
    (each_weaker (λ parts. AnyOf (λ other. other ≡ parts) refused) (λ parts. IsOfOne (question (parts.0 ∷ []) []))
    (λ parts. one_weaker (λ other. other ≡ parts) (λ other. question (other.0 ∷ []) [] ≡ question (parts.0 ∷ []) [])
    (λ other same. ap (λ (one : Pair). question (one.0 ∷ []) []) same) refused) refused (among_itself refused)))
  where
    IsOfOne : Question → Type 0
    IsOfOne asked = AnyOf (λ parts. question (parts.0 ∷ []) [] ≡ asked) refused
