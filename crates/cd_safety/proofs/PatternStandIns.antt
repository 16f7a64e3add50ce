-- A pattern takes a value and what stands in for it alike: it fails at both, or takes both, and what it captures of the one stands in for
-- what it captures of the other.
use Rattle.std.proofs.Common.{◌≡◌, ◌<◌, ℕ, Bool, true, false, List, [], ◌∷◌, ◌⊎◌, Option, refl, subst, length}
use Rattle.cd_sets.specs.declared.node_id.NodeId.{NodeId}
use Rattle.cd_syntax.specs.Name.{Name}
use Rattle.cd_syntax.specs.TypeTree.{Tree}
use Rattle.cd_syntax.specs.declared.constant.Constant.{Constant}
use Rattle.cd_syntax.specs.declared.constant.Constant.TheVariants as constant
use Rattle.cd_model.specs.Formula.{Graph, nodes, in_node}
use Rattle.cd_model.specs.Interfaces.{Interfaces, value_in_node, value_in_written}
use Rattle.cd_model.specs.Scope.{Scope}
use Rattle.cd_model.specs.StandsFor.{StandsFor}
use Rattle.cd_model.specs.Thing as thing
use Rattle.cd_model.specs.Thing.{Thing, Fields, IsElement, AreFields, IsValue, AreValues}
use Rattle.cd_model.specs.Written.{Written, written as at_written, number_of_names, type_of, in_written}
use Rattle.cd_model.proofs.Apart.{element_apart}
use Rattle.cd_model.proofs.ApartAtNodes.{nodes_keep}
use Rattle.cd_model.proofs.Decided.{element_decides}
use Rattle.cd_model.proofs.DecidedAtWritten.{written_decides}
use Rattle.cd_model.proofs.SoundOrNot.{element_or_not}
use Rattle.cd_matching.specs.Captures.{Captures}
use Rattle.cd_matching.specs.PatternsAlike.{Alike}
use Rattle.cd_matching.specs.Sequences.{text_of, thing_of}
use Rattle.cd_matching.specs.Take.{take}
use Rattle.cd_matching.specs.Takes.{IsRight, WrittenTakes, WrittenValueTakes}
use Rattle.cd_matching.specs.WrittenPattern.{pattern_of}
use Rattle.cd_matching.proofs.NilIsElement.{nil_is_element}
use Rattle.cd_matching.proofs.PatternsAlike.{composed, turned}
use Rattle.cd_matching.proofs.TakesOnce.{has_result}
use Rattle.cd_typing.specs.Typ.{typ}
use Rattle.cd_safety.specs.PatternConstants.{IsSoundConstant}
use Rattle.cd_safety.specs.PatternResults.{ResultsRelated, IsStandIn}
use Rattle.cd_safety.specs.PatternTypes.{IsTypedPattern, HasNodesOf}
use Rattle.cd_safety.specs.StandsIn as stand
use Rattle.cd_safety.specs.StandsIn.{StandsIn, FieldsStandIn}
use Rattle.cd_safety.proofs.PatternCaptures.{constants_alike, constant_is_element}
use Rattle.cd_safety.proofs.PatternRelations as parts
use Rattle.cd_safety.proofs.PatternRelations.{FieldsRelated, PartsRelated, Relation}
use Rattle.cd_safety.proofs.PatternsRelated.{takes_related}
use Rattle.cd_safety.proofs.StandInsAgree.{agree}
use Rattle.cd_safety.proofs.ValuesWithin.{agrees_at}

-- a pattern takes each element or fails
pub element_has_result : (scope : Scope) (written : Tree) (e : Thing)
    → (result : Option (Captures Name)) × WrittenTakes scope written e result
element_has_result scope written = has_result in_written IsElement element_or_not (λ e type is. decided e type) (pattern_of scope written)
  where
    decided : (e : Thing) (type : Written) → in_written e type true ⊎ in_written e type false
    decided e type = element_decides (at_written (number_of_names type))
        (λ read decides. written_decides read decides (number_of_names type)) e (type_of type)

module _ (graph : Graph) (interfaces : Interfaces) where
  abbrev StoodIn : Thing → Thing → Type 0
  StoodIn = IsStandIn graph interfaces

  -- parts are stood in for by parts
  fields_in_place : (fields others : Fields) → FieldsStandIn graph interfaces fields others → AreValues fields → AreFields others
      → FieldsRelated StoodIn fields others
  fields_in_place _ _ stand.no_field = λ are elements. parts.no_field
  fields_in_place _ _ (stand.field label v e rest others one more) = λ are elements. parts.field label v e rest others
      (record { is_value = are.1; is_element = elements.1; stands = one }) (fields_in_place rest others more are.2 elements.2)

  parts_in_place : (v e : Thing) → StandsIn graph interfaces v e → IsValue v → IsElement e → PartsRelated StoodIn v e
  parts_in_place _ _ (stand.integer n) = λ is element. parts.integer n
  parts_in_place _ _ (stand.character c) = λ is element. parts.character c
  parts_in_place _ _ (stand.atom name) = λ is element. parts.atom name
  parts_in_place _ _ (stand.pair v w d e one other) = λ is element. parts.pair v w d e
      (record { is_value = is.0; is_element = element.0; stands = one }) (record { is_value = is.1; is_element = element.1; stands = other })
  parts_in_place _ _ (stand.xml tag attributes content d e last one other more) = λ is element. parts.xml tag attributes content d e last
      (record { is_value = is.2; is_element = element.2; stands = one }) (record { is_value = is.3; is_element = element.3; stands = other })
      (record { is_value = is.4; is_element = element.4; stands = more })
  parts_in_place _ _ (stand.of_fields fields others all) = λ is element.
      parts.of_fields fields others (fields_in_place fields others all is.1 element.1)
  parts_in_place _ _ (stand.closure function environment pairs agrees) = λ is element. parts.in_place function environment pairs

  abbrev stand_ins : Relation
  stand_ins = record {
    Are = StoodIn;
    parts = λ v e is. parts_in_place v e is.stands is.is_value is.is_element;
    nil = record { is_value = nil_is_element; is_element = nil_is_element; stands = stand.atom _ };
    pair = λ v w d e one other. record {
      is_value = (one.is_value, other.is_value);
      is_element = (one.is_element, other.is_element);
      stands = stand.pair v w d e one.stands other.stands;
    };
  }

  -- a constant stands in for itself
  text_stands : (text : List ℕ) → StandsIn graph interfaces (text_of text) (text_of text)
  text_stands [] = stand.atom _
  text_stands (c ∷ text) = stand.pair (thing.Character c) (text_of text) (thing.Character c) (text_of text)
      (stand.character c) (text_stands text)

  constant_stands : (is : Constant) → StandsIn graph interfaces (thing_of is) (thing_of is)
  constant_stands (constant.Int n) = stand.integer n
  constant_stands (constant.Char c) = stand.character c
  constant_stands (constant.Atom name) = stand.atom name
  constant_stands (constant.Text text) = text_stands text
  constant_stands constant.Nil = stand.atom _

  -- tests that are right say the same
  same_test : (P : Bool → Type 0) → (P true → P false → ⊥) → (a b : Bool) → P a → P b → a ≡ b
  same_test P apart true true one other = refl
  same_test P apart true false one other = absurd (apart one other)
  same_test P apart false true one other = absurd (apart other one)
  same_test P apart false false one other = refl

  module _ (scope : Scope) (written : Tree) (typed : IsTypedPattern scope written) (nodes_of : HasNodesOf graph typed.graph) where
    abbrev Right : ((d : Thing) → NodeId → Bool → Type 0) → (Thing → Type 0) → (Thing → Bool) → NodeId → Type 0
    Right answers Sort test id = (id.0 < length typed.graph) × ((d : Thing) → Sort d → answers d id (test d))

    abbrev SayTheSame : (test other : Thing → Bool) → Type 0
    SayTheSame test other = (v e : Thing) → StoodIn v e → test v ≡ other e

    same_at : (id : NodeId) (test other : Thing → Bool) → Right (value_in_node typed.graph interfaces) IsValue test id
        → Right (in_node typed.graph) IsElement other id → SayTheSame test other
    same_at id test other one right v e is =
        let found = nodes_of id one.0 in
        same_test (in_node typed.graph e id) (element_apart (nodes typed.graph) (nodes_keep typed.graph) e id) (test v) (other e)
        ((agrees_at graph interfaces v e (agree graph interfaces v e is.stands) found.0 (typ typed.graph id) found.1 (test v)).0
        (one.1 v is.is_value)) (right.1 e is.is_element)

    pub results_stand : (v e : Thing) → IsStandIn graph interfaces v e → (result other : Option (Captures Name))
        → WrittenValueTakes interfaces scope written v result → WrittenTakes scope written e other
        → ResultsRelated (IsStandIn graph interfaces) result other
    results_stand v e is result other takes element_takes =
        subst (λ o. ResultsRelated StoodIn result o) element_takes.gives
        (subst (λ o. ResultsRelated StoodIn o (take (Thing → Bool) (λ test. test) element_takes.tested e)) takes.gives
        (takes_related stand_ins (λ (test : Thing → Bool). test) (λ (test : Thing → Bool). test) SayTheSame (λ test test' same. same)
        IsSoundConstant
        (λ is sound. record { is_value = sound; is_element = constant_is_element is sound; stands = constant_stands is })
        takes.tested element_takes.tested tests_agree
        (constants_alike (IsRight (value_in_written interfaces) IsValue) IsSoundConstant (pattern_of scope written) takes.tested takes.right
        typed.constants) v e is))
      where
        from_nodes : Alike (λ id type. StandsFor typed.graph id type) typed.p (pattern_of scope written)
        from_nodes = typed.resolved

        at_values : Alike (Right (value_in_node typed.graph interfaces) IsValue) takes.tested typed.p
        at_values = composed (IsRight (value_in_written interfaces) IsValue) (λ type id. StandsFor typed.graph id type)
            (Right (value_in_node typed.graph interfaces) IsValue)
            (λ type test id right stands. (stands.is_node, λ d sort. (stands.values interfaces d (test d) sort).1 (right d sort)))
            (pattern_of scope written) takes.tested typed.p takes.right
            (turned (StandsFor typed.graph) typed.p (pattern_of scope written) from_nodes)

        at_elements : Alike (Right (in_node typed.graph) IsElement) element_takes.tested typed.p
        at_elements = composed (IsRight in_written IsElement) (λ type id. StandsFor typed.graph id type)
            (Right (in_node typed.graph) IsElement)
            (λ type test id right stands. (stands.is_node, λ d sort. (stands.elements d (test d) sort).1 (right d sort)))
            (pattern_of scope written) element_takes.tested typed.p element_takes.right
            (turned (StandsFor typed.graph) typed.p (pattern_of scope written) from_nodes)

        tests_agree : Alike SayTheSame takes.tested element_takes.tested
        tests_agree = composed (λ id test. Right (value_in_node typed.graph interfaces) IsValue test id)
            (λ id test. Right (in_node typed.graph) IsElement test id) SayTheSame
            (λ id test test' one right. same_at id test test' one right) typed.p takes.tested element_takes.tested
            (turned (Right (value_in_node typed.graph interfaces) IsValue) takes.tested typed.p at_values)
            (turned (Right (in_node typed.graph) IsElement) element_takes.tested typed.p at_elements)
