-- Whether `nil` is in a question, by whether something is in it and in the node of `nil`.
use Rattle.std.proofs.Common.{◌≡◌, ◌<◌, ◌++◌, true, false, true≢false, length, refl, sym, ap}
use Rattle.std.proofs.Common.{subst, arith, length-append}
use Rattle.cd_sets.specs.declared.node_id.NodeId.{NodeId}
use Rattle.cd_sets.specs.declared.question.Question.{Question}
use Rattle.cd_model.specs.AllOf.{AllOf}
use Rattle.cd_model.specs.BuiltIns.{built_ins, NIL, EMPTY}
use Rattle.cd_model.specs.Formula.{Graph, IsIn, in_node, asked}
use Rattle.cd_model.specs.Kinds.{IsNil}
use Rattle.cd_model.specs.Thing.{Thing, Integer, Character, Atom, Pair, Xml, Record, Function}
use Rattle.cd_model.specs.Thing.{Closure, IsElement}
use Rattle.cd_model.specs.Types.{no_closure}
use Rattle.cd_model.proofs.BuiltIns.{nils_are, nothing_is_empty}
use Rattle.cd_matching.specs.Sequences.{nil}
use Rattle.cd_matching.proofs.NilIsElement.{nil_is_element}
use Rattle.cd_rules.specs.Family.{AsksNodes}
use Rattle.cd_verdicts.specs.Verdicts.{HasNoElement}
use Rattle.cd_products.specs.QuestionBoxes.{within_node}
use Rattle.cd_products.proofs.OneMore.{each_with, each_without}
use Rattle.cd_forms.specs.Inner.Asking.{HasNil}

is_nil : (e : Thing) → IsNil e → e ≡ nil
is_nil (Atom name) is = ap Atom is
is_nil (Integer n) is = absurd is
is_nil (Character c) is = absurd is
is_nil (Pair first second) is = absurd is
is_nil (Xml tag attributes content) is = absurd is
is_nil (Record fields) is = absurd is
is_nil (Function pairs) is = absurd is
is_nil (Closure function environment) is = absurd is

module _ (graph : Graph) (begins : (more : Graph) × (graph ≡ built_ins ++ more)) where
  pub built_in_below : (id : NodeId) → id.0 < 14 → id.0 < length graph
  built_in_below id below = let count = ap length begins.1 in
      omega (arith, below, count, length-append built_ins begins.0)

  -- `nil` is in its node, and nothing else
  pub nil_in : IsIn graph nil NIL
  nil_in = subst (λ (g : Graph). IsIn g nil NIL) (sym begins.1)
      ((nils_are begins.0 no_closure nil).1 refl)

  pub nil_alone : (e : Thing) → IsIn graph e NIL → e ≡ nil
  nil_alone e inside = is_nil e ((nils_are begins.0 no_closure e).0
      (subst (λ (g : Graph). IsIn g e NIL) begins.1 inside))

  pub none_empty : (e : Thing) → IsIn graph e EMPTY → ⊥
  none_empty e inside = nothing_is_empty begins.0 no_closure e
      (subst (λ (g : Graph). IsIn g e EMPTY) begins.1 inside)

  module _ (question : Question) where
    pub nil_asks : AsksNodes (length graph) question
        → AsksNodes (length graph) (within_node NIL question)
    nil_asks asks = (
      each_with (λ id. id.0 < length graph) NIL question.pos (built_in_below NIL (omega arith))
          asks.0,
      asks.1,
    )

    pub nil_outside : HasNoElement graph (within_node NIL question) → HasNil graph question false
    nil_outside none = (
      λ is. absurd (true≢false (sym is)),
      λ inside. absurd (none nil nil_is_element (
        each_with (λ id. in_node graph nil id true) NIL question.pos nil_in inside.0,
        inside.1,
      )),
    )

    pub nil_inside : (e : Thing) → IsElement e
        → asked (in_node graph e) (within_node NIL question) true
        → HasNil graph question true
    nil_inside e element inside = (
      λ is. subst (λ (e : Thing). asked (in_node graph e) question true)
          (nil_alone e parts.0) (parts.1, inside.1),
      λ asks. refl,
    )
      where
        parts : IsIn graph e NIL × AllOf (λ id. in_node graph e id true) question.pos
        parts = each_without (λ id. in_node graph e id true) NIL question.pos inside.0
