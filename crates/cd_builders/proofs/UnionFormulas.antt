-- The union of formulas of questions holds what is in one of them.
use Rattle.std.proofs.Common.{◌≡◌, ◌<◌, ◌≤◌, ◌+◌, ◌++◌, ℕ, true, List, [], ◌∷◌, ◌↔◌, length}
use Rattle.std.proofs.Common.{sym, subst, ap, ◌∙◌, map, take, get_or}
use Rattle.std.proofs.lemmas.List.{map-append, take_more, take_all}
use Rattle.std.specs.List.{AllZip}
use Rattle.cd_sets.specs.declared.node_id.NodeId.{NodeId}
use Rattle.cd_sets.specs.declared.question.Question.{Question}
use Rattle.cd_model.specs.BuiltIns.{built_ins}
use Rattle.cd_model.specs.Formula.{Graph, Formula, Or, IsFormula, AreFormulas}
use Rattle.cd_model.specs.Formula.{formulas_of, formula_at, asked, in_node}
use Rattle.cd_model.specs.Membership.{reader, holds, one_holds}
use Rattle.cd_model.specs.Thing.{Thing, IsElement}
use Rattle.cd_model.proofs.BothWays.{one_agrees}
use Rattle.cd_graph.specs.PlainFormula.{plain}
use Rattle.cd_graph.specs.declared.formula.Formula.{Formula as CodeFormula}
use Rattle.cd_products.specs.Keeping.{IsFormulaOfQuestion}
use Rattle.cd_builders.specs.Inner.Alone.{AsksAlone}
use Rattle.cd_builders.specs.Inner.Members.{IsMember}
use Rattle.cd_builders.specs.Unions.{IsInOne, IsFormulaOfUnion}
use Rattle.cd_builders.proofs.AloneNodes.{alone_same}

module _ (graph : Graph) where
  parts_sound : (questions : List Question) (parts : List Formula)
      → AllZip (IsMember graph) questions parts → AreFormulas (length graph) (formulas_of parts)
  parts_sound [] [] all = tt
  parts_sound [] (f ∷ parts) all = absurd all
  parts_sound (question ∷ questions) [] all = tt
  parts_sound (question ∷ questions) (f ∷ parts) all =
      (all.0.sound, parts_sound questions parts all.1)

  parts_hold : (questions : List Question) (parts : List Formula)
      → AllZip (IsMember graph) questions parts → (e : Thing) → IsElement e
      → IsInOne graph questions e ↔ one_holds (reader graph e) (formulas_of parts) true
  parts_hold [] [] all e is = (λ none. none, λ none. none)
  parts_hold [] (f ∷ parts) all e is = absurd all
  parts_hold (question ∷ questions) [] all e is = absurd all
  parts_hold (question ∷ questions) (f ∷ parts) all e is =
      one_agrees (all.0.elements e is) (parts_hold questions parts all.1 e is)

  -- with one more
  zip_more : (questions : List Question) (parts : List Formula) (question : Question) (f : Formula)
      → AllZip (IsMember graph) questions parts → IsMember graph question f
      → AllZip (IsMember graph) (questions ++ question ∷ []) (parts ++ f ∷ [])
  zip_more [] [] question f all is = (is, tt)
  zip_more [] (g ∷ parts) question f all is = absurd all
  zip_more (one ∷ questions) [] question f all is = absurd all
  zip_more (one ∷ questions) (g ∷ parts) question f all is =
      (all.0, zip_more questions parts question f all.1 is)

  module _ (questions : List Question) (i : ℕ) where
    pub parts_more : (question : Question) → i < length questions
        → question ≡ get_or questions i question → (parts after : List CodeFormula)
        (f : CodeFormula) → after ≡ parts ++ f ∷ []
        → AllZip (IsMember graph) (take i questions) (map plain parts)
        → IsMember graph question (plain f)
        → AllZip (IsMember graph) (take (i + 1) questions) (map plain after)
    parts_more question below is parts after f put all made =
        subst (λ (list : List Question). AllZip (IsMember graph) list (map plain after))
        (sym (take_more questions i question below
        ∙ ap (λ (one : Question). take i questions ++ one ∷ []) (sym is)))
        (subst (AllZip (IsMember graph) (take i questions ++ question ∷ []))
        (sym (ap (map plain) put ∙ map-append plain parts (f ∷ [])))
        (zip_more (take i questions) (map plain parts) question (plain f) all made))

    -- the union of all of them
    pub union_made : length questions ≤ i → (parts : List Formula)
        → AllZip (IsMember graph) (take i questions) parts → (listed : List Formula)
        → listed ≡ parts → (f : Formula) → f ≡ Or (formulas_of listed)
        → IsFormulaOfUnion graph questions f
    union_made past parts each listed same f is =
        subst (IsFormulaOfUnion graph questions)
        (sym (is ∙ ap (λ (all : List Formula). Or (formulas_of all)) same)) (record {
          elements = λ e element. parts_hold questions parts all e element;
          sound = parts_sound questions parts all;
        })
      where
        all : AllZip (IsMember graph) questions parts
        all = subst (λ (list : List Question). AllZip (IsMember graph) list parts)
            (take_all i questions past) each

-- the formula of a question
pub of_question : (graph : Graph) (question : Question) (f : Formula)
    → IsFormulaOfQuestion graph question f → IsMember graph question f
of_question graph question f is = record { elements = is.elements; sound = is.sound }

pub of_alone : (graph more : Graph) → graph ≡ built_ins ++ more → (question : Question)
    (id : NodeId) → AsksAlone question id → (f shown : Formula) → IsFormula (length graph) shown
    → shown ≡ formula_at graph id → f ≡ shown → IsMember graph question f
of_alone graph more begins question id alone f shown sound at same = record {
  elements = λ e element. subst (λ (g : Formula).
      asked (in_node graph e) question true ↔ holds (reader graph e) g true) (sym (same ∙ at))
      (alone_same graph more begins question id alone e);
  sound = subst (IsFormula (length graph)) (sym same) sound;
}
