-- A longer graph answers alike at old nodes.
use Rattle.std.proofs.Common.{◌≡◌, ℕ, Bool, true, List, [], ◌∷◌, ◌++◌, length, ◌<◌, ◌↔◌, refl, subst, inl, inr, bytes_eq}
use Rattle.std.proofs.lemmas.Bool.{cases_Bool}
use Rattle.cd_sets.specs.declared.node_id.NodeId.{NodeId}
use Rattle.cd_syntax.specs.Name.{Name}
use Rattle.cd_model.specs.Alike as heads
use Rattle.cd_model.specs.Alike.{ReadAlike, FieldsStand}
use Rattle.cd_model.specs.AllOf.{AllOf}
use Rattle.cd_model.specs.Formula as formula
use Rattle.cd_model.specs.Formula.{Formula, Formulas, NoFormula, AFormula, Graph, IsFormula, AreFormulas, IsGraph, nodes, formula_at, at_formula, holds, each_holds, one_holds}
use Rattle.cd_model.specs.Interfaces.{ArrowOf, OfNodes, admits}
use Rattle.cd_model.specs.Thing.{Thing}
use Rattle.cd_model.specs.Types.{FieldOf, field_of, Reader, Admits, reader, answers, no_closure, element_maps, closure_maps}
use Rattle.cd_model.proofs.FormulasAlike as stand
use Rattle.cd_model.proofs.FormulasAlike.{FormulasStand, AllStand, formulas_alike}
use Rattle.cd_model.proofs.BothWays.{itself, both_agree}
use Rattle.cd_model.proofs.FormulasAmongMore.{formula_kept, sound_at}
use Rattle.cd_model.proofs.ValuesAlike.{AlwaysAlike, AdmitSame, element_reads_alike, elements_alike, maps_alike, value_reads_alike, values_alike}

-- an old node stands for itself
pub record IsOld (count : ℕ) (one other : NodeId) : Type 0 where
  pub below : one.0 < count
  pub same : one ≡ other

module _ (count : ℕ) where
  old : (a : NodeId) → a.0 < count → IsOld count a a
  old a below = record { below = below; same = refl }

  old_field : (named : List (Name × FieldOf NodeId)) (rest : NodeId) (label : Name)
      → AllOf (λ field. field.1.type.0 < count) named → rest.0 < count
      → FieldsStand (IsOld count) (field_of named rest label) (field_of named rest label)
  old_field [] rest label each rest_is = record { optional = refl; type = old rest rest_is }
  old_field (field ∷ named) rest label each rest_is = elim (cases_Bool (bytes_eq field.0 label)) [
    | inl equal ↦ rw equal (record { optional = refl; type = old field.1.type each.0 })
    | inr differs ↦ rw differs (old_field named rest label each.1 rest_is)
  ]

  mutual
    old_formula : (is : Formula) → IsFormula count is → FormulasStand (IsOld count) is is
    old_formula formula.Nothing sound = stand.nothing
    old_formula formula.Everything sound = stand.everything
    old_formula (formula.Ints set) sound = stand.of_head _ _ _ _ refl refl (heads.integers _ _ (λ n. refl))
    old_formula (formula.Chars set) sound = stand.of_head _ _ _ _ refl refl (heads.characters _ _ (λ n. refl))
    old_formula (formula.Atoms set) sound = stand.of_head _ _ _ _ refl refl (heads.atoms _ _ (λ n. refl))
    old_formula (formula.Pair a b) sound =
        stand.of_head _ _ _ _ refl refl (heads.products a b a b (old a sound.0) (old b sound.1))
    old_formula (formula.Xml a b c) sound =
        stand.of_head _ _ _ _ refl refl (heads.xmls a b c a b c (old a sound.0) (old b sound.1) (old c sound.2))
    old_formula (formula.Record named rest) sound = stand.of_head _ _ _ _ refl refl
        (heads.records named rest named rest (λ label. old_field named rest label sound.1 sound.2))
    old_formula (formula.Arrow a b) sound =
        stand.of_head _ _ _ _ refl refl (heads.arrows a b a b (old a sound.0) (old b sound.1))
    old_formula (formula.And all) sound = stand.and_of all all (old_formulas all sound)
    old_formula (formula.Or all) sound = stand.or_of all all (old_formulas all sound)
    old_formula (formula.Not is) sound = stand.not_of is is (old_formula is sound)

    old_formulas : (all : Formulas) → AreFormulas count all → AllStand (IsOld count) all all
    old_formulas NoFormula sound = stand.no_formula
    old_formulas (AFormula is rest) sound = stand.a_formula is is rest rest (old_formula is sound.0) (old_formulas rest sound.1)

  pub holds_alike : (first second : Reader NodeId) → ReadAlike (IsOld count) first second
      → (is : Formula) → IsFormula count is → (answer : Bool) → holds (at_formula first) is answer ↔ holds (at_formula second) is answer
  holds_alike first second alike is sound = formulas_alike (IsOld count) first second alike is is (old_formula is sound)

module _ (graph more : Graph) (sound : IsGraph graph) where
  pub nodes_alike : AlwaysAlike (IsOld (length graph)) (nodes graph) (nodes (graph ++ more))
  nodes_alike closed closing is of alike one other old answer =
      let first = reader (nodes graph) closed is in
      let second = reader (nodes (graph ++ more)) closing is in
      subst (λ id. holds (at_formula first) (formula_at graph one) answer ↔ holds (at_formula second) (formula_at (graph ++ more) id) answer) old.same
      (subst (λ form. holds (at_formula first) (formula_at graph one) answer ↔ holds (at_formula second) form answer) (formula_kept graph more one.0 old.below)
      (holds_alike (length graph) first second alike (formula_at graph one) (sound_at (length graph) graph one.0 sound old.below) answer))

  pub kept_elements : (is : Thing) (id : NodeId) (answer : Bool) → id.0 < length graph
      → answers (nodes graph) no_closure is id answer ↔ answers (nodes (graph ++ more)) no_closure is id answer
  kept_elements is id answer below =
      elements_alike (IsOld (length graph)) (nodes graph) (nodes (graph ++ more)) nodes_alike is id id
      (old (length graph) id below) answer

  pub kept_formulas : (is : Thing) (form : Formula) (answer : Bool) → IsFormula (length graph) form
      → holds (at_formula (reader (nodes graph) no_closure is)) form answer ↔ holds (at_formula (reader (nodes (graph ++ more)) no_closure is)) form answer
  kept_formulas is form answer sound = holds_alike (length graph) _ _
      (element_reads_alike (IsOld (length graph)) (nodes graph) (nodes (graph ++ more)) nodes_alike is) form sound answer

  module _ (admits admits' : Admits) (same : AdmitSame admits admits') where
    pub kept_values : (is : Thing) (id : NodeId) (answer : Bool) → id.0 < length graph
        → answers (nodes graph) (closure_maps (nodes graph) admits) is id answer
        ↔ answers (nodes (graph ++ more)) (closure_maps (nodes (graph ++ more)) admits') is id answer
    kept_values is id answer below = values_alike (IsOld (length graph)) (nodes graph) (nodes (graph ++ more)) nodes_alike
        admits admits' same is id id (old (length graph) id below) answer

    pub kept_value_formulas : (is : Thing) (form : Formula) (answer : Bool) → IsFormula (length graph) form
        → holds (at_formula (reader (nodes graph) (closure_maps (nodes graph) admits) is)) form answer
        ↔ holds (at_formula (reader (nodes (graph ++ more)) (closure_maps (nodes (graph ++ more)) admits') is)) form answer
    kept_value_formulas is form answer sound = holds_alike (length graph) _ _
        (value_reads_alike (IsOld (length graph)) (nodes graph) (nodes (graph ++ more)) nodes_alike admits admits' same is)
        form sound answer

  -- interfaces whose arrows are old nodes admit the same in both graphs
  pub admit_same : (arrows : ℕ → List (ArrowOf NodeId))
      → ((function : ℕ) → AllOf (λ arrow. (arrow.argument.0 < length graph) × (arrow.result.0 < length graph)) (arrows function))
      → AdmitSame (admits (OfNodes graph arrows)) (admits (OfNodes (graph ++ more) arrows))
  admit_same arrows below function pairs element = each_arrow (arrows function) (below function)
    where
      each_arrow : (list : List (ArrowOf NodeId)) → AllOf (λ arrow. (arrow.argument.0 < length graph) × (arrow.result.0 < length graph)) list
          → AllOf (λ arrow. element_maps (nodes graph) pairs arrow.argument arrow.result true) list
          ↔ AllOf (λ arrow. element_maps (nodes (graph ++ more)) pairs arrow.argument arrow.result true) list
      each_arrow [] each = itself
      each_arrow (arrow ∷ rest) each = both_agree
          (maps_alike (IsOld (length graph)) (nodes graph) (nodes (graph ++ more)) nodes_alike pairs element
          arrow.argument arrow.result arrow.argument arrow.result (old (length graph) arrow.argument each.0.0) (old (length graph) arrow.result each.0.1) true)
          (each_arrow rest each.1)
