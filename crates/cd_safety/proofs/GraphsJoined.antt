-- Two graphs in one: behind the formulas of the first stand those of the second, with node numbers raised by the length of the first.
use Rattle.std.proofs.Common.{◌≡◌, ◌+◌, ◌<◌, ℕ, zero, suc, List, [], ◌∷◌, ◌++◌, map, length, length-append, Option, inl, inr, ◌↔◌, refl, sym, ◌∙◌, ap, subst, arith, bytes_eq}
use Rattle.std.proofs.lemmas.Bool.{cases_Bool}
use Rattle.cd_sets.specs.declared.node_id.NodeId.{NodeId}
use Rattle.cd_syntax.specs.Name.{Name}
use Rattle.cd_model.specs.Alike as heads
use Rattle.cd_model.specs.Alike.{Standing, FieldsStand}
use Rattle.cd_model.specs.AllOf.{AllOf}
use Rattle.cd_model.specs.BuiltIns.{node}
use Rattle.cd_model.specs.Formula as formula
use Rattle.cd_model.specs.Formula.{Formula, Formulas, NoFormula, AFormula, Graph, IsFormula, AreFormulas, AreRisingLabels, IsGraph, nodes, formula_at, at_formula, holds}
use Rattle.cd_model.specs.Interfaces.{admits}
use Rattle.cd_model.specs.Types.{FieldOf, field_of, reader}
use Rattle.cd_model.proofs.BothWays.{itself, turned, through}
use Rattle.cd_model.proofs.Extending.{kept_elements, kept_values}
use Rattle.cd_model.proofs.FormulasAlike as stand
use Rattle.cd_model.proofs.FormulasAlike.{FormulasStand, AllStand, formulas_alike}
use Rattle.cd_model.proofs.ValuesAlike.{AlwaysAlike, elements_alike, values_alike}
use Rattle.cd_model.proofs.FormulasAmongMore.{graph_with_more}
use Rattle.cd_typing.specs.Later.{IsLater}
use Rattle.cd_typing.specs.Typ.{Typ, typ}
use Rattle.cd_safety.specs.HoldsAs.{HoldsAs, HasJoined}

module _ (count : ℕ) where
  abbrev raised : NodeId → NodeId
  raised id = node (count + id.0)

  abbrev raised_field : Name × FieldOf NodeId → Name × FieldOf NodeId
  raised_field field = (field.0, record { optional = field.1.optional; type = raised field.1.type })

  abbrev mutual
    raised_formula : Formula → Formula
    raised_formula formula.Nothing = formula.Nothing
    raised_formula formula.Everything = formula.Everything
    raised_formula (formula.Ints set) = formula.Ints set
    raised_formula (formula.Chars set) = formula.Chars set
    raised_formula (formula.Atoms set) = formula.Atoms set
    raised_formula (formula.Pair a b) = formula.Pair (raised a) (raised b)
    raised_formula (formula.Xml a b c) = formula.Xml (raised a) (raised b) (raised c)
    raised_formula (formula.Record named rest) = formula.Record (map raised_field named) (raised rest)
    raised_formula (formula.Arrow a b) = formula.Arrow (raised a) (raised b)
    raised_formula (formula.And all) = formula.And (raised_formulas all)
    raised_formula (formula.Or all) = formula.Or (raised_formulas all)
    raised_formula (formula.Not is) = formula.Not (raised_formula is)

    raised_formulas : Formulas → Formulas
    raised_formulas NoFormula = NoFormula
    raised_formulas (AFormula is rest) = AFormula (raised_formula is) (raised_formulas rest)

  abbrev raised_graph : Graph → Graph
  raised_graph graph = map raised_formula graph

  -- a node stands for the one with its number raised
  abbrev IsRaised : Standing NodeId NodeId
  IsRaised one other = other ≡ raised one

  fields_stand : (named : List (Name × FieldOf NodeId)) (rest : NodeId) (label : Name)
      → FieldsStand IsRaised (field_of named rest label) (field_of (map raised_field named) (raised rest) label)
  fields_stand [] rest label = record { optional = refl; type = refl }
  fields_stand (field ∷ named) rest label = elim (cases_Bool (bytes_eq field.0 label)) [
    | inl equal ↦ rw equal (record { optional = refl; type = refl })
    | inr differs ↦ rw differs (fields_stand named rest label)
  ]

  mutual
    raised_stands : (is : Formula) → FormulasStand IsRaised is (raised_formula is)
    raised_stands formula.Nothing = stand.nothing
    raised_stands formula.Everything = stand.everything
    raised_stands (formula.Ints set) = stand.of_head _ _ _ _ refl refl (heads.integers _ _ (λ n. refl))
    raised_stands (formula.Chars set) = stand.of_head _ _ _ _ refl refl (heads.characters _ _ (λ n. refl))
    raised_stands (formula.Atoms set) = stand.of_head _ _ _ _ refl refl (heads.atoms _ _ (λ n. refl))
    raised_stands (formula.Pair a b) = stand.of_head _ _ _ _ refl refl (heads.products a b (raised a) (raised b) refl refl)
    raised_stands (formula.Xml a b c) =
        stand.of_head _ _ _ _ refl refl (heads.xmls a b c (raised a) (raised b) (raised c) refl refl refl)
    raised_stands (formula.Record named rest) = stand.of_head _ _ _ _ refl refl
        (heads.records named rest (map raised_field named) (raised rest) (fields_stand named rest))
    raised_stands (formula.Arrow a b) = stand.of_head _ _ _ _ refl refl (heads.arrows a b (raised a) (raised b) refl refl)
    raised_stands (formula.And all) = stand.and_of all (raised_formulas all) (all_stand all)
    raised_stands (formula.Or all) = stand.or_of all (raised_formulas all) (all_stand all)
    raised_stands (formula.Not is) = stand.not_of is (raised_formula is) (raised_stands is)

    all_stand : (all : Formulas) → AllStand IsRaised all (raised_formulas all)
    all_stand NoFormula = stand.no_formula
    all_stand (AFormula is rest) =
        stand.a_formula is (raised_formula is) rest (raised_formulas rest) (raised_stands is) (all_stand rest)

  -- raised formulas are formulas of a graph with so many nodes more
  below_raised : (nodes : ℕ) (id : NodeId) → id.0 < nodes → (raised id).0 < count + nodes
  below_raised nodes id below = omega (arith, below)

  labels_raised : (before : Option Name) (named : List (Name × FieldOf NodeId)) → AreRisingLabels before named
      → AreRisingLabels before (map raised_field named)
  labels_raised before [] rise = tt
  labels_raised before (field ∷ named) rise = (rise.0, rise.1, labels_raised (Option.Some field.0) named rise.2)

  fields_raised : (nodes : ℕ) (named : List (Name × FieldOf NodeId)) → AllOf (λ field. field.1.type.0 < nodes) named
      → AllOf (λ field. field.1.type.0 < count + nodes) (map raised_field named)
  fields_raised nodes [] each = tt
  fields_raised nodes (field ∷ named) each = (below_raised nodes field.1.type each.0, fields_raised nodes named each.1)

  mutual
    formula_raised : (nodes : ℕ) (is : Formula) → IsFormula nodes is → IsFormula (count + nodes) (raised_formula is)
    formula_raised nodes formula.Nothing sound = tt
    formula_raised nodes formula.Everything sound = tt
    formula_raised nodes (formula.Ints set) sound = tt
    formula_raised nodes (formula.Chars set) sound = tt
    formula_raised nodes (formula.Atoms set) sound = sound
    formula_raised nodes (formula.Pair a b) sound = (below_raised nodes a sound.0, below_raised nodes b sound.1)
    formula_raised nodes (formula.Xml a b c) sound =
        (below_raised nodes a sound.0, below_raised nodes b sound.1, below_raised nodes c sound.2)
    formula_raised nodes (formula.Record named rest) sound = (
      labels_raised Option.None named sound.0,
      fields_raised nodes named sound.1,
      below_raised nodes rest sound.2,
    )
    formula_raised nodes (formula.Arrow a b) sound = (below_raised nodes a sound.0, below_raised nodes b sound.1)
    formula_raised nodes (formula.And all) sound = formulas_raised nodes all sound
    formula_raised nodes (formula.Or all) sound = formulas_raised nodes all sound
    formula_raised nodes (formula.Not is) sound = formula_raised nodes is sound

    formulas_raised : (nodes : ℕ) (all : Formulas) → AreFormulas nodes all → AreFormulas (count + nodes) (raised_formulas all)
    formulas_raised nodes NoFormula sound = tt
    formulas_raised nodes (AFormula is rest) sound = (formula_raised nodes is sound.0, formulas_raised nodes rest sound.1)

  graph_raised : (nodes : ℕ) (graph : Graph) → AllOf (IsFormula nodes) graph → AllOf (IsFormula (count + nodes)) (raised_graph graph)
  graph_raised nodes [] each = tt
  graph_raised nodes (is ∷ graph) each = (formula_raised nodes is each.0, graph_raised nodes graph each.1)

  raised_at : (graph : Graph) (n : ℕ) → formula_at (raised_graph graph) (node n) ≡ raised_formula (formula_at graph (node n))
  raised_at [] n = refl
  raised_at (is ∷ graph) zero = refl
  raised_at (is ∷ graph) (suc n) = raised_at graph n

  raised_length : (graph : Graph) → length (raised_graph graph) ≡ length graph
  raised_length [] = refl
  raised_length (is ∷ graph) = ap suc (raised_length graph)

pub behind : (first rest : Graph) (n : ℕ) → formula_at (first ++ rest) (node (length first + n)) ≡ formula_at rest (node n)
behind [] rest n = let same : 0 + n ≡ n = omega arith in ap (λ n. formula_at rest (node n)) same
behind (is ∷ first) rest n =
    let same : suc (length first) + n ≡ suc (length first + n) = omega arith in
    ap (λ n. formula_at (is ∷ first ++ rest) (node n)) same ∙ behind first rest n

module _ (first second : Graph) where
  abbrev count : ℕ
  count = length first

  -- the second graph behind the first one
  abbrev joined : Graph
  joined = first ++ raised_graph count second

  formula_behind : (id : NodeId) → formula_at joined (raised count id) ≡ raised_formula count (formula_at second id)
  formula_behind id = behind first (raised_graph count second) id.0 ∙ raised_at count second id.0

  raised_alike : AlwaysAlike (IsRaised count) (nodes second) (nodes joined)
  raised_alike closed closing is of alike one other same answer =
      let read = reader (nodes second) closed is in
      let other_read = reader (nodes joined) closing is in
      subst (λ id. holds (at_formula read) (formula_at second one) answer ↔ holds (at_formula other_read) (formula_at joined id) answer)
      (sym same)
      (subst (λ form. holds (at_formula read) (formula_at second one) answer ↔ holds (at_formula other_read) form answer)
      (sym (formula_behind one))
      (formulas_alike (IsRaised count) read other_read alike (formula_at second one) (raised_formula count (formula_at second one))
      (raised_stands count (formula_at second one)) answer))

  joined_length : length joined ≡ count + length second
  joined_length = length-append first (raised_graph count second) ∙ ap (λ n. count + n) (raised_length count second)

  joined_is_sound : IsGraph first → IsGraph second → IsGraph joined
  joined_is_sound sound sound' = graph_with_more first (raised_graph count second) sound
      (subst (λ n. AllOf (IsFormula (count + n)) (raised_graph count second)) (sym (raised_length count second))
      (graph_raised count (length second) second sound'))

  -- each node of the second graph has one that holds the same
  raised_holds : (id : NodeId) → id.0 < length second → HoldsAs joined (raised count id) (typ second id)
  raised_holds id below = record {
    is_node = let same = joined_length in omega (arith, same, below);
    elements = λ e answer.
        turned (elements_alike (IsRaised count) (nodes second) (nodes joined) raised_alike e id (raised count id) refl answer);
    values = λ interfaces v answer. turned (values_alike (IsRaised count) (nodes second) (nodes joined) raised_alike
        (admits interfaces) (admits interfaces) (λ function pairs sound. itself) v id (raised count id) refl answer);
  }

-- a node of a graph holds the same in each later one
pub later_holds : (graph later : Graph) → IsLater graph later → IsGraph graph → (id : NodeId) → id.0 < length graph
    → HoldsAs later id (typ graph id)
later_holds graph later is sound id below = subst (λ whole. HoldsAs whole id (typ graph id)) (sym is.is) (record {
  is_node = let lengths = length-append graph is.more in omega (arith, lengths, below);
  elements = λ e answer. turned (kept_elements graph is.more sound e id answer below);
  values = λ interfaces v answer. turned
      (kept_values graph is.more sound (admits interfaces) (admits interfaces) (λ function pairs element. itself) v id answer below);
})

pub still_holds : (graph later : Graph) → IsLater graph later → IsGraph graph → (id : NodeId) (t : Typ) → HoldsAs graph id t
    → HoldsAs later id t
still_holds graph later is sound id t holds =
    let same = later_holds graph later is sound id holds.is_node in
    record {
      is_node = same.is_node;
      elements = λ e answer. through (same.elements e answer) (holds.elements e answer);
      values = λ interfaces v answer. through (same.values interfaces v answer) (holds.values interfaces v answer);
    }

-- For two sound graphs there is one that begins with the first, and holds at some node what each node of the second holds
pub graphs_joined : (first second : Graph) → IsGraph first → IsGraph second → HasJoined first second
graphs_joined first second sound sound' = record {
  joined = joined first second;
  is_later = record { more = raised_graph (length first) second; is = refl; sound = joined_is_sound first second sound sound' };
  node_for = λ id below. (raised (length first) id, raised_holds first second id below);
}
