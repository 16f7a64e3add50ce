-- Nodes hold what they held where more formulas come after those of a graph.
use Rattle.std.proofs.Common.{◌≡◌, ◌<◌, ◌≤◌, ◌+◌, ◌↔◌, ℕ, true, false, List, [], ◌∷◌, ◌++◌}
use Rattle.std.proofs.Common.{length, refl, sym, ap, subst, ◌∙◌, append_assoc, append-nil, arith}
use Rattle.std.proofs.lemmas.List.{length-append}
use Rattle.cd_sets.specs.declared.node_id.NodeId.{NodeId}
use Rattle.cd_sets.specs.declared.question.Question.{Question}
use Rattle.cd_syntax.specs.Name.{Name}
use Rattle.cd_model.specs.AllOf.{AllOf}
use Rattle.cd_model.specs.Formula.{Graph, Formula, Field, IsFormula}
use Rattle.cd_model.specs.Formula.{IsGraph, formula_at, asked, holds, in_node}
use Rattle.cd_model.specs.Membership.{reader}
use Rattle.cd_model.specs.Thing.{Thing, IsElement}
use Rattle.cd_model.proofs.BothWays.{itself, through}
use Rattle.cd_model.proofs.Extending.{kept_elements, kept_formulas}
use Rattle.cd_model.proofs.Ones.{each_weaker, each_of_lists}
use Rattle.cd_model.proofs.FormulasAmongMore.{formula_among_more}
use Rattle.cd_builders.specs.Unions.{IsFormulaOfUnion}
use Rattle.cd_records.specs.Inner.Entries.{Entry, InOneQuestion}
use Rattle.cd_records.specs.Inner.Standing.{Adds, HoldsUnion, HoldsOutside}
use Rattle.cd_records.specs.Inner.Standing.{AreFieldsOf, longer}

-- the formula that stands after those of a graph and of a batch
at_end : (all : Graph) (f : Formula) (more : Graph)
    → formula_at (all ++ (f ∷ more)) (record { 0 = length all }) ≡ f
at_end [] f more = refl
at_end (is ∷ all) f more = at_end all f more

stands : (graph batch : Graph) (f : Formula) (more : Graph) (id : NodeId)
    → id.0 ≡ length graph + length batch
    → formula_at (graph ++ ((batch ++ (f ∷ [])) ++ more)) id ≡ f
stands graph batch f more id is =
    ap (λ (all : Graph). formula_at all id)
    (ap (λ (later : Graph). graph ++ later) (append_assoc batch (f ∷ []) more)
    ∙ sym (append_assoc graph batch (f ∷ more)))
    ∙ ap (λ (n : ℕ). formula_at ((graph ++ batch) ++ (f ∷ more)) (record { 0 = n }))
    (is ∙ sym (length-append graph batch))
    ∙ at_end (graph ++ batch) f more

-- the last node holds what its formula holds
pub last_node : (graph batch : Graph) (f : Formula) (id : NodeId)
    → id.0 ≡ length graph + length batch → (d : Thing)
    → in_node (longer graph batch (f ∷ [])) d id true
    ↔ holds (reader (longer graph batch (f ∷ [])) d) f true
last_node graph batch f id at d = subst
    (λ (form : Formula). holds (reader (longer graph batch (f ∷ [])) d) form true
    ↔ holds (reader (longer graph batch (f ∷ [])) d) f true)
    (sym (ap (λ (later : Graph). formula_at (graph ++ later) id) (sym (append-nil _))
    ∙ stands graph batch f [] id at))
    itself

-- and so the formulas are those of the longer graph
pub all_sound : (graph : Graph) (batch : List Formula) (f : Formula)
    → AllOf (IsFormula (length graph)) batch → IsFormula (length graph + length batch) f
    → (all : List Formula) → all ≡ batch ++ (f ∷ [])
    → AllOf (IsFormula (length graph + length all)) all
all_sound graph batch f each is all same =
    let count : length all ≡ length batch + 1 = ap length same ∙ length-append batch (f ∷ []) in
    subst (AllOf (IsFormula (length graph + length all))) (sym same)
    (each_of_lists (IsFormula (length graph + length all)) batch (f ∷ [])
    (each_weaker (IsFormula (length graph)) (IsFormula (length graph + length all))
    (formula_among_more (length graph) (length graph + length all) (omega arith)) batch each) (
      formula_among_more (length graph + length batch) (length graph + length all)
          (omega (arith, count)) f is,
      tt,
    ))

module _ (graph : Graph) (sound : IsGraph graph) where
  -- an old node holds what it held
  pub old_node : (batch more : Graph) (e : Thing) (id : NodeId) → id.0 < length graph
      → in_node graph e id true ↔ in_node (longer graph batch more) e id true
  old_node batch more e id below = kept_elements graph (batch ++ more) sound e id true below

  pub holds_old : (batch : List Formula) (questions : List Question) (id : NodeId)
      → id.0 < length graph
      → ((e : Thing) → InOneQuestion (in_node graph) questions e ↔ in_node graph e id true)
      → HoldsUnion graph batch questions id
  holds_old batch questions id below same = record {
    node = omega arith;
    elements = λ more e is. through (same e) (old_node batch more e id below);
  }

  -- a new node holds what its formula holds
  module _ (batch : List Formula) (f : Formula) (f_is : IsFormula (length graph) f) (id : NodeId)
      (at : id.0 ≡ length graph + length batch) where
    below : id.0 < length graph + length (batch ++ (f ∷ []))
    below = omega (arith, at, length-append batch (f ∷ []))

    new_node : (more : Graph) (e : Thing)
        → holds (reader graph e) f true ↔ in_node (longer graph (batch ++ (f ∷ [])) more) e id true
    new_node more e = subst
        (λ (form : Formula). holds (reader graph e) f true
        ↔ holds (reader (longer graph (batch ++ (f ∷ [])) more) e) form true)
        (sym (stands graph batch f more id at))
        (kept_formulas graph ((batch ++ (f ∷ [])) ++ more) sound e f true f_is)

    new_node_outside : (more : Graph) (e : Thing)
        → holds (reader graph e) f false
        ↔ in_node (longer graph (batch ++ (f ∷ [])) more) e id false
    new_node_outside more e = subst
        (λ (form : Formula). holds (reader graph e) f false
        ↔ holds (reader (longer graph (batch ++ (f ∷ [])) more) e) form false)
        (sym (stands graph batch f more id at))
        (kept_formulas graph ((batch ++ (f ∷ [])) ++ more) sound e f false f_is)

    pub holds_new : (questions : List Question) → IsFormulaOfUnion graph questions f
        → HoldsUnion graph (batch ++ (f ∷ [])) questions id
    holds_new questions union = record {
      node = below;
      elements = λ more e is. through (union.elements e is) (new_node more e);
    }

    pub outside_new : (question : Question)
        → ((e : Thing) → IsElement e
        → asked (in_node graph e) question true ↔ holds (reader graph e) f false)
        → HoldsOutside graph (batch ++ (f ∷ [])) question id
    outside_new question same = record {
      node = below;
      elements = λ more e is. through (same e is) (new_node_outside more e);
    }

module _ (graph : Graph) where
  pub adds_none : (batch : List Formula) → Adds graph batch batch
  adds_none batch = ([], sym (append-nil batch), tt)

  pub adds_one : (batch : List Formula) (f : Formula) → IsFormula (length graph) f
      → (new : List Formula) → new ≡ batch ++ (f ∷ []) → Adds graph batch new
  adds_one batch f sound new is = (f ∷ [], is, (sound, tt))

  pub adds_then : (old mid new : List Formula) → Adds graph old mid → Adds graph mid new
      → Adds graph old new
  adds_then old mid new (more, are, sound) (later, follow, sound_too) = (
    more ++ later,
    follow ∙ ap (λ some. some ++ later) are ∙ append_assoc old more later,
    each_of_lists (IsFormula (length graph)) more later sound sound_too,
  )

  -- what stood before more formulas came still stands
  module _ (old new : List Formula) (adds : Adds graph old new) where
    larger : length old ≤ length new
    larger = omega (arith, ap length adds.1 ∙ length-append old adds.0)

    moved : (more : Graph) → longer graph old (adds.0 ++ more) ≡ longer graph new more
    moved more = ap (λ (later : Graph). graph ++ later)
        (sym (append_assoc old adds.0 more) ∙ ap (λ (some : Graph). some ++ more) (sym adds.1))

    pub union_stays : (questions : List Question) (id : NodeId)
        → HoldsUnion graph old questions id → HoldsUnion graph new questions id
    union_stays questions id holding = record {
      node = let most = larger in let node = holding.node in omega arith;
      elements = λ more e is. subst
          (λ (whole : Graph). InOneQuestion (in_node graph) questions e ↔ in_node whole e id true)
          (moved more) (holding.elements (adds.0 ++ more) e is);
    }

    pub outside_stays : (question : Question) (id : NodeId)
        → HoldsOutside graph old question id → HoldsOutside graph new question id
    outside_stays question id holding = record {
      node = let most = larger in let node = holding.node in omega arith;
      elements = λ more e is. subst
          (λ (whole : Graph). asked (in_node graph e) question true ↔ in_node whole e id false)
          (moved more) (holding.elements (adds.0 ++ more) e is);
    }

    pub fields_stay : (entries : List (Name × Entry)) (named : List (Name × Field))
        → AreFieldsOf graph old entries named → AreFieldsOf graph new entries named
    fields_stay [] [] are = are
    fields_stay [] (field ∷ named) are = are
    fields_stay (one ∷ entries) [] are = are
    fields_stay (one ∷ entries) (field ∷ named) are = (
      (
        are.0.0,
        record {
          optional = are.0.1.optional;
          type = union_stays one.1.questions field.1.type are.0.1.type;
        },
      ),
      fields_stay entries named are.1,
    )
