-- What is known of formulas with the classes of the nodes that they name.
use Rattle.std.proofs.Common.{◌≡◌, ℕ, zero, suc, ◌<◌, List, [], ◌∷◌, map, Option, Some, None, refl, ap, ap₂, ◌∙◌}
use Rattle.std.specs.List.{slice_get}
use Rattle.std.specs.Option.{option_map, unwrap_or}
use Rattle.std.proofs.lemmas.Option.{slice_get-map}
use Rattle.cd_sets.specs.declared.node_id.NodeId.{NodeId}
use Rattle.cd_syntax.specs.Name.{Name}
use Rattle.cd_model.specs.AllOf.{AllOf}
use Rattle.cd_model.specs.Formula as formula
use Rattle.cd_model.specs.Formula.{Graph, Formula, Formulas, NoFormula, AFormula, Field, Nothing}
use Rattle.cd_model.specs.Formula.{IsFormula, AreFormulas, AreRisingLabels, formula_at}
use Rattle.cd_model.specs.Formula.{formulas_of}
use Rattle.cd_shared.specs.Shared.{renamed_field, renamed_formula, renamed_formulas}

module _ (class : NodeId → NodeId) where
  pub labels_kept : (before : Option Name) (named : List (Name × Field))
      → AreRisingLabels before named → AreRisingLabels before (map (renamed_field class) named)
  labels_kept before [] rising = rising
  labels_kept before (field ∷ named) (label, above, rising) =
      (label, above, labels_kept (Some field.0) named rising)

  -- of a list
  pub of_list : (list : List Formula) → renamed_formulas class (formulas_of list)
      ≡ formulas_of (map (renamed_formula class) list)
  of_list [] = refl
  of_list (is ∷ list) = ap (AFormula (renamed_formula class is)) (of_list list)

  -- in a graph
  pub at_renamed : (graph : Graph) (id : NodeId)
      → formula_at (map (renamed_formula class) graph) id
      ≡ renamed_formula class (formula_at graph id)
  at_renamed graph id =
      ap (λ (found : Option Formula). unwrap_or found Nothing)
      (slice_get-map (renamed_formula class) graph id.0)
      ∙ by_found (slice_get graph id.0)
    where
      by_found : (found : Option Formula)
          → unwrap_or (option_map (renamed_formula class) found) Nothing
          ≡ renamed_formula class (unwrap_or found Nothing)
      by_found None = refl
      by_found (Some is) = refl

  -- where classes of nodes are nodes, they are formulas of the graph
  module _ (nodes : ℕ) (below : (id : NodeId) → id.0 < nodes → (class id).0 < nodes) where
    fields_below : (named : List (Name × Field)) → AllOf (λ field. field.1.type.0 < nodes) named
        → AllOf (λ field. field.1.type.0 < nodes) (map (renamed_field class) named)
    fields_below [] all = tt
    fields_below (field ∷ named) all = (below field.1.type all.0, fields_below named all.1)

    mutual
      pub renamed_is : (is : Formula) → IsFormula nodes is
          → IsFormula nodes (renamed_formula class is)
      renamed_is formula.Nothing sound = tt
      renamed_is formula.Everything sound = tt
      renamed_is (formula.Ints set) sound = tt
      renamed_is (formula.Chars set) sound = tt
      renamed_is (formula.Atoms set) sound = sound
      renamed_is (formula.Pair first second) sound = (below first sound.0, below second sound.1)
      renamed_is (formula.Xml tag attributes content) sound =
          (below tag sound.0, below attributes sound.1, below content sound.2)
      renamed_is (formula.Record named rest) sound =
          (labels_kept None named sound.0, fields_below named sound.1, below rest sound.2)
      renamed_is (formula.Arrow argument result) sound =
          (below argument sound.0, below result sound.1)
      renamed_is (formula.And formulas) sound = renamed_are formulas sound
      renamed_is (formula.Or formulas) sound = renamed_are formulas sound
      renamed_is (formula.Not is) sound = renamed_is is sound

      renamed_are : (formulas : Formulas) → AreFormulas nodes formulas
          → AreFormulas nodes (renamed_formulas class formulas)
      renamed_are NoFormula sound = tt
      renamed_are (AFormula is rest) sound = (renamed_is is sound.0, renamed_are rest sound.1)

  -- where nodes are classes of their own, they are the same
  module _ (nodes : ℕ) (own : (id : NodeId) → id.0 < nodes → class id ≡ id) where
    fields_same : (named : List (Name × Field)) → AllOf (λ field. field.1.type.0 < nodes) named
        → map (renamed_field class) named ≡ named
    fields_same [] all = refl
    fields_same (field ∷ named) all = ap₂ (λ (type : NodeId) (rest : List (Name × Field)).
        (field.0, record { optional = field.1.optional; type = type }) ∷ rest)
        (own field.1.type all.0) (fields_same named all.1)

    mutual
      pub same : (is : Formula) → IsFormula nodes is → renamed_formula class is ≡ is
      same formula.Nothing sound = refl
      same formula.Everything sound = refl
      same (formula.Ints set) sound = refl
      same (formula.Chars set) sound = refl
      same (formula.Atoms set) sound = refl
      same (formula.Pair first second) sound =
          ap₂ formula.Pair (own first sound.0) (own second sound.1)
      same (formula.Xml tag attributes content) sound =
          ap₂ (λ (one other : NodeId). formula.Xml one other (class content))
          (own tag sound.0) (own attributes sound.1)
          ∙ ap (formula.Xml tag attributes) (own content sound.2)
      same (formula.Record named rest) sound =
          ap₂ formula.Record (fields_same named sound.1) (own rest sound.2)
      same (formula.Arrow argument result) sound =
          ap₂ formula.Arrow (own argument sound.0) (own result sound.1)
      same (formula.And formulas) sound = ap formula.And (all_same formulas sound)
      same (formula.Or formulas) sound = ap formula.Or (all_same formulas sound)
      same (formula.Not is) sound = ap formula.Not (same is sound)

      all_same : (formulas : Formulas) → AreFormulas nodes formulas
          → renamed_formulas class formulas ≡ formulas
      all_same NoFormula sound = refl
      all_same (AFormula is rest) sound = ap₂ AFormula (same is sound.0) (all_same rest sound.1)

    -- so are those of a graph
    pub at_same : (graph : Graph) (id : NodeId) → AllOf (IsFormula nodes) graph
        → renamed_formula class (formula_at graph id) ≡ formula_at graph id
    at_same graph id sound = at graph id.0 sound
      where
        at : (graph : Graph) (number : ℕ) → AllOf (IsFormula nodes) graph
            → renamed_formula class (unwrap_or (slice_get graph number) Nothing)
            ≡ unwrap_or (slice_get graph number) Nothing
        at [] number sound = refl
        at (is ∷ graph) zero sound = same is sound.0
        at (is ∷ graph) (suc number) sound = at graph number sound.1

  -- where a class is a class of its own, what has classes has the same again
  module _ (once : (id : NodeId) → class (class id) ≡ class id) where
    fields_again : (named : List (Name × Field))
        → map (renamed_field class) (map (renamed_field class) named)
        ≡ map (renamed_field class) named
    fields_again [] = refl
    fields_again (field ∷ named) = ap₂ (λ (type : NodeId) (rest : List (Name × Field)).
        (field.0, record { optional = field.1.optional; type = type }) ∷ rest)
        (once field.1.type) (fields_again named)

    mutual
      pub again : (is : Formula)
          → renamed_formula class (renamed_formula class is) ≡ renamed_formula class is
      again formula.Nothing = refl
      again formula.Everything = refl
      again (formula.Ints set) = refl
      again (formula.Chars set) = refl
      again (formula.Atoms set) = refl
      again (formula.Pair first second) = ap₂ formula.Pair (once first) (once second)
      again (formula.Xml tag attributes content) =
          ap₂ (λ (one other : NodeId). formula.Xml one other (class (class content)))
          (once tag) (once attributes)
          ∙ ap (formula.Xml (class tag) (class attributes)) (once content)
      again (formula.Record named rest) = ap₂ formula.Record (fields_again named) (once rest)
      again (formula.Arrow argument result) = ap₂ formula.Arrow (once argument) (once result)
      again (formula.And formulas) = ap formula.And (all_again formulas)
      again (formula.Or formulas) = ap formula.Or (all_again formulas)
      again (formula.Not is) = ap formula.Not (again is)

      all_again : (formulas : Formulas)
          → renamed_formulas class (renamed_formulas class formulas)
          ≡ renamed_formulas class formulas
      all_again NoFormula = refl
      all_again (AFormula is rest) = ap₂ AFormula (again is) (all_again rest)

    pub graph_again : (graph : Graph)
        → map (renamed_formula class) (map (renamed_formula class) graph)
        ≡ map (renamed_formula class) graph
    graph_again [] = refl
    graph_again (is ∷ graph) =
        ap₂ (λ (is : Formula) (rest : Graph). is ∷ rest) (again is) (graph_again graph)
