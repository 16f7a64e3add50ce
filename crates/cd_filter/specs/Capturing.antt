-- What variables capture at places, and tables whose steps say it.
use Rattle.std.specs.Prelude.{◌≡◌, ◌⊎◌, ◌<◌, ◌↔◌, ℕ, Bool, true, false, List, [], ◌∷◌, length}
use Rattle.std.specs.Prelude.{Option, Some, None, is_some}
use Rattle.std.specs.List.{slice_get}
use Rattle.cd_sets.specs.declared.node_id.NodeId.{NodeId}
use Rattle.cd_sets.specs.declared.question.Question.{Question}
use Rattle.cd_syntax.specs.Name.{Name}
use Rattle.cd_model.specs.AllOf.{AllOf}
use Rattle.cd_model.specs.Formula.{asked}
use Rattle.cd_model.specs.Thing.{Thing}
use Rattle.cd_model.specs.Types.{Answers}
use Rattle.cd_matching.specs.Captures.{Captures}
use Rattle.cd_matching.specs.Kernel.{KernelNode, KernelField, Test, Bind, Put, Pair, Xml, Record}
use Rattle.cd_matching.specs.Kernel.{Both, First, Gather, Ends, IsSoundNode, taken}
use Rattle.cd_products.specs.QuestionBoxes.{IsInhabited}
use Rattle.cd_products.specs.Products.{Cover, AreProducts, CoverTriples, AreTriples}
use Rattle.cd_filter.specs.Accepting.{AreInRange, AreAccepting}
use Rattle.cd_filter.specs.Rows.{CoverRows, AreRows}
use Rattle.cd_filter.specs.Table.{Place, Step, Takes, Puts, Leads, Gathers, Table, HasPlace}
use Rattle.cd_filter.specs.Table.{HasStep}
use Rattle.cd_filter.specs.Table.{at, pair_steps, gather_steps, triple_steps, row_steps}

module _ (answers : Thing → Answers NodeId) (Sort : Thing → Type 0) where
  -- exact, or covering: values are covered alone, for a question may hold elements and no value
  abbrev pub ProductsOf : (exact : Bool) → Question → List (Question × Question) → Type 0
  ProductsOf true = AreProducts answers Sort
  ProductsOf false = Cover answers Sort

  abbrev pub TriplesOf : (exact : Bool) → Question → List (Question × Question × Question)
      → Type 0
  TriplesOf true = AreTriples answers Sort
  TriplesOf false = CoverTriples answers Sort

  abbrev pub RowsOf : (exact : Bool) → Question → List (Name × KernelField NodeId)
      → List (List Question) → Type 0
  RowsOf true = AreRows answers Sort
  RowsOf false = CoverRows answers Sort

  -- the one question holds what of the other one is in a node, or outside it
  abbrev pub IsNarrowed : (answer : Bool) → NodeId → (question narrowed : Question) → Type 0
  IsNarrowed answer id question narrowed = (d : Thing) → Sort d
      → asked (answers d) narrowed true
      ↔ (asked (answers d) question true × answers d id answer)

  -- the steps of a node, where these nodes accept what kernel nodes take
  abbrev pub AreSteps : (exact : Bool) → (accepts : ℕ → NodeId) → Question
      → Option (KernelNode NodeId) → List Step → Type 0
  AreSteps exact accepts question None steps = ⊥
  AreSteps exact accepts question (Some (Test type)) steps = steps ≡ []
  AreSteps exact accepts question (Some (Bind variable)) steps = steps ≡ Takes variable ∷ []
  AreSteps exact accepts question (Some (Put variable constant)) steps =
      steps ≡ Puts variable constant ∷ []
  AreSteps exact accepts question (Some (Both p q)) steps =
      steps ≡ Leads None (at p question) ∷ Leads None (at q question) ∷ []
  AreSteps exact accepts question (Some (First p q)) steps = (taken_first others : Question)
      × IsNarrowed true (accepts p) question taken_first
      × IsNarrowed false (accepts p) question others
      × (steps ≡ Leads None (at p taken_first) ∷ Leads None (at q others) ∷ [])
  AreSteps exact accepts question (Some (Pair p q)) steps =
      (products : List (Question × Question)) × ProductsOf exact question products
      × (steps ≡ pair_steps p q products)
  AreSteps exact accepts question (Some (Gather variable p q)) steps =
      (products : List (Question × Question)) × ProductsOf exact question products
      × (steps ≡ gather_steps variable p q products)
  AreSteps exact accepts question (Some (Xml tag attributes content)) steps =
      (triples : List (Question × Question × Question)) × TriplesOf exact question triples
      × (steps ≡ triple_steps tag attributes content triples)
  AreSteps exact accepts question (Some (Record named more)) steps =
      (rows : List (List Question)) × RowsOf exact question named rows
      × (steps ≡ row_steps named rows)

  -- a place with steps has things
  abbrev pub IsInhabitedPlace : Place × List Step → Type 0
  IsInhabitedPlace entry = IsInhabited answers Sort entry.0.question ⊎ (entry.1 ≡ [])

  module _ (nodes : List (KernelNode NodeId)) where
    -- the place has the steps of its node, or, where its question has no thing, none
    abbrev pub IsSettled : (exact : Bool) → (accepts : ℕ → NodeId) → Place × List Step → Type 0
    IsSettled exact accepts entry =
        AreSteps exact accepts entry.0.question (slice_get nodes entry.0.number) entry.1
        ⊎ ((IsInhabited answers Sort entry.0.question → ⊥) × (entry.1 ≡ []))

    -- each place is settled, and each place that steps lead to is there
    pub record IsWhole (exact : Bool) (accepts : ℕ → NodeId) (table : Table) : Type 0 where
      pub settled : AllOf (IsSettled exact accepts) table
      pub ends : AllOf (λ entry. Ends nodes (length nodes) entry.0.number) table
      pub leads : (place next : Place) (but : Option ℕ) → HasStep table place (Leads but next)
          → HasPlace table next
      pub gathers : (place next : Place) (variable : ℕ) (item : Question)
          → HasStep table place (Gathers variable item next) → HasPlace table next

  module _ (test : NodeId → Thing → Bool) (nodes : List (KernelNode NodeId)) where
    -- at the place the variable captures this, from a thing that is taken
    abbrev pub Captured : (variable : ℕ) → Place → Thing → Type 0
    Captured variable place what = (d : Thing) × (captures : Captures ℕ) × Sort d
        × asked (answers d) place.question true
        × (taken NodeId test nodes d place.number ≡ Some captures)
        × (captures variable ≡ Some what)

    -- all things of the place are taken
    abbrev pub IsAccepted : Place → Type 0
    IsAccepted place = (d : Thing) → Sort d → asked (answers d) place.question true
        → is_some (taken NodeId test nodes d place.number) ≡ true

    abbrev pub AreAccepted : Table → Type 0
    AreAccepted table = AllOf (λ entry. IsAccepted entry.0) table

    -- the nodes of a kernel with so many variables are sound, and these nodes accept them
    pub record AreSoundAndAccepted (accepts : ℕ → NodeId) (variables : ℕ)
        (IsType : NodeId → Type 0) : Type 0 where
      pub accepting : AreAccepting answers Sort test nodes accepts
      pub in_range : AreInRange nodes
      pub sound : AllOf (IsSoundNode nodes variables IsType) nodes
      pub ends : (number : ℕ) → number < length nodes → Ends nodes (length nodes) number
