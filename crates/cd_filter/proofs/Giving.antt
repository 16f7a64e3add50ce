-- What a step gives, and the product, triple or field of which a step gives something.
use Rattle.std.proofs.Common.{◌≡◌, ℕ, true, List, [], ◌∷◌, ◌⊎◌, inl, inr, Some}
use Rattle.std.proofs.Common.{Bool, refl}
use Rattle.cd_sets.specs.declared.node_id.NodeId.{NodeId}
use Rattle.cd_sets.specs.declared.question.Question.{Question}
use Rattle.cd_syntax.specs.Name.{Name}
use Rattle.cd_model.specs.AllOf.{AllOf, AnyOf}
use Rattle.cd_model.specs.Formula.{asked}
use Rattle.cd_model.specs.Thing.{Thing, Pair}
use Rattle.cd_model.specs.Types.{Answers}
use Rattle.cd_model.proofs.Ones.{one_on_a_side}
use Rattle.cd_matching.specs.Captures.{Captures}
use Rattle.cd_matching.specs.Kernel.{KernelNode, KernelField, Present, Optional, taken}
use Rattle.cd_matching.specs.Sequences.{thing_of}
use Rattle.cd_products.specs.QuestionBoxes.{IsInhabited}
use Rattle.cd_filter.specs.Capturing.{Captured}
use Rattle.cd_filter.specs.Rows.{IsPicked, Picks}
use Rattle.cd_filter.specs.Table.{Place, Step, Takes, Puts, Leads, Gathers, at, pair_steps}
use Rattle.cd_filter.specs.Table.{gather_steps, triple_steps, cell_steps, row_steps}
use Rattle.cd_filter.proofs.Steps.{Product, Triple}

module _ (answers : Thing → Answers NodeId) (Sort : Thing → Type 0)
    (test : NodeId → Thing → Bool) (nodes : List (KernelNode NodeId)) (variable : ℕ) where
  abbrev pub CapturedAt : Place → Thing → Type 0
  CapturedAt = Captured answers Sort test nodes variable

  abbrev pub Has : Question → Type 0
  Has = IsInhabited answers Sort

  abbrev pub GathersHere : Question → Place → Thing → Type 0
  GathersHere item place what = (first rest : Thing) × Sort first × asked (answers first) item true
      × CapturedAt place rest × (what ≡ Pair first rest)

  abbrev pub Gives : Question → Thing → Step → Type 0
  Gives question what (Takes other) =
      (other ≡ variable) × Sort what × asked (answers what) question true
  Gives question what (Puts other constant) =
      (other ≡ variable) × (what ≡ thing_of constant) × Has question
  Gives question what (Leads but place) = (but ≡ Some variable → ⊥) × CapturedAt place what
  Gives question what (Gathers other item place) = (other ≡ variable) × GathersHere item place what

  -- of pairs
  abbrev pub OfProduct : (p q : ℕ) → List Product → Thing → Type 0
  OfProduct p q products what = (product : Product) × AnyOf (λ other. other ≡ product) products
      × Has product.0 × Has product.1
      × (CapturedAt (at p product.0) what ⊎ CapturedAt (at q product.1) what)

  pub pair_gives : (question : Question) (p q : ℕ) (products : List Product) (what : Thing)
      → AllOf (λ product. Has product.0 × Has product.1) products
      → AnyOf (Gives question what) (pair_steps p q products) → OfProduct p q products what
  pair_gives question p q [] what inhabited one = absurd one
  pair_gives question p q (product ∷ products) what inhabited (inl given) =
      (product, inl refl, inhabited.0.0, inhabited.0.1, inl given.1)
  pair_gives question p q (product ∷ products) what inhabited (inr (inl given)) =
      (product, inl refl, inhabited.0.0, inhabited.0.1, inr given.1)
  pair_gives question p q (product ∷ products) what inhabited (inr (inr later)) =
      let found = pair_gives question p q products what inhabited.1 later in
      (found.0, inr found.1, found.2, found.3, found.4)

  -- of gathered pairs
  abbrev pub OfGather : (by p q : ℕ) → List Product → Thing → Type 0
  OfGather by p q products what = (product : Product) × AnyOf (λ other. other ≡ product) products
      × Has product.0 × Has product.1
      × (CapturedAt (at p product.0) what
      ⊎ ((Some by ≡ Some variable → ⊥) × CapturedAt (at q product.1) what)
      ⊎ ((by ≡ variable) × GathersHere product.0 (at q product.1) what))

  pub gather_gives : (question : Question) (by p q : ℕ) (products : List Product) (what : Thing)
      → AllOf (λ product. Has product.0 × Has product.1) products
      → AnyOf (Gives question what) (gather_steps by p q products) → OfGather by p q products what
  gather_gives question by p q [] what inhabited one = absurd one
  gather_gives question by p q (product ∷ products) what inhabited (inl given) =
      (product, inl refl, inhabited.0.0, inhabited.0.1, inl given.1)
  gather_gives question by p q (product ∷ products) what inhabited (inr (inl given)) =
      (product, inl refl, inhabited.0.0, inhabited.0.1, inr (inl given))
  gather_gives question by p q (product ∷ products) what inhabited (inr (inr (inl given))) =
      (product, inl refl, inhabited.0.0, inhabited.0.1, inr (inr given))
  gather_gives question by p q (product ∷ products) what inhabited (inr (inr (inr later))) =
      let found = gather_gives question by p q products what inhabited.1 later in
      (found.0, inr found.1, found.2, found.3, found.4)

  -- of XML things
  abbrev pub OfTriple : (p q r : ℕ) → List Triple → Thing → Type 0
  OfTriple p q r triples what = (triple : Triple) × AnyOf (λ other. other ≡ triple) triples
      × (Has triple.0 × Has triple.1 × Has triple.2)
      × (CapturedAt (at p triple.0) what ⊎ CapturedAt (at q triple.1) what
      ⊎ CapturedAt (at r triple.2) what)

  pub triple_gives : (question : Question) (p q r : ℕ) (triples : List Triple) (what : Thing)
      → AllOf (λ triple. Has triple.0 × Has triple.1 × Has triple.2) triples
      → AnyOf (Gives question what) (triple_steps p q r triples) → OfTriple p q r triples what
  triple_gives question p q r [] what inhabited one = absurd one
  triple_gives question p q r (triple ∷ triples) what inhabited (inl given) =
      (triple, inl refl, inhabited.0, inl given.1)
  triple_gives question p q r (triple ∷ triples) what inhabited (inr (inl given)) =
      (triple, inl refl, inhabited.0, inr (inl given.1))
  triple_gives question p q r (triple ∷ triples) what inhabited (inr (inr (inl given))) =
      (triple, inl refl, inhabited.0, inr (inr given.1))
  triple_gives question p q r (triple ∷ triples) what inhabited (inr (inr (inr later))) =
      let found = triple_gives question p q r triples what inhabited.1 later in
      (found.0, inr found.1, found.2, found.3)

  -- of records: a field, what the variable captures there, and a record of the question with that
  abbrev pub OfField : Question → List (Name × KernelField NodeId) → Thing → Type 0
  OfField question named what = (label : Name) × (number : ℕ) × (d : Thing) × (c : Captures ℕ)
      × AnyOf (λ field. field ≡ (label, Present number)) named
      × (taken NodeId test nodes d number ≡ Some c) × (c variable ≡ Some what)
      × IsPicked answers Sort question label d

  cell_gives : (question : Question) (named : List (Name × KernelField NodeId))
      (row : List Question) (what : Thing) → Picks answers Sort question named row
      → AnyOf (Gives question what) (cell_steps named row) → OfField question named what
  cell_gives question [] row what picks one = absurd one
  cell_gives question ((label, Present number) ∷ named) [] what picks one = absurd one
  cell_gives question ((label, Present number) ∷ named) (cell ∷ row) what picks (inl given) = (
    label,
    number,
    given.1.0,
    given.1.1,
    inl refl,
    given.1.4,
    given.1.5,
    picks.0 given.1.0 given.1.2 given.1.3,
  )
  cell_gives question ((label, Present number) ∷ named) (cell ∷ row) what picks (inr later) =
      let found = cell_gives question named row what picks.1 later in
      (found.0, found.1, found.2, found.3, inr found.4, found.5, found.6, found.7)
  cell_gives question ((label, Optional type) ∷ named) row what picks one =
      let found = cell_gives question named row what picks one in
      (found.0, found.1, found.2, found.3, inr found.4, found.5, found.6, found.7)

  pub row_gives : (question : Question) (named : List (Name × KernelField NodeId))
      (rows : List (List Question)) (what : Thing) → AllOf (Picks answers Sort question named) rows
      → AnyOf (Gives question what) (row_steps named rows) → OfField question named what
  row_gives question named [] what picks one = absurd one
  row_gives question named (row ∷ rows) what picks one =
      elim (one_on_a_side (Gives question what) (cell_steps named row) (row_steps named rows) one) [
        | inl here ↦ cell_gives question named row what picks.0 here
        | inr later ↦ row_gives question named rows what picks.1 later
      ]
