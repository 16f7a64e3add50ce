-- A step that puts a constant is that of a Put of the kernel.
use Rattle.std.proofs.Common.{◌≡◌, ℕ, true, List, [], ◌∷◌, map, inl, inr, Option, Some, None, refl, sym, ap}
use Rattle.std.proofs.Common.{subst, ◌∙◌}
use Rattle.std.proofs.lemmas.Option.{slice_get-map}
use Rattle.std.specs.List.{slice_get}
use Rattle.std.specs.Option.{unwrap_or, option_map}
use Rattle.cd_sets.specs.declared.node_id.NodeId.{NodeId}
use Rattle.cd_sets.specs.declared.question.Question.{Question}
use Rattle.cd_syntax.specs.Name.{Name}
use Rattle.cd_syntax.specs.declared.constant.Constant.{Constant}
use Rattle.cd_model.specs.AllOf.{AllOf}
use Rattle.cd_model.specs.Formula.{Graph, in_node}
use Rattle.cd_model.specs.Thing.{Thing, IsElement}
use Rattle.cd_model.specs.Types.{Answers}
use Rattle.cd_matching.specs.Kernel.{Kernel, KernelNode, KernelField, Present, Optional, Test, Bind}
use Rattle.cd_matching.specs.Kernel.{Put, Pair, Xml, Record, Both, First, Gather, IsSoundNode}
use Rattle.cd_model.proofs.Ones.{one_on_a_side}
use Rattle.cd_model.proofs.ByNumber.{all_got}
use Rattle.cd_filter.specs.Capturing.{AreSteps, IsSettled}
use Rattle.cd_filter.specs.Table.{Place, Step, Takes, Puts, Leads, Table, IsAmong, HasStep}
use Rattle.cd_filter.specs.Table.{at, pair_steps, gather_steps, triple_steps, cell_steps, row_steps}
use Rattle.cd_filter.proofs.Steps.{entry_of}
use Rattle.cd_explored.specs.Explored.{IsSettledPlace}
use Rattle.cd_explored.specs.declared.step.Step.{Step as CodeStep}
use Rattle.cd_explored.specs.declared.step.Step.TheVariants as step
use Rattle.cd_explored.specs.Inner.Plan.{IsSoundStep, text_in, text_of}
use Rattle.cd_explored.specs.Inner.PlainSteps.{IsStep, AreEntries}
use Rattle.cd_explored.specs.Inner.PlainSteps as plain
use Rattle.cd_explored.specs.Inner.Reached.{Rows}

abbrev IsPut : Step → Type 0
IsPut (Puts variable constant) = Unit {0}
IsPut step = ⊥

abbrev put_of : Step → Option (KernelNode NodeId)
put_of (Puts variable constant) = Some (Put variable constant)
put_of step = None

-- none of the steps puts a constant
abbrev PutNone : List Step → Type 0
PutNone = AllOf (λ step. IsPut step → ⊥)

put_none : (variable : ℕ) (constant : Constant) (steps : List Step) → PutNone steps
    → IsAmong (Puts variable constant) steps → ⊥
put_none variable constant [] none among = among
put_none variable constant (step ∷ steps) none (inl same) = none.0 (subst IsPut (sym same) tt)
put_none variable constant (step ∷ steps) none (inr later) =
    put_none variable constant steps none.1 later

pairs_put_none : (p q : ℕ) (products : List (Question × Question))
    → PutNone (pair_steps p q products)
pairs_put_none p q [] = tt
pairs_put_none p q (product ∷ products) = (λ is. is, (λ is. is, pairs_put_none p q products))

gathers_put_none : (variable p q : ℕ) (products : List (Question × Question))
    → PutNone (gather_steps variable p q products)
gathers_put_none variable p q [] = tt
gathers_put_none variable p q (product ∷ products) =
    (λ is. is, (λ is. is, (λ is. is, gathers_put_none variable p q products)))

triples_put_none : (p q r : ℕ) (triples : List (Question × Question × Question))
    → PutNone (triple_steps p q r triples)
triples_put_none p q r [] = tt
triples_put_none p q r (triple ∷ triples) =
    (λ is. is, (λ is. is, (λ is. is, triples_put_none p q r triples)))

cells_put_none : (named : List (Name × KernelField NodeId)) (row : List Question)
    → PutNone (cell_steps named row)
cells_put_none [] row = tt
cells_put_none ((label, Present number) ∷ named) [] = tt
cells_put_none ((label, Present number) ∷ named) (cell ∷ row) = (λ is. is, cells_put_none named row)
cells_put_none ((label, Optional type) ∷ named) row = cells_put_none named row

rows_put_none : (named : List (Name × KernelField NodeId)) (rows : List (List Question))
    (variable : ℕ) (constant : Constant) → IsAmong (Puts variable constant) (row_steps named rows)
    → ⊥
rows_put_none named [] variable constant among = among
rows_put_none named (row ∷ rows) variable constant among =
    elim (one_on_a_side (λ other. other ≡ Puts variable constant) (cell_steps named row)
    (row_steps named rows) among) [
      | inl here ↦ put_none variable constant (cell_steps named row) (cells_put_none named row) here
      | inr later ↦ rows_put_none named rows variable constant later
    ]

module _ (answers : Thing → Answers NodeId) (Sort : Thing → Type 0) (accepts : ℕ → NodeId)
    (question : Question) (variable : ℕ) (constant : Constant) where
  abbrev Among : List Step → Type 0
  Among = IsAmong (Puts variable constant)

  the_one : (other : ℕ) (one : Constant) → Among (Puts other one ∷ [])
      → put_of (Puts other one) ≡ put_of (Puts variable constant)
  the_one other one (inl same) = ap put_of same
  the_one other one (inr later) = absurd later

  node_puts : (node : Option (KernelNode NodeId)) (steps : List Step)
      → AreSteps answers Sort true accepts question node steps → Among steps
      → node ≡ Some (Put variable constant)
  node_puts None steps are among = absurd are
  node_puts (Some (Test type)) steps are among = absurd (subst Among are among)
  node_puts (Some (Bind other)) steps are among =
      absurd (put_none variable constant (Takes other ∷ []) (λ is. is, tt) (subst Among are among))
  node_puts (Some (Put other one)) steps are among = the_one other one (subst Among are among)
  node_puts (Some (Pair p q)) steps (products, of, are) among =
      absurd (put_none variable constant (pair_steps p q products) (pairs_put_none p q products) (subst Among are among))
  node_puts (Some (Xml p q r)) steps (triples, of, are) among =
      absurd (put_none variable constant (triple_steps p q r triples) (triples_put_none p q r triples) (subst Among are among))
  node_puts (Some (Record named more)) steps (rows, of, are) among =
      absurd (rows_put_none named rows variable constant (subst Among are among))
  node_puts (Some (Both p q)) steps are among = absurd (put_none variable constant
      (Leads None (at p question) ∷ Leads None (at q question) ∷ []) (λ is. is, (λ is. is, tt))
      (subst Among are among))
  node_puts (Some (First p q)) steps (one, other, in_one, in_other, are) among =
      absurd (put_none variable constant
      (Leads None (at p one) ∷ Leads None (at q other) ∷ []) (λ is. is, (λ is. is, tt))
      (subst Among are among))
  node_puts (Some (Gather other p q)) steps (products, of, are) among =
      absurd (put_none variable constant (gather_steps other p q products) (gathers_put_none other p q products)
      (subst Among are among))

module _ (graph : Graph) (kernel : Kernel NodeId) (accepts : ℕ → NodeId) where
  settled_puts : (place : Place) (steps : List Step) → IsSettledPlace graph kernel accepts (place, steps)
      → (variable : ℕ) (constant : Constant) → IsAmong (Puts variable constant) steps
      → slice_get kernel.nodes place.number ≡ Some (Put variable constant)
  settled_puts place steps settled variable constant among = by_case settled.elements
    where
      by_case : IsSettled (in_node graph) IsElement kernel.nodes true accepts (place, steps)
          → slice_get kernel.nodes place.number ≡ Some (Put variable constant)
      by_case (inl are) = node_puts (in_node graph) IsElement accepts place.question variable constant
          (slice_get kernel.nodes place.number) steps are among
      by_case (inr none) = absurd (subst (IsAmong (Puts variable constant)) none.1 among)

  module _ (table : Table) (settled : AllOf (IsSettledPlace graph kernel accepts) table) where
    pub node_of_put : (place : Place) (variable : ℕ) (constant : Constant)
        → HasStep table place (Puts variable constant)
        → slice_get kernel.nodes place.number ≡ Some (Put variable constant)
    node_of_put place variable constant has =
        let entry = entry_of (IsSettledPlace graph kernel accepts) table settled place
        (Puts variable constant) has in
        settled_puts place entry.0 entry.1 variable constant entry.2

    -- the text of the constant is that of the node
    pub text_of_put : (place : Place) (variable : ℕ) (constant : Constant)
        → HasStep table place (Puts variable constant)
        → unwrap_or (slice_get (map text_in kernel.nodes) place.number) [] ≡ text_of constant
    text_of_put place variable constant has =
        ap (λ found. unwrap_or found []) (slice_get-map text_in kernel.nodes place.number
        ∙ ap (option_map text_in) (node_of_put place variable constant has))

  -- constants are elements
  module _ (variables : ℕ) (IsType : NodeId → Type 0)
      (sound : AllOf (IsSoundNode kernel.nodes variables IsType) kernel.nodes) (places : List Place) where
    code_is_sound : (place : Place) (steps : List Step)
        → IsSettledPlace graph kernel accepts (place, steps) → (code : CodeStep) (is : Step)
        → IsAmong is steps → IsStep places code is → IsSoundStep code
    code_is_sound place steps settled (step.Takes variable) is among made = tt
    code_is_sound place steps settled (step.Puts variable constant) is among made =
        (all_got (IsSoundNode kernel.nodes variables IsType) kernel.nodes place.number
        (Put variable constant.now) sound
        (settled_puts place steps settled variable constant.now
        (subst (λ (one : Step). IsAmong one steps) made among))).1
    code_is_sound place steps settled (step.Leads but next) is among made = tt
    code_is_sound place steps settled (step.Gathers variable item next) is among made = tt

    row_is_sound : (place : Place) (all : List Step) → IsSettledPlace graph kernel accepts (place, all)
        → (row : List CodeStep) (steps : List Step) → ((is : Step) → IsAmong is steps → IsAmong is all)
        → plain.AreSteps places row steps → AllOf IsSoundStep row
    row_is_sound place all settled [] steps among are = tt
    row_is_sound place all settled (code ∷ row) [] among are = absurd are
    row_is_sound place all settled (code ∷ row) (is ∷ steps) among are = (
      code_is_sound place all settled code is (among is (inl refl)) are.0,
      row_is_sound place all settled row steps (λ other later. among other (inr later)) are.1,
    )

    pub rows_are_sound : (rows : Rows) (table : Table)
        → AllOf (IsSettledPlace graph kernel accepts) table → AreEntries places rows table
        → AllOf (AllOf IsSoundStep) rows
    rows_are_sound [] table settled are = tt
    rows_are_sound (row ∷ rows) [] settled are = absurd are
    rows_are_sound (row ∷ rows) (entry ∷ table) settled are = (
      row_is_sound entry.0 entry.1 settled.0 row entry.1 (λ is among. among) are.0,
      rows_are_sound rows table settled.1 are.1,
    )
