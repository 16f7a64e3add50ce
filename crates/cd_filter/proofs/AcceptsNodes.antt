-- The formula of each node holds a thing exactly when the node takes it, where this is so of the
-- nodes that take the thing apart.
use Rattle.std.proofs.Common.{◌≡◌, ℕ, ◌<◌, Bool, true, false, ◌||◌, List, [], ◌∷◌, ◌++◌, inl, inr}
use Rattle.std.proofs.Common.{length, Option, Some, None, is_some, refl, sym, subst, ◌∙◌, ap}
use Rattle.std.specs.List.{slice_get, list_any}
use Rattle.std.proofs.lemmas.Option.{slice_get_within}
use Rattle.cd_sets.specs.declared.node_id.NodeId.{NodeId}
use Rattle.cd_syntax.specs.Name.{Name}
use Rattle.cd_model.specs.AllOf.{AllOf}
use Rattle.cd_model.specs.Formula as formula
use Rattle.cd_model.specs.Formula.{Graph, Formula, formulas_of, formula_at, at_formula, holds}
use Rattle.cd_model.specs.Thing.{Thing}
use Rattle.cd_model.specs.Types.{Reader, Products, Xmls, Records}
use Rattle.cd_model.proofs.ByNumber.{all_got}
use Rattle.cd_matching.specs.Captures.{Captures, or_else}
use Rattle.cd_matching.specs.Kernel.{Kernel, KernelNode, KernelField, Test, Bind, Put, Pair, Xml}
use Rattle.cd_matching.specs.Kernel.{Record, Both, First, Gather, Apart, Taken, leads_to, parts_of}
use Rattle.cd_matching.specs.Kernel.{by_node, IsSoundNode, IsSound}
use Rattle.cd_filter.specs.Accepting.{place, fields_of, rest_of, AgreesAtFirst, IsOwn, own_formula}
use Rattle.cd_filter.specs.Accepting.{Accepts, by_itself, by_both, by_members, by_simpler}
use Rattle.cd_filter.specs.Accepting.{AllAccept, no_more, one_more}
use Rattle.cd_filter.proofs.Combined.{is_some_so, both_answer}
use Rattle.cd_filter.proofs.Simpler.{alike}

module _ (graph : Graph) (kernel : Kernel NodeId) (first : ℕ) (test : NodeId → Thing → Bool)
    (is : IsSound (λ id. id.0 < first) kernel) where
  abbrev IsInRange : KernelNode NodeId → Type 0
  IsInRange node = AllOf (λ number. number < length kernel.nodes) (leads_to node ++ parts_of node)

  abbrev pub IsFit : KernelNode NodeId → Type 0
  IsFit = IsSoundNode kernel.nodes (length kernel.variables) (λ id. id.0 < first)

  -- What is read of a thing at heads, and what is answered at nodes that take it apart
  pub record ReadsApart (read : Reader NodeId) (apart : Apart NodeId) : Type 0 where
    pub pairs : (p q : ℕ) → p < length kernel.nodes → q < length kernel.nodes
        → read (Products (place first p) (place first q)) (is_some (apart (Pair p q)))
    pub gathers : (by p q : ℕ) → p < length kernel.nodes → q < length kernel.nodes
        → read (Products (place first p) (place first q)) (is_some (apart (Gather by p q)))
    pub xmls : (p q r : ℕ) → p < length kernel.nodes → q < length kernel.nodes
        → r < length kernel.nodes → read (Xmls (place first p) (place first q) (place first r))
        (is_some (apart (Xml p q r)))
    pub records : (named : List (Name × KernelField NodeId)) (more : Bool)
        → IsInRange (Record named more) → IsFit (Record named more)
        → read (Records (fields_of first named) (rest_of more))
        (is_some (apart (Record named more)))

  -- where each node takes by its rule
  module _ (read : Reader NodeId) (d : Thing) (takes : Taken) (apart : Apart NodeId)
      (rule : (number : ℕ) → number < length kernel.nodes
      → takes number
      ≡ by_node NodeId test kernel.nodes d apart takes (slice_get kernel.nodes number))
      (right : (id : NodeId) → id.0 < first
      → holds (at_formula read) (formula_at graph id) (test id d))
      (reads : ReadsApart read apart) where
    abbrev Holds : Formula → Bool → Type 0
    Holds = holds (at_formula read)

    by_rule : (number : ℕ) (node : KernelNode NodeId) → slice_get kernel.nodes number ≡ Some node
        → takes number ≡ by_node NodeId test kernel.nodes d apart takes (Some node)
    by_rule number node there = rule number (slice_get_within kernel.nodes number node there)
        ∙ ap (by_node NodeId test kernel.nodes d apart takes) there

    at_node : (node : KernelNode NodeId) → IsInRange node → IsFit node → IsOwn node
        → Holds (own_formula graph first node)
        (is_some (by_node NodeId test kernel.nodes d apart takes (Some node)))
    at_node (Test id) within fits own =
        subst (Holds (formula_at graph id)) (sym (is_some_so ℕ (test id d))) (right id fits)
    at_node (Bind variable) within fits own = refl
    at_node (Put variable constant) within fits own = refl
    at_node (Pair p q) within fits own = reads.pairs p q within.0 within.1.0
    at_node (Gather by p q) within fits own = reads.gathers by p q within.0 within.1.0
    at_node (Xml p q r) within fits own = reads.xmls p q r within.0 within.1.0 within.1.1.0
    at_node (Record named more) within fits own = reads.records named more within fits
    at_node (Both p q) within fits own = absurd own
    at_node (First p q) within fits own = absurd own

    some_or : (one other : Option (Captures ℕ))
        → is_some (or_else one other) ≡ (is_some one || is_some other)
    some_or (Some captures) other = refl
    some_or None other = refl

    agrees : AgreesAtFirst kernel.nodes (λ number. is_some (takes number))
    agrees number p q there =
        ap is_some (by_rule number (First p q) there) ∙ some_or (takes p) (takes q)

    in_or : (f : Formula) (formulas : List Formula) (one others : Bool) → Holds f one
        → Holds (formula.Or (formulas_of formulas)) others
        → Holds (formula.Or (formulas_of (f ∷ formulas))) (one || others)
    in_or f formulas true others here rest = inl here
    in_or f formulas false true here rest = inr rest
    in_or f formulas false false here rest = (here, rest)

    mutual
      pub accepts_in : (number : ℕ) (f : Formula) → Accepts graph kernel.nodes first number f
          → Holds f (is_some (takes number))
      accepts_in _ _ (by_itself number node there own) = subst
          (λ (o : Option (Captures ℕ)). Holds (own_formula graph first node) (is_some o))
          (sym (by_rule number node there))
          (at_node node (all_got IsInRange kernel.nodes number node is.parts there)
          (all_got IsFit kernel.nodes number node is.nodes there) own)
      accepts_in _ _ (by_both number p q f g there accepts_p accepts_q) = subst
          (λ (o : Option (Captures ℕ)).
          Holds (formula.And (formulas_of (f ∷ g ∷ []))) (is_some o))
          (sym (by_rule number (Both p q) there))
          (both_answer (Holds f) (Holds g) (Holds (formula.And (formulas_of (f ∷ g ∷ []))))
          (takes p) (takes q) (accepts_in p f accepts_p) (accepts_in q g accepts_q)
          (λ a b. (a, (b, tt))) (λ out. elim out [ inl a ↦ inl a | inr b ↦ inr (inl b) ]))
      accepts_in _ _ (by_members number members formulas are all) =
          subst (Holds (formula.Or (formulas_of formulas)))
          (sym (are (λ other. is_some (takes other)) agrees)) (all_accept_in members formulas all)
      accepts_in _ _ (by_simpler number f g accepts_f simpler) =
          alike read f g simpler (is_some (takes number)) (accepts_in number f accepts_f)

      all_accept_in : (members : List ℕ) (formulas : List Formula)
          → AllAccept graph kernel.nodes first members formulas
          → Holds (formula.Or (formulas_of formulas))
          (list_any (λ other. is_some (takes other)) members)
      all_accept_in _ _ no_more = tt
      all_accept_in _ _ (one_more number f members formulas one rest) =
          in_or f formulas (is_some (takes number))
          (list_any (λ other. is_some (takes other)) members) (accepts_in number f one)
          (all_accept_in members formulas rest)
