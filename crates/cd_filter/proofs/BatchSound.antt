-- The formulas of a batch are formulas of the graph that they are put into, and there they are for
-- the nodes of the kernel.
use Rattle.std.proofs.Common.{◌≡◌, ◌<◌, ◌≤◌, ◌+◌, ◌++◌, ℕ, List, [], ◌∷◌, length, Option}
use Rattle.std.proofs.Common.{Some, None, refl, sym, subst, arith, true, false, Bool}
use Rattle.std.proofs.Common.{length-append}
use Rattle.std.specs.List.{slice_get}
use Rattle.cd_sets.specs.declared.node_id.NodeId.{NodeId}
use Rattle.cd_syntax.specs.Name.{Name}
use Rattle.cd_model.specs.AllOf.{AllOf}
use Rattle.cd_model.specs.BuiltIns.{built_ins}
use Rattle.cd_model.specs.Formula.{Graph, Formula, AreRisingLabels}
use Rattle.cd_model.specs.Formula.{formulas_of}
use Rattle.cd_model.specs.Formula.{formula_at, IsFormula, AreFormulas, IsGraph}
use Rattle.cd_matching.specs.Kernel.{Kernel, KernelNode, KernelField, Present, Optional, Test, Bind}
use Rattle.cd_matching.specs.Kernel.{Put, Pair, Xml, Record, Both, First, Gather}
use Rattle.cd_matching.specs.Kernel.{leads_to, parts_of, field_nodes, optional_types, IsSoundNode}
use Rattle.cd_matching.specs.Kernel.{IsSound}
use Rattle.cd_filter.specs.Accepting.{place, fields_of, rest_of, own_formula, Accepts}
use Rattle.cd_filter.specs.Accepting.{by_itself, by_both, by_members, by_simpler, AllAccept}
use Rattle.cd_filter.specs.Accepting.{no_more, one_more, IsAcceptedFrom}
use Rattle.cd_filter.specs.Inner.Forming.{HasTypes, IsBatch}
use Rattle.cd_filter.proofs.Forming.{has_types}
use Rattle.cd_filter.proofs.Simpler.{simpler_sound}
use Rattle.cd_model.proofs.ByNumber.{each_got, got_some, all_got}
use Rattle.cd_model.proofs.FormulasAmongMore.{formula_among_more, formula_after, formula_kept, sound_at}

-- labels that rise
pub fields_rise : (first : ℕ) (before : Option Name) (named : List (Name × KernelField NodeId))
    → AreRisingLabels before named → AreRisingLabels before (fields_of first named)
fields_rise first before [] rise = tt
fields_rise first before (field ∷ named) rise =
    (rise.0, rise.1, fields_rise first (Some field.0) named rise.2)

fields_below : (first count types : ℕ) → types ≤ first
    → (named : List (Name × KernelField NodeId))
    → AllOf (λ number. number < count) (field_nodes named)
    → AllOf (λ (id : NodeId). id.0 < types) (optional_types named)
    → AllOf (λ field. field.1.type.0 < first + count) (fields_of first named)
fields_below first count types least [] within typed = tt
fields_below first count types least ((label, Present number) ∷ named) within typed =
    (omega (arith, within.0), fields_below first count types least named within.1 typed)
fields_below first count types least ((label, Optional type) ∷ named) within typed =
    (omega (arith, typed.0), fields_below first count types least named within typed.1)

rest_below : (count : ℕ) → 14 ≤ count → (more : Bool) → (rest_of more).0 < count
rest_below count least true = omega (arith, least)
rest_below count least false = omega (arith, least)

module _ (graph : Graph) (kernel : Kernel NodeId)
    (is : IsSound (λ id. id.0 < length graph) kernel) where
  abbrev IsInRange : KernelNode NodeId → Type 0
  IsInRange node = AllOf (λ number. number < length kernel.nodes) (leads_to node ++ parts_of node)

  abbrev IsFit : KernelNode NodeId → Type 0
  IsFit = IsSoundNode kernel.nodes (length kernel.variables) (λ id. id.0 < length graph)

  abbrev all_nodes : ℕ
  all_nodes = length graph + length kernel.nodes

  module _ (sound : IsGraph graph) (least : 14 ≤ length graph) where
    own_sound : (node : KernelNode NodeId) → IsInRange node → IsFit node
        → IsFormula all_nodes (own_formula graph (length graph) node)
    own_sound (Test id) within fits = formula_among_more (length graph) all_nodes (omega arith)
        (formula_at graph id) (sound_at (length graph) graph id.0 sound fits)
    own_sound (Bind variable) within fits = tt
    own_sound (Put variable constant) within fits = tt
    own_sound (Pair p q) within fits = (omega (arith, within.0), omega (arith, within.1.0))
    own_sound (Gather by p q) within fits = (omega (arith, within.0), omega (arith, within.1.0))
    own_sound (Xml p q r) within fits =
        (omega (arith, within.0), omega (arith, within.1.0), omega (arith, within.1.1.0))
    own_sound (Record named more) within fits = (
      fields_rise (length graph) None named fits.0,
      fields_below (length graph) (length kernel.nodes) (length graph) (omega arith) named within
          fits.2,
      rest_below all_nodes (omega (arith, least)) more,
    )
    own_sound (Both p q) within fits = tt
    own_sound (First p q) within fits = tt

    mutual
      accepts_sound : (number : ℕ) (f : Formula)
          → Accepts graph kernel.nodes (length graph) number f → IsFormula all_nodes f
      accepts_sound _ _ (by_itself number node there own) =
          own_sound node (all_got IsInRange kernel.nodes number node is.parts there)
          (all_got IsFit kernel.nodes number node is.nodes there)
      accepts_sound _ _ (by_both number p q f g there accepts_p accepts_q) =
          (accepts_sound p f accepts_p, (accepts_sound q g accepts_q, tt))
      accepts_sound _ _ (by_members number members formulas are all) =
          all_sound members formulas all
      accepts_sound _ _ (by_simpler number f g accepts_f simpler) =
          simpler_sound all_nodes f g simpler (accepts_sound number f accepts_f)

      all_sound : (members : List ℕ) (formulas : List Formula)
          → AllAccept graph kernel.nodes (length graph) members formulas
          → AreFormulas all_nodes (formulas_of formulas)
      all_sound _ _ no_more = tt
      all_sound _ _ (one_more number f members formulas one rest) =
          (accepts_sound number f one, all_sound members formulas rest)

    pub batch_sound : (batch : List Formula) → IsBatch graph kernel.nodes (length graph) batch
        → AllOf (IsFormula (length graph + length batch)) batch
    batch_sound batch right = subst
        (λ (count : ℕ). AllOf (IsFormula (length graph + count)) batch) (sym right.count)
        (each_got (IsFormula all_nodes) batch
        (λ number f there. accepts_sound number f (right.accepts number f there)))

  -- in the longer graph
  module _ (batch : List Formula) where
    same_own : (node : KernelNode NodeId) → HasTypes (length graph) node
        → own_formula graph (length graph) node
        ≡ own_formula (graph ++ batch) (length graph) node
    same_own (Test id) fits = formula_kept graph batch id.0 fits
    same_own (Bind variable) fits = refl
    same_own (Put variable constant) fits = refl
    same_own (Pair p q) fits = refl
    same_own (Gather by p q) fits = refl
    same_own (Xml p q r) fits = refl
    same_own (Record named more) fits = refl
    same_own (Both p q) fits = refl
    same_own (First p q) fits = refl

    mutual
      accepts_later : (number : ℕ) (f : Formula)
          → Accepts graph kernel.nodes (length graph) number f
          → Accepts (graph ++ batch) kernel.nodes (length graph) number f
      accepts_later _ _ (by_itself number node there own) =
          subst (Accepts (graph ++ batch) kernel.nodes (length graph) number)
          (sym (same_own node (has_types (length graph) kernel is number node there)))
          (by_itself number node there own)
      accepts_later _ _ (by_both number p q f g there accepts_p accepts_q) =
          by_both number p q f g there (accepts_later p f accepts_p) (accepts_later q g accepts_q)
      accepts_later _ _ (by_members number members formulas are all) =
          by_members number members formulas are (all_later members formulas all)
      accepts_later _ _ (by_simpler number f g accepts_f simpler) =
          by_simpler number f g (accepts_later number f accepts_f) simpler

      all_later : (members : List ℕ) (formulas : List Formula)
          → AllAccept graph kernel.nodes (length graph) members formulas
          → AllAccept (graph ++ batch) kernel.nodes (length graph) members formulas
      all_later _ _ no_more = no_more
      all_later _ _ (one_more number f members formulas one rest) =
          one_more number f members formulas (accepts_later number f one)
          (all_later members formulas rest)

    pub accepted_from : (others : Graph) → graph ≡ built_ins ++ others
        → IsBatch graph kernel.nodes (length graph) batch
        → IsAcceptedFrom (graph ++ batch) kernel (length graph)
    accepted_from others begins right = record {
      sound = is;
      within = omega (arith, length-append graph batch, right.count);
      everything = rw begins refl;
      nothing = rw begins refl;
      formulas = λ number within. at_number number
          (got_some batch number (subst (λ (count : ℕ). number < count) (sym right.count) within));
    }
      where
        at_number : (number : ℕ) → (f : Formula) × (slice_get batch number ≡ Some f)
            → Accepts (graph ++ batch) kernel.nodes (length graph) number
            (formula_at (graph ++ batch) (place (length graph) number))
        at_number number (f, there) = subst
            (Accepts (graph ++ batch) kernel.nodes (length graph) number)
            (sym (formula_after graph batch number f there))
            (accepts_later number f (right.accepts number f there))
