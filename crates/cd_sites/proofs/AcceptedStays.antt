-- Nodes that accept a kernel in a graph do so in each longer graph.
use Rattle.std.proofs.Common.{◌≡◌, ◌<◌, ◌+◌, ◌++◌, ℕ, List, length}
use Rattle.std.proofs.Common.{length-append, refl, sym, subst, arith}
use Rattle.cd_sets.specs.declared.node_id.NodeId.{NodeId}
use Rattle.cd_model.specs.BuiltIns.{built_ins, node}
use Rattle.cd_model.specs.Formula.{Graph, Formula, formula_at}
use Rattle.cd_matching.specs.Kernel.{Kernel, KernelNode, Test, Bind, Put, Pair, Xml, Record, Both}
use Rattle.cd_matching.specs.Kernel.{First, Gather, IsSoundNode}
use Rattle.cd_filter.specs.Accepting.{place, own_formula, Accepts, by_itself, by_both, by_members}
use Rattle.cd_filter.specs.Accepting.{by_simpler, AllAccept, no_more, one_more, IsAcceptedFrom}
use Rattle.cd_model.proofs.FormulasAmongMore.{formula_kept}
use Rattle.cd_model.proofs.ByNumber.{all_got}

module _ (graph more : Graph) (kernel : Kernel NodeId) (first : ℕ)
    (is : IsAcceptedFrom graph kernel first) where
  abbrev longer : Graph
  longer = graph ++ more

  abbrev IsFit : KernelNode NodeId → Type 0
  IsFit = IsSoundNode kernel.nodes (length kernel.variables) (λ id. id.0 < first)

  same_own : (node : KernelNode NodeId) → IsFit node
      → own_formula graph first node ≡ own_formula longer first node
  same_own (Test id) fits = formula_kept graph more id.0 (omega (arith, fits, is.within))
  same_own (Bind variable) fits = refl
  same_own (Put variable constant) fits = refl
  same_own (Pair p q) fits = refl
  same_own (Gather by p q) fits = refl
  same_own (Xml p q r) fits = refl
  same_own (Record named rest) fits = refl
  same_own (Both p q) fits = refl
  same_own (First p q) fits = refl

  mutual
    accepts_later : (number : ℕ) (f : Formula) → Accepts graph kernel.nodes first number f
        → Accepts longer kernel.nodes first number f
    accepts_later _ _ (by_itself number node there own) =
        subst (Accepts longer kernel.nodes first number)
        (sym (same_own node (all_got IsFit kernel.nodes number node is.sound.nodes there)))
        (by_itself number node there own)
    accepts_later _ _ (by_both number p q f g there accepts_p accepts_q) =
        by_both number p q f g there (accepts_later p f accepts_p) (accepts_later q g accepts_q)
    accepts_later _ _ (by_members number members formulas are all) =
        by_members number members formulas are (all_later members formulas all)
    accepts_later _ _ (by_simpler number f g accepts_f simpler) =
        by_simpler number f g (accepts_later number f accepts_f) simpler

    all_later : (members : List ℕ) (formulas : List Formula)
        → AllAccept graph kernel.nodes first members formulas
        → AllAccept longer kernel.nodes first members formulas
    all_later _ _ no_more = no_more
    all_later _ _ (one_more number f members formulas one rest) =
        one_more number f members formulas (accepts_later number f one)
        (all_later members formulas rest)

  pub accepted_stays : (others : Graph) → graph ≡ built_ins ++ others
      → IsAcceptedFrom longer kernel first
  accepted_stays others begins = record {
    sound = is.sound;
    within = omega (arith, is.within, length-append graph more);
    everything = rw begins refl;
    nothing = rw begins refl;
    formulas = λ number below. subst (Accepts longer kernel.nodes first number)
        (formula_kept graph more (first + number) (omega (arith, below, is.within)))
        (accepts_later number (formula_at graph (place first number)) (is.formulas number below));
  }
