-- Nodes that hold what is in one node and outside another.
use Rattle.std.proofs.Common.{◌≡◌, ◌<◌, ◌+◌, ◌↔◌, ℕ, zero, suc, true, false, [], ◌∷◌, ◌++◌}
use Rattle.std.proofs.Common.{Some, length, length-append, inl, inr, refl, sym, ap, subst, ◌∙◌}
use Rattle.std.proofs.Common.{arith}
use Rattle.cd_sets.specs.declared.node_id.NodeId.{NodeId}
use Rattle.cd_model.proofs.BothWays.{through, both_agree, itself, turned}
use Rattle.cd_model.proofs.DecidedAtNodes.{in_or_outside}
use Rattle.cd_model.proofs.Extending.{kept_formulas}
use Rattle.cd_model.specs.BuiltIns.{built_ins, node, EMPTY}
use Rattle.cd_model.specs.Formula.{Graph, Formula, IsFormula, IsGraph, IsWithin, formula_at}
use Rattle.cd_model.specs.Formula.{in_node}
use Rattle.cd_model.specs.Membership.{answers, asked, holds, reader}
use Rattle.cd_model.specs.Thing.{Thing, IsElement}
use Rattle.cd_rules.specs.Needs.{question}
use Rattle.cd_rules.proofs.Answered.{each_of_asked}
use Rattle.cd_rules.proofs.Asking.{asked_of_each}
use Rattle.cd_sites.specs.Inner.Differences.{IsDifference, IsLeftOver, IsRest}
use Rattle.cd_sites.specs.Inner.Members.{members_of}
use Rattle.cd_sites.proofs.MembersOfUnions.{held_by_members}
use Rattle.cd_sites.proofs.RightTests.{one_answer}
use Rattle.std.proofs.lemmas.Bool.{true≢false}

-- a new node has its formula of the batch
pub new_formula : (graph batch : Graph) (number at : ℕ) → at ≡ length graph + number
    → formula_at (graph ++ batch) (node at) ≡ formula_at batch (node number)
new_formula [] batch number at same =
    ap (λ (n : ℕ). formula_at batch (node n)) (omega (arith, same))
new_formula (is ∷ graph) batch number zero same = absurd (omega (arith, same))
new_formula (is ∷ graph) batch number (suc at) same =
    new_formula graph batch number at (omega (arith, same))

-- it holds what the formula holds in the graph before
module _ (graph : Graph) (sound : IsGraph graph) (f : Formula) (is : IsFormula (length graph) f)
    (new : Graph) (added : new ≡ graph ++ (f ∷ [])) (id : NodeId) (last : id.0 ≡ length graph)
  where
    formula_is : formula_at new id ≡ f
    formula_is = ap (λ (g : Graph). formula_at g id) added
        ∙ new_formula graph (f ∷ []) 0 id.0 (omega (arith, last))

    pub last_is_node : id.0 < length new
    last_is_node = subst (λ (g : Graph). id.0 < length g) (sym added)
        (omega (arith, last, length-append graph (f ∷ [])))

    pub last_holds : (e : Thing) → in_node new e id true ↔ holds (reader graph e) f true
    last_holds e = through
        (subst (λ (g : Formula). in_node new e id true ↔ holds (reader new e) g true) formula_is
        itself)
        (subst (λ (g : Graph). holds (reader g e) f true ↔ holds (reader graph e) f true)
        (sym added) (turned (kept_formulas graph (f ∷ []) sound e f true is)))

module _ (old : Graph) (one other : NodeId) where
  -- nothing is in both
  pub untouched : one.0 < length old
      → ((e : Thing) → IsElement e
      → asked (answers old e) (question (one ∷ other ∷ []) []) true → ⊥)
      → (new : Graph) → new ≡ old → IsDifference old one other new one
  untouched below disjoint new same =
      subst (λ (g : Graph). IsDifference old one other g one) (sym same) (record {
        is_node = below;
        elements = λ e element. (
          λ here. (
            here,
            elim (in_or_outside old e other) [
              | inl there ↦ absurd (disjoint e element
                  (asked_of_each (answers old e) (one ∷ other ∷ []) [] (here, (there, tt)) tt))
              | inr out ↦ out
            ],
          ),
          λ both. both.0,
        );
      })

  -- all of the one is in the other
  pub nothing_left : (more : Graph) × (old ≡ built_ins ++ more) → IsWithin old one other
      → (new : Graph) → new ≡ old → IsDifference old one other new EMPTY
  nothing_left begins within new same =
      subst (λ (g : Graph). IsDifference old one other g EMPTY) (sym same) (record {
        is_node = subst (λ (g : Graph). 0 < length g) (sym begins.1)
            (omega (arith, length-append built_ins begins.0));
        elements = λ e element. (
          λ here. absurd (true≢false (one_answer old e EMPTY true false here
              (subst (λ (g : Graph). in_node g e EMPTY false) (sym begins.1) refl))),
          λ both. absurd (true≢false (one_answer old e other true false
              (within e element both.0) both.1)),
        );
      })

  -- a question of both
  pub both_asked : (e : Thing) → asked (answers old e) (question (one ∷ []) (other ∷ [])) true
      ↔ (in_node old e one true × in_node old e other false)
  both_asked e = (
    λ both. let each = each_of_asked (answers old e) (one ∷ []) (other ∷ []) both in
        (each.0.0, each.1.0),
    λ both. asked_of_each (answers old e) (one ∷ []) (other ∷ []) (both.0, tt) (both.1, tt),
  )

  -- a formula of what is left
  pub made : IsGraph old → (f : Formula) → IsRest old one other (Some f) → (new : Graph)
      → new ≡ old ++ (f ∷ []) → (id : NodeId) → id.0 ≡ length old
      → IsDifference old one other new id
  made sound f rest new added id last = record {
    is_node = last_is_node old sound f rest.0 new added id last;
    elements = λ e element.
        through (last_holds old sound f rest.0 new added id last e) (rest.1 e element);
  }

  -- of a union, by its members
  pub of_members : (new : Graph) (id : NodeId)
      → IsLeftOver old (members_of (formula_at old one)) other new id
      → IsDifference old one other new id
  of_members new id left = record {
    is_node = left.is_node;
    elements = λ e element. through (left.elements e element)
        (both_agree (turned (held_by_members (reader old e) (formula_at old one))) itself);
  }
