-- A graph with one formula more, which is over its nodes.
use Rattle.std.proofs.Common.{◌≡◌, ◌+◌, ◌++◌, ◌↔◌, true, List, [], ◌∷◌, length, ap, refl}
use Rattle.std.proofs.Common.{sym, subst, ◌∙◌, arith, Result, Ok, Err, OnOk}
use Rattle.std.specs.Result.{IfOk}
use Rattle.std.specs.declared.alloc.AllocError.{AllocError}
use Rattle.cd_sets.specs.declared.node_id.NodeId.{NodeId}
use Rattle.cd_model.specs.AllOf.{AllOf}
use Rattle.cd_model.specs.BuiltIns.{node}
use Rattle.cd_model.specs.Formula.{Graph, Formula, IsFormula, formula_at}
use Rattle.cd_model.specs.Formula.{IsGraph}
use Rattle.cd_model.specs.Membership.{holds, reader, answers}
use Rattle.cd_model.specs.Thing.{Thing}
use Rattle.cd_model.proofs.Extending.{kept_formulas}
use Rattle.cd_model.proofs.FormulasAmongMore.{formula_among_more}

last_formula : (graph : Graph) (f : Formula)
    → formula_at (graph ++ f ∷ []) (node (length graph)) ≡ f
last_formula [] f = refl
last_formula (one ∷ graph) f = last_formula graph f

-- as code finds it
module _ (graph : Graph) (f : Formula) (is : IsFormula (length graph) f) (batch : List Formula)
    (alone : batch ≡ f ∷ []) where
  pub one_is_sound : AllOf (IsFormula (length graph + length batch)) batch
  one_is_sound = subst (λ (all : List Formula). AllOf (IsFormula (length graph + length all)) all)
      (sym alone) (formula_among_more (length graph) (length graph + 1) (omega arith) f is, tt)

  one_holds : IsGraph graph → (longer : Graph) → longer ≡ graph ++ batch → (id : NodeId)
      → id.0 ≡ length graph → (e : Thing)
      → holds (reader graph e) f true ↔ answers longer e id true
  one_holds sound longer added id number e =
      subst (λ (i : NodeId). holds (reader graph e) f true ↔ answers longer e i true)
      (ap node (sym number))
      (subst (λ (g : Graph). holds (reader graph e) f true ↔ answers g e (node (length graph)) true)
      (ap (λ all. graph ++ all) (sym alone) ∙ sym added)
      (subst (λ (g : Formula). holds (reader graph e) f true
      ↔ holds (reader (graph ++ f ∷ []) e) g true) (sym (last_formula graph f))
      (kept_formulas graph (f ∷ []) sound e f true is)))

  -- where the call that puts it in has ended well
  pub one_holds_if : IsGraph graph → (longer : Graph) (result : Result NodeId AllocError)
      → IfOk result (λ id. id.0 ≡ length graph) → OnOk result (longer ≡ graph ++ batch)
      → IfOk result (λ id. (e : Thing) → holds (reader graph e) f true ↔ answers longer e id true)
  one_holds_if sound longer (Ok id) number added = λ e. one_holds sound longer added id number e
  one_holds_if sound longer (Err error) number added = tt
