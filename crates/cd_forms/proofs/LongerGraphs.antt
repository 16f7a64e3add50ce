-- What nodes hold in a longer graph: old ones what they held, and new ones what their formulas say.
use Rattle.std.proofs.Common.{◌≡◌, ◌<◌, ◌++◌, ◌↔◌, true, List, [], ◌∷◌}
use Rattle.std.proofs.Common.{length, map, refl, ap, sym, subst, ◌∙◌, arith}
use Rattle.cd_sets.specs.declared.node_id.NodeId.{NodeId}
use Rattle.cd_model.specs.AllOf.{AllOf}
use Rattle.cd_model.specs.BuiltIns.{node}
use Rattle.cd_model.specs.Formula.{Graph, Formula, IsFormula, IsGraph, formula_at}
use Rattle.cd_model.specs.Membership.{holds, reader, answers}
use Rattle.cd_model.specs.Thing.{Thing}
use Rattle.cd_model.proofs.Extending.{kept_elements, kept_formulas}
use Rattle.cd_model.proofs.FormulasAmongMore.{formula_after}
use Rattle.cd_typing.specs.Typ.{typ, AreIn}

module _ (graph batch : Graph) (sound : IsGraph graph) where
  -- elements of old types are elements of the same types
  pub still_in : (ids : List NodeId) → AllOf (λ id. id.0 < length graph) ids → (ds : List Thing)
      → AreIn (map (typ graph) ids) ds → AreIn (map (typ (graph ++ batch)) ids) ds
  still_in [] below [] are = tt
  still_in [] below (d ∷ ds) are = are
  still_in (id ∷ ids) below [] are = are
  still_in (id ∷ ids) below (d ∷ ds) are = (
    are.0,
    (kept_elements graph batch sound d id true below.0).0 are.1,
    still_in ids below.1 ds are.2,
  )

  pub were_in : (ids : List NodeId) → AllOf (λ id. id.0 < length graph) ids → (ds : List Thing)
      → AreIn (map (typ (graph ++ batch)) ids) ds → AreIn (map (typ graph) ids) ds
  were_in [] below [] are = tt
  were_in [] below (d ∷ ds) are = are
  were_in (id ∷ ids) below [] are = are
  were_in (id ∷ ids) below (d ∷ ds) are = (
    are.0,
    (kept_elements graph batch sound d id true below.0).1 are.1,
    were_in ids below.1 ds are.2,
  )

-- a new node whose formula is over old nodes holds what this held
pub new_node_holds : (graph : Graph) → IsGraph graph → (f : Formula) → IsFormula (length graph) f
    → (e : Thing) → holds (reader graph e) f true
    ↔ answers (graph ++ f ∷ []) e (node (length graph)) true
new_node_holds graph sound f is e =
    let last : formula_at (graph ++ f ∷ []) (node (length graph)) ≡ f =
    ap (λ n. formula_at (graph ++ f ∷ []) (node n)) (omega arith)
    ∙ formula_after graph (f ∷ []) 0 f refl in
    subst (λ (g : Formula). holds (reader graph e) f true
    ↔ holds (reader (graph ++ f ∷ []) e) g true) (sym last)
    (kept_formulas graph (f ∷ []) sound e f true is)
