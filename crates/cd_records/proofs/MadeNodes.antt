-- The last formula of a batch holds in the longer graph what it was made for.
use Rattle.std.proofs.Common.{◌≡◌, ◌<◌, ◌+◌, ◌++◌, List, [], ◌∷◌, length, refl, sym, ap, subst, ◌∙◌}
use Rattle.std.proofs.Common.{append-nil, append_assoc, arith}
use Rattle.std.proofs.lemmas.List.{length-append}
use Rattle.cd_sets.specs.declared.node_id.NodeId.{NodeId}
use Rattle.cd_model.specs.AllOf.{AllOf}
use Rattle.cd_model.specs.Formula.{Graph, Formula, IsFormula}
use Rattle.cd_model.specs.Thing.{Fields, Record}
use Rattle.cd_model.proofs.BothWays.{through, turned}
use Rattle.cd_records.specs.Inner.Standing.{Adds, HoldsRecords, IsMadeFor, IsNodeFor, longer}
use Rattle.cd_records.proofs.NodesStand.{all_sound, last_node}

module _ (graph : Graph) (IsSo : Fields → Type 0) where
  -- as the code makes it
  pub made_for : (before batch : List Formula) (f : Formula) (id : NodeId)
      → Adds graph [] before → batch ≡ before ++ (f ∷ []) → HoldsRecords graph before IsSo f
      → id.0 ≡ length graph + length before → IsMadeFor graph IsSo batch id
  made_for before batch f id adds same holding number = record {
    before = before;
    last = f;
    same = same;
    sound = subst (AllOf (IsFormula (length graph))) (sym adds.1) adds.2;
    holding = holding;
    number = number;
  }

  module _ (batch : List Formula) (id : NodeId) (made : IsMadeFor graph IsSo batch id) where
    pub batch_sound : AllOf (IsFormula (length graph + length batch)) batch
    batch_sound = all_sound graph made.before made.last made.sound made.holding.sound batch
        made.same

    whole : (new : Graph) → new ≡ graph ++ batch
        → new ≡ longer graph made.before (made.last ∷ [])
    whole new added = added ∙ ap (λ (later : Graph). graph ++ later) made.same

    pub node_for : (new : Graph) → new ≡ graph ++ batch → IsNodeFor new IsSo id
    node_for new added = subst (λ (new : Graph). IsNodeFor new IsSo id)
        (sym (whole new added)) (record {
          node = omega (
            arith,
            made.number,
            length-append graph (made.before ++ (made.last ∷ [])),
            length-append made.before (made.last ∷ []),
          );
          exact = λ fields is. through (made.holding.exact (made.last ∷ []) fields is)
              (turned (last_node graph made.before made.last id made.number
              (Record fields)));
          records = λ d h. made.holding.records (made.last ∷ []) d
              ((last_node graph made.before made.last id made.number d).0 h);
        })
