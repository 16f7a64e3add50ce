-- What a kernel takes, with the parts that are made of what it captures.
use Rattle.std.proofs.Common.{◌≡◌, ◌<◌, ℕ, Bool, true, false, List, Some, None, length, refl, sym, ap, subst, ◌∙◌}
use Rattle.cd_sets.specs.declared.node_id.NodeId.{NodeId}
use Rattle.cd_syntax.specs.Name.{Name}
use Rattle.cd_model.specs.AllOf.{AllOf}
use Rattle.cd_model.specs.Formula.{Graph}
use Rattle.cd_model.specs.Thing.{Thing}
use Rattle.cd_matching.specs.Kernel.{Kernel}
use Rattle.cd_cells.specs.Cells.{fields_of, IsPart}
use Rattle.cd_cells.specs.Table.{table, names, Grows}
use Rattle.cd_cells.specs.declared.cell.Part.{Part}
use Rattle.cd_cells.specs.declared.values.Values.{Values}
use Rattle.cd_asking.specs.Mappings.{Mappings}
use Rattle.cd_taking.specs.Taken as taking
use Rattle.cd_taking.specs.Taken.{TakenAs, captured}
use Rattle.cd_taking.specs.declared.capture.Capture.{Capture}
use Rattle.cd_evaluation.specs.Environment.{Env}
use Rattle.cd_code.specs.Compiled.{env_of, ArePartsOf}
use Rattle.cd_code.specs.Inner.Bindings.{all_named, HaveLabels}
use Rattle.cd_code.specs.Inner.Numbered.{env_by}
use Rattle.cd_code.specs.Inner.Taking.{TakesWith}
use Rattle.cd_code.specs.declared.binding.Binding.{Binding}
use Rattle.cd_code.proofs.BindingsStay.{named_in_grown, labels_in_grown}

-- each part is in the table
abbrev pub AreWithin : (bound : ℕ) → List Capture → Type 0
AreWithin bound captures = AllOf (λ capture. capture.value.0 < bound) captures

module _ (graph : Graph) (maps : Mappings) (kernel : Kernel NodeId) (v : Thing) (old new : Values) (grown : Grows old new)
    (bindings slice : List Binding) (same : slice ≡ bindings) (labels : HaveLabels (names old) bindings)
    (captures seen : List Capture) (same_captures : seen ≡ captures) (answer : Bool)
    (takes : TakenAs graph maps kernel v (taking.if_taken answer (captured (table new) captures))) where
  pub taken_with : answer ≡ true → (parts : List Part)
      → ((labels : List Name) (things : List Thing) → fields_of labels things parts ≡ env_by (all_named labels slice) (captured things seen))
      → TakesWith graph maps kernel v (all_named (names old) bindings) true (env_of new parts)
  taken_with is parts env = record {
    result = Some (captured (table new) captures);
    taken = subst (λ b. TakenAs graph maps kernel v (taking.if_taken b (captured (table new) captures))) is takes;
    same = ap Some (env (names new) (table new)
        ∙ ap (λ all. env_by (all_named (names new) all) (captured (table new) seen)) same
        ∙ ap (λ all. env_by (all_named (names new) bindings) (captured (table new) all)) same_captures
        ∙ ap (λ all. env_by all (captured (table new) captures)) (named_in_grown (names old) (names new) grown.labels bindings labels));
  }

  pub not_taken : answer ≡ false → (env : Env) → TakesWith graph maps kernel v (all_named (names old) bindings) false env
  not_taken is env = record {
    result = None;
    taken = subst (λ b. TakenAs graph maps kernel v (taking.if_taken b (captured (table new) captures))) is takes;
    same = refl;
  }

  pub are_parts : AreWithin (length (table new)) captures → (parts : List Part)
      → ((labels : List Name) (bound : ℕ) → HaveLabels labels slice → AreWithin bound seen → AllOf (IsPart labels bound) parts)
      → ArePartsOf new parts
  are_parts within parts each = each (names new) (length (table new))
      (subst (HaveLabels (names new)) (sym same) (labels_in_grown (names old) (names new) grown.labels bindings labels))
      (subst (AreWithin (length (table new))) (sym same_captures) within)
