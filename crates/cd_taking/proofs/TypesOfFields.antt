-- The types of the fields of a sound kernel are those of the graph.
use Rattle.std.proofs.Common.{◌≡◌, sym, subst, ℕ, zero, suc, Bool, List, [], ◌∷◌, Option, Some, None}
use Rattle.std.proofs.lemmas.Option.{none-some, same_Some}
use Rattle.std.specs.List.{slice_get}
use Rattle.cd_sets.specs.declared.node_id.NodeId.{NodeId}
use Rattle.cd_model.specs.AllOf.{AllOf}
use Rattle.cd_model.specs.Thing as thing
use Rattle.cd_model.specs.Thing.{Thing}
use Rattle.cd_model.proofs.ByNumber.{all_got}
use Rattle.cd_matching.specs.Kernel as kernel
use Rattle.cd_matching.specs.Kernel.{KernelField, Present, Optional, optional_types, IsSoundNode}
use Rattle.cd_matching.specs.Take.{at_label}
use Rattle.cd_taking.specs.Inner.Machine.{Node, Named, as_record, record_node, FieldWork, Ends, Lacks, Passes, Asks, Looks, field_work, next_field, work_at}

module _ (IsType : NodeId → Type 0) where
  -- the type of a field that is asked
  abbrev AsksType : FieldWork → Type 0
  AsksType (Asks type e) = IsType type
  AsksType Ends = Unit {0}
  AsksType Lacks = Unit {0}
  AsksType Passes = Unit {0}
  AsksType (Looks e number) = Unit {0}

  abbrev HasType : KernelField NodeId → Type 0
  HasType (Present node) = Unit {0}
  HasType (Optional type) = IsType type

  each_has : (named : Named) → AllOf IsType (optional_types named) → AllOf (λ field. HasType field.1) named
  each_has [] all = tt
  each_has ((label, Present node) ∷ named) all = (tt, each_has named all)
  each_has ((label, Optional type) ∷ named) all = (all.0, each_has named all.1)

  of_kind : (kind : KernelField NodeId) (o : Option Thing) → HasType kind → AsksType (field_work kind o)
  of_kind (Present node) None is = tt
  of_kind (Present node) (Some d) is = tt
  of_kind (Optional type) None is = tt
  of_kind (Optional type) (Some d) is = is

  of_field : (fields : thing.Fields) (named : Named) (index : ℕ) → AllOf (λ field. HasType field.1) named
      → AsksType (next_field fields (slice_get named index))
  of_field fields [] index all = tt
  of_field fields (field ∷ named) zero all = of_kind field.1 (at_label fields field.0) all.0
  of_field fields (field ∷ named) (suc index) all = of_field fields named index all.1

  of_work : (fields : Option thing.Fields) (node : Option (Named × Bool)) (index : ℕ)
      → ((parts : Named × Bool) → node ≡ Some parts → AllOf IsType (optional_types parts.0)) → AsksType (work_at fields node index)
  of_work (Some fields) (Some node) index all = of_field fields node.0 index (each_has node.0 (all node refl_it))
    where
      refl_it : Some node ≡ Some node
      refl_it = λ i. Some node
  of_work (Some fields) None index all = tt
  of_work None _ index all = tt

  sound_record : (all : List Node) (variables n : ℕ) → AllOf (IsSoundNode all variables IsType) all → (found : Option Node) → slice_get all n ≡ found
      → (parts : Named × Bool) → record_node found ≡ Some parts → AllOf IsType (optional_types parts.0)
  sound_record all variables n sound (Some (kernel.Record named more)) there parts is =
      subst (λ (parts : Named × Bool). AllOf IsType (optional_types parts.0)) (same_Some _ parts is)
      (all_got (IsSoundNode all variables IsType) all n (kernel.Record named more) sound there).2
  sound_record all variables n sound _ there parts is = absurd (none-some parts is)

  pub asked_type : (all : List Node) (variables n : ℕ) → AllOf (IsSoundNode all variables IsType) all → (d : Thing) (index : ℕ) (type : NodeId) (e : Thing)
      → Asks type e ≡ work_at (as_record d) (record_node (slice_get all n)) index → IsType type
  asked_type all variables n sound d index type e is = subst AsksType (sym is)
      (of_work (as_record d) (record_node (slice_get all n)) index (sound_record all variables n sound (slice_get all n) (λ i. slice_get all n)))
