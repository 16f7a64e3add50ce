-- A fact of each closure in a thing is one of each closure in its parts.
use Rattle.std.proofs.Common.{◌≡◌, ℕ, Bool, true, false, Option, Some, None, subst, bytes_eq, if◌then◌else◌}
use Rattle.std.proofs.lemmas.Option.{none-some, same_Some}
use Rattle.std.specs.List.{slice_get}
use Rattle.cd_sets.specs.declared.node_id.NodeId.{NodeId}
use Rattle.cd_syntax.specs.Name.{Name}
use Rattle.cd_model.specs.Thing as thing
use Rattle.cd_model.specs.Thing.{Thing, EachClosure, EachOfFields}
use Rattle.cd_matching.specs.Kernel.{KernelField, Present, Optional}
use Rattle.cd_matching.specs.Take.{at_label}
use Rattle.cd_taking.specs.Inner.Machine.{as_pair, as_xml, as_record, Named, FieldWork, Ends, Lacks, Passes, Asks, Looks, field_work, next_field, work_at}

module _ (fact : ℕ → Type 0) where
  abbrev Of : Thing → Type 0
  Of d = EachClosure fact d

  pub pair_closures : (d : Thing) (pair : Thing × Thing) → as_pair d ≡ Some pair → Of d → Of pair.0 × Of pair.1
  pair_closures (thing.Pair a b) pair is all = subst (λ (pair : Thing × Thing). Of pair.0 × Of pair.1) (same_Some _ pair is) all
  pair_closures _ pair is all = absurd (none-some pair is)

  pub xml_closures : (d : Thing) (xml : Thing × Thing × Thing) → as_xml d ≡ Some xml → Of d → Of xml.0 × Of xml.1 × Of xml.2
  xml_closures (thing.Xml a b c) xml is all = subst (λ (xml : Thing × Thing × Thing). Of xml.0 × Of xml.1 × Of xml.2) (same_Some _ xml is) all
  xml_closures _ xml is all = absurd (none-some xml is)

  -- what stands at a label
  abbrev IfThere : Option Thing → Type 0
  IfThere None = Unit {0}
  IfThere (Some d) = Of d

  either : (b : Bool) (d : Thing) (o : Option Thing) → Of d → IfThere o → IfThere (if b then Some d else o)
  either true d o one rest = one
  either false d o one rest = rest

  at_closures : (fields : thing.Fields) (label : Name) → EachOfFields fact fields → IfThere (at_label fields label)
  at_closures thing.NoField label all = tt
  at_closures (thing.Field name d rest) label all = either (bytes_eq name label) d (at_label rest label) all.0 (at_closures rest label all.1)

  -- the thing that a field asks or looks at
  abbrev HasWork : FieldWork → Type 0
  HasWork Ends = Unit {0}
  HasWork Lacks = Unit {0}
  HasWork Passes = Unit {0}
  HasWork (Asks type e) = Of e
  HasWork (Looks e number) = Of e

  of_kind : (kind : KernelField NodeId) (o : Option Thing) → IfThere o → HasWork (field_work kind o)
  of_kind (Present node) None one = tt
  of_kind (Present node) (Some d) one = one
  of_kind (Optional type) None one = tt
  of_kind (Optional type) (Some d) one = one

  of_next : (fields : thing.Fields) (found : Option (Name × KernelField NodeId)) → EachOfFields fact fields → HasWork (next_field fields found)
  of_next fields None all = tt
  of_next fields (Some field) all = of_kind field.1 (at_label fields field.0) (at_closures fields field.0 all)

  of_work : (d : Thing) (node : Option (Named × Bool)) (index : ℕ) → Of d → HasWork (work_at (as_record d) node index)
  of_work (thing.Record fields) (Some node) index all = of_next fields (slice_get node.0 index) all
  of_work (thing.Record fields) None index all = tt
  of_work _ _ index all = tt

  pub asked_closures : (d : Thing) (node : Option (Named × Bool)) (index : ℕ) (type : NodeId) (e : Thing)
      → work_at (as_record d) node index ≡ Asks type e → Of d → Of e
  asked_closures d node index type e is all = subst HasWork is (of_work d node index all)

  pub looked_closures : (d : Thing) (node : Option (Named × Bool)) (index : ℕ) (e : Thing) (number : ℕ)
      → work_at (as_record d) node index ≡ Looks e number → Of d → Of e
  looked_closures d node index e number is all = subst HasWork is (of_work d node index all)
