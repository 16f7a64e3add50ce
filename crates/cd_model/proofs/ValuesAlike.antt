-- Elements and values answer alike at types that stand for each other, where the interfaces of functions admit the same.
use Rattle.std.proofs.Common.{ℕ, true, false, ◌↔◌}
use Rattle.cd_model.specs.Alike.{Standing, ReadAlike, AnswerAlike, MapAlike, PresentAlike}
use Rattle.cd_model.specs.Thing.{Thing, Function, Pairs, IsElement}
use Rattle.cd_model.specs.Types.{Mapping, Presentation, Admits, AllMap, reader, answers, no_closure, element_maps, closure_maps}
use Rattle.cd_model.proofs.Alike.{reads_alike, answers_alike, pairs_alike}
use Rattle.cd_model.proofs.BothWays.{itself, none_agrees}
use Rattle.cd_model.proofs.Sorts.{Sort, all_things}

-- whatever function elements the one interfaces admit, the other do
abbrev pub AdmitSame : Admits → Admits → Type 0
AdmitSame one other = (function : ℕ) (pairs : Pairs) → IsElement (Function pairs) → one function pairs ↔ other function pairs

-- by what is known of things of a sort to which all elements belong, and of those of a sort under these interfaces
module _ {X Y : Type 0} (sort : Sort) (elements : (pairs : Pairs) → IsElement (Function pairs) → sort.OfPairs pairs)
    (Stands : Standing X Y) (at : Presentation X) (for : Presentation Y)
    (present : PresentAlike sort.Of Stands at for no_closure no_closure) where
  no_closures : (function : ℕ) → MapAlike Stands (no_closure function) (no_closure function)
  no_closures function a b c d is_a is_b answer = itself

  pub element_reads_by : (is : Thing) → sort.Of is → ReadAlike Stands (reader at no_closure is) (reader for no_closure is)
  element_reads_by = reads_alike sort Stands at for no_closure no_closure present no_closures

  pub elements_by : (is : Thing) → sort.Of is → AnswerAlike Stands (answers at no_closure is) (answers for no_closure is)
  elements_by = answers_alike sort Stands at for no_closure no_closure present no_closures

  pub maps_by : (pairs : Pairs) → IsElement (Function pairs) → MapAlike Stands (element_maps at pairs) (element_maps for pairs)
  maps_by pairs sound = pairs_alike sort Stands at for no_closure no_closure present no_closures pairs (elements pairs sound)

  module _ (admits admits' : Admits) (same : AdmitSame admits admits') (values : Sort)
      (present_values : PresentAlike values.Of Stands at for (closure_maps at admits) (closure_maps for admits')) where
    all_map_alike : (function : ℕ) (a b : X) (c d : Y) → Stands a c → Stands b d
        → AllMap at admits function a b ↔ AllMap for admits' function c d
    all_map_alike function a b c d is_a is_b = (
      λ all pairs sound inside.
          (maps_by pairs sound a b c d is_a is_b true).0 (all pairs sound ((same function pairs sound).1 inside)),
      λ all pairs sound inside.
          (maps_by pairs sound a b c d is_a is_b true).1 (all pairs sound ((same function pairs sound).0 inside)),
    )

    closures_alike : (function : ℕ) → MapAlike Stands (closure_maps at admits function) (closure_maps for admits' function)
    closures_alike function a b c d is_a is_b true = all_map_alike function a b c d is_a is_b
    closures_alike function a b c d is_a is_b false = none_agrees (all_map_alike function a b c d is_a is_b)

    pub value_reads_by : (is : Thing) → values.Of is
        → ReadAlike Stands (reader at (closure_maps at admits) is) (reader for (closure_maps for admits') is)
    value_reads_by = reads_alike values Stands at for (closure_maps at admits) (closure_maps for admits') present_values closures_alike

    pub values_by : (is : Thing) → values.Of is
        → AnswerAlike Stands (answers at (closure_maps at admits) is) (answers for (closure_maps for admits') is)
    values_by = answers_alike values Stands at for (closure_maps at admits) (closure_maps for admits') present_values closures_alike

-- the same where all things that read heads alike answer types alike
abbrev pub AlwaysAlike : {X Y : Type 0} → Standing X Y → Presentation X → Presentation Y → Type 1
AlwaysAlike {X} {Y} Stands at for = (closed : ℕ → Mapping X) (closing : ℕ → Mapping Y)
    → PresentAlike all_things.Of Stands at for closed closing

module _ {X Y : Type 0} (Stands : Standing X Y) (at : Presentation X) (for : Presentation Y) (present : AlwaysAlike Stands at for) where
  every : (pairs : Pairs) → IsElement (Function pairs) → all_things.OfPairs pairs
  every pairs sound = tt

  pub element_reads_alike : (is : Thing) → ReadAlike Stands (reader at no_closure is) (reader for no_closure is)
  element_reads_alike is = element_reads_by all_things every Stands at for (present no_closure no_closure) is tt

  pub elements_alike : (is : Thing) → AnswerAlike Stands (answers at no_closure is) (answers for no_closure is)
  elements_alike is = elements_by all_things every Stands at for (present no_closure no_closure) is tt

  pub maps_alike : (pairs : Pairs) → IsElement (Function pairs) → MapAlike Stands (element_maps at pairs) (element_maps for pairs)
  maps_alike = maps_by all_things every Stands at for (present no_closure no_closure)

  module _ (admits admits' : Admits) (same : AdmitSame admits admits') where
    pub value_reads_alike : (is : Thing)
        → ReadAlike Stands (reader at (closure_maps at admits) is) (reader for (closure_maps for admits') is)
    value_reads_alike is = value_reads_by all_things every Stands at for (present no_closure no_closure) admits admits' same
        all_things (present (closure_maps at admits) (closure_maps for admits')) is tt

    pub values_alike : (is : Thing)
        → AnswerAlike Stands (answers at (closure_maps at admits) is) (answers for (closure_maps for admits') is)
    values_alike is = values_by all_things every Stands at for (present no_closure no_closure) admits admits' same
        all_things (present (closure_maps at admits) (closure_maps for admits')) is tt
