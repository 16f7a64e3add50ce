-- A table of values grows to itself, and on and on, and what stands in it stands there when it has grown.
use Rattle.std.proofs.Common.{◌≡◌, ◌∙◌, ap, append_assoc, ℕ, ◌<◌, List, [], ◌++◌, length, refl}
use Rattle.cd_model.specs.Thing.{Thing, Atom}
use Rattle.cd_cells.specs.declared.values.Values.{Values}
use Rattle.cd_cells.specs.Cells.{thing_at}
use Rattle.cd_cells.specs.Table.{table, names, IsAt, Grows}
use Rattle.cd_cells.proofs.Growing as list
use Rattle.cd_cells.proofs.TableGrows.{stayed}

pub itself : (values : Values) → Grows values values
itself values = stayed values values refl refl

more_and_more : {X : Type 0} (one two three : List X) → list.Grows one two → list.Grows two three
    → list.Grows one three
more_and_more one two three first then = (
  first.0 ++ then.0,
  then.1 ∙ ap (λ all. all ++ then.0) first.1 ∙ append_assoc one first.0 then.0,
)

pub further : (one two three : Values) → Grows one two → Grows two three → Grows one three
further one two three first then = record {
  things = more_and_more (table one) (table two) (table three) first.things then.things;
  labels = more_and_more (names one) (names two) (names three) first.labels then.labels;
}

module _ (old new : Values) (grows : Grows old new) where
  pub within_grown : (number : ℕ) → number < length (table old) → number < length (table new)
  within_grown number within = list.still_within (table old) (table new) grows.things number within

  pub thing_grown : (number : ℕ) → number < length (table old)
      → thing_at (table new) number ≡ thing_at (table old) number
  thing_grown number within = list.stays (table old) (table new) (Atom []) grows.things number within

  pub at_grown : (number : ℕ) (value : Thing) → IsAt (table old) number value → IsAt (table new) number value
  at_grown number value at = record {
    within = within_grown number at.within;
    is = thing_grown number at.within ∙ at.is;
  }
