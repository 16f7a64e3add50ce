use Rattle.std.proofs.Common.{◌≡◌, ◌∙◌, refl, ap, sym, ℕ, Option, Some, drop, length, List, ◌+◌}
use Rattle.std.specs.List.{position}
use Rattle.cd_model.specs.Thing.{Pair}
use Rattle.cd_model.proofs.Ones.{each_weaker}
use Rattle.cd_cells.specs.Cells.{thing_at}
use Rattle.cd_cells.specs.Table.{table}
use Rattle.cd_taking.specs.declared.capture.Capture.{Capture}
use Rattle.cd_taking.specs.Inner.Coded.{is_variable, IsCaptureWithin}
use Rattle.cd_taking.proofs.Gathering.{stays_gathered, nothing_gathered, gathered_before, place_within}
use Rattle.cd_cells.proofs.GrownTables.{thing_grown, within_grown}
use Rattle.cd_taking.proofs.Lists.{all_get, all_set}
use Rattle.cd_taking.proofs.gather.put_before.Goals as goal

pub returns-in_default-clause-gathers : goal.returns-in_default-clause-gathers
returns-in_default-clause-gathers c =
    let all = table c.args.values.now in
    stays_gathered _ all c.args.mark c.args.captures.now.items
    (nothing_gathered all c.args.variable (thing_at all c.args.parts.0.0) (drop c.args.mark c.args.captures.now.items)
    (ap (λ (xs : List Capture). position (is_variable c.args.variable) (drop c.args.mark xs)) (sym c.as_slice.ensures.value)
    ∙ sym c.place_of.ensures ∙ c.in_default.is))

-- the place is one of the list
there : (variable mark k : ℕ) (captures lent : List Capture) (answer : Option ℕ) → lent ≡ captures
    → answer ≡ position (is_variable variable) (drop mark lent) → answer ≡ Some k
    → position (is_variable variable) (drop mark captures) ≡ Some k
there variable mark k captures lent answer same is found =
    ap (λ (xs : List Capture). position (is_variable variable) (drop mark xs)) (sym same) ∙ sym is ∙ found

pub returns-clause-gathers : goal.returns-clause-gathers
returns-clause-gathers c =
    let old = table c.args.values.now in
    let new = table c.before_value.new.values in
    let captures = c.args.captures.now.items in
    let rest = c.index.result.now in
    let at = there c.args.variable c.args.mark c.in-Some.place captures c.as_slice.result.now c.place_of.result c.as_slice.ensures.value
    c.place_of.ensures c.in-Some.is in
    let within = all_get (IsCaptureWithin (length old)) captures (c.args.mark + c.in-Some.place) rest c.requires.within
    (place_within c.args.variable c.args.mark c.in-Some.place rest captures at) in
    gathered_before new c.args.variable c.args.mark c.in-Some.place (thing_at old c.args.parts.0.0)
    (record { variable = c.args.variable; value = c.in_ok-value.value }) rest captures at refl
    (c.in_ok-value.ensures.is.is ∙ ap (λ d. Pair (thing_at old c.args.parts.0.0) d)
    (ap (λ (one : Capture). thing_at old one.value.0) c.index.ensures
    ∙ sym (thing_grown c.args.values.now c.before_value.new.values c.in_ok-value.ensures.grows _ within)))

pub returns-clause-within : goal.returns-clause-within
returns-clause-within c =
    let old = c.args.values.now in
    let new = c.before_value.new.values in
    all_set (IsCaptureWithin (length (table new))) c.args.captures.now.items (c.args.mark + c.in-Some.place)
    (record { variable = c.args.variable; value = c.in_ok-value.value })
    (each_weaker (IsCaptureWithin (length (table old))) (IsCaptureWithin (length (table new)))
    (λ (one : Capture) within. within_grown old new c.in_ok-value.ensures.grows one.value.0 within) c.args.captures.now.items c.requires.within)
    c.in_ok-value.ensures.is.within
