-- Each variable that the code finds in a pattern stands in it, and is known by its place.
use Rattle.std.proofs.Common.{◌≡◌, ◌<◌, ℕ, zero, suc, Bool, true, false, ◌||◌, List, [], ◌∷◌}
use Rattle.std.proofs.Common.{length, Some, option_map, bytes_eq, if◌then◌else◌, refl, sym, ap}
use Rattle.std.proofs.Common.{◌∙◌}
use Rattle.std.specs.List.{slice_get}
use Rattle.std.proofs.lemmas.Bool.{true≢false}
use Rattle.std.proofs.lemmas.Option.{none-some, same_Some}
use Rattle.cd_syntax.specs.Name.{Name}
use Rattle.cd_matching.specs.Kernel.{number_of}
use Rattle.cd_matching.specs.Pattern as pattern
use Rattle.cd_matching.specs.Pattern.{Pattern, Patterns, NoPattern, APattern, Fields, NoField}
use Rattle.cd_matching.specs.Pattern.{Present, Optional, Regular, Regulars, NoRegular, ARegular}
use Rattle.cd_matching.specs.Variables.{binds}
use Rattle.cd_matching.proofs.Falling.{is_there}
use Rattle.cd_kernel.specs.Copies.{IsNumber, is_among, AreDistinct}
use Rattle.cd_kernel.specs.Inner.Gathering.{with_name, with_variables, with_those_of_all}
use Rattle.cd_kernel.specs.Inner.Gathering.{with_those_of_fields, with_those_of_items}
use Rattle.cd_kernel.specs.Inner.Gathering.{with_those_of_parts}
use Rattle.cd_kernel.proofs.GatheredNames.{distinct_with, variables_among}
use Rattle.cd_kernel.proofs.VariableNumbers.{names_same, name_itself}

module _ {T : Type 0} where
  mutual
    variables_distinct : (p : Pattern T) (names : List Name) → AreDistinct names
        → AreDistinct (with_variables p names)
    variables_distinct (pattern.OfType type) names distinct = distinct
    variables_distinct (pattern.Bind name) names distinct = distinct_with names name distinct
    variables_distinct (pattern.Default name constant) names distinct =
        distinct_with names name distinct
    variables_distinct (pattern.Pair p q) names distinct =
        variables_distinct q (with_variables p names) (variables_distinct p names distinct)
    variables_distinct (pattern.Xml p q r) names distinct =
        variables_distinct r (with_variables q (with_variables p names))
        (variables_distinct q (with_variables p names) (variables_distinct p names distinct))
    variables_distinct (pattern.Record fields more) names distinct =
        of_fields_distinct fields names distinct
    variables_distinct (pattern.Both all) names distinct = of_all_distinct all names distinct
    variables_distinct (pattern.First all) names distinct = of_all_distinct all names distinct
    variables_distinct (pattern.Sequence r) names distinct = of_items_distinct r names distinct

    of_all_distinct : (all : Patterns T) (names : List Name) → AreDistinct names
        → AreDistinct (with_those_of_all all names)
    of_all_distinct NoPattern names distinct = distinct
    of_all_distinct (APattern first rest) names distinct =
        of_all_distinct rest (with_variables first names) (variables_distinct first names distinct)

    of_fields_distinct : (fields : Fields T) (names : List Name) → AreDistinct names
        → AreDistinct (with_those_of_fields fields names)
    of_fields_distinct NoField names distinct = distinct
    of_fields_distinct (Present label p rest) names distinct =
        of_fields_distinct rest (with_variables p names) (variables_distinct p names distinct)
    of_fields_distinct (Optional label type rest) names distinct =
        of_fields_distinct rest names distinct

    of_items_distinct : (r : Regular T) (names : List Name) → AreDistinct names
        → AreDistinct (with_those_of_items r names)
    of_items_distinct pattern.Nothing names distinct = distinct
    of_items_distinct (pattern.Item p) names distinct = variables_distinct p names distinct
    of_items_distinct (pattern.Seq all) names distinct = of_parts_distinct all names distinct
    of_items_distinct (pattern.Alt all) names distinct = of_parts_distinct all names distinct
    of_items_distinct (pattern.Repeat r post) names distinct = of_items_distinct r names distinct
    of_items_distinct (pattern.Capture name r) names distinct =
        of_items_distinct r (with_name names name) (distinct_with names name distinct)

    of_parts_distinct : (all : Regulars T) (names : List Name) → AreDistinct names
        → AreDistinct (with_those_of_parts all names)
    of_parts_distinct NoRegular names distinct = distinct
    of_parts_distinct (ARegular first rest) names distinct = of_parts_distinct rest
        (with_those_of_items first names) (of_items_distinct first names distinct)

among_at : (names : List Name) (place : ℕ) (name : Name) → slice_get names place ≡ Some name
    → is_among names name ≡ true
among_at [] zero name there = absurd (none-some name there)
among_at [] (suc place) name there = absurd (none-some name there)
among_at (first ∷ names) zero name there =
    ap (λ (b : Bool). b || is_among names name)
    (ap (bytes_eq name) (same_Some first name there) ∙ name_itself name)
among_at (first ∷ names) (suc place) name there =
    later (bytes_eq name first) (among_at names place name there)
  where
    later : (a : Bool) → is_among names name ≡ true → (a || is_among names name) ≡ true
    later true h = refl
    later false h = h

place_is_number : (names : List Name) (place : ℕ) (name : Name) → AreDistinct names
    → slice_get names place ≡ Some name → IsNumber names name place
place_is_number [] zero name distinct there = absurd (none-some name there)
place_is_number [] (suc place) name distinct there = absurd (none-some name there)
place_is_number (first ∷ names) zero name distinct there =
    ap (λ (b : Bool). if b then Some zero else option_map suc (number_of names name))
    (ap (bytes_eq first) (sym (same_Some first name there)) ∙ name_itself first)
place_is_number (first ∷ names) (suc place) name distinct there =
    by_test (bytes_eq first name) refl (place_is_number names place name distinct.1 there)
  where
    by_test : (b : Bool) → bytes_eq first name ≡ b → IsNumber names name place
        → (if b then Some zero else option_map suc (number_of names name)) ≡ Some (suc place)
    by_test true same on = absurd (true≢false (sym (among_at names place name there)
        ∙ ap (is_among names) (sym (names_same first name same)) ∙ distinct.0))
    by_test false differs on = ap (option_map suc) on

pub variables_stand : {T : Type 0} (p : Pattern T) (variable : ℕ)
    → variable < length (with_variables p [])
    → (name : Name) × IsNumber (with_variables p []) name variable × (binds p name ≡ true)
variables_stand p variable within =
    let found = is_there (with_variables p []) variable within in (
      found.0,
      place_is_number (with_variables p []) variable found.0 (variables_distinct p [] tt) found.1,
      sym (variables_among p [] found.0)
          ∙ among_at (with_variables p []) variable found.0 found.1,
    )
