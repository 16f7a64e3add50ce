-- A list that is kept the other way round, and what is cut off it.
use Rattle.std.proofs.Common.{◌≡◌, ◌∙◌, ap, sym, refl, ℕ, List, [], ◌∷◌, ◌++◌, length, reverse}
use Rattle.std.proofs.Common.{take, map}
use Rattle.std.proofs.Common.{Bool, true, false, ◌||◌}
use Rattle.std.proofs.lemmas.List.{append_assoc, reverse-append, reverse-reverse, length-reverse}
use Rattle.std.proofs.lemmas.List.Folds.{list_any-append}
use Rattle.std.proofs.Math.Bool.{or_comm}
use Rattle.std.proofs.Math.Seq.{take-append_seam}
use Rattle.std.specs.Prelude.{bytes_eq, is_some}
use Rattle.std.specs.List.{list_any}
use Rattle.cd_syntax.specs.Name.{Name}
use Rattle.cd_syntax.specs.TypeTree.{Tree}
use Rattle.cd_variables.specs.Occurrences.{Occurrence, bound}
use Rattle.cd_resolve.specs.FirstPlaces.{first_place}
use Rattle.cd_resolve.proofs.Places.{has_place}
use Rattle.cd_names.specs.ProgramFaults.{names_of, is_seen}
use Rattle.cd_variables.specs.PlainOccurrences.{plain_occurrence, occurring}
use Rattle.cd_variables.specs.declared.occurrence.Occurrence.{Occurrence as CodeOccurrence}

-- the lower part of a list is what is left of its other order
pub cut_part : {X : Type 0} (count : ℕ) (all above below : List X) → reverse all ≡ above ++ below
    → count ≡ length below
    → reverse (take count all) ≡ below
cut_part count all above below parts under =
    let turned : reverse below ++ reverse above ≡ all =
    sym (reverse-append above below) ∙ ap reverse (sym parts) ∙ reverse-reverse all in
    let long : count ≡ length (reverse below) = under ∙ sym (length-reverse below) in
    ap (λ list. reverse (take count list)) (sym turned)
    ∙ ap (λ (n : ℕ). reverse (take n (reverse below ++ reverse above))) long
    ∙ ap reverse (take-append_seam (reverse below) (reverse above)) ∙ reverse-reverse below

any_turned : {X : Type 0} (test : X → Bool) (all : List X)
    → list_any test (reverse all) ≡ list_any test all
any_turned test [] = refl
any_turned test (one ∷ all) =
    ap (list_any test) (reverse-append (one ∷ []) all) ∙ list_any-append test (reverse all)
    (one ∷ [])
    ∙ or_comm (list_any test (reverse all)) (test one || false)
    ∙ ap (λ b. (test one || false) || b) (any_turned test all)
    ∙ ap (λ b. b || list_any test all) (or_none (test one))
  where
    or_none : (b : Bool) → (b || false) ≡ b
    or_none true = refl
    or_none false = refl

-- a test of the members from the last one on
pub any_kept : {X Y : Type 0} (view : X → Y) (test : Y → Bool) (all : List X)
    → list_any (λ one. test (view one)) (reverse all) ≡ list_any test (reverse (map view all))
any_kept view test all =
    any_turned (λ one. test (view one)) all ∙ by all ∙ sym (any_turned test (map view all))
  where
    by : (all : List _) → list_any (λ one. test (view one)) all ≡ list_any test (map view all)
    by [] = refl
    by (one ∷ all) = ap (λ b. test (view one) || b) (by all)

-- what is seen under a pattern
pub seen_under : (all : List CodeOccurrence) (pattern : Tree) (locals functions : List Name)
    → map plain_occurrence all ≡ bound pattern
    → (map occurring all ++ locals) ++ functions ≡ names_of pattern ++ (locals ++ functions)
seen_under all pattern locals functions are = append_assoc (map occurring all) locals functions
    ∙ ap (λ names. names ++ (locals ++ functions))
    (by all ∙ ap (map (λ occurrence. occurrence.name)) are)
  where
    by : (all : List CodeOccurrence)
        → map occurring all ≡ map (λ (occurrence : Occurrence). occurrence.name)
        (map plain_occurrence all)
    by [] = refl
    by (one ∷ all) = ap (λ names. occurring one ∷ names) (by all)

-- what is seen is a function or a variable
pub seen_among : (locals functions : List Name) (name : Name) (found : Bool)
    → found ≡ is_some (first_place functions name)
    → is_seen (locals ++ functions) name ≡ (found || is_seen locals name)
seen_among locals functions name found is =
    list_any-append (bytes_eq name) locals functions
    ∙ or_comm (is_seen locals name) (is_seen functions name)
    ∙ ap (λ b. b || is_seen locals name) (sym (is ∙ has_place functions name))
