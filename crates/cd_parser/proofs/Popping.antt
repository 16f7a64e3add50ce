-- The last parts of a stack, taken off one after the other.
use Rattle.std.proofs.Common.{◌≡◌, ◌≤◌, ◌-◌, ◌+◌, ◌∙◌, sym, ap, ap₂, ℕ, List, [], ◌∷◌, ◌++◌, length, arith}
use Rattle.std.proofs.Common.{append_assoc, Option, take, drop}
use Rattle.std.specs.Prelude.{◌≢◌}
use Rattle.std.proofs.lemmas.List.{length-append, map-append, length-map, length-take-le, take-append-drop}
use Rattle.cd_syntax.specs.declared.tokens.Span.{Span}
use Rattle.cd_grammar.specs.declared.make.Make.{Make}
use Rattle.cd_grammar.specs.Parts as parts
use Rattle.cd_parser.specs.Popped.{parts_in, AreLast, IsCut, IsMade, made_if}
use Rattle.cd_parser.specs.declared.cell.Cell.{Cell}

module _ {P : Type 0} (plain : P → parts.Part) where
  -- one more in front
  pub before : (old mid new : List (Cell P)) (first : parts.Part) (last : List parts.Part) → AreLast plain old mid last
      → AreLast plain mid new (first ∷ []) → AreLast plain old new (first ∷ last)
  before old mid new first last (cells, is, are) (one, was, it) = (
    one ++ cells,
    is ∙ ap (λ front. front ++ cells) was ∙ append_assoc new one cells,
    map-append (λ cell. plain cell.part) one cells ∙ ap₂ (λ a b. a ++ b) it are,
  )

  -- how many are left
  long : (old new : List (Cell P)) (last : List parts.Part) → AreLast plain old new last → length old ≡ length new + length last
  long old new last (cells, is, are) =
      ap length is ∙ length-append new cells
      ∙ ap (λ n. length new + n) (sym (length-map cells (λ cell. plain cell.part)) ∙ ap length are)

  pub enough : (old new : List (Cell P)) (last : List parts.Part) (n m : ℕ) → AreLast plain old new last → n + length last ≤ length old
      → m ≡ n → m ≤ length new
  enough old new last n m are more same =
      let all = long old new last are in omega (arith, all, more, same)

  -- what is made of them
  pub last_made : (make : Option Make) (here : Span) (at : ℕ) (old new : List (Cell P)) (part : P) (last : List parts.Part)
      → AreLast plain old new last → at ≤ length old → length old - at ≡ length last
      → plain part ≡ made_if make here last → IsMade plain make here at old new part
  last_made make here at old new part last are below count is =
      let all = long old new last are in (
        are.0,
        are.1,
        omega (arith, all, below, count),
        is ∙ ap (made_if make here) (sym are.2),
      )

  -- nothing of use
  pub cut_made : (make : Option Make) (here : Span) (at n : ℕ) (old new : List (Cell P)) (part : P) → IsCut at old new
      → ((all : List parts.Part) → length all ≢ n → made_if make here all ≡ parts.Junk) → length old - at ≢ n
      → plain part ≡ parts.Junk → IsMade plain make here at old new part
  cut_made make here at n old new part (cells, is, size) none other junk = (
    cells,
    is,
    size,
    junk ∙ sym (none (parts_in plain cells) (λ same. other (count ∙ same))),
  )
    where
      whole : length old ≡ length new + length cells
      whole = ap length is ∙ length-append new cells

      count : length old - at ≡ length (parts_in plain cells)
      count =
          let left : length old - at ≡ length cells = omega (arith, whole, size) in
          left ∙ sym (length-map cells (λ cell. plain cell.part))

-- what was cut off
pub cut_off : {P : Type 0} (at : ℕ) (old new : List (Cell P)) → new ≡ take at old → at ≤ length old → IsCut at old new
cut_off at old new is below =
    let both : old ≡ take at old ++ drop at old = sym (take-append-drop at old) in
    (drop at old, both ∙ ap (λ front. front ++ drop at old) (sym is), ap length is ∙ length-take-le at old below)
