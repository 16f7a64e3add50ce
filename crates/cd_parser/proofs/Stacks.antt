-- The last parts of a stack.
use Rattle.std.proofs.Common.{◌≡◌, ◌∙◌, sym, ap, ap₂, refl, ℕ, zero, suc, ◌-◌, ◌≤◌, ◌<◌, List, [], ◌∷◌, ◌++◌, arith}
use Rattle.std.proofs.Common.{◌+◌, ◌==◌, true, eqb-true, set, map, reverse, take, drop, length, get_or, slice_get}
use Rattle.std.proofs.Common.{append_assoc, append-nil, inl, inr, ◌⊎◌, Option, Some, None, option_map}
use Rattle.std.proofs.lemmas.List.{reverse-append, reverse-reverse, length-reverse, length-map, length-drop, map-append}
use Rattle.std.proofs.lemmas.List.{take-append-drop, take_at, drop_at, take_all, drop_all, drop_more, take_more_set}
use Rattle.std.proofs.lemmas.List.{length-set}
use Rattle.std.proofs.lemmas.Bool.{cases_lt}
use Rattle.cd_lr.specs.Automaton as machine
use Rattle.cd_lr.specs.Flat.{entry}
use Rattle.cd_syntax.specs.declared.tokens.Span.{Span}
use Rattle.cd_grammar.specs.Language.{Placed, place_of, end_of, build, made_by}
use Rattle.cd_grammar.specs.Bnf.{Line}
use Rattle.cd_grammar.specs.Parts.{Part}
use Rattle.cd_grammar.specs.declared.make.Make.{Make}
use Rattle.cd_grammar.specs.Rules.{lines}
use Rattle.cd_grammar.specs.Listed.{listed, automaton, the_grammar}
use Rattle.cd_parser.specs.Popped.{parts_in, made_if}
use Rattle.cd_parser.specs.PlainStacks.{plain_value, plain_cell, plain_stack}
use Rattle.cd_parser.specs.PlainSteps.{accepted}
use Rattle.cd_parser.specs.declared.cell.Cell.{Cell}

map_reverse : {A B : Type 0} (f : A → B) (xs : List A) → map f (reverse xs) ≡ reverse (map f xs)
map_reverse f [] = refl
map_reverse f (x ∷ xs) =
    ap (map f) (reverse-append (x ∷ []) xs) ∙ map-append f (reverse xs) (x ∷ [])
    ∙ ap (λ front. front ++ f x ∷ []) (map_reverse f xs) ∙ sym (reverse-append (f x ∷ []) (map f xs))

module _ {Value : Type 0} where
  abbrev values_of : List (machine.Cell Value) → List Value
  values_of cells = map (λ cell. cell.value) cells

  popped_front : (n : ℕ) (values : List Value) (stack : List (machine.Cell Value))
      → machine.popped n values stack ≡ (reverse (values_of (take n stack)) ++ values, drop n stack)
  popped_front zero values stack = refl
  popped_front (suc n) values [] = refl
  popped_front (suc n) values (cell ∷ stack) =
      let more = values_of (take n stack) in
      let moved : reverse more ++ cell.value ∷ values ≡ reverse (cell.value ∷ more) ++ values =
      sym (ap (λ front. front ++ values) (reverse-append (cell.value ∷ []) more)
      ∙ append_assoc (reverse more) (cell.value ∷ []) values) in
      popped_front n (cell.value ∷ values) stack ∙ ap (λ all. (all, drop n stack)) moved

by_line : (found : Option Line) (here : Span) (all : List Part)
    → made_if (option_map (λ line. line.make) found) here all ≡ made_by found here all
by_line None here all = refl
by_line (Some line) here all = refl

-- those from one number on, up to the end
pub to_end : {A : Type 0} (at : ℕ) (cells : List A) → take (length cells - at) (drop at cells) ≡ drop at cells
to_end at cells =
    let long : length (drop at cells) ≡ length cells - at = length-drop at cells in
    take_all (length cells - at) (drop at cells) (omega (arith, long))

-- what is left of cells that were put together, and what stands after
pub left_is : {A : Type 0} (old new cells : List A) (at : ℕ) → old ≡ new ++ cells → length new ≡ at
    → (take at old ≡ new) × (drop at old ≡ cells)
left_is old new cells at is long = (
  ap (take at) is ∙ take_at new cells at long,
  ap (drop at) is ∙ drop_at new cells at long,
)

module _ {P : Type 0} (plain : P → Part) where
  -- the last cells are the first of the stack
  last_first : (cells : List (Cell P)) (count at : ℕ) → at ≡ length cells - count
      → (take count (plain_stack plain cells) ≡ plain_stack plain (drop at cells))
      × (drop count (plain_stack plain cells) ≡ plain_stack plain (take at cells))
  last_first cells count at is = by (cases_lt (length cells) count)
    where
      top : List (machine.Cell Placed)
      top = plain_stack plain (drop at cells)

      below : List (machine.Cell Placed)
      below = plain_stack plain (take at cells)

      both : plain_stack plain cells ≡ top ++ below
      both =
          ap (plain_stack plain) (sym (take-append-drop at cells))
          ∙ ap reverse (map-append (plain_cell plain) (take at cells) (drop at cells))
          ∙ reverse-append (map (plain_cell plain) (take at cells)) (map (plain_cell plain) (drop at cells))

      long : length top ≡ length cells - at
      long =
          length-reverse (map (plain_cell plain) (drop at cells)) ∙ length-map (drop at cells) (plain_cell plain) ∙ length-drop at cells

      by : (length cells < count) ⊎ (count ≤ length cells)
          → (take count (plain_stack plain cells) ≡ top) × (drop count (plain_stack plain cells) ≡ below)
      by (inl less) =
          let none : at ≡ 0 = omega (arith, is, less) in
          let short : length top ≤ count = omega (arith, long, less) in
          let empty : below ≡ [] = ap (λ n. plain_stack plain (take n cells)) none in
          let whole : plain_stack plain cells ≡ top = both ∙ ap (λ rest. top ++ rest) empty ∙ append-nil top in (
            ap (take count) whole ∙ take_all count top short,
            ap (drop count) whole ∙ drop_all count top short ∙ sym empty,
          )
      by (inr more) =
          let exact : length top ≡ count = omega (arith, long, is, more) in
          (ap (take count) both ∙ take_at top below count exact, ap (drop count) both ∙ drop_at top below count exact)

  values_are : (cells : List (Cell P)) → values_of (map (plain_cell plain) cells) ≡ map (plain_value plain) cells
  values_are [] = refl
  values_are (cell ∷ cells) = ap (λ rest. plain_value plain cell ∷ rest) (values_are cells)

  pub popped_cells : (cells : List (Cell P)) (count at : ℕ) → at ≡ length cells - count
      → machine.popped count [] (plain_stack plain cells) ≡ (map (plain_value plain) (drop at cells), plain_stack plain (take at cells))
  popped_cells cells count at is =
      let last = last_first cells count at is in
      let top = map (plain_cell plain) (drop at cells) in
      let values : reverse (values_of (take count (plain_stack plain cells))) ++ [] ≡ map (plain_value plain) (drop at cells) =
      append-nil (reverse (values_of (take count (plain_stack plain cells))))
      ∙ ap (λ cells. reverse (values_of cells)) last.0 ∙ ap reverse (map_reverse (λ cell. cell.value) top)
      ∙ reverse-reverse (values_of top) ∙ values_are (drop at cells) in
      popped_front count [] (plain_stack plain cells) ∙ ap₂ (λ all below. (all, below)) values last.1

  -- what a rule builds of several cells
  parts_are : (cells : List (Cell P)) → parts_in plain cells ≡ map (λ part. part.1) (map (plain_value plain) cells)
  parts_are [] = refl
  parts_are (cell ∷ cells) = ap (λ rest. plain cell.part ∷ rest) (parts_are cells)

  pub built : (rule : ℕ) (make : Option Make) (here : Span) (made : Part) (cells : List (Cell P))
      → make ≡ option_map (λ line. line.make) (slice_get lines rule) → here ≡ place_of (map (plain_value plain) cells)
      → made ≡ made_if make here (parts_in plain cells) → (here, made) ≡ build rule (map (plain_value plain) cells)
  built rule make here made cells of_rule is so =
      ap₂ (λ here made. (here, made)) is
      (so ∙ ap (λ one. made_if one here (parts_in plain cells)) of_rule ∙ by_line (slice_get lines rule) here (parts_in plain cells)
      ∙ ap₂ (made_by (slice_get lines rule)) is (parts_are cells))

  -- from the first's beginning to the last's end
  end_at : (to : ℕ) (cell other : Cell P) (cells : List (Cell P))
      → end_of to (map (plain_value plain) (cell ∷ cells)) ≡ (get_or (cell ∷ cells) (length cells) other).span.to
  end_at to cell other [] = refl
  end_at to cell other (next ∷ cells) = end_at cell.span.to next other cells

  pub placed : (cells : List (Cell P)) (first last : Cell P) → 2 ≤ length cells → first ≡ get_or cells 0 first
      → last ≡ get_or cells (length cells - 1) last
      → let here : Span = record { from = first.span.from; to = last.span.to } in here ≡ place_of (map (plain_value plain) cells)
  placed [] first last long is so = absurd (omega (arith, long))
  placed (cell ∷ []) first last long is so = absurd (omega (arith, long))
  placed (cell ∷ next ∷ cells) first last long is so =
      let number : length (cell ∷ next ∷ cells) - 1 ≡ suc (length cells) = omega arith in
      let end : last.span.to ≡ end_of cell.span.to (map (plain_value plain) (next ∷ cells)) =
      ap (λ one. one.span.to) (so ∙ ap (λ n. get_or (cell ∷ next ∷ cells) n last) number)
      ∙ sym (end_at cell.span.to next last cells) in
      ap₂ span (ap (λ one. one.span.from) is) end
    where
      span : (from to : ℕ) → Span
      span from to = record { from = from; to = to }

  pub reduced : (most rule count at : ℕ) (old kept cells : List (Cell P)) → count ≡ entry listed.lengths rule
      → at ≡ length old - count → kept ≡ take at old → cells ≡ drop at old
      → machine.pushed the_grammar automaton most rule (map (plain_value plain) cells, plain_stack plain kept)
      ≡ machine.pushed the_grammar automaton most rule (machine.popped (entry listed.lengths rule) [] (plain_stack plain old))
  reduced most rule count at old kept cells long is below top =
      ap (machine.pushed the_grammar automaton most rule)
      (ap₂ (λ cells kept. (map (plain_value plain) cells, plain_stack plain kept)) top below
      ∙ sym (popped_cells old count at is) ∙ ap (λ n. machine.popped n [] (plain_stack plain old)) long)

  -- the top is changed in its place
  with_top : (below : List (Cell P)) (cell : Cell P) → plain_stack plain (below ++ cell ∷ []) ≡ plain_cell plain cell ∷ plain_stack plain below
  with_top below cell =
      ap reverse (map-append (plain_cell plain) below (cell ∷ [])) ∙ reverse-append (map (plain_cell plain) below) (plain_cell plain cell ∷ [])

  pub changed : (most rule top : ℕ) (cells : List (Cell P)) (old new : Cell P) → top + 1 ≡ length cells
      → old ≡ get_or cells top old → plain_value plain new ≡ build rule (plain_value plain old ∷ [])
      → new.state ≡ automaton.goto (machine.state_of (plain_stack plain (take top cells))) (the_grammar.left rule)
      → new.room ≡ machine.room_of most (plain_stack plain (take top cells))
      → plain_stack plain (set cells top new)
      ≡ machine.pushed the_grammar automaton most rule (map (plain_value plain) (drop top cells), plain_stack plain (take top cells))
  changed most rule top cells old new last is value to levels =
      ap (plain_stack plain) whole ∙ with_top (take top cells) new
      ∙ ap (λ s. put s new.room (plain_value plain new)) to ∙ ap (λ r. put state r (plain_value plain new)) levels
      ∙ ap (put state room) (value ∙ ap (λ all. build rule (map (plain_value plain) all)) (sym one))
    where
      below : List (machine.Cell Placed)
      below = plain_stack plain (take top cells)

      state : ℕ
      state = automaton.goto (machine.state_of below) (the_grammar.left rule)

      room : ℕ
      room = machine.room_of most below

      put : (state room : ℕ) → Placed → List (machine.Cell Placed)
      put state room value = record { state = state; room = room; value = value } ∷ below

      small : top < length cells
      small = omega (arith, last)

      whole : set cells top new ≡ take top cells ++ new ∷ []
      whole =
          sym (take_all (top + 1) (set cells top new) (omega (arith, last, length-set cells top new)))
          ∙ take_more_set cells top new small

      one : drop top cells ≡ old ∷ []
      one =
          drop_more cells top old small
          ∙ ap₂ (λ first rest. first ∷ rest) (sym is) (drop_all (top + 1) cells (omega (arith, last)))

  -- one part was read
  pub one_cell : (cells below : List (Cell P)) (cell : Cell P) → cells ≡ below ++ cell ∷ [] → (length below == 0) ≡ true
      → accepted (plain_stack plain cells) ≡ machine.Done (plain_value plain cell)
  one_cell cells [] cell is none = ap (λ all. accepted (plain_stack plain all)) is
  one_cell cells (one ∷ below) cell is none = absurd (omega (arith, eqb-true (length (one ∷ below)) 0 none))
