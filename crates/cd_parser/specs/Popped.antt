-- The last parts of a stack, and what is made of them.
use Rattle.std.specs.Prelude.{◌≡◌, ℕ, List, ◌++◌, length, map, Option, Some, None}
use Rattle.cd_syntax.specs.declared.tokens.Span.{Span}
use Rattle.cd_grammar.specs.declared.make.Make.{Make}
use Rattle.cd_grammar.specs.Parts as parts
use Rattle.cd_grammar.specs.Makes.{made}
use Rattle.cd_parser.specs.declared.cell.Cell.{Cell}

-- the parts in cells
abbrev pub parts_in : {P : Type 0} → (P → parts.Part) → List (Cell P) → List parts.Part
parts_in plain cells = map (λ cell. plain cell.part) cells

-- the parts were the last ones
abbrev pub AreLast : {P : Type 0} → (P → parts.Part) → (old new : List (Cell P)) → List parts.Part
    → Type 0
AreLast {P} plain old new last =
    (cells : List (Cell P)) × (old ≡ new ++ cells) × (parts_in plain cells ≡ last)

-- what stands from one number on is gone
abbrev pub IsCut : {P : Type 0} → (at : ℕ) → (old new : List (Cell P)) → Type 0
IsCut {P} at old new = (cells : List (Cell P)) × (old ≡ new ++ cells) × (length new ≡ at)

-- what is made of some parts, if anything is
abbrev pub made_if : Option Make → Span → List parts.Part → parts.Part
made_if None here all = parts.Junk
made_if (Some make) here all = made make here all

-- a part is made of those from one on
abbrev pub IsMade : {P : Type 0} → (P → parts.Part) → Option Make → Span → (at : ℕ)
    → (old new : List (Cell P)) → P → Type 0
IsMade {P} plain make here at old new part =
    (cells : List (Cell P)) × (old ≡ new ++ cells) × (length new ≡ at)
    × (plain part ≡ made_if make here (parts_in plain cells))
