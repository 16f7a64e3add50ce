-- The constants in the patterns of a program that a text writes are in range.
use Rattle.std.proofs.Common.{ℕ, false, List, [], ◌∷◌, map, Option, Some, None, slice_get}
use Rattle.std.specs.Char.{IsScalar}
use Rattle.cd_syntax.specs.declared.tokens.Token.{Token}
use Rattle.cd_syntax.specs.Tokens.{Lexes}
use Rattle.cd_model.specs.AllOf.{AllOf}
use Rattle.cd_model.proofs.Covered.{each_parts}
use Rattle.cd_program.specs.Expr.{Program}
use Rattle.cd_safety.specs.PatternsIn.{EachOfFunction}
use Rattle.cd_nodes.specs.ConstantsInRange.{ConstantsInRange}
use Rattle.cd_lr.specs.Grammar.{Symbol, Derives, one, made, Row, nothing, next, within}
use Rattle.cd_lr.specs.Tables.{right}
use Rattle.cd_grammar.specs.Bnf.{Line}
use Rattle.cd_grammar.specs.Rules.{lines}
use Rattle.cd_grammar.specs.Language.{Entry, To, Read, Later, Placed, value_of, place_of, made_by, build, cduce_grammar}
use Rattle.cd_grammar.specs.Language.{IsProgram}
use Rattle.cd_grammar.specs.Tables.{tables}
use Rattle.cd_grammar.proofs.Rules.{parts_of}
use Rattle.cd_placed.proofs.TokensInRange.{TokenInRange, tokens_in_range}
use Rattle.cd_texts.proofs.PartsInRange.{PartInRange}
use Rattle.cd_texts.proofs.MakesInRange.{made_in_range}

abbrev EntryInRange : Entry → Type 0
EntryInRange (To goal) = Unit {0}
EntryInRange (Read token) = TokenInRange token.kind
EntryInRange (Later token) = TokenInRange token.kind

entry_in_range : (entry : Entry) → EntryInRange entry → PartInRange (value_of entry).1
entry_in_range (To goal) is = tt
entry_in_range (Read token) is = is
entry_in_range (Later token) is = is

all_read : (tokens : List Token) → AllOf (λ one. TokenInRange one.kind) tokens → AllOf EntryInRange (map Read tokens)
all_read [] are = tt
all_read (token ∷ rest) are = (are.0, all_read rest are.1)

abbrev IsPlacedInRange : Placed → Type 0
IsPlacedInRange v = PartInRange v.1

each_part : (values : List Placed) → AllOf IsPlacedInRange values → AllOf PartInRange (parts_of values)
each_part [] are = tt
each_part (v ∷ rest) are = (are.0, each_part rest are.1)

-- what a rule makes
rule_in_range : (p : ℕ) (values : List Placed) → AllOf IsPlacedInRange values → PartInRange (build p values).1
rule_in_range p values are = by (slice_get lines p)
  where
    by : (found : Option Line) → PartInRange (made_by found (place_of values) (parts_of values))
    by None = tt
    by (Some line) = made_in_range line.make (place_of values) (parts_of values) (each_part values are)

mutual
  derived_in_range : (depth : ℕ) (x : Symbol) (entries : List Entry) (v : Placed)
      → Derives cduce_grammar depth x entries v → AllOf EntryInRange entries → PartInRange v.1
  derived_in_range _ _ _ _ (one depth opens entry room) are = entry_in_range entry are.0
  derived_in_range _ _ _ _ (made depth p entries values row_is) are =
      rule_in_range p values (row_in_range depth (right tables p) entries values row_is are)

  row_in_range : (depth : ℕ) (xs : List Symbol) (entries : List Entry) (values : List Placed)
      → Row cduce_grammar depth xs entries values → AllOf EntryInRange entries → AllOf IsPlacedInRange values
  row_in_range _ _ _ _ (nothing depth) are = tt
  row_in_range _ _ _ _ (next depth x rest a b v vs derives row_is) are =
      let parts = each_parts EntryInRange a b are in (
        derived_in_range depth x a v derives parts.0,
        row_in_range (within cduce_grammar depth x) rest b vs row_is parts.1,
      )

pub patterns_in_range : (text : List ℕ) (tokens : List Token) (depth : ℕ) (program : Program)
    → AllOf IsScalar text → Lexes false 0 text tokens → IsProgram depth tokens program
    → AllOf (EachOfFunction ConstantsInRange) program.functions
patterns_in_range text tokens depth program scalars lexes written =
    derived_in_range _ _ _ _ written.2.1 (tt, all_read tokens (tokens_in_range false 0 text tokens lexes scalars))
