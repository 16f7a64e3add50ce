-- A whole is of the sort that its goal says.
use Rattle.std.proofs.Common.{◌≡◌, ◌∙◌, sym, ap, subst, refl, ℕ, true, false, List, ◌∷◌, map}
use Rattle.std.proofs.Common.{eq-eqb}
use Rattle.std.specs.Prelude.{nat_eq}
use Rattle.std.specs.List.{AllByRecursion as AllOf}
use Rattle.cd_lr.specs.Grammar.{Symbol, Terminal, one, made, Row, nothing, next, Whole}
use Rattle.cd_lr.specs.Tables.{right}
use Rattle.cd_lr.proofs.GoalsFirst.{whole_by_text}
use Rattle.cd_grammar.specs.declared.goal.Goal.{Goal}
use Rattle.cd_grammar.specs.declared.goal.Goal.TheVariants as goal
use Rattle.cd_grammar.specs.declared.make.Make.TheVariants as make
use Rattle.cd_grammar.specs.declared.make.One.TheVariants as one
use Rattle.cd_grammar.specs.declared.make.Two.TheVariants as two
use Rattle.cd_grammar.specs.Terminals.{terminal_of_goal}
use Rattle.cd_grammar.specs.Language.{Entry, To, Placed, place_of, kind_of, value_of, is_free, build, cduce_grammar}
use Rattle.cd_grammar.specs.Tables.{tables}
use Rattle.cd_grammar.proofs.Sorts.{Sort, OfTree, OfFile, OfProgram, sort_of}
use Rattle.cd_grammar.proofs.SortedParts.{Facts, AreKept, Fits, AreFit}
use Rattle.cd_grammar.proofs.SortedMakes.{made_fits}
use Rattle.cd_grammar.proofs.Rules.{parts_of, IsStart, a_type, empty_file, a_file, empty_program, a_program, is_start}
use Rattle.cd_grammar.proofs.SortedTokens.{IsProper}
use Rattle.cd_grammar.proofs.SortedSymbols.{row_fits}

-- a row that begins with a terminal begins with a token of it
first_token : (depth : ℕ) (xs : List Symbol) (entries : List Entry) (values : List Placed)
    → Row cduce_grammar depth xs entries values → (opens k : ℕ) (more : List Symbol) → xs ≡ Terminal opens k ∷ more
    → (first : Entry) (rest : List Entry) → entries ≡ first ∷ rest → kind_of first ≡ k
first_token _ _ _ _ (nothing depth) opens k more is first rest same = absurd cc
first_token _ _ _ _ (next depth _ xs _ b _ vs (one _ opens entry room) row_is) w k more is first rest same =
    let kinds : kind_of entry ≡ k = cc in
    let firsts : entry ≡ first = cc in
    sym (ap kind_of firsts) ∙ kinds
first_token _ _ _ _ (next depth _ xs _ b _ vs (made _ p entries values derived) row_is) w k more is first rest same =
    absurd cc

-- so no row of a goal begins with the terminal of another one
other_goal : (is : Goal) (k : ℕ) → nat_eq (terminal_of_goal is) k ≡ false → (depth : ℕ) (more : List Symbol)
    → (rest : List Entry) (values : List Placed) → Row cduce_grammar depth (Terminal 0 k ∷ more) (To is ∷ rest) values
    → ⊥
other_goal is k other depth more rest values row_is =
    let same : terminal_of_goal is ≡ k = first_token depth _ _ values row_is 0 k more refl (To is) rest refl in
    let no : false ≡ true = sym other ∙ eq-eqb (terminal_of_goal is) k same in
    absurd cc

-- a text is to be a type, a file or a program
abbrev pub sort_of_goal : Goal → Sort
sort_of_goal goal.TypeText = OfTree false
sort_of_goal goal.TypeFile = OfFile
sort_of_goal goal.ProgramText = OfProgram

module _ (facts : Facts) (kept : AreKept facts) where
  start_fits : (is : Goal) (p : ℕ) → IsStart p → (depth : ℕ) (rest : List Entry) (values : List Placed)
      → Row cduce_grammar depth (right tables p) (To is ∷ rest) values
      → AreFit facts (map sort_of (right tables p)) (parts_of values)
      → Fits facts (sort_of_goal is) (build p values).1
  start_fits goal.TypeText _ a_type depth rest values row_is are =
      made_fits facts kept false (OfTree false) (make.Two two.Second) (place_of values) (parts_of values) are
  start_fits goal.TypeText _ empty_file depth rest values row_is are =
      absurd (other_goal goal.TypeText _ refl depth _ rest values row_is)
  start_fits goal.TypeText _ a_file depth rest values row_is are =
      absurd (other_goal goal.TypeText _ refl depth _ rest values row_is)
  start_fits goal.TypeText _ empty_program depth rest values row_is are =
      absurd (other_goal goal.TypeText _ refl depth _ rest values row_is)
  start_fits goal.TypeText _ a_program depth rest values row_is are =
      absurd (other_goal goal.TypeText _ refl depth _ rest values row_is)
  start_fits goal.TypeFile _ a_type depth rest values row_is are =
      absurd (other_goal goal.TypeFile _ refl depth _ rest values row_is)
  start_fits goal.TypeFile _ empty_file depth rest values row_is are =
      made_fits facts kept false OfFile (make.One one.NoFile) (place_of values) (parts_of values) are
  start_fits goal.TypeFile _ a_file depth rest values row_is are =
      made_fits facts kept false OfFile (make.Two two.File) (place_of values) (parts_of values) are
  start_fits goal.TypeFile _ empty_program depth rest values row_is are =
      absurd (other_goal goal.TypeFile _ refl depth _ rest values row_is)
  start_fits goal.TypeFile _ a_program depth rest values row_is are =
      absurd (other_goal goal.TypeFile _ refl depth _ rest values row_is)
  start_fits goal.ProgramText _ a_type depth rest values row_is are =
      absurd (other_goal goal.ProgramText _ refl depth _ rest values row_is)
  start_fits goal.ProgramText _ empty_file depth rest values row_is are =
      absurd (other_goal goal.ProgramText _ refl depth _ rest values row_is)
  start_fits goal.ProgramText _ a_file depth rest values row_is are =
      absurd (other_goal goal.ProgramText _ refl depth _ rest values row_is)
  start_fits goal.ProgramText _ empty_program depth rest values row_is are =
      made_fits facts kept false OfProgram (make.One one.NoProgram) (place_of values) (parts_of values) are
  start_fits goal.ProgramText _ a_program depth rest values row_is are =
      made_fits facts kept false OfProgram (make.Two two.Second) (place_of values) (parts_of values) are

  -- what it is as a whole
  pub whole_fits : (is : Goal) (depth : ℕ) (rest : List Entry) (v : Placed) → AllOf (IsProper facts.of_label) rest
      → Whole cduce_grammar depth (To is ∷ rest) v → Fits facts (sort_of_goal is) v.1
  whole_fits is depth rest v are derived =
      let (p, same, values, row_is, made_so) =
      whole_by_text tables (terminal_of_goal goal.TypeText) tables.start refl kind_of value_of is_free build depth
      (To is ∷ rest) v derived in
      let fits = row_fits facts kept depth (right tables p) (To is ∷ rest) values row_is (tt, are) in
      subst (λ w. Fits facts (sort_of_goal is) w.1) (sym made_so)
      (start_fits is p (is_start p same) depth rest values row_is fits)
