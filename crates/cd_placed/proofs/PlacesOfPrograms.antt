-- No two functions of a program that a text writes stand at one place, and no two of its patterns begin at one.
use Rattle.std.proofs.Common.{arith, ◌≡◌, sym, ap, subst, refl, ℕ, suc, ◌<◌, false, List, ◌∷◌, map}
use Rattle.std.specs.Prelude.{flat_map}
use Rattle.cd_syntax.specs.declared.tokens.Token.{Token}
use Rattle.cd_syntax.specs.Tokens.{Lexes}
use Rattle.cd_program.specs.Expr.{Expr, FunctionTree, Program}
use Rattle.cd_evaluation.specs.ProgramFunctions.{all_functions, PlacesDiffer}
use Rattle.cd_placed.specs.Patterns.{all_patterns, StartsDiffer}
use Rattle.cd_lr.specs.Grammar.{Symbol, Terminal, one, made, Row, nothing, next, Whole}
use Rattle.cd_lr.specs.Tables.{right}
use Rattle.cd_lr.proofs.GoalsFirst.{whole_by_text}
use Rattle.cd_grammar.specs.declared.goal.Goal.{Goal}
use Rattle.cd_grammar.specs.declared.goal.Goal.TheVariants as goal
use Rattle.cd_grammar.specs.Parts.{AProgram}
use Rattle.cd_grammar.specs.Terminals.{terminal_of_goal}
use Rattle.cd_grammar.specs.Language.{Entry, To, Read, Placed, kind_of, value_of, is_free, place_of, build, cduce_grammar}
use Rattle.cd_grammar.specs.Language.{IsProgram}
use Rattle.cd_grammar.specs.Tables.{tables}
use Rattle.cd_placed.proofs.Once.{Stands, longer}
use Rattle.cd_placed.proofs.HeldPlaces.{IsWalk, held, all_held}
use Rattle.cd_grammar.proofs.Rules.{parts_of}
use Rattle.cd_grammar.proofs.Rules.{IsStart, a_type, empty_file, a_file, empty_program, a_program, is_start}
use Rattle.cd_placed.proofs.PlacesInOrder.{StandInOrder, all_stand, rule_keeps, row_within}
use Rattle.cd_placed.proofs.TokensInOrder.{tokens_in_order}
use Rattle.cd_placed.proofs.FunctionPlaces.{function_places, places_of_function, functions_walk}
use Rattle.cd_placed.proofs.PatternStarts.{pattern_starts, starts_of_function, patterns_walk}
use Rattle.cd_placed.proofs.DifferentPlaces.{functions_differ, patterns_differ}

module _ (E : Expr → List ℕ) (F : FunctionTree → List ℕ) (walk : IsWalk E F) where
  -- the parts of a whole hold places that stand once, and what the text is to be stands before them
  record AreOfWhole (values : List Placed) (to : ℕ) : Type 0 where
    begins : (place_of values).from ≡ 0
    stand : Stands 0 (all_held E F (parts_of values)) to

  behind_goal : (depth : ℕ) (xs : List Symbol) (entries : List Entry) (values : List Placed)
      → Row cduce_grammar depth xs entries values → (w k : ℕ) (more : List Symbol) → xs ≡ Terminal w k ∷ more
      → (is : Goal) (rest : List Entry) → entries ≡ To is ∷ rest → (to : ℕ) → StandInOrder 0 rest to
      → AreOfWhole values to
  behind_goal _ _ _ _ (nothing depth) w k more same is rest all to stand = cc
  behind_goal _ _ _ _ (next depth _ xs _ b _ vs (one _ opens entry room) row_is) w k more same is rest all to stand =
      let first : entry ≡ To is = cc in
      let others : b ≡ rest = cc in
      let are = row_within E F walk _ xs b vs row_is 0 to (subst (λ es. StandInOrder 0 es to) (sym others) stand) in
      record {
        begins = ap (λ e. (value_of e).0.from) first;
        stand = subst (λ e. Stands 0 (all_held E F (parts_of (value_of e ∷ vs))) to) (sym first)
            (all_stand E F walk 0 to vs are.1);
      }
  behind_goal _ _ _ _ (next depth _ xs _ b _ vs (made _ p es values derived) row_is) w k more same is rest all to stand =
      cc

  of_whole : (p : ℕ) → IsStart p → (is : Goal) (depth : ℕ) (rest : List Entry) (values : List Placed)
      → Row cduce_grammar depth (right tables p) (To is ∷ rest) values → (to : ℕ) → StandInOrder 0 rest to
      → AreOfWhole values to
  of_whole _ a_type is depth rest values row_is to stand =
      behind_goal depth _ _ values row_is _ _ _ refl is rest refl to stand
  of_whole _ empty_file is depth rest values row_is to stand =
      behind_goal depth _ _ values row_is _ _ _ refl is rest refl to stand
  of_whole _ a_file is depth rest values row_is to stand =
      behind_goal depth _ _ values row_is _ _ _ refl is rest refl to stand
  of_whole _ empty_program is depth rest values row_is to stand =
      behind_goal depth _ _ values row_is _ _ _ refl is rest refl to stand
  of_whole _ a_program is depth rest values row_is to stand =
      behind_goal depth _ _ values row_is _ _ _ refl is rest refl to stand

  whole_stands : (is : Goal) (depth : ℕ) (rest : List Entry) (v : Placed) → Whole cduce_grammar depth (To is ∷ rest) v
      → (to : ℕ) → StandInOrder 0 rest to → Stands 0 (held E F v.1) (suc to)
  whole_stands is depth rest v derived to stand =
      let (p, same, values, row_is, made_so) =
      whole_by_text tables (terminal_of_goal goal.TypeText) tables.start refl kind_of value_of is_free build depth
      (To is ∷ rest) v derived in
      let are = of_whole p (is_start p same) is depth rest values row_is to stand in
      let here : (place_of values).from < suc to = omega (arith, are.begins) in
      subst (λ w. Stands 0 (held E F w.1) (suc to)) (sym made_so)
      ((rule_keeps E F walk p values).stand 0 (suc to) (omega arith) here
      (longer 0 to (suc to) (all_held E F (parts_of values)) (omega arith) are.stand))

  -- the places of a program
  program_stands : (text : List ℕ) (tokens : List Token) (depth : ℕ) (program : Program) → Lexes false 0 text tokens
      → IsProgram depth tokens program → (to : ℕ) × Stands 0 (flat_map F program.functions) to
  program_stands text tokens depth program lexes (types, same, written) =
      let (to, stand) = tokens_in_order false 0 text tokens lexes in (
        suc to,
        whole_stands goal.ProgramText depth (map Read tokens) (written.0, AProgram types program.functions) written.1 to stand,
      )

pub functions_stand_apart : (text : List ℕ) (tokens : List Token) (depth : ℕ) (program : Program)
    → Lexes false 0 text tokens → IsProgram depth tokens program → PlacesDiffer (all_functions program)
functions_stand_apart text tokens depth program lexes written =
    let (to, stand) =
    program_stands function_places places_of_function functions_walk text tokens depth program lexes written in
    functions_differ 0 to program.functions stand

pub patterns_begin_apart : (text : List ℕ) (tokens : List Token) (depth : ℕ) (program : Program)
    → Lexes false 0 text tokens → IsProgram depth tokens program → StartsDiffer (all_patterns program)
patterns_begin_apart text tokens depth program lexes written =
    let (to, stand) =
    program_stands pattern_starts starts_of_function patterns_walk text tokens depth program lexes written in
    patterns_differ 0 to program.functions stand
