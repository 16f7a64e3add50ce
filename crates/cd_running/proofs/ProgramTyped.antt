-- The typing rules type the program of the workload.
use Rattle.std.proofs.Common.{◌≡◌, List, [], ◌∷◌, pos, codes, refl, sym, subst, ap, ◌∙◌, lit<}
use Rattle.cd_syntax.specs.TypeTree as type
use Rattle.cd_syntax.specs.TypeTree.{Tree, tree}
use Rattle.cd_syntax.specs.declared.builtin.BuiltinName.TheVariants as builtin
use Rattle.cd_syntax.specs.declared.tokens.Span.{Span}
use Rattle.cd_syntax.specs.declared.constant.Constant.TheVariants as constant
use Rattle.cd_model.specs.BuiltIns.{node, INT}
use Rattle.cd_model.specs.Thing.{Thing, IsElement}
use Rattle.cd_model.specs.Written.{in_written}
use Rattle.cd_matching.specs.Sequences.{thing_of, sequence_of}
use Rattle.cd_matching.specs.WrittenPattern.{pattern_of}
use Rattle.cd_matching.proofs.CapturedVariables.{nothing_else_answers}
use Rattle.cd_meaning.specs.Sequences.{IsListOf}
use Rattle.cd_meaning.specs.Sets.{◌⊆◌}
use Rattle.cd_program.specs.Expr.{Expr, AnItem, NoItem, One}
use Rattle.cd_typing.specs.Branches.{HoldCaptured}
use Rattle.cd_typing.specs.Results.{IsSequenceOf, Make}
use Rattle.cd_typing.specs.Typ.{In, Types, AreIn}
use Rattle.cd_typing.specs.Typed.{IsTyped}
use Rattle.cd_typing.specs.Typing.{Has, BodiesHave, FunctionHas}
use Rattle.cd_typing.proofs.Subsets.{itself}
use Rattle.cd_running.specs.Inner.WorkProgram.{work_program, main, body, entry_branches, entry_pattern, only_zero}
use Rattle.cd_running.proofs.EntryCaptured as entries
use Rattle.cd_running.proofs.EntryCaptured.{integer_in}
use Rattle.cd_running.proofs.LogTaken as logs
use Rattle.cd_running.proofs.WorkInterface.{arrows, arrows_are, intersection, of_interface, gives_data}
use Rattle.cd_running.proofs.WorkLists.{sequence_in, integers_within, lists_of_integers, entries_within}
use Rattle.cd_running.proofs.WorkStands.{scope}
use Rattle.cd_running.proofs.PatternTests.{is_integer}
use Rattle.cd_running.proofs.WorkTypes.{graph, INTS, ENTRY, ENTRIES, is_type, an_integer, some_integers, entry, some_entries, self}

-- a constant that is an integer, and the sequence of it
zero_in : (λ d. d ≡ thing_of (constant.Int (pos 0))) ⊆ In an_integer
zero_in e element same = integer_in e element (ap is_integer same)

integer_alone : (ds made : List Thing) (e : Expr) → AreIn (an_integer ∷ []) ds → Make (AnItem (One e) NoItem) ds made
    → In some_integers (sequence_of made)
integer_alone [] made e are make = absurd are
integer_alone (d ∷ []) made e are make = subst (λ made. In some_integers (sequence_of made))
    (sym (make.2 ∙ ap (λ others. d ∷ others) make.1)) (sequence_in graph INT (node 15) refl INTS refl (d ∷ []) (are.1, tt))
integer_alone (d ∷ other ∷ ds) made e are make = absurd are.2

alone_within : (e : Expr) → IsSequenceOf (AnItem (One e) NoItem) (an_integer ∷ []) ⊆ In some_integers
alone_within e d element is = subst (In some_integers) (sym is.4) (integer_alone is.0 is.1 e is.2 is.3)

-- where names have any types
module _ (types : Types) where
  zero_has : Has scope types only_zero some_integers
  zero_has = (an_integer ∷ [], (is_type INT (lit< tt), zero_in, tt), alone_within only_zero)

  -- the branches of `transform`
  any_captured : (span : Span) → HoldCaptured scope [] (entry_pattern ∷ []) (tree span (type.Builtin builtin.Any)) (In entry)
  any_captured span e captures first name = nothing_else_answers in_written IsElement
      (pattern_of scope (tree span (type.Builtin builtin.Any))) e captures name first.takes refl

  branches_have : BodiesHave scope types [] (In entry) entry_branches (IsListOf (In an_integer))
  branches_have = (
    λ e captures first. (
      entries.own,
      some_integers,
      entries.own_are_types,
      entries.holds_captured,
      is_type INTS (lit< tt),
      (some_integers, refl, itself (In some_integers)),
      integers_within,
    ),
    (
      λ e captures first. ([], some_integers, tt, any_captured _, is_type INTS (lit< tt), zero_has, integers_within),
      tt,
    ),
  )

-- the body of `main`, and `main`
body_has : (types : Types) → Has scope ((codes "c", some_entries) ∷ types) body some_integers
body_has types = (
  some_entries,
  entry,
  an_integer,
  is_type ENTRIES (lit< tt),
  (some_entries, refl, itself (In some_entries)),
  is_type ENTRY (lit< tt),
  entries_within,
  is_type INT (lit< tt),
  branches_have ((codes "c", some_entries) ∷ types),
  lists_of_integers,
)

main_has : (types : Types) → FunctionHas scope types main self
main_has types = (
  arrows,
  self,
  arrows_are,
  intersection,
  (
    (
      logs.covers,
      (
        λ e captures first. (
          logs.own,
          some_integers,
          (is_type ENTRIES (lit< tt), tt),
          logs.holds_captured,
          is_type INTS (lit< tt),
          body_has ((codes "main", self) ∷ types),
          itself (In some_integers),
        ),
        tt,
      ),
    ),
    tt,
  ),
  itself (In self),
)

abbrev declared : Types
declared = (codes "main", self) ∷ []

pub program_is_typed : IsTyped work_program
program_is_typed = record {
  types = declared;
  declared = (refl, of_interface, tt);
  functions = ((self, of_interface, main_has declared), tt);
  main = (gives_data, tt);
}
