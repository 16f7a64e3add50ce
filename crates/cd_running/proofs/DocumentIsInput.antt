-- The documents of the workload are in the type `Log`, which `main` takes.
use Rattle.std.proofs.Common.{ℕ, zero, suc, pos, ◌+◌, ◌≤◌, ◌%◌, ◌||◌, true, false, map, inl, refl, ap, arith}
use Rattle.std.specs.Prelude.{codes}
use Rattle.cd_syntax.specs.declared.builtin.BuiltinName.TheVariants as builtin
use Rattle.cd_syntax.specs.TypeTree.{Named}
use Rattle.cd_model.specs.AllOf.{AllOf}
use Rattle.cd_model.specs.Scope.{Scope}
use Rattle.cd_model.specs.Thing.{Thing}
use Rattle.cd_model.specs.Types.{Presentation, no_closure, element_answers}
use Rattle.cd_model.specs.Written.{WrittenType, type_named, in_written, written, within}
use Rattle.cd_grammar.specs.TreesAt.{ints_at}
use Rattle.cd_typing.specs.Typed.{scope_of}
use Rattle.cd_running.specs.Input.{argument, IsInput}
use Rattle.cd_safety.specs.SafeProgram.{IsDocument}
use Rattle.cd_running.specs.Workload.{numbers}
use Rattle.cd_running.specs.Inner.WorkProgram.{work_program, main, signature}
use Rattle.cd_running.specs.Inner.WorkValues.{integer, held, entry, entries, document}
use Rattle.cd_running.proofs.DocumentIsValue.{is_integer, document_is_data, document_is_element}
use Rattle.cd_running.proofs.HeldThings.{sequence_in, one_field}
use Rattle.cd_running.proofs.ValueTests.{integer_between}

abbrev work_scope : Scope
work_scope = scope_of work_program

-- with both declared names to use up
abbrev at_types : Presentation WrittenType
at_types = written 2

-- the types `Int` and `Entry` as the declarations see them; no place matters
abbrev int_type : WrittenType
int_type = within work_scope (ints_at 0)

abbrev entry_named : WrittenType
entry_named = record { scope = work_scope; kind = Named (codes "Entry") }

-- what is in a type
abbrev In : WrittenType → Thing → Type 0
In type d = element_answers at_types d type true

integer_in : (n : ℕ) → n ≤ 1000000 → In int_type (integer n)
integer_in n small = ap (λ b. b || false) (integer_between (pos n) (is_integer n small))

-- what an entry holds, an entry, and so many entries from a number on
numbers_in : (left number : ℕ) → number ≤ 100000 → AllOf (In int_type) (map integer (numbers left number))
numbers_in zero number small = tt
numbers_in (suc zero) number small = (integer_in number (omega (arith, small)), tt)
numbers_in (suc (suc left)) number small =
    (integer_in number (omega (arith, small)), (integer_in (suc number) (omega (arith, small)), tt))

entry_in : (number : ℕ) → number ≤ 100000 → In entry_named (entry number)
entry_in number small = (
  refl,
  one_field at_types no_closure (codes "n") (integer number) (record { optional = false; type = int_type })
      (type_named builtin.Empty) (integer_in number (omega (arith, small))),
  sequence_in at_types no_closure int_type (held number) (numbers_in (number % 3) number small),
)

entries_in : (first count : ℕ) → first + count ≤ 100000 → AllOf (In entry_named) (entries first count)
entries_in first zero small = tt
entries_in first (suc count) small =
    (entry_in first (omega (arith, small)), entries_in (suc first) count (omega (arith, small)))

-- the document is in the argument of the arrow of `main`
pub document_in : (size : ℕ) → size ≤ 100000 → in_written (document size) (argument work_program signature) true
document_in size small = (
  refl,
  λ label. refl,
  sequence_in at_types no_closure entry_named (entries zero size) (entries_in zero size (omega (arith, small))),
)

pub document_is_input : (size : ℕ) → size ≤ 100000 → IsInput work_program main (document size)
document_is_input size small = inl (document_in size small)

-- it is an element, and data
pub is_document : (size : ℕ) → size ≤ 100000 → IsDocument (document size)
is_document size small = record { element = document_is_element size small; plain = document_is_data size }
