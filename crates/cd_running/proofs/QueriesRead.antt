-- The texts of the queries read as their types.
use Rattle.std.proofs.Common.{◌≡◌, refl, subst, ℕ, ◌≤◌, length, arith}
use Rattle.std.specs.Fmt.{decimal, digits}
use Rattle.cd_syntax.specs.TypeTree.{NoDeclaration}
use Rattle.cd_syntax.specs.WellMade.{IsWellMade}
use Rattle.cd_resolve.specs.Faults.{Fault, IsFaultOfType}
use Rattle.cd_replies.specs.Texts.{ReadsAs, type_of}
use Rattle.cd_running.specs.Workload.{query_text, wanted_text}
use Rattle.cd_running.specs.Inner.WorkQueries.{query_tree}
use Rattle.cd_running.proofs.QueriesSound.{integers_are_well_made, no_fault}
use Rattle.cd_running.proofs.QueriesSpelled.{query_spelled}
use Rattle.cd_running.proofs.QueriesWritten.{query_tokens, query_written}

pub query_reads : (number : ℕ) → number ≤ 100000 → ReadsAs NoDeclaration (query_text number) (type_of NoDeclaration (query_tree number))
query_reads number small = record {
  tokens = query_tokens (length (decimal number)) number;
  spelled = query_spelled number (omega (arith, small));
  tree = query_tree number;
  written = query_written (length (decimal number)) number;
  sound = no_fault (length (decimal number)) number;
  means = refl;
}

-- what is asked for is what the query of 99 asks of
wanted_is : query_text 99 ≡ wanted_text
unfolding digits
wanted_is = refl

pub wanted_reads : ReadsAs NoDeclaration wanted_text (type_of NoDeclaration (query_tree 99))
wanted_reads =
    subst (λ text. ReadsAs NoDeclaration text (type_of NoDeclaration (query_tree 99))) wanted_is
    (query_reads 99 (omega arith))

-- and these types are well made
pub query_is_well_made : (number : ℕ) → number ≤ 100000 → IsWellMade (query_tree number)
query_is_well_made number small = integers_are_well_made (length (decimal number)) number

-- no naming fault stands in them
pub query_is_sound : (number : ℕ) (fault : Fault) → IsFaultOfType NoDeclaration (query_tree number) fault → ⊥
query_is_sound number = no_fault (length (decimal number)) number
