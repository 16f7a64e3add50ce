use Rattle.std.proofs.Common.{◌≡◌, ◌++◌, string_bytes}
use Rattle.std.specs.Prelude.{codes}
use Rattle.cd_running.specs.Workload.{spaced, entry_texts}
use Rattle.cd_running.proofs.workload.document.work_document.Given as goal

-- the text holds the entries of the numbers so far
abbrev pub invariant-loop-number : goal.invariant-loop-number
invariant-loop-number l = string_bytes l.text ≡ codes "<log>[" ++ spaced (entry_texts 0 l.number)
