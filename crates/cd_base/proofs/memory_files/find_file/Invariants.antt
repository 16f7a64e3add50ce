use Rattle.std.proofs.Common.{◌≡◌, drop}
use Rattle.cd_base.specs.MemoryFilesState.{contents, held}
use Rattle.cd_base.proofs.memory_files.find_file.Given as goal

-- what is left of the files holds of the name what all of them do
abbrev pub invariant-loop-file : goal.invariant-loop-file
invariant-loop-file l = held (contents (drop l.file-index l.files)) l.name ≡ held (contents l.fn.files) l.name
