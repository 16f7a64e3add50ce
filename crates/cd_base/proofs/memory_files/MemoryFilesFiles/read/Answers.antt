use Rattle.cd_base.proofs.memory_files.MemoryFilesFiles.read.Goals as goal

pub returns-clause-failed_as_planned : goal.returns-clause-failed_as_planned
returns-clause-failed_as_planned c =
    λ is. rw (← c.self.view_is) (rw (c.as_slice-files.ensures.value, c.as_slice.ensures.value) at c.in_default.ensures)
