use Rattle.std.proofs.Common.{◌≡◌, ◌++◌, map, drop, string_bytes}
use Rattle.std.specs.Prelude.{codes}
use Rattle.cd_tour.specs.CommandLine.{spaced}
use Rattle.cd_tour.proofs.line.command_line.Given as goal

-- the line so far, and the words that are left, are the whole
abbrev pub invariant-loop-word : goal.invariant-loop-word
invariant-loop-word l = string_bytes l.line ++ spaced (map (λ word. word.now) (drop l.word-index l.words))
    ≡ codes "cduce" ++ spaced (map (λ word. word.now) l.words)
