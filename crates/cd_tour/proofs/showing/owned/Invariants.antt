use Rattle.std.proofs.Common.{◌≡◌, map, take}
use Rattle.cd_driver.specs.Command.{texts}
use Rattle.cd_tour.proofs.showing.owned.Given as goal

-- the words so far
abbrev pub invariant-loop-word : goal.invariant-loop-word
invariant-loop-word l = texts l.made.items ≡ map (λ word. word.now) (take l.word-index l.words)
