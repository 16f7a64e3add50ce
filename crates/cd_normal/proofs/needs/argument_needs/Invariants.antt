use Rattle.std.proofs.Common.{◌≡◌, [], ◌∷◌, ◌++◌, map, drop}
use Rattle.cd_rules.specs.Needs.{question}
use Rattle.cd_normal.proofs.needs.argument_needs.Given as goal

-- the questions so far, and those of the arrows that are left, are all
abbrev pub invariant-loop-parts : goal.invariant-loop-parts
invariant-loop-parts l =
    l.needs.items ++ map (λ parts. question (parts.0 ∷ []) []) (drop l.parts-index l.refused)
    ≡ map (λ parts. question (parts.0 ∷ []) []) l.fn.refused
