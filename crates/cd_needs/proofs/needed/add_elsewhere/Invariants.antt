use Rattle.std.proofs.Common.{◌≡◌, ◌++◌, [], ◌∷◌, map, drop}
use Rattle.cd_rules.specs.Needs.{question}
use Rattle.cd_rules.specs.Rows.{types_elsewhere}
use Rattle.cd_needs.specs.PlainReasons.{plain_reasons}
use Rattle.cd_needs.proofs.needed.add_elsewhere.Given as goal

-- the questions so far, and those of the types that are left, are all
abbrev pub invariant-loop-chosen : goal.invariant-loop-chosen
invariant-loop-chosen l = l.questions.items
    ++ map (λ type. question l.rests (type.rest ∷ [])) (types_elsewhere (plain_reasons (drop l.chosen-index l.reasons)))
    ≡ l.fn.questions.items ++ map (λ type. question l.fn.rests (type.rest ∷ [])) (types_elsewhere (plain_reasons l.fn.reasons))
