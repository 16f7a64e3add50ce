use Rattle.std.proofs.Common.{◌≡◌, [], ◌∷◌, ◌++◌, drop}
use Rattle.std.specs.List.{join_by}
use Rattle.cd_model.specs.Canonical.{escaped}
use Rattle.cd_elements.proofs.quote.push_quoted.Given as goal

-- what is written and the characters that are left are all of them after the quote
abbrev pub invariant-loop-c : goal.invariant-loop-c
invariant-loop-c l =
    let text = join_by (escaped l.quote) [] in
    l.output ++ text (drop l.c-index l.characters) ≡ l.fn.output ++ (l.quote ∷ text l.characters)
