use Rattle.std.proofs.Common.{◌≡◌, ◌∷◌, ◌++◌}
use Rattle.cd_print.specs.Inner.Texts.{spine_at, letters, others, escapes}
use Rattle.cd_print.proofs.spine.write_letters.Given as goal

-- what is written and the characters that are left are all
abbrev pub invariant-loop-c : goal.invariant-loop-c
invariant-loop-c l =
    let left = (spine_at l.values l.next).parts in
    let all = (spine_at l.values l.fn.id).parts in
    record {
      text : l.output ++ escapes l.quote (letters left) ≡ l.fn.output ++ (l.quote ∷ escapes l.quote (letters all));
      rest : others left ≡ others all;
    }

abbrev pub decreases-loop-c : goal.decreases-loop-c
decreases-loop-c l = l.next.0
