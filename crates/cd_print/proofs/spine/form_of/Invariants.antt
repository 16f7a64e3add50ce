use Rattle.std.proofs.Common.{◌≡◌}
use Rattle.cd_print.specs.Inner.Texts.{spine_at, others}
use Rattle.cd_print.specs.Inner.Looks.{form_after, form_of}
use Rattle.cd_print.proofs.spine.form_of.Given as goal

-- the pairs that are left are written as all are
abbrev pub invariant-loop-rest : goal.invariant-loop-rest
invariant-loop-rest l =
    let left = spine_at l.values l.next in
    let all = spine_at l.values l.fn.id in
    form_after l.letters (others left.parts) left.end ≡ form_of (others all.parts) all.end

abbrev pub decreases-loop-rest : goal.decreases-loop-rest
decreases-loop-rest l = l.next.0
