use Rattle.std.proofs.Common.{refl}
use Rattle.cd_notation.proofs.Growth.{open_grown}
use Rattle.cd_notation.proofs.Putting.{stands_by}
use Rattle.cd_notation.proofs.Stepping.{opened_tag}
use Rattle.cd_notation.proofs.reader.Reader.tag.Goals as goal

pub returns-clause-leads : goal.returns-clause-leads
returns-clause-leads c = λ trees are.
    stands_by _ _ _ _ _ _ _ c.in_ok-push.ensures.added refl refl
    (opened_tag _ _ _ _ trees (open_grown _ _ c.in_ok-tag.ensures.grows _ _ _ trees are) _ _ _ _ c.in_ok-tag.ensures.is c.len-first.ensures c.len.ensures)
