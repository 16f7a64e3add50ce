use Rattle.std.proofs.Common.{refl}
use Rattle.cd_notation.proofs.Putting.{stands_by}
use Rattle.cd_notation.proofs.Stepping.{opened_tuple}
use Rattle.cd_notation.proofs.reader.Reader.open_tuple.Goals as goal

pub returns : goal.returns
returns c = record {
  leads = λ values trees are. stands_by _ _ _ _ _ _ _ c.in_ok-push.ensures.added refl refl (opened_tuple values _ _ _ trees are _ c.len.ensures);
}
