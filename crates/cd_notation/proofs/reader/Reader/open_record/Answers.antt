use Rattle.std.proofs.Common.{refl}
use Rattle.cd_notation.proofs.Putting.{stands_by}
use Rattle.cd_notation.proofs.Stepping.{opened_record}
use Rattle.cd_notation.proofs.reader.Reader.open_record.Goals as goal

pub returns : goal.returns
returns c = record {
  leads = λ values trees are.
      stands_by _ _ _ _ _ _ _ c.in_ok-push.ensures.added refl refl (opened_record values _ _ _ trees are _ _ c.len-first.ensures c.len.ensures);
}
