use Rattle.cd_notation.proofs.Stepping.{full_by, tag_full}
use Rattle.cd_notation.proofs.reader.Reader.is_full.Goals as goal

pub returns-in-Tag : goal.returns-in-Tag
returns-in-Tag c = λ values trees are. tag_full _ _ _ _ _ _ trees _ c.len.ensures c.in-Tag.is are

pub returns-in_default : goal.returns-in_default
returns-in_default c = λ values trees are. full_by _ _ _ _ _ _ trees _ c.len-in_default.ensures c.in_default.not-Tag are
