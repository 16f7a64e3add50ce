use Rattle.std.proofs.Common.{◌∙◌}
use Rattle.cd_syntax.proofs.SameNames.{same_names}
use Rattle.cd_resolve.proofs.key.KeyPartialEq.eq.Goals as goal

-- equal texts are equal names, and unequal ones unequal names
pub returns : goal.returns
returns c = let e = same_names c.as_str.result.now c.as_str-2.result.now c.as_str.utf8 c.as_str-2.utf8 in
    rw (c.as_str.ensures, c.as_str-2.ensures) at (c.eq.ensures ∙ e)
