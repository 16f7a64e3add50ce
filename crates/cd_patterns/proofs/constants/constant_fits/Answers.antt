use Rattle.std.proofs.Common.{sym, subst}
use Rattle.cd_patterns.specs.Inner.Fitting.{Fits}
use Rattle.cd_patterns.proofs.RowsFit.{text_is_element}
use Rattle.cd_patterns.proofs.constants.constant_fits.Goals as goal

pub returns-in-Text : goal.returns-in-Text
returns-in-Text c = subst Fits (sym c.in-Text.is)
    (text_is_element c.as_str-text.result.now c.in-Text.text c.as_str-text.utf8
    c.as_str-text.ensures)
