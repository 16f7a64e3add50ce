use Rattle.std.proofs.Common.{sym, subst}
use Rattle.cd_model.specs.Thing.{IsElement}
use Rattle.cd_matching.specs.Sequences.{thing_of}
use Rattle.cd_syntax.specs.declared.constant.Constant.{Constant}
use Rattle.cd_patterns.proofs.RowsFit.{text_is_element}
use Rattle.cd_check.proofs.constant.is_element.Goals as goal

pub returns-in-Text : goal.returns-in-Text
returns-in-Text c = subst (λ (is : Constant). IsElement (thing_of is)) (sym c.in-Text.is)
    (text_is_element c.as_str-text.result.now c.in-Text.text c.as_str-text.utf8 c.as_str-text.ensures)
