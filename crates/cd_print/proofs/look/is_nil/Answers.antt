use Rattle.std.proofs.Common.{ap, ◌∙◌, bytes_eq}
use Rattle.std.specs.Prelude.{codes}
use Rattle.cd_print.proofs.NilSpelled.{nil_spelled}
use Rattle.cd_print.proofs.look.is_nil.Goals as goal

pub returns : goal.returns
returns c =
    c.eq.ensures ∙ nil_spelled c.name_of.result.now c.name_of.utf8 ∙ ap (λ name. bytes_eq name (codes "nil")) c.name_of.ensures
