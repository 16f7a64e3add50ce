use Rattle.std.proofs.Common.{Some, cond, ap, ◌∙◌}
use Rattle.std.specs.Prelude.{bytes_eq}
use Rattle.std.specs.Str.{chars}
use Rattle.indexmap.specs.IndexMap.{get}
use Rattle.cd_syntax.proofs.SameNames.{same_names}
use Rattle.cd_resolved.specs.Inner.Keys.{same_key}
use Rattle.cd_resolved.proofs.parts.functions.enter.Goals as goal

-- texts are equal where their names are
pub returns : goal.returns
returns c key utf8 =
    let same = same_names c.as_str.result.now key.text.now c.as_str.utf8 utf8
    ∙ ap (λ name. bytes_eq name (chars key.text.now)) c.as_str.ensures in
    c.in_ok-insert.ensures.updates.0 key
    ∙ ap (λ is. cond is (Some c.args.at) (get same_key c.args.places.now key)) same
