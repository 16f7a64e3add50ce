use Rattle.std.proofs.Common.{ap, sym, ◌∙◌, string_bytes}
use Rattle.std.specs.Prelude.{encode_utf8_all}
use Rattle.std.proofs.lemmas.Str.{encodes-chars, IsUtf8-string_bytes}
use Rattle.cd_elements.proofs.output.Output.into_text.Goals as goal

pub returns : goal.returns
returns c =
    let text = c.self.inside.text in
    sym (encodes-chars (string_bytes text) (IsUtf8-string_bytes text)) ∙ ap encode_utf8_all c.self.view_is
