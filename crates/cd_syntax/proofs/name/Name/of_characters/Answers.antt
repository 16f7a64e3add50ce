use Rattle.std.proofs.Common.{sym, ◌∙◌, ap, drop_of_length-le, ◌++◌, string_bytes, encode_utf8_all}
use Rattle.std.proofs.lemmas.List.{append-nil}
use Rattle.std.proofs.lemmas.Str.{chars_from_encodes, IsUtf8-string_bytes}
use Rattle.cd_syntax.proofs.name.Name.of_characters.Goals as goal

-- no character is left, so the text is that of all
pub returns : goal.returns
returns c =
    let written = string_bytes c.loop-c.text in
    let all = sym c.loop-c.invariant ∙ ap (λ left. written ++ encode_utf8_all left) (drop_of_length-le c.args.characters.now c.loop-c-test.false) ∙ append-nil written in
    sym (chars_from_encodes c.args.characters.now written (IsUtf8-string_bytes c.loop-c.text) all)
