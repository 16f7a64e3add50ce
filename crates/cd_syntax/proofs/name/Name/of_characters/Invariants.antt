use Rattle.std.proofs.Common.{◌≡◌, ◌++◌, drop, string_bytes, encode_utf8_all}
use Rattle.cd_syntax.proofs.name.Name.of_characters.Given as goal

-- the text so far and that of the characters that are left are the text of all
abbrev pub invariant-loop-c : goal.invariant-loop-c
invariant-loop-c l = (string_bytes l.text ++ encode_utf8_all (drop l.c-index l.characters)) ≡ encode_utf8_all l.fn.characters
