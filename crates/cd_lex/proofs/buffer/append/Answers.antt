use Rattle.std.proofs.lemmas.Str.{IsUtf8-string_bytes}
use Rattle.cd_lex.proofs.Stepping.{extended}
use Rattle.cd_lex.proofs.buffer.append.Goals as goal

pub returns : goal.returns
returns c =
    extended _ _ _ _ c.args.c (IsUtf8-string_bytes c.args.text.now)
    (IsUtf8-string_bytes c.push.new.self) c.in_ok-push.ensures.bytes
    c.in_ok-push_str.ensures.bytes
