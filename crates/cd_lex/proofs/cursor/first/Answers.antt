use Rattle.std.specs.Str.Iter.{chars_rest}
use Rattle.cd_lex.proofs.Stepping.{stepped}
use Rattle.cd_lex.proofs.cursor.first.Goals as goal

pub returns : goal.returns
returns c = stepped chars_rest _ _ _ _ _ c.chars-left.ensures.rest c.as_str.ensures c.utf8.text c.next-found.ensures.steps.0
