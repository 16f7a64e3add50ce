use Rattle.std.proofs.Common.{sym, ◌∙◌}
use Rattle.cd_lex.proofs.WordPrefixes.{word_taken_off}
use Rattle.cd_lex.proofs.word.take_word.Goals as goal

pub returns-in-Some : goal.returns-in-Some
returns-in-Some c =
    word_taken_off _ c.in-Some.c _ _ _ (sym c.again.ensures ∙ c.in-Some.ensures)
    (sym c.begins_word.ensures ∙ c.if-begins_word.true) c.take_run.ensures.run
    c.take_run.ensures.rest
