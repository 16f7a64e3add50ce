use Rattle.std.proofs.Common.{ap, subst, sym, ◌∙◌, ◌∷◌}
use Rattle.cd_syntax.specs.declared.tokens.TokenKind.TheVariants.{Text}
use Rattle.cd_lex.specs.Inner.Standing.{IsTokenTo}
use Rattle.cd_lex.proofs.WordPrefixes.{word_taken_off, word_token, small_number}
use Rattle.cd_lex.proofs.PiecePrefixes.{text_stands}
use Rattle.cd_lex.proofs.next_token.take_simple.Goals as goal

pub returns-then-begins_word : goal.returns-then-begins_word
returns-then-begins_word c = λ joined.
    let at = sym c.again-ahead.ensures ∙ c.in_ok-c.ensures in
    let begins = sym c.begins_word.ensures ∙ c.if-begins_word.true in
    let word = c.set.ensures ∙ c.take_run.ensures.run in
    word_token joined _ _ _ (word_taken_off _ c.in_ok-c.c _ _ _ at begins word
    c.take_run.ensures.rest)

pub returns-then-is_ascii_digit : goal.returns-then-is_ascii_digit
returns-then-is_ascii_digit c = λ joined.
    let at = sym c.again-ahead.ensures ∙ c.in_ok-c.ensures
    ∙ ap (λ rest. c.in_ok-c.c ∷ rest) (sym c.in_default.ensures.0) in
    let digit = sym c.is_ascii_digit.ensures.value ∙ c.if-is_ascii_digit.true in
    let number = c.in_ok-value.ensures in
    small_number joined _ _ _ _ _ _ at digit number.0 number.1 number.2 c.from.ensures

pub returns : goal.returns
returns c = λ joined.
    let rest = c.take_sign.new.cursor in
    let at = sym c.again-ahead.ensures ∙ c.in_ok-c.ensures
    ∙ ap (λ first. first ∷ c.take.new.self) c.if-c-ne34.false
    ∙ ap (λ rest. 34 ∷ rest) (sym c.in_default.ensures.0) in
    subst (λ text. IsTokenTo joined text (Text c.set-2.new.self) c.take_plain.new.cursor) (sym at)
    (subst (λ name. IsTokenTo joined (34 ∷ rest) (Text name) c.take_plain.new.cursor)
    (sym c.set-2.ensures) (text_stands joined rest _ _ c.in_ok-text.ensures))
