use Rattle.std.proofs.lemmas.Result.{err_from_is_err_and}
use Rattle.std.specs.Str.{chars}
use Rattle.cd_syntax.specs.PlainTree.{plain_declarations}
use Rattle.cd_grammar.specs.Forms.{SomeDeclarations}
use Rattle.cd_grammar.proofs.MadeWell.{text_makes_declarations}
use Rattle.cd_replies.specs.Texts.{IsReportedOfDeclarations}
use Rattle.cd_replies.proofs.TextReading.{lexical_refused, fault_refused}
use Rattle.cd_replies.proofs.reader.read_declarations.Goals as goal

pub returns-in_err-tokens-clause-refused : goal.returns-in_err-tokens-clause-refused
returns-in_err-tokens-clause-refused c =
    let is = err_from_is_err_and c.from_residual.result c.from_residual.ensures.1 in
    rw (is.1, is.2)
    (lexical_refused SomeDeclarations IsReportedOfDeclarations c.args.text.now c.in_err-tokens.field-0.0 c.in_err-tokens.ensures.fault)

pub returns-in_err-declared-clause-refused : goal.returns-in_err-declared-clause-refused
returns-in_err-declared-clause-refused c =
    let is = err_from_is_err_and c.from_residual-in_err-declared.result c.from_residual-in_err-declared.ensures.1 in
    let fault = rw c.as_slice.ensures.value at c.in_err-declared.ensures.fault in
    rw (is.1, is.2)
    (fault_refused SomeDeclarations IsReportedOfDeclarations c.args.text.now c.in_ok-tokens.tokens.items c.in_ok-tokens.ensures.tokens
    c.in_err-declared.field-0.0 fault)

-- what the tokens of a text write is well made
pub returns-clause-well_made : goal.returns-clause-well_made
returns-clause-well_made c =
    let written = rw c.as_slice.ensures.value at c.in_ok-declared.ensures.declarations in
    text_makes_declarations (chars c.args.text.now) c.in_ok-tokens.tokens.items 1000 (plain_declarations c.in_ok-declared.declared)
    c.in_ok-tokens.ensures.tokens written
