use Rattle.std.proofs.lemmas.Result.{err_from_is_err_and}
use Rattle.std.specs.Prelude.{length}
use Rattle.std.specs.Str.{chars}
use Rattle.cd_program.specs.PlainProgram.{plain_program}
use Rattle.cd_grammar.specs.Forms.{AProgram}
use Rattle.cd_grammar.proofs.MadeWell.{text_makes_program}
use Rattle.cd_names.specs.ProgramFaults.{IsFaultOfProgram}
use Rattle.cd_replies.specs.Texts.{IsReportedOfProgram}
use Rattle.cd_replies.proofs.TextReading.{lexical_refused, fault_refused, names_refused}
use Rattle.cd_replies.proofs.reader.read_program.Goals as goal

pub returns-in_err-tokens-clause-refused : goal.returns-in_err-tokens-clause-refused
returns-in_err-tokens-clause-refused c =
    let is = err_from_is_err_and c.from_residual.result c.from_residual.ensures.1 in
    rw (is.1, is.2)
    (lexical_refused AProgram (IsReportedOfProgram (length c.args.text.now)) c.args.text.now c.in_err-tokens.field-0.0 c.in_err-tokens.ensures.fault)

pub returns-in_err-program-clause-refused : goal.returns-in_err-program-clause-refused
returns-in_err-program-clause-refused c =
    let is = err_from_is_err_and c.from_residual-in_err-program.result c.from_residual-in_err-program.ensures.1 in
    let fault = rw c.as_slice.ensures.value at c.in_err-program.ensures.fault in
    rw (is.1, is.2)
    (fault_refused AProgram (IsReportedOfProgram (length c.args.text.now)) c.args.text.now c.in_ok-tokens.tokens.items c.in_ok-tokens.ensures.tokens
    c.in_err-program.field-0.0 fault)

-- what the tokens of a text write is well made
pub check_program-requires : goal.check_program-requires
check_program-requires c =
    let written = rw c.as_slice.ensures.value at c.in_ok-program.ensures.program in
    text_makes_program (chars c.args.text.now) c.in_ok-tokens.tokens.items 1000 (plain_program c.in_ok-program.program) c.in_ok-tokens.ensures.tokens written

pub returns-clause-well_made : goal.returns-clause-well_made
returns-clause-well_made c =
    let written = rw c.as_slice.ensures.value at c.in_ok-program.ensures.program in
    text_makes_program (chars c.args.text.now) c.in_ok-tokens.tokens.items 1000 (plain_program c.in_ok-program.program) c.in_ok-tokens.ensures.tokens written

pub returns-in_err-check_program-clause-refused : goal.returns-in_err-check_program-clause-refused
returns-in_err-check_program-clause-refused c =
    let is = err_from_is_err_and c.from_residual-in_err-check_program.result c.from_residual-in_err-check_program.ensures.1 in
    let program = plain_program c.in_ok-program.program in
    let written = rw c.as_slice.ensures.value at c.in_ok-program.ensures.program in
    rw (is.1, is.2)
    (names_refused AProgram (IsReportedOfProgram (length c.args.text.now)) c.args.text.now c.in_ok-tokens.tokens.items c.in_ok-tokens.ensures.tokens
    (IsFaultOfProgram program) (λ fault reported. (program, written, c.in_ok-program.ensures.end, reported))
    c.in_err-check_program.field-0.0 c.in_err-check_program.ensures.fault)
