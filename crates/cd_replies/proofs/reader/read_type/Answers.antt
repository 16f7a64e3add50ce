use Rattle.std.proofs.lemmas.Result.{err_from_is_err_and}
use Rattle.std.specs.Str.{chars}
use Rattle.cd_syntax.specs.PlainTree.{plain}
use Rattle.cd_grammar.specs.Forms.{AType}
use Rattle.cd_grammar.proofs.MadeWell.{text_makes_type}
use Rattle.cd_resolve.specs.Faults.{IsFaultOfType}
use Rattle.cd_resolve.specs.Named.{declared_by}
use Rattle.cd_replies.specs.Texts.{IsReportedOfType}
use Rattle.cd_replies.proofs.TextReading.{lexical_refused, fault_refused, names_refused}
use Rattle.cd_replies.proofs.reader.read_type.Goals as goal

pub returns-in_err-tokens-clause-refused : goal.returns-in_err-tokens-clause-refused
returns-in_err-tokens-clause-refused c =
    let is = err_from_is_err_and c.from_residual.result c.from_residual.ensures.1 in
    rw (is.1, is.2)
    (lexical_refused AType (IsReportedOfType (declared_by c.args.names.now)) c.args.text.now c.in_err-tokens.field-0.0 c.in_err-tokens.ensures.fault)

pub returns-in_err-tree-clause-refused : goal.returns-in_err-tree-clause-refused
returns-in_err-tree-clause-refused c =
    let is = err_from_is_err_and c.from_residual-in_err-tree.result c.from_residual-in_err-tree.ensures.1 in
    let fault = rw c.as_slice.ensures.value at c.in_err-tree.ensures.fault in
    rw (is.1, is.2)
    (fault_refused AType (IsReportedOfType (declared_by c.args.names.now)) c.args.text.now c.in_ok-tokens.tokens.items c.in_ok-tokens.ensures.tokens
    c.in_err-tree.field-0.0 fault)

-- what the tokens of a text write is well made
pub resolve_type-requires-clause-well_made : goal.resolve_type-requires-clause-well_made
resolve_type-requires-clause-well_made c =
    let written = rw c.as_slice.ensures.value at c.in_ok-tree.ensures.tree in
    text_makes_type (chars c.args.text.now) c.in_ok-tokens.tokens.items 1000 (plain c.in_ok-tree.tree) c.in_ok-tokens.ensures.tokens written

pub returns-in_err-batch-clause-refused : goal.returns-in_err-batch-clause-refused
returns-in_err-batch-clause-refused c =
    let is = err_from_is_err_and c.from_residual-in_err-batch.result c.from_residual-in_err-batch.ensures.1 in
    let declared = declared_by c.args.names.now in
    let tree = plain c.in_ok-tree.tree in
    let written = rw c.as_slice.ensures.value at c.in_ok-tree.ensures.tree in
    rw (is.1, is.2)
    (names_refused AType (IsReportedOfType declared) c.args.text.now c.in_ok-tokens.tokens.items c.in_ok-tokens.ensures.tokens (IsFaultOfType declared tree)
    (λ fault reported. (tree, written, reported)) c.in_err-batch.field-0.0 c.in_err-batch.ensures.fault)
