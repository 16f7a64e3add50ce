use Rattle.std.proofs.Common.{ap, ◌-◌, arith}
use Rattle.cd_lex.proofs.PiecePrefixes.{quoted_read, broken_within, text_open, text_breaks, a_quote}
use Rattle.cd_lex.proofs.piece.quoted.Goals as goal

pub overflow_sub-result : goal.overflow_sub-result
overflow_sub-result c =
    let broken = rw c.in-Breaks.is at c.in_ok-read_quoted.ensures in
    let within = broken_within c.args.quote c.args.cursor.now c.read_quoted.new.cursor broken in
    let bytes = c.bytes.ensures in
    let fits = c.requires.fits in
    omega arith

pub returns-in-Closed-clause-piece : goal.returns-in-Closed-clause-piece
returns-in-Closed-clause-piece c = λ joined.
    let closed = rw c.in-Closed.is at c.in_ok-read_quoted.ensures in
    quoted_read joined c.args.quote c.args.cursor.now c.read_quoted.new.buffer c.read_quoted.new.cursor c.quoted_kind.result c.requires.quote c.quoted_kind.ensures.text c.quoted_kind.ensures.chars closed

pub returns-in-Breaks-clause-fault : goal.returns-in-Breaks-clause-fault
returns-in-Breaks-clause-fault c = λ joined.
    let broken = rw c.in-Breaks.is at c.in_ok-read_quoted.ensures in
    text_breaks joined c.args.at c.args.quote c.args.end _ c.args.cursor.now c.read_quoted.new.cursor (a_quote c.args.quote c.requires.quote) broken c.requires.fits c.requires.at
    (ap (λ bytes. c.args.end - bytes) c.bytes.ensures)

pub returns-in-Ends-clause-fault : goal.returns-in-Ends-clause-fault
returns-in-Ends-clause-fault c = λ joined.
    let is_open = rw c.in-Ends.is at c.in_ok-read_quoted.ensures in
    text_open joined c.args.at c.args.quote c.args.cursor.now (a_quote c.args.quote c.requires.quote) is_open
