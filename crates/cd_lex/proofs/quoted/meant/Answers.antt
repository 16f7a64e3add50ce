use Rattle.cd_syntax.specs.Quotes.{line_feed, carriage_return, tab, backslash, apostrophe, quote}
use Rattle.cd_lex.proofs.quoted.meant.Goals as goal

pub returns-in-n : goal.returns-in-n
returns-in-n c = rw c.in-n.is line_feed

pub returns-in-r : goal.returns-in-r
returns-in-r c = rw c.in-r.is carriage_return

pub returns-in-t : goal.returns-in-t
returns-in-t c = rw c.in-t.is tab

pub returns-in-92 : goal.returns-in-92
returns-in-92 c = rw c.in-92.is backslash

pub returns-in-39 : goal.returns-in-39
returns-in-39 c = rw c.in-39.is apostrophe

pub returns-in-34 : goal.returns-in-34
returns-in-34 c = rw c.in-34.is quote
