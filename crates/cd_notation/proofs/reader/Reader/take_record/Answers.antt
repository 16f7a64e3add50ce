use Rattle.std.proofs.Common.{arith, refl}
use Rattle.cd_notation.proofs.Closing.{ready, takes_none, takes_parts}
use Rattle.cd_notation.proofs.reader.Reader.take_record.Goals as goal

pub returns-then-len-first-clause-is : goal.returns-then-len-first-clause-is
returns-then-len-first-clause-is c =
    takes_none c.args.values.now c.record_of.new.self c.args.self.now _ _ _ _ (omega (arith, c.if-len-first.true, c.len.ensures)) refl c.cut.ensures c.in_ok-record_of.ensures.is

pub record_of_parts-requires-clause-parts : goal.record_of_parts-requires-clause-parts
record_of_parts-requires-clause-parts c =
    (ready c.args.values.now _ _ _ _ _ _ _ _ _ c.requires.labels c.requires.items (c.in_ok-collect.ensures _ _ _ _ c.requires.labels.is c.requires.items.is).0).fit

pub record_of_parts-requires-clause-differ : goal.record_of_parts-requires-clause-differ
record_of_parts-requires-clause-differ c =
    (ready c.args.values.now _ _ _ _ _ _ _ _ _ c.requires.labels c.requires.items (c.in_ok-collect.ensures _ _ _ _ c.requires.labels.is c.requires.items.is).0).differ

pub returns-clause-is : goal.returns-clause-is
returns-clause-is c = takes_parts c.args.values.now c.record_of_parts.new.values c.args.self.now _ _ _ _ _ c.in_ok-collect.ensures c.in_ok-record_of_parts.ensures.is
