use Rattle.std.proofs.Common.{rules, arith, ◌∙◌, sym, ap, []}
use Rattle.std.specs.Str.{chars}
use Rattle.std.proofs.lemmas.Str.{IsUtf8-past_char}
use Rattle.cd_replies.specs.Position.{characters_before as before_of}
use Rattle.cd_replies.proofs.Positions.{line_from, column_from, lines, columns, none_before, none_left, next_before, shorter, line_past_feed, line_past_other, column_past_feed, column_past_other}
use Rattle.cd_replies.proofs.position.place.Goals as goal

-- the whole text is left
pub loop-c-init : goal.loop-c-init
loop-c-init c = search (rules, lines 1 (before_of c.args.at (chars c.args.text.now)), columns [] (before_of c.args.at (chars c.args.text.now)))

-- past a line feed
pub loop-c-preserved-then-ends_line : goal.loop-c-preserved-then-ends_line
loop-c-preserved-then-ends_line c =
    let split = c.in-Some.ensures.steps.0 in
    let next = next_before _ _ _ _ _ _ c.loop-c.invariant.0 split c.if-left-eq0.false c.len_utf8.ensures.value c.saturating_sub-left.ensures in (
      IsUtf8-past_char _ _ _ c.loop-c.invariant.0 split,
      line_past_feed _ _ _ _ next c.if-ends_line.true ∙ c.loop-c.invariant.1,
      column_past_feed _ _ _ _ next c.if-ends_line.true ∙ c.loop-c.invariant.2,
      omega (arith, c.loop-c.invariant.3, shorter _ _ _ split),
      omega (arith, c.loop-c.invariant.4, c.loop-c.invariant.3, shorter _ _ _ split),
    )

-- past another character
pub loop-c-preserved : goal.loop-c-preserved
loop-c-preserved c =
    let split = c.in-Some.ensures.steps.0 in
    let next = next_before _ _ _ _ _ _ c.loop-c.invariant.0 split c.if-left-eq0.false c.len_utf8.ensures.value c.saturating_sub-left.ensures in (
      IsUtf8-past_char _ _ _ c.loop-c.invariant.0 split,
      line_past_other _ _ _ _ next c.if-ends_line.false ∙ c.loop-c.invariant.1,
      column_past_other _ _ _ _ next c.if-ends_line.false ∙ c.loop-c.invariant.2,
      omega (arith, c.loop-c.invariant.3, shorter _ _ _ split),
      omega (arith, c.loop-c.invariant.4, shorter _ _ _ split),
    )

-- no character is left
pub returns-in-None-clause-line : goal.returns-in-None-clause-line
returns-in-None-clause-line c = ap (line_from c.loop-c.line) (sym (none_left _ _ c.in-None.ensures.steps.0.0)) ∙ c.loop-c.invariant.1

pub returns-in-None-clause-column : goal.returns-in-None-clause-column
returns-in-None-clause-column c = ap (column_from c.loop-c.column) (sym (none_left _ _ c.in-None.ensures.steps.0.0)) ∙ c.loop-c.invariant.2

-- the byte is reached
pub returns-then-left-eq0-clause-line : goal.returns-then-left-eq0-clause-line
returns-then-left-eq0-clause-line c = ap (line_from c.loop-c.line) (sym (none_before _ _ c.if-left-eq0.true)) ∙ c.loop-c.invariant.1

pub returns-then-left-eq0-clause-column : goal.returns-then-left-eq0-clause-column
returns-then-left-eq0-clause-column c = ap (column_from c.loop-c.column) (sym (none_before _ _ c.if-left-eq0.true)) ∙ c.loop-c.invariant.2
