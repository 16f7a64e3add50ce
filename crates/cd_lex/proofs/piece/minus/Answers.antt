use Rattle.std.proofs.Common.{true≢false, ap, sym, ◌∙◌}
use Rattle.cd_syntax.specs.Numerals.{begins_number}
use Rattle.cd_lex.proofs.PiecePrefixes.{minus_stands}
use Rattle.cd_lex.proofs.piece.minus.Goals as goal
use Rattle.cd_lex.proofs.piece.minus.Goals.{in_default-via-in-Some+else-begins_number, in_default-via-in_default}

pub returns-then-joined-clause-piece : goal.returns-then-joined-clause-piece
returns-then-joined-clause-piece c = λ characters.
    minus_stands c.args.joined c.args.cursor.now _ _ (λ apart. absurd (true≢false (sym c.if-joined.true ∙ apart))) c.after_minus.ensures

pub returns-in_default-clause-piece : goal.returns-in_default-clause-piece
returns-in_default-clause-piece c = λ characters.
    minus_stands c.args.joined c.args.cursor.now _ _ (λ apart. elim c.in_default.branch [
      | in_default-via-in-Some+else-begins_number w ↦
          ap begins_number (sym c.again-ahead.ensures ∙ w.in-Some.ensures)
          ∙ sym w.begins_number.ensures ∙ w.if-begins_number.false
      | in_default-via-in_default w ↦
          let none = rw w.in_default.is at c.take.ensures in
          ap begins_number (sym c.again-ahead.ensures ∙ none)
    ]) c.after_minus-in_default.ensures
