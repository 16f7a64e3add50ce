use Rattle.std.proofs.Common.{subst, sym, ◌∷◌}
use Rattle.cd_syntax.specs.declared.tokens.TokenKind.TheVariants.{Atom}
use Rattle.cd_lex.specs.Inner.Standing.{IsTokenTo}
use Rattle.cd_lex.proofs.WordPrefixes.{atom_token, no_atom, underscore_alone}
use Rattle.cd_lex.proofs.piece.atom.Goals as goal

pub returns-in-Some-clause-piece : goal.returns-in-Some-clause-piece
returns-in-Some-clause-piece c = λ joined.
    subst (λ name. IsTokenTo joined (96 ∷ c.args.cursor.now) (Atom name) c.take_word.new.cursor)
    (sym c.set.ensures)
    (atom_token joined _ _ _ c.in-Some.ensures c.if-not-is_underscore.ensures)

pub returns-in_default-clause-fault : goal.returns-in_default-clause-fault
returns-in_default-clause-fault c = λ joined.
    underscore_alone joined c.args.at _ _ _ c.in-Some.ensures c.if-not-is_underscore.ensures

pub returns-in_default-2-clause-fault : goal.returns-in_default-2-clause-fault
returns-in_default-2-clause-fault c = λ joined.
    let none = rw c.in_default.is at c.take_word.ensures in
    no_atom joined c.args.at c.args.cursor.now none.1
