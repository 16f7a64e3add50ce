use Rattle.std.proofs.Common.{rules, ◌≡◌, false, true, [], ◌∷◌, bytes_eq}
use Rattle.cd_notation.proofs.Underscore.{word_by, label_by}
use Rattle.cd_notation.proofs.terminal.label_or_other.Goals as goal

pub returns-then-eq-clause-is : goal.returns-then-eq-clause-is
returns-then-eq-clause-is c =
    let same : bytes_eq c.args.name.now (95 ∷ []) ≡ true = search (rules, c.eq.ensures, c.if-eq.true) in
    word_by _ c.utf8.name true same

pub returns-clause-is : goal.returns-clause-is
returns-clause-is c =
    let differ : bytes_eq c.args.name.now (95 ∷ []) ≡ false = search (rules, c.eq.ensures, c.if-eq.false) in
    word_by _ c.utf8.name false differ

pub returns-clause-named : goal.returns-clause-named
returns-clause-named c =
    let differ : bytes_eq c.args.name.now (95 ∷ []) ≡ false = search (rules, c.eq.ensures, c.if-eq.false) in
    label_by _ c.utf8.name c.requires differ
