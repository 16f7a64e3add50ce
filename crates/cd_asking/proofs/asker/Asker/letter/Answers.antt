use Rattle.cd_asking.proofs.asker.Asker.letter.Goals as goal

pub returns-in-Some-clause-found : goal.returns-in-Some-clause-found
returns-in-Some-clause-found c =
    let known = rw c.in-Some.is at c.known_letter.ensures in
    (c.requires.right.letters c.args.set.0 c.args.c c.in-Some.answer known.0 known.1).1
