use Rattle.std.proofs.Common.{ap, ◌∙◌, string_bytes}
use Rattle.std.specs.Str.{chars}
use Rattle.cd_members.proofs.AtomTexts.{atom_named}
use Rattle.cd_members.proofs.basic.some_atom.Goals as goal

-- the characters of the atom are a label that is in the set
pub returns-in_ok-name-in-Some : goal.returns-in_ok-name-in-Some
returns-in_ok-name-in-Some c =
    let found = rw c.in-Some.is at c.in_ok-text.ensures in
    atom_named c.args.set.now (string_bytes c.in-Some.text) c.in_ok-name-in-Some.name
    (c.in_ok-name-in-Some.ensures ∙ ap chars c.as_str.ensures.value) found.0 found.1
