use Rattle.std.proofs.Common.{rules, ◌∙◌, ap, sym}
use Rattle.cd_graph.specs.PlainFormula.{plain}
use Rattle.cd_graph.proofs.Reading.{plain_ints, plain_chars, plain_atoms}
use Rattle.cd_facts.specs.Inner.Known.{known}
use Rattle.cd_facts.specs.Inner.Finding.{finding_of}
use Rattle.cd_graph.proofs.Sizes.{items_fall}
use Rattle.cd_facts.proofs.formula.+finding_of.Goals as goal

-- a basic set asks for nothing that is known
pub finding_of-returns-in-Ints : goal.finding_of-returns-in-Ints
finding_of-returns-in-Ints t c =
    c.at_integers.ensures c.args.facts.now
    ∙ ap (finding_of (known c.args.facts.now) c.args.shape.now) (sym (ap plain c.in-Ints.is ∙ plain_ints c.in-Ints.set))

pub finding_of-returns-in-Chars : goal.finding_of-returns-in-Chars
finding_of-returns-in-Chars t c =
    c.at_characters.ensures c.args.facts.now
    ∙ ap (finding_of (known c.args.facts.now) c.args.shape.now) (sym (ap plain c.in-Chars.is ∙ plain_chars c.in-Chars.set))

pub finding_of-returns-in-Atoms : goal.finding_of-returns-in-Atoms
finding_of-returns-in-Atoms t c =
    c.at_atoms.ensures c.args.facts.now
    ∙ ap (finding_of (known c.args.facts.now) c.args.shape.now) (sym (ap plain c.in-Atoms.is ∙ plain_atoms c.in-Atoms.set))

-- each item of a list is smaller than the list
pub of_all-finding_of-requires : goal.of_all-finding_of-requires
of_all-finding_of-requires t c =
    let fall = rw c.items-formula-items.ensures at (items_fall c.items-formula-items.result.now c.loop-formula.formula-index
    c.formula-item.result c.formula-item.is c.loop-formula-test.true) in
    (search (rules, fall, c.decreases), c.requires)

pub of_any-finding_of-requires : goal.of_any-finding_of-requires
of_any-finding_of-requires t c =
    let fall = rw c.items-formula-items.ensures at (items_fall c.items-formula-items.result.now c.loop-formula.formula-index
    c.formula-item.result c.formula-item.is c.loop-formula-test.true) in
    (search (rules, fall, c.decreases), c.requires)
