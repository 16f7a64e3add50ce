-- Some data, and how many brackets are open at once in their texts.
use Rattle.std.specs.Prelude.{pos, codes}
use Rattle.cd_model.specs.Thing.{Thing, Integer, Character, Atom, Pair, Xml, Record, NoField, Field}

abbrev pub one : Thing
one = Integer (pos 1)

-- `[]`
abbrev pub empty : Thing
empty = Atom (codes "nil")

-- `"ab"`
abbrev pub text : Thing
text = Pair (Character 97) (Pair (Character 98) empty)

-- `['ab' 1 []]`
abbrev pub sequence : Thing
sequence = Pair (Character 97) (Pair (Character 98) (Pair one (Pair empty empty)))

-- `(1, "ab", {a=[]})`
abbrev pub tuple : Thing
tuple = Pair one (Pair text (Record (Field (codes "a") empty NoField)))

-- `<a b=1><c>"ab"`
abbrev pub xml : Thing
xml = Xml (Atom (codes "a")) (Record (Field (codes "b") one NoField))
    (Xml (Atom (codes "c")) (Record NoField) text)
