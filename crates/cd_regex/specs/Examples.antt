-- Expressions and sequences of which laws say which fit.
use Rattle.std.specs.Prelude.{pos, [], ◌∷◌}
use Rattle.cd_model.specs.Thing as thing
use Rattle.cd_model.specs.Thing.{Thing, Integer, Character}
use Rattle.cd_model.specs.BuiltIns.{INT, CHAR}
use Rattle.cd_model.specs.Examples.{nil}
use Rattle.cd_regex.specs.Regular.{Regular, Item, Seq, Alt, Star, Plus, Opt, regulars_of}

-- `Int`, `Char`, `Int Char`, `Char Int`, `Int | Char`, `Int*`, `Int+`, `Int?` and `(Int Char)*`
abbrev pub int : Regular
int = Item INT

abbrev pub char : Regular
char = Item CHAR

abbrev pub int_and_char : Regular
int_and_char = Seq (regulars_of (int ∷ char ∷ []))

abbrev pub char_and_int : Regular
char_and_int = Seq (regulars_of (char ∷ int ∷ []))

abbrev pub int_or_char : Regular
int_or_char = Alt (regulars_of (int ∷ char ∷ []))

abbrev pub ints : Regular
ints = Star int

abbrev pub some_ints : Regular
some_ints = Plus int

abbrev pub int_or_none : Regular
int_or_none = Opt int

abbrev pub both_in_turn : Regular
both_in_turn = Star int_and_char

-- `[1]`, `[1 'c']`, `[1 1]` and `[1 'c' 1 'c']`
abbrev pub before_int : Thing → Thing
before_int rest = thing.Pair (Integer (pos 1)) rest

abbrev pub before_char : Thing → Thing
before_char rest = thing.Pair (Character 99) rest

abbrev pub one : Thing
one = before_int nil

abbrev pub one_and_c : Thing
one_and_c = before_int (before_char nil)

abbrev pub one_and_one : Thing
one_and_one = before_int one

abbrev pub twice : Thing
twice = before_int (before_char one_and_c)

-- `(1, 'c')`, which is no sequence
abbrev pub pair : Thing
pair = thing.Pair (Integer (pos 1)) (Character 99)
