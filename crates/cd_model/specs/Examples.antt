-- A graph and elements of which laws say which are in which.
use Rattle.std.specs.Prelude.{ℕ, pos, true, false, List, [], ◌∷◌, ◌++◌, codes}
use Rattle.cd_sets.specs.declared.node_id.NodeId.{NodeId}
use Rattle.cd_syntax.specs.Integer.{LEAST, GREATEST}
use Rattle.cd_model.specs.Thing as thing
use Rattle.cd_model.specs.Thing.{Thing, Integer, Character, Atom}
use Rattle.cd_model.specs.Formula.{Graph, formulas_of, Ints, And, Or, Not, Pair, Xml, Record, Arrow}
use Rattle.cd_model.specs.Interfaces.{Interfaces, OfNodes}
use Rattle.cd_syntax.specs.declared.builtin.BuiltinName.TheVariants as builtin
use Rattle.cd_model.specs.BuiltIns.{built_ins, node, node_named, atoms_of, NIL}

abbrev pub EMPTY : NodeId
EMPTY = node_named builtin.Empty

abbrev pub ANY : NodeId
ANY = node_named builtin.Any

abbrev pub INT : NodeId
INT = node_named builtin.Int

abbrev pub CHAR : NodeId
CHAR = node_named builtin.Char

abbrev pub RECORD : NodeId
RECORD = node_named builtin.Record

-- `0`, `0 -> Any`, `{a=Int}`, `{a=Int ..}`, the lists of integers, `` `a ``, `<a ..>[]`,
-- `(Int,Char)`, `0 -> 0`, `{a=?Int}`, `Int \ 0`, `0 -> Int`, `0 -> Char` and `0 -> Empty`
abbrev pub ZERO : NodeId
ZERO = node 14

abbrev pub FROM_ZERO : NodeId
FROM_ZERO = node 15

abbrev pub CLOSED : NodeId
CLOSED = node 16

abbrev pub OPEN : NodeId
OPEN = node 17

abbrev pub INTS : NodeId
INTS = node 18

abbrev pub TAG : NodeId
TAG = node 19

abbrev pub XML : NodeId
XML = node 20

abbrev pub INT_AND_CHAR : NodeId
INT_AND_CHAR = node 21

abbrev pub TO_ZERO : NodeId
TO_ZERO = node 22

abbrev pub OPTIONAL : NodeId
OPTIONAL = node 23

abbrev pub NOT_ZERO : NodeId
NOT_ZERO = node 24

abbrev pub TO_INT : NodeId
TO_INT = node 25

abbrev pub TO_CHAR : NodeId
TO_CHAR = node 26

abbrev pub NOWHERE : NodeId
NOWHERE = node 27

abbrev pub graph : Graph
graph = built_ins ++
    Ints (record { low = pos 0; high = pos 0 } ∷ [])
    ∷ Arrow ZERO ANY
    ∷ Record ((codes "a", record { optional = false; type = INT }) ∷ []) EMPTY
    ∷ Record ((codes "a", record { optional = false; type = INT }) ∷ []) ANY
    ∷ Or (formulas_of (Pair INT INTS ∷ atoms_of (codes "nil" ∷ []) ∷ []))
    ∷ atoms_of (codes "a" ∷ [])
    ∷ Xml TAG RECORD NIL
    ∷ Pair INT CHAR
    ∷ Arrow ZERO ZERO
    ∷ Record ((codes "a", record { optional = true; type = INT }) ∷ []) EMPTY
    ∷ And (formulas_of (Ints (record { low = LEAST; high = GREATEST } ∷ [])
    ∷ Not (Ints (record { low = pos 0; high = pos 0 } ∷ [])) ∷ []))
    ∷ Arrow ZERO INT
    ∷ Arrow ZERO CHAR
    ∷ Arrow ZERO EMPTY
    ∷ []

abbrev pub nil : Thing
nil = Atom (codes "nil")

-- the text of these characters
abbrev pub text_of : List ℕ → Thing
text_of [] = nil
text_of (c ∷ text) = thing.Pair (Character c) (text_of text)

-- the sequence of these items
abbrev pub sequence_of : List Thing → Thing
sequence_of [] = nil
sequence_of (first ∷ rest) = thing.Pair first (sequence_of rest)

-- the function that maps this integer alone
abbrev pub function_of : ℕ → Thing → Thing
function_of argument result =
    thing.Function (thing.Maps (Integer (pos argument)) result thing.NoPair)

-- `{a=1}` and `{a=1; b=2}`
abbrev pub one_field : Thing
one_field = thing.Record (thing.Field (codes "a") (Integer (pos 1)) thing.NoField)

abbrev pub two_fields : Thing
two_fields = thing.Record
    (thing.Field (codes "a") (Integer (pos 1))
    (thing.Field (codes "b") (Integer (pos 2)) thing.NoField))

-- `fun{0 => ?}`
abbrev pub fails_at_zero : Thing
fails_at_zero = thing.Function (thing.Fails (Integer (pos 0)) thing.NoPair)

-- `[1 2]`, and `(1, 2)`
abbrev pub list : Thing
list = thing.Pair (Integer (pos 1)) (thing.Pair (Integer (pos 2)) nil)

abbrev pub pair : Thing
pair = thing.Pair (Integer (pos 1)) (Integer (pos 2))

-- `<a>[]`
abbrev pub xml : Thing
xml = thing.Xml (Atom (codes "a")) (thing.Record thing.NoField) nil

-- `<b>[]`, `fun{0 => 1}`, `{a='c'}`, and fields that do not rise
abbrev pub other_xml : Thing
other_xml = thing.Xml (Atom (codes "b")) (thing.Record thing.NoField) nil

abbrev pub zero_to_one : Thing
zero_to_one = thing.Function (thing.Maps (Integer (pos 0)) (Integer (pos 1)) thing.NoPair)

abbrev pub wrong_field : Thing
wrong_field = thing.Record (thing.Field (codes "a") (Character 99) thing.NoField)

abbrev pub falling_fields : Thing
falling_fields = thing.Record
    (thing.Field (codes "b") (Integer (pos 1))
    (thing.Field (codes "a") (Integer (pos 2)) thing.NoField))

abbrev pub label_again : Thing
label_again = thing.Record
    (thing.Field (codes "a") (Integer (pos 1))
    (thing.Field (codes "a") (Integer (pos 2)) thing.NoField))

-- a closure, and interfaces in which its function has the arrows `0 -> Int` and `0 -> Char`, or
-- none
abbrev pub closure : Thing
closure = thing.Closure 0 thing.NoField

abbrev pub to_both : Interfaces
to_both = OfNodes graph (λ function.
    record { argument = ZERO; result = INT } ∷ record { argument = ZERO; result = CHAR } ∷ [])

abbrev pub no_arrows : Interfaces
no_arrows = OfNodes graph (λ function. [])
