-- The built-in types: their formulas over any types, and the nodes that every graph begins with.
use Rattle.std.specs.Prelude.{ℕ, List, [], ◌∷◌, codes}
use Rattle.cd_sets.specs.declared.node_id.NodeId.{NodeId}
use Rattle.cd_sets.specs.Atoms.{listing, leaving_out}
use Rattle.cd_syntax.specs.Integer.{LEAST, GREATEST}
use Rattle.cd_syntax.specs.declared.builtin.BuiltinName.{BuiltinName}
use Rattle.cd_syntax.specs.declared.builtin.BuiltinName.TheVariants as name
use Rattle.cd_model.specs.Formula.{FormulaOf, Graph, Formula, formulas_of, Nothing, Everything}
use Rattle.cd_model.specs.Formula.{Ints, Chars, Atoms, Pair, Xml, Record, Arrow, Or}

-- all integers, all characters up to this one, these atoms alone, and all atoms
abbrev pub all_ints : {X : Type 0} → FormulaOf X
all_ints = Ints (record { low = LEAST; high = GREATEST } ∷ [])

abbrev pub chars_to : {X : Type 0} → ℕ → FormulaOf X
chars_to high = Chars (record { low = 0; high = high } ∷ [])

abbrev pub atoms_of : {X : Type 0} → List (List ℕ) → FormulaOf X
atoms_of names = Atoms (listing names)

abbrev pub all_atoms : {X : Type 0} → FormulaOf X
all_atoms = Atoms (leaving_out [])

-- what each name holds, where these are the types of the names
abbrev pub built_in : {X : Type 0} → (BuiltinName → X) → BuiltinName → FormulaOf X
built_in type name.Empty = Nothing
built_in type name.Any = Everything
built_in type name.Int = all_ints
built_in type name.Char = chars_to 0x10FFFF
built_in type name.Byte = chars_to 255
built_in type name.Atom = all_atoms
built_in type name.Bool =
    Or (formulas_of (atoms_of (codes "false" ∷ []) ∷ atoms_of (codes "true" ∷ []) ∷ []))
built_in type name.String =
    Or (formulas_of (Pair (type name.Char) (type name.String) ∷ atoms_of (codes "nil" ∷ []) ∷ []))
built_in type name.Arrow = Arrow (type name.Empty) (type name.Any)
built_in type name.Pair = Pair (type name.Any) (type name.Any)
built_in type name.Record = Record [] (type name.Any)
built_in type name.AnyXml = Xml (type name.Any) (type name.Any) (type name.Any)
-- integers, characters, atoms, pairs of data, records of data, and XML things whose attributes and
-- content are data
built_in type name.Data =
    Or (formulas_of (all_ints ∷ chars_to 0x10FFFF ∷ all_atoms
    ∷ Pair (type name.Data) (type name.Data)
    ∷ Record [] (type name.Data) ∷ Xml (type name.Atom) (type name.Data) (type name.Data) ∷ []))

abbrev pub node : ℕ → NodeId
node number = record { 0 = number }

abbrev pub EMPTY : NodeId
EMPTY = node 0

abbrev pub ANY : NodeId
ANY = node 1

abbrev pub INT : NodeId
INT = node 2

abbrev pub CHAR : NodeId
CHAR = node 3

abbrev pub BYTE : NodeId
BYTE = node 4

abbrev pub ATOM : NodeId
ATOM = node 5

abbrev pub BOOL : NodeId
BOOL = node 6

abbrev pub STRING : NodeId
STRING = node 7

abbrev pub ARROW : NodeId
ARROW = node 8

abbrev pub PAIR : NodeId
PAIR = node 9

abbrev pub RECORD : NodeId
RECORD = node 10

abbrev pub ANY_XML : NodeId
ANY_XML = node 11

abbrev pub DATA : NodeId
DATA = node 12

abbrev pub NIL : NodeId
NIL = node 13

-- the node of a name; the last built-in node, of the atom `nil`, has no name
abbrev pub node_named : BuiltinName → NodeId
node_named name.Empty = EMPTY
node_named name.Any = ANY
node_named name.Int = INT
node_named name.Char = CHAR
node_named name.Byte = BYTE
node_named name.Atom = ATOM
node_named name.Bool = BOOL
node_named name.String = STRING
node_named name.Arrow = ARROW
node_named name.Pair = PAIR
node_named name.Record = RECORD
node_named name.AnyXml = ANY_XML
node_named name.Data = DATA

abbrev pub data_formula : Formula
data_formula = built_in node_named name.Data

-- in the order of these numbers
abbrev pub names : List BuiltinName
names = name.Empty ∷ name.Any ∷ name.Int ∷ name.Char ∷ name.Byte ∷ name.Atom ∷ name.Bool
    ∷ name.String ∷ name.Arrow
    ∷ name.Pair ∷ name.Record ∷ name.AnyXml ∷ name.Data ∷ []

abbrev pub nodes_named : List BuiltinName → Graph
nodes_named [] = atoms_of (codes "nil" ∷ []) ∷ []
nodes_named (name ∷ rest) = built_in node_named name ∷ nodes_named rest

abbrev pub built_ins : Graph
built_ins = nodes_named names
