-- The types of the workload's program as nodes of one graph: `[Int*]`, `Entry`, `[Entry*]`, `Log`, and the functions from `Log`
-- to `[Int*]`.
use Rattle.std.proofs.Common.{rules, ◌<◌, ◌++◌, false, [], ◌∷◌, codes, refl}
use Rattle.cd_sets.specs.declared.node_id.NodeId.{NodeId}
use Rattle.cd_syntax.specs.Name.{IsLabel}
use Rattle.cd_model.specs.BuiltIns.{built_ins, atoms_of, node, EMPTY, ANY, INT}
use Rattle.cd_model.specs.Formula.{Graph, IsGraph, Xml, Record, Arrow}
use Rattle.cd_model.proofs.SoundBuiltIns.{a_label}
use Rattle.cd_regex.specs.Automaton.{sequence_formulas}
use Rattle.cd_regex.specs.Regular.{Regular, Item, Star}
use Rattle.cd_typing.specs.Typ.{Typ, typ, IsType}

-- the nodes: sequences of integers, the name, the attributes and the type of an entry, sequences of entries, the name, the
-- attributes and the type of a log, and the functions
abbrev pub INTS : NodeId
INTS = node 14

abbrev pub ENTRY_NAME : NodeId
ENTRY_NAME = node 16

abbrev pub NUMBERED : NodeId
NUMBERED = node 17

abbrev pub ENTRY : NodeId
ENTRY = node 18

abbrev pub ENTRIES : NodeId
ENTRIES = node 19

abbrev pub LOG_NAME : NodeId
LOG_NAME = node 21

abbrev pub NO_ATTRIBUTE : NodeId
NO_ATTRIBUTE = node 22

abbrev pub LOG : NodeId
LOG = node 23

abbrev pub MAIN : NodeId
MAIN = node 24

-- any number of integers, and of entries
abbrev pub integers : Regular
integers = Star (Item INT)

abbrev pub entries : Regular
entries = Star (Item ENTRY)

-- what stands between these
abbrev pub entry_formulas : Graph
entry_formulas = atoms_of (codes "e" ∷ [])
    ∷ Record ((codes "n", record { optional = false; type = INT }) ∷ []) EMPTY
    ∷ Xml ENTRY_NAME NUMBERED INTS ∷ []

abbrev pub log_formulas : Graph
log_formulas = atoms_of (codes "log" ∷ []) ∷ Record [] EMPTY ∷ Xml LOG_NAME NO_ATTRIBUTE ENTRIES
    ∷ Arrow LOG INTS ∷ []

abbrev pub more : Graph
more = sequence_formulas 14 integers ++ (entry_formulas ++ (sequence_formulas 19 entries ++ log_formulas))

abbrev pub graph : Graph
graph = built_ins ++ more

pub graph_is_sound : IsGraph graph
graph_is_sound =
    let is_false : IsLabel (codes "false") = a_label (codes "false") refl refl in
    let is_true : IsLabel (codes "true") = a_label (codes "true") refl refl in
    let is_nil : IsLabel (codes "nil") = a_label (codes "nil") refl refl in
    let is_e : IsLabel (codes "e") = a_label (codes "e") refl refl in
    let is_n : IsLabel (codes "n") = a_label (codes "n") refl refl in
    let is_log : IsLabel (codes "log") = a_label (codes "log") refl refl in
    search rules

pub is_type : (id : NodeId) → id.0 < 25 → IsType (typ graph id)
is_type id below = record { more = more; begins = refl; sound = graph_is_sound; is_node = below }

-- the types
abbrev pub an_integer : Typ
an_integer = typ graph INT

abbrev pub anything : Typ
anything = typ graph ANY

abbrev pub some_integers : Typ
some_integers = typ graph INTS

abbrev pub entry : Typ
entry = typ graph ENTRY

abbrev pub some_entries : Typ
some_entries = typ graph ENTRIES

abbrev pub log : Typ
log = typ graph LOG

abbrev pub self : Typ
self = typ graph MAIN
