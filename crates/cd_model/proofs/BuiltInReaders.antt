-- What a reader answers at the formulas of built-in types, whether it reads an element or a value. The lemmas on pairs, XML
-- and records are given what it means that a part is in its node.
use Rattle.std.proofs.Common.{◌≡◌, ℕ, ◌<◌, ℤ, true, [], ◌∷◌, ◌⊎◌, ◌↔◌, arith}
use Rattle.std.specs.Prelude.{codes}
use Rattle.std.specs.Char.{IsScalar}
use Rattle.std.proofs.lemmas.Int.{ints}
use Rattle.std.proofs.lemmas.Bool.Decides.{nat_tests}
use Rattle.std.proofs.lemmas.Slice.Eq.{bytes_eq-Decides}
use Rattle.cd_sets.specs.declared.node_id.NodeId.{NodeId}
use Rattle.cd_syntax.specs.Integer.{IsInteger}
use Rattle.cd_syntax.specs.Name.{Name}
use Rattle.cd_syntax.specs.declared.builtin.BuiltinName.TheVariants as builtin
use Rattle.cd_model.specs.Formula.{Formula, at_formula, holds}
use Rattle.cd_model.specs.BuiltIns.{built_in, node_named, atoms_of, chars_to}
use Rattle.cd_model.specs.Types.{Answers, FieldOf, Labelled, Mapping, integer_at, character_at, atom_at, pair_at, xml_at, record_at, function_at}

-- a fact of two parts, where each part means another fact
pub by_parts : {whole first second one other : Type 0}
    → (whole ↔ (first × second)) → (first ↔ one) → (second ↔ other) → whole ↔ (one × other)
by_parts parts is_one is_other = (
  λ is. (is_one.0 (parts.0 is).0, is_other.0 (parts.0 is).1),
  λ is. parts.1 (is_one.1 is.0, is_other.1 is.1),
)

-- characters, and atoms by their names
pub character_is : (c : ℕ) → IsScalar c → holds (at_formula (character_at {X = NodeId} c)) (chars_to 0x10FFFF) true
character_is c is = grind (arith, nat_tests)

pub byte_is : (c : ℕ) → holds (at_formula (character_at {X = NodeId} c)) (chars_to 255) true ↔ (c < 256)
byte_is c = grind (arith, nat_tests)

pub nil_is : (name : Name) → holds (at_formula (atom_at {X = NodeId} name)) (atoms_of (codes "nil" ∷ [])) true ↔ (name ≡ codes "nil")
nil_is name = grind (arith, bytes_eq-Decides)

pub bool_is : (name : Name)
    → holds (at_formula (atom_at {X = NodeId} name)) (built_in node_named builtin.Bool) true
    ↔ ((name ≡ codes "false") ⊎ (name ≡ codes "true"))
bool_is name = grind (arith, bytes_eq-Decides)

-- strings
abbrev string_formula : Formula
string_formula = built_in node_named builtin.String

pub nil_in_string : (name : Name) → holds (at_formula (atom_at {X = NodeId} name)) string_formula true ↔ (name ≡ codes "nil")
nil_in_string name = grind (arith, bytes_eq-Decides)

pub pair_in_string : {one other : Type 0} (first second : Answers NodeId) → (first (node_named builtin.Char) true ↔ one) → (second (node_named builtin.String) true ↔ other)
    → holds (at_formula (pair_at first second)) string_formula true ↔ (one × other)
pair_in_string first second is_one is_other = grind arith

-- data
abbrev data_formula : Formula
data_formula = built_in node_named builtin.Data

pub integer_in_data : (n : ℤ) → IsInteger n → holds (at_formula (integer_at {X = NodeId} n)) data_formula true
integer_in_data n is = grind (arith, ints)

pub character_in_data : (c : ℕ) → IsScalar c → holds (at_formula (character_at {X = NodeId} c)) data_formula true
character_in_data c is = grind (arith, nat_tests)

pub atom_in_data : (name : Name) → holds (at_formula (atom_at {X = NodeId} name)) data_formula true
atom_in_data name = grind arith

pub pair_in_data : {one other : Type 0} (first second : Answers NodeId) → (first (node_named builtin.Data) true ↔ one) → (second (node_named builtin.Data) true ↔ other)
    → holds (at_formula (pair_at first second)) data_formula true ↔ (one × other)
pair_in_data first second is_one is_other = grind arith

pub xml_in_data : {one other last : Type 0} (tag attributes content : Answers NodeId)
    → (tag (node_named builtin.Atom) true ↔ one) → (attributes (node_named builtin.Data) true ↔ other) → (content (node_named builtin.Data) true ↔ last)
    → holds (at_formula (xml_at tag attributes content)) data_formula true ↔ (one × other × last)
xml_in_data tag attributes content is_one is_other is_last = grind arith

-- a field that may be absent, and else is in this node
abbrev pub optional_in : NodeId → FieldOf NodeId
optional_in id = record { optional = true; type = id }

pub record_in_data : {fields : Type 0} (labelled : Labelled NodeId)
    → (((label : Name) → labelled label (optional_in (node_named builtin.Data)) true) ↔ fields)
    → holds (at_formula (record_at labelled)) data_formula true ↔ fields
record_in_data labelled are = grind arith

pub function_in_data : (mapping : Mapping NodeId) → holds (at_formula (function_at mapping)) data_formula true ↔ ⊥
function_in_data mapping = grind arith
