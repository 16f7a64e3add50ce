-- What operators, words and other forms do with the values of their operands.
use Rattle.std.specs.Prelude.{ℤ, ◌+ℤ◌, ◌-ℤ◌, ◌*ℤ◌, int_le, int_lt, int_div, int_rem, ℕ, List}
use Rattle.std.specs.Prelude.{[], ◌∷◌, Bool, true, false, not, Option, Some, None, codes}
use Rattle.std.specs.Prelude.{bytes_eq, if◌then◌else◌}
use Rattle.std.specs.Fmt.{signed_decimal}
use Rattle.cd_syntax.specs.Name.{Name}
use Rattle.cd_model.specs.Thing.{Thing, Integer, Atom, Xml, Record}
use Rattle.cd_rules.specs.InRow.{thing_at}
use Rattle.cd_matching.specs.Sequences.{items, text_of}
use Rattle.cd_program.specs.declared.operator.Op.{Op}
use Rattle.cd_program.specs.declared.operator.Op.TheVariants as op
use Rattle.cd_program.specs.declared.operator.BuiltIn.{BuiltIn as Word}
use Rattle.cd_program.specs.declared.operator.BuiltIn.TheVariants as word
use Rattle.cd_typing.specs.Operators.{truth}
use Rattle.cd_evaluation.specs.Runs.{Outcome, Done, Raised, Stuck, found}
use Rattle.cd_evaluation.specs.Integers.{computed, divided, on_integers, spelled}
use Rattle.cd_evaluation.specs.Equality.{same}
use Rattle.cd_evaluation.specs.Lists.{both_items, all_items, listed, characters_of}
use Rattle.cd_evaluation.specs.RecordFields.{merged, without}

-- the truth value that a thing is, and None of another thing
abbrev pub truth_of : Thing → Option Bool
truth_of (Atom name) = if bytes_eq name (codes "true") then Some true
    else (if bytes_eq name (codes "false") then Some false else None)
truth_of _ = None

-- a sum, or records merged
abbrev pub plus : Thing → Thing → Outcome
plus (Integer n) (Integer m) = computed (n +ℤ m)
plus (Record fields) (Record others) = Done (Record (merged fields others))
plus _ _ = Stuck

-- an operator between two values; `&&` and `||` are none, since they may leave out the second
abbrev pub operate : Op → Thing → Thing → Outcome
operate op.Or v w = Stuck
operate op.And v w = Stuck
operate op.Equal v w = Done (truth (same v w))
operate op.Unequal v w = Done (truth (not (same v w)))
operate op.Less v w = on_integers (λ n m. Done (truth (int_lt n m))) v w
operate op.AtMost v w = on_integers (λ n m. Done (truth (int_le n m))) v w
operate op.Greater v w = on_integers (λ n m. Done (truth (int_lt m n))) v w
operate op.AtLeast v w = on_integers (λ n m. Done (truth (int_le m n))) v w
operate op.Concat v w = listed (both_items (items v) (items w))
operate op.Plus v w = plus v w
operate op.Minus v w = on_integers (λ n m. computed (n -ℤ m)) v w
operate op.Times v w = on_integers (λ n m. computed (n *ℤ m)) v w
operate op.Div v w = on_integers (divided int_div) v w
operate op.Mod v w = on_integers (divided int_rem) v w

-- words before an operand
abbrev pub inverted : Option Bool → Outcome
inverted None = Stuck
inverted (Some b) = Done (truth (not b))

-- the sequence of the items of these sequences
abbrev pub flattened : Option (List Thing) → Outcome
flattened None = Stuck
flattened (Some sequences) = listed (all_items sequences)

-- a text that spells no integer raises `Invalid_int`
abbrev pub if_spelled : Option ℤ → Outcome
if_spelled None = Raised (Atom (codes "Invalid_int"))
if_spelled (Some n) = Done (Integer n)

abbrev pub int_of : Option (List ℕ) → Outcome
int_of None = Stuck
int_of (Some text) = if_spelled (spelled text)

abbrev pub string_of : Thing → Outcome
string_of (Integer n) = Done (text_of (signed_decimal n))
string_of _ = Stuck

-- the integer that stands first in an order: among these and a number, and among some items
abbrev pub first_among : (ℤ → ℤ → Bool) → ℤ → List Thing → Option ℤ
first_among before n [] = Some n
first_among before n (Integer m ∷ rest) = first_among before (if before m n then m else n) rest
first_among before n (_ ∷ rest) = None

abbrev pub extreme : (ℤ → ℤ → Bool) → Option (List Thing) → Option ℤ
extreme before (Some (Integer n ∷ rest)) = first_among before n rest
extreme before _ = None

abbrev pub if_found : Option ℤ → Outcome
if_found None = Stuck
if_found (Some n) = Done (Integer n)

abbrev pub word_outcome : Word → Thing → Outcome
word_outcome word.Not v = inverted (truth_of v)
word_outcome word.Flatten v = flattened (items v)
word_outcome word.IntOf v = int_of (characters_of v)
word_outcome word.StringOf v = string_of v
word_outcome word.MinOf v = if_found (extreme (λ n m. int_lt n m) (items v))
word_outcome word.MaxOf v = if_found (extreme (λ n m. int_lt m n) (items v))
word_outcome word.Raise v = Raised v

-- a record without the field of a label, and its field there
abbrev pub dropped : (label : Name) → Thing → Outcome
dropped label (Record fields) = Done (Record (without label fields))
dropped label _ = Stuck

abbrev pub selected : (label : Name) → Thing → Outcome
selected label (Record fields) = found (thing_at fields label)
selected label _ = Stuck

-- an XML value, whose tag is an atom and whose attributes are a record
abbrev pub xml : (tag attributes content : Thing) → Outcome
xml (Atom name) (Record fields) content = Done (Xml (Atom name) (Record fields) content)
xml _ _ content = Stuck
