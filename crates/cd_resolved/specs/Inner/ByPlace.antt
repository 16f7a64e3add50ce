-- Tables in which functions are found by their places, and by their names.
use Rattle.std.specs.Prelude.{◌≡◌, ℕ, List, Option, Some, None, bytes_eq, option_map}
use Rattle.std.specs.Prelude.{if◌then◌else◌}
use Rattle.std.specs.List.{slice_get}
use Rattle.std.specs.Str.{chars, IsUtf8}
use Rattle.indexmap.specs.IndexMap.{IndexMap, get}
use Rattle.cd_syntax.specs.Name.{Name}
use Rattle.cd_program.specs.Expr.{FunctionTree}
use Rattle.cd_program.specs.PlainExpr.{plain_function}
use Rattle.cd_cells.specs.Slots.{slot_at}
use Rattle.cd_evaluation.specs.ProgramFunctions.{first_at, first_named}
use Rattle.cd_resolved.specs.Inner.Keys.{same_key}
use Rattle.cd_resolved.specs.declared.parts.functions.Numbered.{Numbered}
use Rattle.cd_resolved.specs.declared.parts.key.Key.{Key}

-- the slot of each place is the first of the functions that begins there
abbrev pub AreByPlace : List FunctionTree → List (Option Numbered) → Type 0
AreByPlace functions slots = (at : ℕ)
    → option_map (λ one. plain_function one.function.now) (slot_at slots at) ≡ first_at functions at

-- and has its number among all functions
abbrev pub HaveNumbers : List FunctionTree → List (Option Numbered) → Type 0
HaveNumbers all slots = (at : ℕ) (one : Numbered) → slot_at slots at ≡ Some one
    → slice_get all one.number ≡ Some (plain_function one.function.now)

abbrev pub IsNumberOf : List FunctionTree → FunctionTree → Option ℕ → Type 0
IsNumberOf all f None = ⊥
IsNumberOf all f (Some number) = slice_get all number ≡ Some f

-- under the text of each name the map has the place of the first of the functions that has it
abbrev pub AreByName : {S : Type 0} → List FunctionTree → IndexMap Key ℕ S → Type 0
AreByName functions places = (key : Key) → IsUtf8 key.text.now
    → get same_key places key ≡ first_named functions (chars key.text.now)

-- a name has this place, and the others have theirs
abbrev pub Enters : {S : Type 0} → Name → ℕ → IndexMap Key ℕ S → IndexMap Key ℕ S → Type 0
Enters own at old new = (key : Key) → IsUtf8 key.text.now → get same_key new key
    ≡ (if bytes_eq own (chars key.text.now) then Some at else get same_key old key)
