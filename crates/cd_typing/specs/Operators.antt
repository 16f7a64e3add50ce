-- What operators need of the types of their operands, and what a type of their results holds.
use Rattle.std.specs.Prelude.{◌≡◌, ◌≢◌, ◌⊎◌, pos, ◌+ℤ◌, ◌-ℤ◌, Bool, true, false, codes, List, [], Some}
use Rattle.cd_model.specs.AllOf.{AllOf}
use Rattle.cd_model.specs.BuiltIns.{INT, BOOL, STRING, RECORD, DATA}
use Rattle.cd_model.specs.Thing.{Thing, Integer, Atom}
use Rattle.cd_program.specs.declared.operator.Op.{Op}
use Rattle.cd_program.specs.declared.operator.Op.TheVariants as op
use Rattle.cd_program.specs.declared.operator.BuiltIn.{BuiltIn as Word}
use Rattle.cd_program.specs.declared.operator.BuiltIn.TheVariants as word
use Rattle.cd_matching.specs.Sequences.{items}
use Rattle.cd_meaning.specs.Sets.{Set, ◌⊆◌}
use Rattle.cd_meaning.specs.Integers.{IsResultOf}
use Rattle.cd_meaning.specs.Records.{IsMergeOf}
use Rattle.cd_meaning.specs.Sequences.{IsSequence, IsListOf, IsItemOf, IsJoinOf}
use Rattle.cd_typing.specs.Typ.{Typ, In, IsType, BuiltIn}

abbrev pub truth : Bool → Thing
truth true = Atom (codes "true")
truth false = Atom (codes "false")

abbrev pub AreIntegers : (first second : Set) → Type 0
AreIntegers first second = (first ⊆ BuiltIn INT) × (second ⊆ BuiltIn INT)

-- `&&` and `||` leave out their right operand after one truth value, and give that
pub record IsSkipped (value : Bool) (first result : Set) : Type 0 where
  pub condition : first ⊆ BuiltIn BOOL
  pub gives : first (truth value) → result (truth value)

abbrev pub Skips : Op → (first result : Set) → Type 0
Skips op.And first result = IsSkipped false first result
Skips op.Or first result = IsSkipped true first result
Skips is first result = Unit {0}

-- whether the right operand is met
abbrev pub IsReached : Op → (first : Set) → Type 0
IsReached op.And first = first (truth true)
IsReached op.Or first = first (truth false)
IsReached is first = Unit {0}

-- both are sums, or both are merges
abbrev pub IsPlus : (first second result : Set) → Type 0
IsPlus first second result =
    (AreIntegers first second × (IsResultOf (λ a b. a +ℤ b) first second ⊆ result))
    ⊎ ((first ⊆ BuiltIn RECORD) × (second ⊆ BuiltIn RECORD) × (IsMergeOf first second ⊆ result))

abbrev pub IsQuotient : (first second result : Set) → Type 0
IsQuotient first second result = AreIntegers first second × (second (Integer (pos 0)) → ⊥)
    × (BuiltIn INT ⊆ result)

abbrev pub Operates : Op → (first second result : Set) → Type 0
Operates op.And first second result = second ⊆ result
Operates op.Or first second result = second ⊆ result
Operates op.Equal first second result = (first ⊆ BuiltIn DATA) × (second ⊆ BuiltIn DATA)
    × (BuiltIn BOOL ⊆ result)
Operates op.Unequal first second result = (first ⊆ BuiltIn DATA) × (second ⊆ BuiltIn DATA)
    × (BuiltIn BOOL ⊆ result)
Operates op.Less first second result = AreIntegers first second × (BuiltIn BOOL ⊆ result)
Operates op.AtMost first second result = AreIntegers first second × (BuiltIn BOOL ⊆ result)
Operates op.Greater first second result = AreIntegers first second × (BuiltIn BOOL ⊆ result)
Operates op.AtLeast first second result = AreIntegers first second × (BuiltIn BOOL ⊆ result)
Operates op.Concat first second result = (first ⊆ IsSequence) × (second ⊆ IsSequence)
    × (IsJoinOf first second ⊆ result)
Operates op.Plus first second result = IsPlus first second result
Operates op.Minus first second result =
    AreIntegers first second × (IsResultOf (λ a b. a -ℤ b) first second ⊆ result)
Operates op.Times first second result = AreIntegers first second × (BuiltIn INT ⊆ result)
Operates op.Div first second result = IsQuotient first second result
Operates op.Mod first second result = IsQuotient first second result

-- `min_of` and `max_of` give items of sequences of one integer at least
abbrev pub IsNumbers : Set
IsNumbers d = (ds : List Thing) × (items d ≡ Some ds) × AllOf (BuiltIn INT) ds × (ds ≢ [])

abbrev pub ExtremeGives : (operand result : Set) → Type 0
ExtremeGives operand result = (operand ⊆ IsNumbers) × (IsItemOf operand ⊆ result)

-- the words before an operand
abbrev pub WordGives : Word → (operand result : Set) → Type 0
WordGives word.Not operand result = (operand ⊆ BuiltIn BOOL) × (BuiltIn BOOL ⊆ result)
WordGives word.Flatten operand result = (item : Typ) × IsType item
    × (operand ⊆ IsListOf (IsListOf (In item))) × (IsListOf (In item) ⊆ result)
WordGives word.IntOf operand result = (operand ⊆ BuiltIn STRING) × (BuiltIn INT ⊆ result)
WordGives word.StringOf operand result = (operand ⊆ BuiltIn INT) × (BuiltIn STRING ⊆ result)
WordGives word.MinOf operand result = ExtremeGives operand result
WordGives word.MaxOf operand result = ExtremeGives operand result
WordGives word.Raise operand result = operand ⊆ BuiltIn DATA
