-- Operands that operators refuse.
use Rattle.std.specs.Prelude.{◌≡◌, ◌⊎◌, List}
use Rattle.cd_sets.specs.declared.node_id.NodeId.{NodeId}
use Rattle.cd_model.specs.BuiltIns.{INT, BOOL, STRING, RECORD, DATA}
use Rattle.cd_model.specs.Formula.{Graph}
use Rattle.cd_model.specs.Thing.{Thing, IsElement}
use Rattle.cd_elements.specs.Table.{Names, element_at}
use Rattle.cd_elements.specs.declared.shape.ElementId.{ElementId}
use Rattle.cd_program.specs.declared.operator.Op.{Op}
use Rattle.cd_program.specs.declared.operator.Op.TheVariants as op
use Rattle.cd_program.specs.declared.operator.BuiltIn.{BuiltIn as Word}
use Rattle.cd_program.specs.declared.operator.BuiltIn.TheVariants as word
use Rattle.cd_meaning.specs.Sets.{Set, ◌⊆◌, elements_of}
use Rattle.cd_meaning.specs.Sequences.{IsSequence, IsListOf}
use Rattle.cd_typing.specs.Operators.{AreIntegers, IsNumbers}
use Rattle.cd_typing.specs.Typ.{BuiltIn}
use Rattle.cd_operators.specs.declared.misfit.Side.{Side}
use Rattle.cd_operators.specs.declared.misfit.Side.TheVariants as side
use Rattle.cd_operators.specs.declared.misfit.Stop.{Stop}
use Rattle.cd_operators.specs.declared.misfit.Stop.TheVariants as stop
use Rattle.cd_typing.specs.declared.rule.Rule.{Rule}
use Rattle.cd_typing.specs.declared.rule.Rule.TheVariants as rule
use Rattle.cd_operators.specs.Tools.{IsZero}

-- what the words need of their operand
abbrev pub WordNeeds : Word → Set
WordNeeds word.Not = BuiltIn BOOL
WordNeeds word.Flatten = IsListOf IsSequence
WordNeeds word.IntOf = BuiltIn STRING
WordNeeds word.StringOf = BuiltIn INT
WordNeeds word.MinOf = IsNumbers
WordNeeds word.MaxOf = IsNumbers
WordNeeds word.Raise = BuiltIn DATA

abbrev pub rule_of : Word → Rule
rule_of word.Not = rule.Condition
rule_of word.Flatten = rule.Sequence
rule_of word.IntOf = rule.Text
rule_of word.StringOf = rule.Operand
rule_of word.MinOf = rule.Numbers
rule_of word.MaxOf = rule.Numbers
rule_of word.Raise = rule.Exception

-- an element of the table is in the node, and is not what is needed
pub record Misses (graph : Graph) (table : List Thing) (id : NodeId) (needed : Set)
    (element : ElementId) : Type 0 where
  pub named : Names table element
  pub is_element : IsElement (element_at table element)
  pub inside : elements_of graph id (element_at table element)
  pub missed : needed (element_at table element) → ⊥

abbrev pub operand : Side → (first second : NodeId) → NodeId
operand side.First first second = first
operand side.Second first second = second

-- one operand is refused by a rule, which needs this of it
abbrev pub IsMisfitOf : Graph → List Thing → Side → NodeId → (needed : Set) → Rule → Stop → Type 0
IsMisfitOf graph table side id needed rule (stop.Misfit misfit) = (misfit.side ≡ side)
    × (misfit.rule ≡ rule) × Misses graph table id needed misfit.element
IsMisfitOf graph table side id needed rule stop.Memory = Unit {0}

-- The first of two that is not within what is needed of both
abbrev pub IsMisfitOfBoth : Graph → List Thing → (first second : NodeId) → (needed : Set) → Rule
    → Stop → Type 0
IsMisfitOfBoth graph table first second needed rule (stop.Misfit misfit) = (misfit.rule ≡ rule)
    × Misses graph table (operand misfit.side first second) needed misfit.element
    × (misfit.side ≡ side.Second → elements_of graph first ⊆ needed)
IsMisfitOfBoth graph table first second needed rule stop.Memory = Unit {0}

abbrev pub AreRecords : Graph → (first second : NodeId) → Type 0
AreRecords graph first second =
    (elements_of graph first ⊆ BuiltIn RECORD) × (elements_of graph second ⊆ BuiltIn RECORD)

-- of `+`: an integer is needed where not both are records
abbrev pub IsMisfitOfPlus : Graph → List Thing → (first second : NodeId) → Stop → Type 0
IsMisfitOfPlus graph table first second (stop.Misfit misfit) =
    (AreRecords graph first second → ⊥)
    × IsMisfitOfBoth graph table first second (BuiltIn INT) rule.Operand (stop.Misfit misfit)
IsMisfitOfPlus graph table first second stop.Memory = Unit {0}

-- of `div` and `mod`: integers are needed, and where both are integers a divisor that is not 0
abbrev pub IsMisfitOfQuotient : Graph → List Thing → (first second : NodeId) → Stop → Type 0
IsMisfitOfQuotient graph table first second (stop.Misfit misfit) =
    IsMisfitOfBoth graph table first second (BuiltIn INT) rule.Operand (stop.Misfit misfit)
    ⊎ (AreIntegers (elements_of graph first) (elements_of graph second)
    × IsMisfitOf graph table side.Second second (λ d. IsZero d → ⊥) rule.Divisor
    (stop.Misfit misfit))
IsMisfitOfQuotient graph table first second stop.Memory = Unit {0}

-- of `&&` and `||`, whose left operand is tested before: nothing is refused
abbrev pub IsNoMisfit : Stop → Type 0
IsNoMisfit (stop.Misfit misfit) = ⊥
IsNoMisfit stop.Memory = Unit {0}

-- of each operator, by its rule
abbrev pub IsMisfit : Graph → List Thing → Op → (first second : NodeId) → Stop → Type 0
IsMisfit graph table op.And first second = IsNoMisfit
IsMisfit graph table op.Or first second = IsNoMisfit
IsMisfit graph table op.Equal first second =
    IsMisfitOfBoth graph table first second (BuiltIn DATA) rule.Comparison
IsMisfit graph table op.Unequal first second =
    IsMisfitOfBoth graph table first second (BuiltIn DATA) rule.Comparison
IsMisfit graph table op.Concat first second =
    IsMisfitOfBoth graph table first second IsSequence rule.Sequence
IsMisfit graph table op.Plus first second = IsMisfitOfPlus graph table first second
IsMisfit graph table op.Div first second = IsMisfitOfQuotient graph table first second
IsMisfit graph table op.Mod first second = IsMisfitOfQuotient graph table first second
IsMisfit graph table is first second =
    IsMisfitOfBoth graph table first second (BuiltIn INT) rule.Operand

abbrev pub IsMisfitOfWord : Graph → List Thing → Word → NodeId → Stop → Type 0
IsMisfitOfWord graph table word id (stop.Misfit misfit) =
    (misfit.rule ≡ rule_of word) × Misses graph table id (WordNeeds word) misfit.element
IsMisfitOfWord graph table word id stop.Memory = Unit {0}
