-- An operator gives of fewer operands what it gives of all.
use Rattle.std.proofs.Common.{◌<◌, inl, inr, length, ℤ}
use Rattle.cd_sets.specs.declared.node_id.NodeId.{NodeId}
use Rattle.cd_model.specs.BuiltIns.{INT, RECORD, DATA}
use Rattle.cd_model.specs.Formula.{Graph, IsGraph}
use Rattle.cd_model.specs.Scope.{Scope}
use Rattle.cd_model.specs.Thing.{Integer, Record}
use Rattle.cd_program.specs.Expr.{Expr, Operand}
use Rattle.cd_program.specs.declared.operator.Op.{Op}
use Rattle.cd_program.specs.declared.operator.Op.TheVariants as op
use Rattle.cd_meaning.specs.Integers.{IsResultOf}
use Rattle.cd_meaning.specs.Records.{IsMergeOf}
use Rattle.cd_meaning.specs.Sequences.{IsSequence, IsJoinOf}
use Rattle.cd_meaning.specs.Sets.{Set, ◌⊆◌, elements_of}
use Rattle.cd_typing.specs.Later.{IsLater}
use Rattle.cd_typing.specs.Operators.{AreIntegers, IsPlus, IsQuotient, Operates, Skips}
use Rattle.cd_typing.specs.Typ.{typ, IsType, BuiltIn}
use Rattle.cd_typing.specs.Typing.{Has, TailHas}
use Rattle.cd_typing.proofs.Later.{later_in}
use Rattle.cd_typing.proofs.Subsets.{through}
use Rattle.cd_check.specs.Inner.Environment.{Nodes, Gives}
use Rattle.cd_check.specs.Inner.Sides.{IsMet}

module _ (first fewer : Set) (within : fewer ⊆ first) (second result : Set) where
  integers_fewer : AreIntegers first second → AreIntegers fewer second
  integers_fewer are = (through fewer first (BuiltIn INT) within are.0, are.1)

  results_fewer : (compute : ℤ → ℤ → ℤ) → IsResultOf compute first second ⊆ result → IsResultOf compute fewer second ⊆ result
  results_fewer compute all d element is =
      all d element (is.0, is.1, is.2, is.3, within (Integer is.0) is.2 is.4, is.5, is.6, is.7)

  merges_fewer : IsMergeOf first second ⊆ result → IsMergeOf fewer second ⊆ result
  merges_fewer all d element is = all d element (
    is.0,
    is.1,
    λ label a_label. let at = is.2 label a_label in (at.0, at.1, (at.2.0, within (Record at.0) at.2.0 at.2.1), at.3, at.4),
  )

  joins_fewer : IsJoinOf first second ⊆ result → IsJoinOf fewer second ⊆ result
  joins_fewer all d element is =
      all d element (is.0, is.1, is.2, is.3, is.4, within is.0 is.3 is.5, is.6, is.7, is.8)

  plus_fewer : IsPlus first second result → IsPlus fewer second result
  plus_fewer (inl sums) = inl (integers_fewer sums.0, results_fewer _ sums.1)
  plus_fewer (inr merges) = inr (through fewer first (BuiltIn RECORD) within merges.0, merges.1, merges_fewer merges.2)

  quotient_fewer : IsQuotient first second result → IsQuotient fewer second result
  quotient_fewer is = (integers_fewer is.0, is.1, is.2)

  pub operates_fewer : (is : Op) → Operates is first second result → Operates is fewer second result
  operates_fewer op.And has = has
  operates_fewer op.Or has = has
  operates_fewer op.Equal has = (through fewer first (BuiltIn DATA) within has.0, has.1, has.2)
  operates_fewer op.Unequal has = (through fewer first (BuiltIn DATA) within has.0, has.1, has.2)
  operates_fewer op.Less has = (integers_fewer has.0, has.1)
  operates_fewer op.AtMost has = (integers_fewer has.0, has.1)
  operates_fewer op.Greater has = (integers_fewer has.0, has.1)
  operates_fewer op.AtLeast has = (integers_fewer has.0, has.1)
  operates_fewer op.Concat has = (through fewer first IsSequence within has.0, has.1, joins_fewer has.2)
  operates_fewer op.Plus has = plus_fewer has
  operates_fewer op.Minus has = (integers_fewer has.0, results_fewer _ has.1)
  operates_fewer op.Times has = (integers_fewer has.0, has.1)
  operates_fewer op.Div has = quotient_fewer has
  operates_fewer op.Mod has = quotient_fewer has

-- an operator whose right operand is always met skips nothing
skips_none : (is : Op) → IsMet is → (first result : Set) → Skips is first result
skips_none op.And met first result = absurd met
skips_none op.Or met first result = absurd met
skips_none op.Equal met first result = tt
skips_none op.Unequal met first result = tt
skips_none op.Less met first result = tt
skips_none op.AtMost met first result = tt
skips_none op.Greater met first result = tt
skips_none op.AtLeast met first result = tt
skips_none op.Concat met first result = tt
skips_none op.Plus met first result = tt
skips_none op.Minus met first result = tt
skips_none op.Times met first result = tt
skips_none op.Div met first result = tt
skips_none op.Mod met first result = tt

pub operand_gives : (scope : Scope) (old : Graph) (nodes : Nodes) → IsGraph old → (self : NodeId) → self.0 < length old
    → (middle : Graph) → IsLater old middle → (new : Graph) (e : Expr) (id : NodeId)
    → Gives old nodes middle (λ types t. Has scope types e t) id → (is : Op) → IsMet is → (result : NodeId) → IsType (typ new result)
    → Operates is (elements_of middle self) (elements_of middle id) (elements_of new result)
    → Gives old nodes new (λ types t. TailHas scope types (typ old self) (Operand is e) t) result
operand_gives scope old nodes sound self below middle later new e id gives is met result is_type operates = record {
  is_type = is_type;
  has = λ types of. (
    skips_none is met (elements_of old self) (elements_of new result),
    λ reached. (
      typ middle id,
      gives.is_type,
      gives.has types of,
      operates_fewer (elements_of middle self) (elements_of old self) (later_in old middle later sound self below) (elements_of middle id)
          (elements_of new result) is operates,
    ),
  );
}
