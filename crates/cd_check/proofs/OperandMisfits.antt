-- Operands that an operator refuses break its rule.
use Rattle.std.proofs.Common.{◌≡◌, ◌⊎◌, ◌∙◌, inl, inr, refl, ap, ℕ, List}
use Rattle.cd_sets.specs.declared.node_id.NodeId.{NodeId}
use Rattle.cd_elements.specs.Table.{Names, element_at}
use Rattle.cd_elements.specs.declared.shape.ElementId.{ElementId}
use Rattle.cd_model.specs.BuiltIns.{INT, RECORD, DATA}
use Rattle.cd_model.specs.Formula.{Graph}
use Rattle.cd_model.specs.Scope.{Scope}
use Rattle.cd_model.specs.Thing.{Thing}
use Rattle.cd_program.specs.Expr.{Expr, Operand}
use Rattle.cd_program.specs.declared.operator.Op.{Op}
use Rattle.cd_program.specs.declared.operator.Op.TheVariants as op
use Rattle.cd_meaning.specs.Sequences.{IsSequence}
use Rattle.cd_meaning.specs.Sets.{Set, ◌⊆◌, elements_of}
use Rattle.cd_typing.specs.Typ.{BuiltIn, In, Types}
use Rattle.cd_typing.specs.declared.rule.Rule.{Rule}
use Rattle.cd_typing.specs.declared.rule.Rule.TheVariants as rule
use Rattle.cd_typing.proofs.Subsets.{through}
use Rattle.cd_least.specs.Faults.{Breaks, BreaksOne, HasWithin, PlusFault, QuotientFault, OperatorFault, TailFault, NotZero}
use Rattle.cd_least.specs.Misses.{place_of}
use Rattle.cd_operators.specs.Misfits.{Misses, operand, IsMisfitOf, IsMisfitOfBoth, IsMisfitOfPlus, IsMisfitOfQuotient, IsMisfit, AreRecords}
use Rattle.cd_operators.specs.declared.misfit.Misfit.{Misfit}
use Rattle.cd_operators.specs.declared.misfit.Side.{Side}
use Rattle.cd_operators.specs.declared.misfit.Side.TheVariants as side
use Rattle.cd_operators.specs.declared.misfit.Stop.{Stop}
use Rattle.cd_operators.specs.declared.misfit.Stop.TheVariants as stop
use Rattle.cd_check.specs.Inner.Environment.{Nodes, AreOfTypes}
use Rattle.cd_check.specs.Inner.Known.{IsKnown, Fails}
use Rattle.cd_check.specs.Inner.Sides.{IsMet}
use Rattle.cd_check.specs.Inner.Stopped.{place_at, placed_at}
use Rattle.cd_check.proofs.Needed.{known_misses}
use Rattle.cd_check.proofs.StopsPlaced.{one_place}

-- what is missed is of the table
both_named : (graph : Graph) (table : List Thing) (self id : NodeId) (needed : Set) (reported : Rule) (misfit : Misfit)
    → IsMisfitOfBoth graph table self id needed reported (stop.Misfit misfit) → Names table misfit.element
both_named graph table self id needed reported misfit fits = fits.1.named

quotient_named : (graph : Graph) (table : List Thing) (self id : NodeId) (misfit : Misfit)
    → IsMisfitOfQuotient graph table self id (stop.Misfit misfit) → Names table misfit.element
quotient_named graph table self id misfit (inl fits) = fits.1.named
quotient_named graph table self id misfit (inr fits) = fits.1.2.named

misfit_named : (graph : Graph) (table : List Thing) (is : Op) (self id : NodeId) (misfit : Misfit)
    → IsMisfit graph table is self id (stop.Misfit misfit) → Names table misfit.element
misfit_named graph table op.Plus self id misfit fits = fits.1.1.named
misfit_named graph table op.Div self id misfit fits = quotient_named graph table self id misfit fits
misfit_named graph table op.Mod self id misfit fits = quotient_named graph table self id misfit fits
misfit_named graph table op.And self id misfit fits = absurd fits
misfit_named graph table op.Or self id misfit fits = absurd fits
misfit_named graph table op.Equal self id misfit fits = fits.1.named
misfit_named graph table op.Unequal self id misfit fits = fits.1.named
misfit_named graph table op.Less self id misfit fits = fits.1.named
misfit_named graph table op.AtMost self id misfit fits = fits.1.named
misfit_named graph table op.Greater self id misfit fits = fits.1.named
misfit_named graph table op.AtLeast self id misfit fits = fits.1.named
misfit_named graph table op.Concat self id misfit fits = fits.1.named
misfit_named graph table op.Minus self id misfit fits = fits.1.named
misfit_named graph table op.Times self id misfit fits = fits.1.named

module _ (scope : Scope) (old : Graph) (nodes : Nodes) (graph : Graph) (table : List Thing) where
  -- an element of a node that is known, and that is not what a rule needs
  pub missing_breaks : (e : Expr) (id : NodeId) → IsKnown old nodes scope graph e id → (needed : Set) (is : Rule) (element : ElementId)
      → Misses graph table id needed element → (reported : Rule) → reported ≡ is → (at : ℕ) → at ≡ place_of e → (types : Types)
      → AreOfTypes old nodes types → Breaks scope types e needed is at reported (element_at table element)
  missing_breaks e id known needed is element misses reported same at place types of = (
    same,
    known_misses scope old nodes graph e id known types of needed at place (element_at table element) misses.is_element misses.inside
        misses.missed,
  )

  module _ (first second : Expr) (self id : NodeId) (known_first : IsKnown old nodes scope graph first self)
      (known_second : IsKnown old nodes scope graph second id) (at e_at : ℕ) (stands : at ≡ place_of first) (e_stands : e_at ≡ place_of second)
      (types : Types) (of : AreOfTypes old nodes types) where
    one_breaks : (needed : Set) (is : Rule) (which : Side) (element : ElementId) → Misses graph table (operand which self id) needed element
        → (reported : Rule) → reported ≡ is
        → BreaksOne scope types first second needed is (place_at which at e_at) reported (element_at table element)
    one_breaks needed is side.First element misses reported same =
        inl (missing_breaks first self known_first needed is element misses reported same at stands types of)
    one_breaks needed is side.Second element misses reported same =
        inr (missing_breaks second id known_second needed is element misses reported same e_at e_stands types of)

    both_break : (needed : Set) (is : Rule) (misfit : Misfit) → IsMisfitOfBoth graph table self id needed is (stop.Misfit misfit)
        → BreaksOne scope types first second needed is (place_at misfit.side at e_at) misfit.rule (element_at table misfit.element)
    both_break needed is misfit fits = one_breaks needed is misfit.side misfit.element fits.1 misfit.rule fits.0

    -- of the first one that is no integer
    integers_break : (which : Side) (element : ElementId) → Misses graph table (operand which self id) (BuiltIn INT) element
        → (which ≡ side.Second → elements_of graph self ⊆ BuiltIn INT) → (reported : Rule) → reported ≡ rule.Operand
        → Breaks scope types first (BuiltIn INT) rule.Operand (place_at which at e_at) reported (element_at table element)
        ⊎ (HasWithin scope types first (BuiltIn INT)
        × Breaks scope types second (BuiltIn INT) rule.Operand (place_at which at e_at) reported (element_at table element))
    integers_break side.First element misses within reported same =
        inl (missing_breaks first self known_first (BuiltIn INT) rule.Operand element misses reported same at stands types of)
    integers_break side.Second element misses within reported same = inr (
      (_, (known_first types of).is_type, (known_first types of).has, within refl),
      missing_breaks second id known_second (BuiltIn INT) rule.Operand element misses reported same e_at e_stands types of,
    )

    -- what is within a set in some type is so in the least one
    no_records : (AreRecords graph self id → ⊥) → HasWithin scope types first (BuiltIn RECORD) × HasWithin scope types second (BuiltIn RECORD) → ⊥
    no_records none has = none (
      through (elements_of graph self) (In has.0.0) (BuiltIn RECORD) ((known_first types of).least has.0.0 has.0.1 has.0.2) has.0.3,
      through (elements_of graph id) (In has.1.0) (BuiltIn RECORD) ((known_second types of).least has.1.0 has.1.1 has.1.2) has.1.3,
    )

    plus_breaks : (misfit : Misfit) → IsMisfitOfPlus graph table self id (stop.Misfit misfit)
        → PlusFault scope types first second (place_at misfit.side at e_at) misfit.rule (element_at table misfit.element)
    plus_breaks misfit fits = (
      (_, (known_first types of).is_type, (known_first types of).has),
      (_, (known_second types of).is_type, (known_second types of).has),
      no_records fits.0,
      integers_break misfit.side misfit.element fits.1.1 fits.1.2 misfit.rule fits.1.0,
    )

    quotient_breaks : (misfit : Misfit) → IsMisfitOfQuotient graph table self id (stop.Misfit misfit)
        → QuotientFault scope types first second (place_at misfit.side at e_at) misfit.rule (element_at table misfit.element)
    quotient_breaks misfit (inl fits) = inl (both_break (BuiltIn INT) rule.Operand misfit fits)
    quotient_breaks misfit (inr fits) = inr (
      (_, (known_first types of).is_type, (known_first types of).has, fits.0.0),
      (_, (known_second types of).is_type, (known_second types of).has, fits.0.1),
      missing_breaks second id known_second NotZero rule.Divisor misfit.element fits.1.2 misfit.rule fits.1.1
          (place_at misfit.side at e_at) (ap (λ which. place_at which at e_at) fits.1.0 ∙ e_stands) types of,
    )

    pub operator_breaks : (is : Op) → IsMet is → (misfit : Misfit) → IsMisfit graph table is self id (stop.Misfit misfit)
        → OperatorFault scope types is first second (place_at misfit.side at e_at) misfit.rule (element_at table misfit.element)
    operator_breaks op.And met misfit fits = absurd fits
    operator_breaks op.Or met misfit fits = absurd fits
    operator_breaks op.Equal met misfit fits = both_break (BuiltIn DATA) rule.Comparison misfit fits
    operator_breaks op.Unequal met misfit fits = both_break (BuiltIn DATA) rule.Comparison misfit fits
    operator_breaks op.Less met misfit fits = both_break (BuiltIn INT) rule.Operand misfit fits
    operator_breaks op.AtMost met misfit fits = both_break (BuiltIn INT) rule.Operand misfit fits
    operator_breaks op.Greater met misfit fits = both_break (BuiltIn INT) rule.Operand misfit fits
    operator_breaks op.AtLeast met misfit fits = both_break (BuiltIn INT) rule.Operand misfit fits
    operator_breaks op.Concat met misfit fits = both_break IsSequence rule.Sequence misfit fits
    operator_breaks op.Plus met misfit fits = plus_breaks misfit fits
    operator_breaks op.Minus met misfit fits = both_break (BuiltIn INT) rule.Operand misfit fits
    operator_breaks op.Times met misfit fits = both_break (BuiltIn INT) rule.Operand misfit fits
    operator_breaks op.Div met misfit fits = quotient_breaks misfit fits
    operator_breaks op.Mod met misfit fits = quotient_breaks misfit fits

  -- a stop of an operator, whose operands stand at these places
  pub operand_fails : (first second : Expr) (self id : NodeId) → IsKnown old nodes scope graph first self
      → IsKnown old nodes scope graph second id → (at e_at : ℕ) → at ≡ place_of first → e_at ≡ place_of second → (is : Op) → IsMet is
      → (stopped : Stop) → IsMisfit graph table is self id stopped
      → Fails old nodes table (λ types at reported d. TailFault scope types first (Operand is second) at reported d) (placed_at stopped at e_at)
  operand_fails first second self id known_first known_second at e_at stands e_stands is met (stop.Misfit misfit) fits = (
    misfit_named graph table is self id misfit fits,
    λ types of. inr (operator_breaks first second self id known_first known_second at e_at stands e_stands types of is met misfit fits),
  )
  operand_fails first second self id known_first known_second at e_at stands e_stands is met stop.Memory fits = tt

  -- and of one that takes fields: of its operand a rule needs this
  pub part_fails : (f : Expr) (self : NodeId) → IsKnown old nodes scope graph f self → (at : ℕ) → at ≡ place_of f → (needed : Set) (is : Rule)
      → (stopped : Stop) → IsMisfitOf graph table side.First self needed is stopped
      → Fails old nodes table (λ types at reported d. Breaks scope types f needed is at reported d) (placed_at stopped at at)
  part_fails f self known at stands needed is (stop.Misfit misfit) fits = (
    fits.2.named,
    missing_breaks f self known needed is misfit.element fits.2 misfit.rule fits.1 (place_at misfit.side at at) (one_place misfit.side at ∙ stands),
  )
  part_fails f self known at stands needed is stop.Memory fits = tt
