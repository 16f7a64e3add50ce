-- What is outside a set is outside each set within it: so what a call found of an operand shows
-- that a rule is not met.
use Rattle.std.proofs.Common.{inl, List}
use Rattle.cd_sets.specs.declared.node_id.NodeId.{NodeId}
use Rattle.cd_model.specs.BuiltIns.{INT}
use Rattle.cd_model.specs.Formula.{Graph}
use Rattle.cd_model.specs.Thing.{Thing}
use Rattle.cd_elements.specs.Table.{element_at}
use Rattle.cd_elements.specs.declared.shape.ElementId.{ElementId}
use Rattle.cd_program.specs.declared.operator.BuiltIn.{BuiltIn as Word}
use Rattle.cd_meaning.specs.Sets.{Set, ◌⊆◌, elements_of}
use Rattle.cd_typing.specs.Typ.{BuiltIn}
use Rattle.cd_typing.specs.declared.rule.Rule.{Rule}
use Rattle.cd_typing.specs.declared.rule.Rule.TheVariants as rule
use Rattle.cd_typing.proofs.Subsets.{through}
use Rattle.cd_operators.specs.declared.misfit.Side.{Side}
use Rattle.cd_operators.specs.declared.misfit.Stop.{Stop}
use Rattle.cd_operators.specs.declared.misfit.Stop.TheVariants as stop
use Rattle.cd_operators.specs.Misfits.{WordNeeds, rule_of, Misses, operand, AreRecords, IsMisfitOf}
use Rattle.cd_operators.specs.Misfits.{IsMisfitOfBoth, IsMisfitOfPlus, IsMisfitOfQuotient}
use Rattle.cd_operators.specs.Misfits.{IsMisfitOfWord}

module _ (graph : Graph) (table : List Thing) (needed : Set) where
  misses_less : (id : NodeId) (element : ElementId) (wanted : Set) → wanted ⊆ needed
      → Misses graph table id needed element → Misses graph table id wanted element
  misses_less id element wanted within misses = record {
    named = misses.named;
    is_element = misses.is_element;
    inside = misses.inside;
    missed = λ is.
        misses.missed (within (element_at table element) misses.is_element is);
  }

  -- so the operand is not within the set
  pub not_within : (id : NodeId) (element : ElementId) (wanted : Set) → wanted ⊆ needed
      → Misses graph table id needed element → elements_of graph id ⊆ wanted → ⊥
  not_within id element wanted within misses are =
      let e = element_at table element in
      misses.missed (within e misses.is_element (are e misses.is_element misses.inside))

  -- the first of two operands, by another name of the same set
  pub misfit_of_both : (first second : NodeId) (wanted : Set) (rule : Rule) → wanted ⊆ needed
      → needed ⊆ wanted → (stop : Stop)
      → IsMisfitOfBoth graph table first second needed rule stop
      → IsMisfitOfBoth graph table first second wanted rule stop
  misfit_of_both first second wanted rule within back (stop.Misfit misfit) (same, misses, before) = (
    same,
    misses_less (operand misfit.side first second) misfit.element wanted within misses,
    λ is. through (elements_of graph first) needed wanted (before is) back,
  )
  misfit_of_both first second wanted rule within back stop.Memory is = tt

  -- the operand of a word
  pub misfit_of_word : (side : Side) (id : NodeId) (word : Word) → WordNeeds word ⊆ needed
      → (stop : Stop) → IsMisfitOf graph table side id needed (rule_of word) stop
      → IsMisfitOfWord graph table word id stop
  misfit_of_word side id word within (stop.Misfit misfit) (same_side, same, misses) =
      (same, misses_less id misfit.element (WordNeeds word) within misses)
  misfit_of_word side id word within stop.Memory is = tt

-- an operand that is refused in a longer graph, by what more holds
misses_before : (graph later : Graph) (table : List Thing) (id : NodeId) (needed wanted : Set)
    (element : ElementId) → elements_of later id ⊆ elements_of graph id → wanted ⊆ needed
    → Misses later table id needed element → Misses graph table id wanted element
misses_before graph later table id needed wanted element back within misses = record {
  named = misses.named;
  is_element = misses.is_element;
  inside = back (element_at table element) misses.is_element misses.inside;
  missed = λ is. misses.missed (within (element_at table element) misses.is_element is);
}

pub misfit_before : (graph later : Graph) (table : List Thing) (side : Side) (id : NodeId)
    (needed wanted : Set) (rule : Rule) → elements_of later id ⊆ elements_of graph id
    → wanted ⊆ needed → (stop : Stop) → IsMisfitOf later table side id needed rule stop
    → IsMisfitOf graph table side id wanted rule stop
misfit_before graph later table side id needed wanted rule back within (stop.Misfit misfit)
    (same_side, same, misses) = (
      same_side,
      same,
      misses_before graph later table id needed wanted misfit.element back within
          misses,
    )
misfit_before graph later table side id needed wanted rule back within stop.Memory is = tt

-- an operand that is no integer is refused by `+` and by `div`
module _ (graph : Graph) (table : List Thing) (first second : NodeId) where
  pub misfit_of_plus : (AreRecords graph first second → ⊥) → (stop : Stop)
      → IsMisfitOfBoth graph table first second (BuiltIn INT) rule.Operand stop
      → IsMisfitOfPlus graph table first second stop
  misfit_of_plus records (stop.Misfit misfit) is = (records, is)
  misfit_of_plus records stop.Memory is = tt

  pub misfit_of_quotient : (stop : Stop)
      → IsMisfitOfBoth graph table first second (BuiltIn INT) rule.Operand stop
      → IsMisfitOfQuotient graph table first second stop
  misfit_of_quotient (stop.Misfit misfit) is = inl is
  misfit_of_quotient stop.Memory is = tt
