-- Whether 0 is among divisors.
use Rattle.std.proofs.Common.{◌<◌, List, [], ◌∷◌, pos, length, refl, arith}
use Rattle.std.proofs.lemmas.Int.{ints}
use Rattle.cd_sets.specs.declared.node_id.NodeId.{NodeId}
use Rattle.cd_model.specs.Formula.{Graph}
use Rattle.cd_model.specs.Membership.{answers}
use Rattle.cd_model.specs.Thing.{Thing, Integer, IsElement}
use Rattle.cd_rules.specs.Family.{AsksNodes}
use Rattle.cd_rules.specs.Needs.{question}
use Rattle.cd_rules.proofs.Answered.{each_of_asked}
use Rattle.cd_rules.proofs.Asking.{each_of_set, asked_of_each}
use Rattle.cd_elements.specs.Table.{element_at}
use Rattle.cd_elements.specs.declared.shape.ElementId.{ElementId}
use Rattle.cd_verdicts.specs.Verdicts.{HasNoElement, IsExact}
use Rattle.cd_verdicts.specs.declared.verdict.Verdict.TheVariants.{Inhabited}
use Rattle.cd_meaning.specs.Sets.{elements_of}
use Rattle.cd_operators.specs.declared.tools.Tools.{Tools}
use Rattle.cd_operators.specs.Misfits.{Misses}
use Rattle.cd_operators.specs.Tools.{AreTools, IsZero}

abbrev zero : Thing
zero = Integer (pos 0)

pub zero_is_element : IsElement zero
zero_is_element = (omega (arith, ints), omega (arith, ints))

module _ (graph : Graph) (tools : Tools) (are : AreTools graph tools) (second : NodeId) where
  abbrev asked_nodes : List NodeId
  asked_nodes = second ∷ tools.zero ∷ []

  pub asks : second.0 < length graph → AsksNodes (length graph) (question asked_nodes [])
  asks below =
      (each_of_set (λ id. id.0 < length graph) asked_nodes (below, (are.zero, tt)), tt)

  pub never_zero : HasNoElement graph (question asked_nodes [])
      → elements_of graph second zero → ⊥
  never_zero none inside = none zero zero_is_element
      (asked_of_each (answers graph zero) asked_nodes []
      (inside, (are.all_zero zero zero_is_element refl, tt)) tt)

  pub zero_found : (table : List Thing) (element : ElementId)
      → IsExact graph table (question asked_nodes []) (Inhabited element)
      → Misses graph table second (λ d. IsZero d → ⊥) element
  zero_found table element exact =
      let each = each_of_asked (answers graph (element_at table element)) asked_nodes [] exact.2 in
      record {
        named = exact.0;
        is_element = exact.1;
        inside = each.0.0;
        missed = λ other. other (are.is_zero (element_at table element) exact.1 each.0.1.0);
      }
