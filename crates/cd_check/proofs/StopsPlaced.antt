-- What an operator refuses is a fault of its operand, where this stands.
use Rattle.std.proofs.Common.{◌≡◌, ◌∙◌, ℕ, refl, List}
use Rattle.cd_sets.specs.declared.node_id.NodeId.{NodeId}
use Rattle.cd_model.specs.Formula.{Graph}
use Rattle.cd_model.specs.Scope.{Scope}
use Rattle.cd_model.specs.Thing.{Thing}
use Rattle.cd_elements.specs.Table.{element_at}
use Rattle.cd_program.specs.Expr.{Expr}
use Rattle.cd_program.specs.declared.operator.BuiltIn.{BuiltIn as Word}
use Rattle.cd_program.specs.declared.operator.BuiltIn.TheVariants as word
use Rattle.cd_typing.specs.Typ.{Types}
use Rattle.cd_typing.specs.declared.rule.Rule.{Rule}
use Rattle.cd_least.specs.Faults.{Breaks, WordFault}
use Rattle.cd_least.specs.Misses.{place_of}
use Rattle.cd_operators.specs.Misfits.{IsMisfitOfWord, WordNeeds, rule_of}
use Rattle.cd_operators.specs.declared.misfit.Side.{Side}
use Rattle.cd_operators.specs.declared.misfit.Side.TheVariants as side
use Rattle.cd_operators.specs.declared.misfit.Stop.{Stop}
use Rattle.cd_operators.specs.declared.misfit.Stop.TheVariants as stop
use Rattle.cd_check.proofs.Needed.{known_misses}
use Rattle.cd_check.specs.Inner.Environment.{Nodes}
use Rattle.cd_check.specs.Inner.Known.{IsKnown, Fails}
use Rattle.cd_check.specs.Inner.Stopped.{place_at, placed_at}

-- both sides stand at one place
pub one_place : (is : Side) (at : ℕ) → place_at is at at ≡ at
one_place side.First at = refl
one_place side.Second at = refl

pub word_breaks : (scope : Scope) (types : Types) (word : Word) (e : Expr) (at : ℕ) (reported : Rule) (d : Thing)
    → Breaks scope types e (WordNeeds word) (rule_of word) at reported d → WordFault scope types word e at reported d
word_breaks scope types word.Not e at reported d is = is
word_breaks scope types word.Flatten e at reported d is = is
word_breaks scope types word.IntOf e at reported d is = is
word_breaks scope types word.StringOf e at reported d is = is
word_breaks scope types word.MinOf e at reported d is = is
word_breaks scope types word.MaxOf e at reported d is = is
word_breaks scope types word.Raise e at reported d is = is

pub word_placed : (scope : Scope) (old : Graph) (nodes : Nodes) (graph : Graph) (e : Expr) (id : NodeId) → IsKnown old nodes scope graph e id
    → (word : Word) (table : List Thing) (at : ℕ) → at ≡ place_of e → (is : Stop) → IsMisfitOfWord graph table word id is
    → Fails old nodes table (λ types. WordFault scope types word e) (placed_at is at at)
word_placed scope old nodes graph e id known word table at place (stop.Misfit misfit) fits = (
  fits.1.named,
  λ types of. word_breaks scope types word e (place_at misfit.side at at) misfit.rule (element_at table misfit.element) (
    fits.0,
    known_misses scope old nodes graph e id known types of (WordNeeds word) (place_at misfit.side at at) (one_place misfit.side at ∙ place)
        (element_at table misfit.element) fits.1.is_element fits.1.inside fits.1.missed,
  ),
)
word_placed scope old nodes graph e id known word table at place stop.Memory fits = tt
