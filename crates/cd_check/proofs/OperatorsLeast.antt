-- Least types of what functions give for an argument, and of what operators give whose right operand is always met.
use Rattle.std.proofs.Common.{◌<◌, length}
use Rattle.cd_sets.specs.declared.node_id.NodeId.{NodeId}
use Rattle.cd_model.specs.Formula.{Graph, IsGraph}
use Rattle.cd_model.specs.Scope.{Scope}
use Rattle.cd_program.specs.Expr.{Expr, Operand}
use Rattle.cd_program.specs.declared.operator.Op.{Op}
use Rattle.cd_program.specs.declared.operator.Op.TheVariants as op
use Rattle.cd_meaning.specs.Functions.{IsGiven}
use Rattle.cd_meaning.specs.Sets.{Set, ◌⊆◌, elements_of}
use Rattle.cd_typing.specs.Later.{IsLater}
use Rattle.cd_typing.specs.Operators.{IsReached, Operates}
use Rattle.cd_typing.specs.Typ.{Typ, typ, In, Types}
use Rattle.cd_typing.proofs.Later.{earlier_in}
use Rattle.cd_typing.proofs.Subsets.{through}
use Rattle.cd_least.specs.Faults.{IsReachedAfter}
use Rattle.cd_least.specs.Least.{IsArgumentLeast, IsTailLeast}
use Rattle.cd_least.proofs.LeastForms.{argument_least, operator_least}
use Rattle.cd_check.specs.Inner.Environment.{Nodes, AreOfTypes}
use Rattle.cd_check.specs.Inner.Known.{IsKnown}
use Rattle.cd_check.specs.Inner.Sides.{IsMet}

met_in : (is : Op) → IsMet is → (first : Set) → IsReached is first
met_in op.And met first = absurd met
met_in op.Or met first = absurd met
met_in op.Equal met first = tt
met_in op.Unequal met first = tt
met_in op.Less met first = tt
met_in op.AtMost met first = tt
met_in op.Greater met first = tt
met_in op.AtLeast met first = tt
met_in op.Concat met first = tt
met_in op.Plus met first = tt
met_in op.Minus met first = tt
met_in op.Times met first = tt
met_in op.Div met first = tt
met_in op.Mod met first = tt

pub met_after : (scope : Scope) (types : Types) (is : Op) → IsMet is → (f : Expr) → IsReachedAfter scope types is f
met_after scope types op.And met f = absurd met
met_after scope types op.Or met f = absurd met
met_after scope types op.Equal met f = tt
met_after scope types op.Unequal met f = tt
met_after scope types op.Less met f = tt
met_after scope types op.AtMost met f = tt
met_after scope types op.Greater met f = tt
met_after scope types op.AtLeast met f = tt
met_after scope types op.Concat met f = tt
met_after scope types op.Plus met f = tt
met_after scope types op.Minus met f = tt
met_after scope types op.Times met f = tt
met_after scope types op.Div met f = tt
met_after scope types op.Mod met f = tt

-- the operand is checked in a longer graph than that of what stands before it
module _ (scope : Scope) (old : Graph) (nodes : Nodes) (sound : IsGraph old) (self : NodeId) (below : self.0 < length old) (middle : Graph)
    (later : IsLater old middle) (new : Graph) (e : Expr) (id : NodeId) (known : IsKnown old nodes scope middle e id) (result : NodeId)
    (types : Types) (of : AreOfTypes old nodes types) where
  still_fewer : (wider : Typ) → elements_of old self ⊆ In wider → elements_of middle self ⊆ In wider
  still_fewer wider = through (elements_of middle self) (elements_of old self) (In wider) (earlier_in old middle later sound self below)

  pub applied_least : elements_of new result ⊆ IsGiven (elements_of middle self) (elements_of middle id)
      → IsArgumentLeast scope types (typ old self) e (typ new result)
  applied_least only wider s r fewer =
      argument_least scope types (typ middle self) (typ middle id) (typ new result) e (known types of) only wider s r (still_fewer wider fewer)

  pub operated_least : (is : Op) → IsMet is → ((wider other last : Typ) → elements_of middle self ⊆ In wider → elements_of middle id ⊆ In other
      → Operates is (In wider) (In other) (In last) → elements_of new result ⊆ In last)
      → IsTailLeast scope types (typ old self) (Operand is e) (typ new result)
  operated_least is met least wider r sound_wider fewer =
      operator_least scope types (typ middle self) (typ middle id) (typ new result) is e (known types of)
      (λ other within. met_in is met (In other))
      (λ other s last sound_s within among operates. least other s last within among operates) wider r sound_wider (still_fewer wider fewer)
