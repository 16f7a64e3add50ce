-- Tests of truth values have types that hold what their sides give.
use Rattle.std.proofs.Common.{◌≡◌, refl, sym, subst, Bool, true, false, not, Option, Some, None, codes}
use Rattle.cd_sets.specs.declared.node_id.NodeId.{NodeId}
use Rattle.cd_model.specs.BuiltIns.{BOOL}
use Rattle.cd_model.specs.Formula.{Graph, IsGraph}
use Rattle.cd_model.specs.Scope.{Scope}
use Rattle.cd_model.specs.Thing.{IsElement}
use Rattle.cd_model.proofs.SoundBuiltIns.{a_label}
use Rattle.cd_program.specs.Expr.{Expr, If, Operand}
use Rattle.cd_meaning.specs.Sets.{Set, ◌⊆◌, elements_of}
use Rattle.cd_typing.specs.Typ.{Typ, typ, In, IsType, Types, BuiltIn}
use Rattle.cd_typing.specs.Later.{IsLater}
use Rattle.cd_typing.specs.Operators.{truth}
use Rattle.cd_typing.specs.Typing.{Has, KindHas, TailHas}
use Rattle.cd_typing.proofs.Later.{later_in}
use Rattle.cd_typing.proofs.Widening.{widen}
use Rattle.cd_check.specs.Inner.Environment.{Nodes, AreOfTypes, AreNodesOf, Gives}
use Rattle.cd_check.specs.Inner.Sides.{short_op, HoldsSome, MaySkip}
use Rattle.cd_check.proofs.TypesLater.{types_later}

pub is_truth : (value : Bool) → IsElement (truth value)
is_truth true = a_label (codes "true") refl refl
is_truth false = a_label (codes "false") refl refl

-- what is tested may be another truth value, whose node is given then
pub short_holds : (second last : Graph) (tested node : NodeId) (value : Bool) (short : Option NodeId) (result : NodeId)
    → (λ d. d ≡ truth value) ⊆ elements_of second node → MaySkip second tested node short → HoldsSome second last short result
    → elements_of second tested (truth value) → elements_of last result (truth value)
short_holds second last tested node value None result has skip holds may =
    absurd (skip (truth value) (is_truth value) may (has (truth value) (is_truth value) refl))
short_holds second last tested node value (Some id) result has skip holds may = holds (truth value) (is_truth value)
    (subst (λ other. elements_of second other (truth value)) (sym skip) (has (truth value) (is_truth value) refl))

module _ (scope : Scope) (nodes : Nodes) where
  -- an expression, where the truth value may be of the type of what is tested
  abbrev pub Side : (graph : Graph) (tested : Set) (value : Bool) → Expr → (new : Graph) → Option NodeId → Type 0
  Side graph tested value e new None = tested (truth value) → ⊥
  Side graph tested value e new (Some id) = Gives graph nodes new (λ types t. Has scope types e t) id

  -- it has each type that holds what it gives
  side_has : (graph : Graph) (tested : Set) (value : Bool) (e : Expr) (new last : Graph) (found : Option NodeId) (result : NodeId)
      → Side graph tested value e new found → HoldsSome new last found result → (types : Types) → AreOfTypes graph nodes types
      → tested (truth value) → Has scope types e (typ last result)
  side_has graph tested value e new last None result side holds types of may = absurd (side may)
  side_has graph tested value e new last (Some id) result side holds types of may =
      widen scope e types (typ new id) (typ last result) holds (side.has types of)

  module _ (old : Graph) (sound : IsGraph old) (old_nodes : AreNodesOf old nodes) where
    -- the sides are checked from a graph on in which the condition has its type, the second after the first
    pub if_gives : (condition : Expr) (tested : NodeId) (first : Graph) → IsLater old first
        → Gives old nodes first (λ types t. Has scope types condition t) tested → elements_of first tested ⊆ BuiltIn BOOL
        → (then_one else_one : Expr) (second third last : Graph) → IsLater first second
        → (one other : Option NodeId) → Side first (elements_of first tested) true then_one second one
        → Side second (elements_of second tested) false else_one third other
        → (result : NodeId) → IsType (typ last result) → HoldsSome second last one result → HoldsSome third last other result
        → AreNodesOf first nodes
        → Gives old nodes last (λ types t. KindHas scope types (If condition then_one else_one) t) result
    if_gives condition tested first is_first gives within then_one else_one second third last is_second one other one_side other_side
        result is_type one_holds other_holds first_nodes = record {
          is_type = is_type;
          has = λ types of. let of_first = types_later old first is_first sound nodes old_nodes types of in (
            typ first tested,
            gives.is_type,
            gives.has types of,
            within,
            λ may. side_has first (elements_of first tested) true then_one second last one result one_side one_holds types of_first may,
            λ may. side_has second (elements_of second tested) false else_one third last other result other_side other_holds types
                (types_later first second is_second is_first.sound nodes first_nodes types of_first)
                (later_in first second is_second is_first.sound tested gives.is_type.is_node (truth false) (is_truth false) may),
          );
        }

    -- the second operand is checked where it may be met
    module _ (first : NodeId) (within : elements_of old first ⊆ BuiltIn BOOL) (e : Expr) (second last : Graph) (result : NodeId)
        (is_type : IsType (typ last result)) where
      reached : (met : Bool) (long : Option NodeId) → Side old (elements_of old first) met e second long
          → HoldsSome second last long result → (types : Types) → AreOfTypes old nodes types → elements_of old first (truth met)
          → (s : Typ) × IsType s × Has scope types e s × (In s ⊆ elements_of last result)
      reached met None side holds types of may = absurd (side may)
      reached met (Some id) side holds types of may = (typ second id, side.is_type, side.has types of, holds)

      pub short_gives : (met : Bool) (long : Option NodeId) → Side old (elements_of old first) met e second long
          → HoldsSome second last long result
          → (elements_of old first (truth (not met)) → elements_of last result (truth (not met)))
          → Gives old nodes last (λ types t. TailHas scope types (typ old first) (Operand (short_op met) e) t) result
      short_gives true long side holds skips = record {
        is_type = is_type;
        has = λ types of. (record { condition = within; gives = skips }, reached true long side holds types of);
      }
      short_gives false long side holds skips = record {
        is_type = is_type;
        has = λ types of. (record { condition = within; gives = skips }, reached false long side holds types of);
      }
