-- Least types and faults of tests of truth values.
use Rattle.std.proofs.Common.{◌≡◌, ◌<◌, ◌⊎◌, inl, inr, sym, subst, ℕ, Bool, true, false, not, List, [], ◌∷◌, Option, Some, None, option_map}
use Rattle.std.proofs.Common.{length}
use Rattle.cd_sets.specs.declared.node_id.NodeId.{NodeId}
use Rattle.cd_model.specs.BuiltIns.{BOOL}
use Rattle.cd_model.specs.Formula.{Graph, IsGraph}
use Rattle.cd_model.specs.Scope.{Scope}
use Rattle.cd_model.specs.Thing.{Thing, IsElement}
use Rattle.cd_program.specs.Expr.{Expr, If, Operand}
use Rattle.cd_meaning.specs.Sets.{Set, ◌⊆◌, elements_of}
use Rattle.cd_typing.specs.Later.{IsLater}
use Rattle.cd_typing.specs.Operators.{truth}
use Rattle.cd_typing.specs.Typ.{Typ, typ, In, IsType, Types, BuiltIn}
use Rattle.cd_typing.specs.Typing.{Has, KindHas}
use Rattle.cd_typing.specs.declared.rule.Rule.TheVariants as rule
use Rattle.cd_typing.proofs.Later.{later_in, earlier_in}
use Rattle.cd_least.specs.Faults.{Fault, KindFault, TailFault, Breaks}
use Rattle.cd_least.specs.Least.{InOne, IsSideLeast, IsTailLeast}
use Rattle.cd_least.specs.Misses.{HasSome, Least}
use Rattle.cd_least.proofs.LeastForms.{if_least}
use Rattle.cd_check.specs.declared.fault.CheckError.{CheckError}
use Rattle.cd_check.specs.Inner.Environment.{Nodes, AreOfTypes, AreNodesOf}
use Rattle.cd_check.specs.Inner.Known.{IsBelow, IsKnown, Fails}
use Rattle.cd_check.specs.Inner.Sides.{short_op, AreTogether, IfSome, IsInSome, IsInEither, MaySkip}
use Rattle.cd_check.proofs.KnownTypes.{fails_earlier, fails_more}
use Rattle.cd_check.proofs.Tests.{Side, is_truth}
use Rattle.cd_check.proofs.TypesLater.{types_later}

-- a node that holds the truth value alone has an element of what is tested
pub together_truth : (graph : Graph) (tested node : NodeId) (value : Bool) → elements_of graph node ⊆ (λ d. d ≡ truth value)
    → AreTogether (elements_of graph tested) (elements_of graph node) → elements_of graph tested (truth value)
together_truth graph tested node value only both = subst (elements_of graph tested) (only both.0 both.1 both.3) both.2

module _ (scope : Scope) (nodes : Nodes) where
  -- an expression that is met where what is tested may have the truth value
  abbrev pub SideBelow : (graph : Graph) (tested : Set) (value : Bool) → Expr → (new : Graph) → Option NodeId → Type 0
  SideBelow graph tested value e new None = Unit {0}
  SideBelow graph tested value e new (Some id) = tested (truth value) × IsBelow graph nodes new (λ types t. Has scope types e t) id

  side_least : (graph new : Graph) (tested within : Set) (value : Bool) (e : Expr) (found : Option NodeId)
      → Side scope nodes graph tested value e new found → SideBelow graph tested value e new found
      → (within (truth value) → tested (truth value)) → (tested (truth value) → within (truth value)) → (types : Types)
      → AreOfTypes graph nodes types → IsSideLeast scope types within (truth value) e (option_map (typ new) found)
  side_least graph new tested within value e None side below up down types of = λ inside. side (up inside)
  side_least graph new tested within value e (Some id) side below up down types of = (
    down below.0,
    record { is_type = side.is_type; has = side.has types of; least = λ s is has. below.1 types of s is has },
  )

  -- what is in one of the sides is in one of their types
  first_in_one : (graph new later : Graph) (tested : Set) (value : Bool) (e : Expr) → IsLater new later → IsGraph new → (found : Option NodeId)
      → Side scope nodes graph tested value e new found → (rest : List (Option Typ)) (d : Thing) → IsElement d
      → IsInSome later found d ⊎ InOne rest d → InOne (option_map (typ new) found ∷ rest) d
  first_in_one graph new later tested value e is sound None side rest d element (inl inside) = absurd inside
  first_in_one graph new later tested value e is sound None side rest d element (inr inside) = inside
  first_in_one graph new later tested value e is sound (Some id) side rest d element (inl inside) =
      inl (earlier_in new later is sound id side.is_type.is_node d element inside)
  first_in_one graph new later tested value e is sound (Some id) side rest d element (inr inside) = inr inside

  last_in_one : (graph : Graph) (found : Option NodeId) (d : Thing) → IsInSome graph found d → InOne (option_map (typ graph) found ∷ []) d
  last_in_one graph None d inside = inside
  last_in_one graph (Some id) d inside = inl inside

  module _ (old : Graph) (sound : IsGraph old) (are : AreNodesOf old nodes) where
    -- the sides are checked from a graph on in which the condition is known, the second after the first
    module _ (condition : Expr) (tested : NodeId) (first : Graph) (is_first : IsLater old first)
        (known : IsKnown old nodes scope first condition tested) (first_nodes : AreNodesOf first nodes) where
      pub test_least : (then_one else_one : Expr) (second third last : Graph) → IsLater first second → IsLater second third
          → (one other : Option NodeId) → Side scope nodes first (elements_of first tested) true then_one second one
          → SideBelow first (elements_of first tested) true then_one second one
          → Side scope nodes second (elements_of second tested) false else_one third other
          → SideBelow second (elements_of second tested) false else_one third other
          → (result : NodeId) → elements_of last result ⊆ IsInEither third one other
          → IsBelow old nodes last (λ types t. KindHas scope types (If condition then_one else_one) t) result
      test_least then_one else_one second third last is_second is_third one other one_side one_below other_side other_below result only
          types of s is has =
          let of_first = types_later old first is_first sound nodes are types of in
          let below = (known types of).is_type.is_node in
          if_least scope types condition then_one else_one (typ first tested) (typ last result) (known types of)
          (option_map (typ second) one) (option_map (typ third) other)
          (side_least first second (elements_of first tested) (elements_of first tested) true then_one one one_side one_below
          (λ inside. inside) (λ inside. inside) types of_first)
          (side_least second third (elements_of second tested) (elements_of first tested) false else_one other other_side other_below
          (later_in first second is_second is_first.sound tested below (truth false) (is_truth false))
          (earlier_in first second is_second is_first.sound tested below (truth false) (is_truth false))
          types (types_later first second is_second is_first.sound nodes first_nodes types of_first))
          (is_truth true) (is_truth false) (λ d element inside. in_one d element (only d element inside)) s is has
        where
          in_one : (d : Thing) → IsElement d → IsInEither third one other d
              → InOne (option_map (typ second) one ∷ option_map (typ third) other ∷ []) d
          in_one d element (inl inside) = first_in_one first second third (elements_of first tested) true then_one is_third is_second.sound one
              one_side (option_map (typ third) other ∷ []) d element (inl inside)
          in_one d element (inr inside) = first_in_one first second third (elements_of first tested) true then_one is_third is_second.sound one
              one_side (option_map (typ third) other ∷ []) d element (inr (last_in_one third other d inside))

    -- a truth value that is in a node that is known is in all types
    value_least : (graph : Graph) (e : Expr) (id : NodeId) → IsKnown old nodes scope graph e id → (value : Bool)
        → elements_of graph id (truth value) → (types : Types) → AreOfTypes old nodes types
        → HasSome scope types e × Least scope types e (truth value)
    value_least graph e id known value inside types of = let one = known types of in (
      (typ graph id, one.is_type, one.has),
      λ t is has. one.least t is has (truth value) (is_truth value) inside,
    )

    -- faults of the sides, which are checked in a graph in which the condition is known
    module _ (table : List Thing) (condition then_one else_one : Expr) (here : ℕ) (error : CheckError) where
      pub condition_fails : Fails old nodes table (λ types at reported d. Fault scope types condition at reported d) error
          → Fails old nodes table (λ types at reported d. KindFault scope types here (If condition then_one else_one) at reported d) error
      condition_fails = fails_more old nodes table (λ types at reported d. Fault scope types condition at reported d)
          (λ types at reported d. KindFault scope types here (If condition then_one else_one) at reported d) (λ types of at reported d is. inl is) error

      pub test_fails : Fails old nodes table (λ types. Breaks scope types condition (BuiltIn BOOL) rule.Condition) error
          → Fails old nodes table (λ types at reported d. KindFault scope types here (If condition then_one else_one) at reported d) error
      test_fails = fails_more old nodes table (λ types. Breaks scope types condition (BuiltIn BOOL) rule.Condition)
          (λ types at reported d. KindFault scope types here (If condition then_one else_one) at reported d) (λ types of at reported d is. inr (inl is)) error

      module _ (graph : Graph) (later : IsLater old graph) (tested : NodeId) (known : IsKnown old nodes scope graph condition tested) where
        pub then_fails : Fails graph nodes table (λ types at reported d. elements_of graph tested (truth true) × Fault scope types then_one at reported d)
            error → Fails old nodes table (λ types at reported d. KindFault scope types here (If condition then_one else_one) at reported d) error
        then_fails = fails_earlier old graph later sound nodes are table
            (λ types at reported d. elements_of graph tested (truth true) × Fault scope types then_one at reported d)
            (λ types at reported d. KindFault scope types here (If condition then_one else_one) at reported d)
            (λ types of at reported d is. let one = value_least graph condition tested known true is.0 types of in
            inr (inr (one.0, inl (one.1, is.1)))) error

        pub else_fails : Fails graph nodes table (λ types at reported d. elements_of graph tested (truth false) × Fault scope types else_one at reported d)
            error → Fails old nodes table (λ types at reported d. KindFault scope types here (If condition then_one else_one) at reported d) error
        else_fails = fails_earlier old graph later sound nodes are table
            (λ types at reported d. elements_of graph tested (truth false) × Fault scope types else_one at reported d)
            (λ types at reported d. KindFault scope types here (If condition then_one else_one) at reported d)
            (λ types of at reported d is. let one = value_least graph condition tested known false is.0 types of in
            inr (inr (one.0, inr (one.1, is.1)))) error

    -- `&&` and `||`: what is tested is the left operand
    module _ (first : NodeId) (below : first.0 < length old) (e : Expr) where
      module _ (second last : Graph) (later : IsLater old second) (result node : NodeId) (short long : Option NodeId)
          (only : elements_of last result ⊆ IsInEither second short long) where
        -- what is skipped is the other truth value, which the operand has
        skipped_in : (value : Bool) → elements_of second node ⊆ (λ d. d ≡ truth value) → MaySkip second first node short
            → IfSome short (λ id. AreTogether (elements_of second first) (elements_of second node)) → (d : Thing) → IsElement d
            → IsInSome second short d → (wider r : Set) → elements_of old first ⊆ wider → (wider (truth value) → r (truth value)) → r d
        skipped_in value alone skip together d element inside wider r fewer skips = by short skip together inside
          where
            by : (found : Option NodeId) → MaySkip second first node found
                → IfSome found (λ id. AreTogether (elements_of second first) (elements_of second node)) → IsInSome second found d → r d
            by None skip together inside = absurd inside
            by (Some id) skip together inside =
                subst r (sym (alone d element (subst (λ other. elements_of second other d) skip inside)))
                (skips (fewer (truth value) (is_truth value) (earlier_in old second later sound first below (truth value) (is_truth value)
                (together_truth second first node value alone together))))

        reached_in : (value : Bool) (found : Option NodeId) → SideBelow old (elements_of old first) value e second found → (d : Thing)
            → IsElement d → IsInSome second found d → (types : Types) → AreOfTypes old nodes types → (wider r : Set)
            → elements_of old first ⊆ wider → (wider (truth value) → (s : Typ) × IsType s × Has scope types e s × (In s ⊆ r)) → r d
        reached_in value None side d element inside types of wider r fewer reached = absurd inside
        reached_in value (Some id) side d element inside types of wider r fewer reached =
            let one = reached (fewer (truth value) (is_truth value) side.0) in
            one.3 d element (side.1 types of one.0 one.1 one.2 d element inside)

        pub short_least : (met : Bool) → SideBelow old (elements_of old first) met e second long
            → elements_of second node ⊆ (λ d. d ≡ truth (not met)) → MaySkip second first node short
            → IfSome short (λ id. AreTogether (elements_of second first) (elements_of second node)) → (types : Types)
            → AreOfTypes old nodes types → IsTailLeast scope types (typ old first) (Operand (short_op met) e) (typ last result)
        short_least true side alone skip together types of wider r is fewer has d element inside = by (only d element inside)
          where
            by : IsInEither second short long d → In r d
            by (inl inside) = skipped_in false alone skip together d element inside (In wider) (In r) fewer has.0.gives
            by (inr inside) = reached_in true long side d element inside types of (In wider) (In r) fewer has.1
        short_least false side alone skip together types of wider r is fewer has d element inside = by (only d element inside)
          where
            by : IsInEither second short long d → In r d
            by (inl inside) = skipped_in true alone skip together d element inside (In wider) (In r) fewer has.0.gives
            by (inr inside) = reached_in false long side d element inside types of (In wider) (In r) fewer has.1

      module _ (table : List Thing) (f : Expr) (error : CheckError) where
        pub short_test_fails : (met : Bool) → Fails old nodes table (λ types. Breaks scope types f (BuiltIn BOOL) rule.Condition) error
            → Fails old nodes table (λ types at reported d. TailFault scope types f (Operand (short_op met) e) at reported d) error
        short_test_fails true = fails_more old nodes table (λ types. Breaks scope types f (BuiltIn BOOL) rule.Condition)
            (λ types at reported d. TailFault scope types f (Operand (short_op true) e) at reported d) (λ types of at reported d is. inr is) error
        short_test_fails false = fails_more old nodes table (λ types. Breaks scope types f (BuiltIn BOOL) rule.Condition)
            (λ types at reported d. TailFault scope types f (Operand (short_op false) e) at reported d) (λ types of at reported d is. inr is) error

        pub short_side_fails : IsKnown old nodes scope old f first → (met : Bool)
            → Fails old nodes table (λ types at reported d. elements_of old first (truth met) × Fault scope types e at reported d) error
            → Fails old nodes table (λ types at reported d. TailFault scope types f (Operand (short_op met) e) at reported d) error
        short_side_fails known true = fails_more old nodes table
            (λ types at reported d. elements_of old first (truth true) × Fault scope types e at reported d)
            (λ types at reported d. TailFault scope types f (Operand (short_op true) e) at reported d)
            (λ types of at reported d is. inl (value_least old f first known true is.0 types of, is.1)) error
        short_side_fails known false = fails_more old nodes table
            (λ types at reported d. elements_of old first (truth false) × Fault scope types e at reported d)
            (λ types at reported d. TailFault scope types f (Operand (short_op false) e) at reported d)
            (λ types of at reported d is. inl (value_least old f first known false is.0 types of, is.1)) error
