-- Faults of arguments and of operators are faults of the whole that starts with what stands before them.
use Rattle.std.proofs.Common.{◌≡◌, ◌<◌, ◌⊎◌, ◌+◌, inl, inr, refl, ℕ, List, map, drop, length, get_or, sym, subst}
use Rattle.cd_sets.specs.declared.node_id.NodeId.{NodeId}
use Rattle.cd_model.specs.Formula.{Graph, IsGraph}
use Rattle.cd_model.specs.Scope.{Scope}
use Rattle.cd_model.specs.Thing.{Thing}
use Rattle.cd_program.specs.Expr.{Expr, Exprs, NoExpr, AnExpr, Tail, Tails, Apply, Chain, exprs_of, tails_of}
use Rattle.cd_program.specs.PlainExpr.{plain, plain_tail}
use Rattle.cd_program.specs.declared.expr.Expr.{Expr as CodeExpr}
use Rattle.cd_program.specs.declared.expr.Tail.{Tail as CodeTail}
use Rattle.cd_meaning.specs.Sets.{elements_of}
use Rattle.cd_typing.specs.Later.{IsLater}
use Rattle.cd_typing.specs.Typ.{typ, In, Types}
use Rattle.cd_typing.specs.Typing.{ArgumentsHave, TailHas}
use Rattle.cd_typing.specs.declared.rule.Rule.{Rule}
use Rattle.cd_typing.proofs.Subsets.{itself, through}
use Rattle.cd_least.specs.Faults.{Fault, KindFault, ArgumentFault, ArgumentsFault, TailFault, TailsFault, after_argument, after_tail}
use Rattle.cd_least.specs.Least.{IsArgumentLeast, IsTailLeast}
use Rattle.cd_least.specs.Misses.{place_of}
use Rattle.cd_check.specs.declared.fault.CheckError.{CheckError}
use Rattle.cd_check.specs.Inner.Chains.{FaultsOn}
use Rattle.cd_check.specs.Inner.Environment.{Nodes, AreOfTypes, AreNodesOf, Gives}
use Rattle.cd_check.specs.Inner.Following.{Follows}
use Rattle.cd_check.specs.Inner.Known.{IsKnown, Fails}
use Rattle.cd_check.proofs.KnownTypes.{fails_earlier}
use Rattle.cd_check.proofs.Loops.{left_is}
use Rattle.cd_check.proofs.TypesLater.{types_later, known_then}

-- what is known of what stands before, and where it stands
abbrev pub StandsAs : Nodes → Scope → Graph → (self : NodeId) → (from : ℕ) → Expr → Type 0
StandsAs nodes scope graph self from f = IsKnown graph nodes scope graph f self × (place_of f ≡ from)

module _ (scope : Scope) (nodes : Nodes) where
  -- the expression up to an argument, and up to an operator, is known
  pub known_applied : (graph new : Graph) (f e : Expr) (self result : NodeId) → IsKnown graph nodes scope graph f self
      → Follows (ArgumentsHave scope) graph nodes new self (AnExpr e NoExpr) NoExpr result
      → ((types : Types) → AreOfTypes graph nodes types → IsArgumentLeast scope types (typ graph self) e (typ new result)) → (here : ℕ)
      → IsKnown graph nodes scope new (after_argument here f e) result
  known_applied graph new f e self result known follows least here types of = let one = known types of in record {
    is_type = follows.is_type;
    has = (typ graph self, one.is_type, one.has, follows.follows types of (typ new result) (itself (elements_of new result)));
    least = λ s is has. through (elements_of new result) (In has.3.1) (In s)
        (least types of has.0 has.3.0 has.3.1 (one.least has.0 has.1 has.2) has.3.2 has.3.3 has.3.5) has.3.6;
  }

  pub known_after : (graph new : Graph) (f : Expr) (tail : Tail) (self result : NodeId) → IsKnown graph nodes scope graph f self
      → Gives graph nodes new (λ types t. TailHas scope types (typ graph self) tail t) result
      → ((types : Types) → AreOfTypes graph nodes types → IsTailLeast scope types (typ graph self) tail (typ new result)) → (here : ℕ)
      → IsKnown graph nodes scope new (after_tail here f tail) result
  known_after graph new f tail self result known gives least here types of = let one = known types of in record {
    is_type = gives.is_type;
    has = (typ graph self, one.is_type, one.has, (typ new result, gives.is_type, gives.has types of, itself (elements_of new result)));
    least = λ s is has. through (elements_of new result) (In has.3.0) (In s)
        (least types of has.0 has.3.0 has.1 (one.least has.0 has.1 has.2) has.3.2) has.3.3;
  }

  module _ (old : Graph) (sound : IsGraph old) (are : AreNodesOf old nodes) where
    pub faults_first : {A : Type 0} (fault : Types → Expr → A → (at : ℕ) → Rule → Thing → Type 0) (f : Expr) (all : A) (self : NodeId) (from : ℕ)
        → StandsAs nodes scope old self from f → FaultsOn scope fault old nodes f old all all self from
    faults_first fault f all self from stands = record {
      before = f;
      known = stands.0;
      stands = stands.1;
      faults = λ types at reported d is. is;
    }

    module _ (graph : Graph) (later : IsLater old graph) (here : ℕ) (f : Expr) (id : NodeId) (place : ℕ) where
      -- one step of a loop over arguments, and over operators
      module _ (new : Graph) (result : NodeId) where
        pub one_argument_faults : (all : Exprs) (items : List CodeExpr) (index : ℕ) (item : CodeExpr) → item ≡ get_or items index item
            → index < length items → FaultsOn scope (λ types one rest. ArgumentsFault scope types here one rest) old nodes f graph all
            (exprs_of (map plain (drop index items))) id place
            → ((rest : Exprs) → Follows (ArgumentsHave scope) graph nodes new id (AnExpr (plain item) rest) rest result)
            → ((types : Types) → AreOfTypes graph nodes types → IsArgumentLeast scope types (typ graph id) (plain item) (typ new result))
            → FaultsOn scope (λ types one rest. ArgumentsFault scope types here one rest) old nodes f new all
            (exprs_of (map plain (drop (index + 1) items))) result here
        one_argument_faults all items index item at within before follows least = record {
          before = after_argument here before.before (plain item);
          known = λ types of. known_applied graph new before.before (plain item) id result
              (known_then old graph later sound nodes are scope graph before.before id before.known) (follows NoExpr) least here types
              (types_later old graph later sound nodes are types of);
          stands = refl;
          faults = λ types place reported d is. before.faults types place reported d
              (subst (λ (left : List CodeExpr). ArgumentsFault scope types here before.before (exprs_of (map plain left)) place reported d)
              (sym (left_is items index item at within)) (inr (inr is)));
        }

        pub one_tail_faults : (all : Tails) (items : List CodeTail) (index : ℕ) (item : CodeTail) → item ≡ get_or items index item
            → index < length items → FaultsOn scope (λ types one rest. TailsFault scope types here one rest) old nodes f graph all
            (tails_of (map plain_tail (drop index items))) id place
            → Gives graph nodes new (λ types t. TailHas scope types (typ graph id) (plain_tail item) t) result
            → ((types : Types) → AreOfTypes graph nodes types → IsTailLeast scope types (typ graph id) (plain_tail item) (typ new result))
            → FaultsOn scope (λ types one rest. TailsFault scope types here one rest) old nodes f new all
            (tails_of (map plain_tail (drop (index + 1) items))) result here
        one_tail_faults all items index item at within before gives least = record {
          before = after_tail here before.before (plain_tail item);
          known = λ types of. known_after graph new before.before (plain_tail item) id result
              (known_then old graph later sound nodes are scope graph before.before id before.known) gives least here types
              (types_later old graph later sound nodes are types of);
          stands = refl;
          faults = λ types place reported d is. before.faults types place reported d
              (subst (λ (left : List CodeTail). TailsFault scope types here before.before (tails_of (map plain_tail left)) place reported d)
              (sym (left_is items index item at within)) (inr is));
        }

      -- where the next one fails, all do
      pub all_arguments_fail : (table : List Thing) (all : Exprs) (items : List CodeExpr) (index : ℕ) (item : CodeExpr)
          → item ≡ get_or items index item → index < length items
          → FaultsOn scope (λ types one rest. ArgumentsFault scope types here one rest) old nodes f graph all
          (exprs_of (map plain (drop index items))) id place → (error : CheckError)
          → ((one : Expr) → StandsAs nodes scope graph id place one → Fails graph nodes table
          (λ types at reported d. Fault scope types (plain item) at reported d ⊎ ArgumentFault scope types one (plain item) at reported d) error)
          → Fails old nodes table (λ types at reported d. ArgumentsFault scope types here f all at reported d) error
      all_arguments_fail table all items index item at within before error fails =
          fails_earlier old graph later sound nodes are table
          (λ types at reported d. Fault scope types (plain item) at reported d ⊎ ArgumentFault scope types before.before (plain item) at reported d)
          (λ types at reported d. ArgumentsFault scope types here f all at reported d)
          (λ types of place reported d is. before.faults types place reported d
          (subst (λ (left : List CodeExpr). ArgumentsFault scope types here before.before (exprs_of (map plain left)) place reported d)
          (sym (left_is items index item at within)) (next types place reported d is)))
          error (fails before.before (known_then old graph later sound nodes are scope graph before.before id before.known, before.stands))
        where
          next : (types : Types) (place : ℕ) (reported : Rule) (d : Thing) → Fault scope types (plain item) place reported d
              ⊎ ArgumentFault scope types before.before (plain item) place reported d
              → ArgumentsFault scope types here before.before (AnExpr (plain item) (exprs_of (map plain (drop (index + 1) items)))) place reported d
          next types place reported d (inl is) = inl is
          next types place reported d (inr is) = inr (inl is)

      pub all_tails_fail : (table : List Thing) (all : Tails) (items : List CodeTail) (index : ℕ) (item : CodeTail)
          → item ≡ get_or items index item → index < length items
          → FaultsOn scope (λ types one rest. TailsFault scope types here one rest) old nodes f graph all
          (tails_of (map plain_tail (drop index items))) id place → (error : CheckError)
          → ((one : Expr) → StandsAs nodes scope graph id place one
          → Fails graph nodes table (λ types at reported d. TailFault scope types one (plain_tail item) at reported d) error)
          → Fails old nodes table (λ types at reported d. TailsFault scope types here f all at reported d) error
      all_tails_fail table all items index item at within before error fails =
          fails_earlier old graph later sound nodes are table
          (λ types at reported d. TailFault scope types before.before (plain_tail item) at reported d)
          (λ types at reported d. TailsFault scope types here f all at reported d)
          (λ types of place reported d is. before.faults types place reported d
          (subst (λ (left : List CodeTail). TailsFault scope types here before.before (tails_of (map plain_tail left)) place reported d)
          (sym (left_is items index item at within)) (inl is)))
          error (fails before.before (known_then old graph later sound nodes are scope graph before.before id before.known, before.stands))

    -- faults of what starts an application, or a chain, and of what follows it
    module _ (middle : Graph) (later : IsLater old middle) (e : Expr) (self : NodeId) (known : IsKnown old nodes scope middle e self) (from : ℕ)
        (place : place_of e ≡ from) where
      stands_then : StandsAs nodes scope middle self from e
      stands_then = (known_then old middle later sound nodes are scope middle e self known, place)

      pub apply_fails : (here : ℕ) (table : List Thing) (rest : Exprs) (error : CheckError)
          → ((f : Expr) → StandsAs nodes scope middle self from f
          → Fails middle nodes table (λ types at reported d. ArgumentsFault scope types here f rest at reported d) error)
          → Fails old nodes table (λ types at reported d. KindFault scope types here (Apply (AnExpr e rest)) at reported d) error
      apply_fails here table rest error fails = fails_earlier old middle later sound nodes are table
          (λ types at reported d. ArgumentsFault scope types here e rest at reported d)
          (λ types at reported d. KindFault scope types here (Apply (AnExpr e rest)) at reported d)
          (λ types of at reported d is. inr is) error (fails e stands_then)

      pub chain_fails : (here : ℕ) (table : List Thing) (tails : Tails) (error : CheckError)
          → ((f : Expr) → StandsAs nodes scope middle self from f
          → Fails middle nodes table (λ types at reported d. TailsFault scope types here f tails at reported d) error)
          → Fails old nodes table (λ types at reported d. KindFault scope types here (Chain e tails) at reported d) error
      chain_fails here table tails error fails = fails_earlier old middle later sound nodes are table
          (λ types at reported d. TailsFault scope types here e tails at reported d)
          (λ types at reported d. KindFault scope types here (Chain e tails) at reported d)
          (λ types of at reported d is. inr is) error (fails e stands_then)
