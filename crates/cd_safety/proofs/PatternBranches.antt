-- Branches at a value: where they take all elements of its type, one of them takes it; and types that hold what the first one to take it
-- captures of elements hold what it captures of the value.
use Rattle.std.proofs.Common.{◌≡◌, inl, inr, Bool, true, false, List, [], ◌∷◌, ◌++◌, Option, Some, None, refl, subst, bytes_eq}
use Rattle.std.proofs.Common.{if◌then◌else◌}
use Rattle.std.proofs.lemmas.Option.{none-some, same_Some}
use Rattle.cd_syntax.specs.Name.{Name}
use Rattle.cd_syntax.specs.TypeTree.{Tree}
use Rattle.cd_model.specs.AllOf.{AllOf}
use Rattle.cd_model.specs.Formula.{Graph, IsGraph}
use Rattle.cd_model.specs.Interfaces.{Interfaces, value_in_written}
use Rattle.cd_model.specs.Scope.{Scope}
use Rattle.cd_model.specs.Thing.{Thing, IsValue}
use Rattle.cd_matching.specs.Captures.{Captures}
use Rattle.cd_matching.specs.Takes.{WrittenTakes, WrittenValueTakes}
use Rattle.cd_matching.specs.WrittenPattern.{pattern_of}
use Rattle.cd_program.specs.Expr.{Expr, Branches, NoBranch, ABranch}
use Rattle.cd_meaning.specs.Sets.{Set, ◌⊆◌}
use Rattle.cd_typing.specs.Branches.{FitsOne, IsFirst, HoldCaptured, IsTaken, Cover}
use Rattle.cd_typing.specs.Kept.{Kept}
use Rattle.cd_typing.specs.Rules.{Has}
use Rattle.cd_typing.specs.Typ.{Typ, In, IsType, Types, type_at, AreTypes}
use Rattle.cd_safety.specs.OfInterface.{HasArrows}
use Rattle.cd_safety.specs.PatternResults.{AreBoth, CapturesRelated, IsStandIn}
use Rattle.cd_safety.specs.PatternTypes.{IsTypedPattern, AreTypedPatterns, HasNodesOf, HasNodesOfAll}
use Rattle.cd_safety.specs.PatternValues.{ValueFits, ValuesFit, IsFirstOfValue, FailAll}
use Rattle.cd_safety.specs.ValueIn.{ValueIn, IsTypedValue}
use Rattle.cd_safety.proofs.PatternCaptures.{captured_of_sort, captured_values, captured_closures}
use Rattle.cd_safety.proofs.PatternGraphs.{nodes_of_all}
use Rattle.cd_safety.proofs.PatternStandIns.{element_has_result, results_stand}
use Rattle.cd_safety.proofs.StandInsAgree.{agree}
use Rattle.cd_safety.proofs.StandIns.{stand_in}
use Rattle.cd_safety.proofs.ValuesWithin.{agrees_at}

-- what stands in for a value in a graph that has nodes for a type's is in the type where the value is
at_type : (graph : Graph) (interfaces : Interfaces) (t : Typ) → IsType t → HasNodesOf graph t.graph → (v e : Thing)
    → IsStandIn graph interfaces v e → (ValueIn interfaces t v → In t e) × (In t e → ValueIn interfaces t v)
at_type graph interfaces t is_type nodes v e is =
    let found = nodes t.id is_type.is_node in
    agrees_at graph interfaces v e (agree graph interfaces v e is.stands) found.0 t found.1 true

stands_for_value : (all : List Graph) (shared : HasNodesOfAll all) (interfaces : Interfaces) (v : Thing) → IsTypedValue interfaces v
    → (e : Thing) × IsStandIn shared.graph interfaces v e
stands_for_value all shared interfaces v typed =
    let found = stand_in shared.graph shared.more shared.begins shared.sound interfaces v typed.is_value typed.have_arrows in
    (found.e, record { is_value = typed.is_value; is_element = found.is_element; stands = found.stands })

-- what a pattern captures of a typed value is a typed value
pub captured_are_typed : (interfaces : Interfaces) (scope : Scope) (pattern : Tree) → IsTypedPattern scope pattern → (v : Thing)
    → IsTypedValue interfaces v → (captures : Captures Name) → WrittenValueTakes interfaces scope pattern v (Some captures)
    → (name : Name) (w : Thing) → captures name ≡ Some w → IsTypedValue interfaces w
captured_are_typed interfaces scope pattern own v typed captures takes name w found = record {
  is_value = captured_of_sort captured_values (value_in_written interfaces) IsValue (pattern_of scope pattern) own.constants v
      typed.is_value captures takes name w found;
  have_arrows = captured_of_sort (captured_closures (HasArrows interfaces)) (value_in_written interfaces) IsValue (pattern_of scope pattern)
      own.constants v typed.have_arrows captures takes name w found;
}

module _ (interfaces : Interfaces) (scope : Scope) where
  -- the graphs of the patterns of branches, before others
  abbrev graphs_of : (branches : Branches) → AreTypedPatterns scope branches → List Graph
  graphs_of NoBranch typed = []
  graphs_of (ABranch pattern body rest) typed = typed.0.graph ∷ graphs_of rest typed.1

  graphs_are_sound : (branches : Branches) (typed : AreTypedPatterns scope branches) → AllOf IsGraph (graphs_of branches typed)
  graphs_are_sound NoBranch typed = tt
  graphs_are_sound (ABranch pattern body rest) typed = (typed.0.sound, graphs_are_sound rest typed.1)

  module _ (graph : Graph) (v e : Thing) (is : IsStandIn graph interfaces v e) where
    not_taken : (branches : Branches) (typed : AreTypedPatterns scope branches) → AllOf (HasNodesOf graph) (graphs_of branches typed)
        → FailAll interfaces scope branches v → IsTaken scope branches e → ⊥
    not_taken NoBranch typed nodes fail taken = taken
    not_taken (ABranch pattern body rest) typed nodes fail (inl taken) =
        results_stand graph interfaces scope pattern typed.0 nodes.0 v e is None (Some taken.0) fail.0 taken.1
    not_taken (ABranch pattern body rest) typed nodes fail (inr later) = not_taken rest typed.1 nodes.1 fail.1 later

  -- some branch takes each value of a type all of whose elements the branches take
  pub some_branch_takes : (branches : Branches) → AreTypedPatterns scope branches → (s : Typ) → IsType s → Cover scope branches (In s)
      → (v : Thing) → IsTypedValue interfaces v → ValueIn interfaces s v → FailAll interfaces scope branches v → ⊥
  some_branch_takes branches patterns s is_type cover v typed inside fail =
      let all : List Graph = s.graph ∷ graphs_of branches patterns in
      let shared = nodes_of_all all (is_type.sound, graphs_are_sound branches patterns) in
      let e = stands_for_value all shared interfaces v typed in
      not_taken shared.graph v e.0 e.1 branches patterns shared.nodes.1 fail
      (cover e.0 e.1.is_element ((at_type shared.graph interfaces s is_type shared.nodes.0 v e.0 e.1).0 inside))

  -- the graphs of patterns before those of others
  abbrev graphs_before : (before : List Tree) → AllOf (IsTypedPattern scope) before → (others : List Graph) → List Graph
  graphs_before [] typed others = others
  graphs_before (pattern ∷ before) typed others = typed.0.graph ∷ graphs_before before typed.1 others

  before_are_sound : (before : List Tree) (typed : AllOf (IsTypedPattern scope) before) (others : List Graph) → AllOf IsGraph others
      → AllOf IsGraph (graphs_before before typed others)
  before_are_sound [] typed others sound = sound
  before_are_sound (pattern ∷ before) typed others sound = (typed.0.sound, before_are_sound before typed.1 others sound)

  behind_them : (graph : Graph) (before : List Tree) (typed : AllOf (IsTypedPattern scope) before) (others : List Graph)
      → AllOf (HasNodesOf graph) (graphs_before before typed others) → AllOf (HasNodesOf graph) others
  behind_them graph [] typed others nodes = nodes
  behind_them graph (pattern ∷ before) typed others nodes = behind_them graph before typed.1 others nodes.1

  -- a pattern that fails at a value fails at what stands in for it
  fails_too : (graph : Graph) (v e : Thing) → IsStandIn graph interfaces v e → (pattern : Tree) (typed : IsTypedPattern scope pattern)
      → HasNodesOf graph typed.graph → WrittenValueTakes interfaces scope pattern v None → WrittenTakes scope pattern e None
  fails_too graph v e is pattern typed nodes fails = by_result (element_has_result scope pattern e)
    where
      by_result : (result : Option (Captures Name)) × WrittenTakes scope pattern e result → WrittenTakes scope pattern e None
      by_result (None, takes) = takes
      by_result (Some captures, takes) =
          absurd (results_stand graph interfaces scope pattern typed nodes v e is None (Some captures) fails takes)

  all_fail_too : (graph : Graph) (v e : Thing) → IsStandIn graph interfaces v e → (before : List Tree)
      (typed : AllOf (IsTypedPattern scope) before) (others : List Graph)
      → AllOf (HasNodesOf graph) (graphs_before before typed others)
      → AllOf (λ other. WrittenValueTakes interfaces scope other v None) before → AllOf (λ other. WrittenTakes scope other e None) before
  all_fail_too graph v e is [] typed others nodes fail = tt
  all_fail_too graph v e is (pattern ∷ before) typed others nodes fail = (
    fails_too graph v e is pattern typed.0 nodes.0 fail.0,
    all_fail_too graph v e is before typed.1 others nodes.1 fail.1,
  )

  -- what a pattern that takes a value captures of what stands in for it
  takes_too : (graph : Graph) (v e : Thing) → IsStandIn graph interfaces v e → (pattern : Tree) (typed : IsTypedPattern scope pattern)
      → HasNodesOf graph typed.graph → (captures : Captures Name) → WrittenValueTakes interfaces scope pattern v (Some captures)
      → (others : Captures Name) × WrittenTakes scope pattern e (Some others) × CapturesRelated (IsStandIn graph interfaces) captures others
  takes_too graph v e is pattern typed nodes captures takes_value = by_result (element_has_result scope pattern e)
    where
      by_result : (result : Option (Captures Name)) × WrittenTakes scope pattern e result
          → (others : Captures Name) × WrittenTakes scope pattern e (Some others)
          × CapturesRelated (IsStandIn graph interfaces) captures others
      by_result (None, takes) =
          absurd (results_stand graph interfaces scope pattern typed nodes v e is (Some captures) None takes_value takes)
      by_result (Some others, takes) =
          (others, takes, results_stand graph interfaces scope pattern typed nodes v e is (Some captures) (Some others) takes_value takes)

  module _ (before : List Tree) (earlier : AllOf (IsTypedPattern scope) before) (pattern : Tree) (own : IsTypedPattern scope pattern)
      (matched : Typ) (is_type : IsType matched) (v : Thing) (captures : Captures Name)
      (first : IsFirstOfValue interfaces scope before pattern matched v captures) where
    -- in a graph with nodes for those of others, an element that stands in for the value, and what is captured of it
    record HasFirst (others : List Graph) : Type 0 where
      graph : Graph
      nodes : AllOf (HasNodesOf graph) others
      e : Thing
      caught : Captures Name
      is_first : IsFirst scope before pattern (In matched) e caught
      stand : CapturesRelated (IsStandIn graph interfaces) captures caught

    has_first : (others : List Graph) → AllOf IsGraph others → HasFirst others
    has_first others sound =
        let all : List Graph = matched.graph ∷ own.graph ∷ graphs_before before earlier others in
        let shared = nodes_of_all all (is_type.sound, (own.sound, before_are_sound before earlier others sound)) in
        let e = stands_for_value all shared interfaces v first.typed in
        let taken = takes_too shared.graph v e.0 e.1 pattern own shared.nodes.1.0 captures first.takes in
        record {
          graph = shared.graph;
          nodes = behind_them shared.graph before earlier others shared.nodes.1.1;
          e = e.0;
          caught = taken.0;
          is_first = record {
            element = e.1.is_element;
            in_set = (at_type shared.graph interfaces matched is_type shared.nodes.0 v e.0 e.1).0 first.in_type;
            earlier = all_fail_too shared.graph v e.0 e.1 before earlier others shared.nodes.1.1 first.earlier;
            takes = taken.1;
          };
          stand = taken.2;
        }

    -- some element comes first to the pattern, too
    pub some_element : (e : Thing) × (caught : Captures Name) × IsFirst scope before pattern (In matched) e caught
    some_element = let found = has_first [] tt in (found.e, found.caught, found.is_first)

    -- the graphs of the types of names
    abbrev type_graphs : Types → List Graph
    type_graphs [] = []
    type_graphs (one ∷ types) = one.1.graph ∷ type_graphs types

    type_graphs_are_sound : (types : Types) → AreTypes types → AllOf IsGraph (type_graphs types)
    type_graphs_are_sound [] are = tt
    type_graphs_are_sound (one ∷ types) are = (are.0.sound, type_graphs_are_sound types are.1)

    -- a type that a name has, in a graph with nodes for those of all types
    nodes_at : (graph : Graph) (types : Types) → AreTypes types → AllOf (HasNodesOf graph) (type_graphs types) → (name : Name) (t : Typ)
        → type_at types name ≡ Some t → IsType t × HasNodesOf graph t.graph
    nodes_at graph [] are nodes name t found = absurd (none-some t found)
    nodes_at graph (one ∷ types) are nodes name t found = by_test (bytes_eq one.0 name) found (nodes_at graph types are.1 nodes.1 name t)
      where
        by_test : (c : Bool) → (if c then Some one.1 else type_at types name) ≡ Some t
            → (type_at types name ≡ Some t → IsType t × HasNodesOf graph t.graph) → IsType t × HasNodesOf graph t.graph
        by_test true same later = subst (λ t. IsType t × HasNodesOf graph t.graph) (same_Some one.1 t same) (are.0, nodes.0)
        by_test false same later = later same

    -- types that hold what is captured of elements hold what is captured of the value
    pub values_fit : (types : Types) → AreTypes types → HoldCaptured scope types before pattern (In matched)
        → ValuesFit interfaces types captures
    values_fit types are hold name = by_type (type_at types name)
        (λ t same. nodes_at found.graph types are found.nodes name t same) (hold found.e found.caught found.is_first name)
        (captures name) (found.stand name)
        (λ w same. captured_are_typed interfaces scope pattern own v first.typed captures first.takes name w same)
      where
        found : HasFirst (type_graphs types)
        found = has_first (type_graphs types) (type_graphs_are_sound types are)

        by_type : (o : Option Typ) → ((t : Typ) → o ≡ Some t → IsType t × HasNodesOf found.graph t.graph)
            → FitsOne o (found.caught name) → (one : Option Thing) → AreBoth (IsStandIn found.graph interfaces) one (found.caught name)
            → ((w : Thing) → one ≡ Some w → IsTypedValue interfaces w) → ValueFits interfaces o one
        by_type None nodes fits one both typed = no_capture one (found.caught name) fits both
          where
            no_capture : (one other : Option Thing) → other ≡ None → AreBoth (IsStandIn found.graph interfaces) one other → one ≡ None
            no_capture None other same both = refl
            no_capture (Some w) None same both = absurd both
            no_capture (Some w) (Some e) same both = cc
        by_type (Some t) nodes fits one both typed =
            a_capture one (subst (λ o. AreBoth (IsStandIn found.graph interfaces) one o) fits.1 both) typed
          where
            a_capture : (one : Option Thing) → AreBoth (IsStandIn found.graph interfaces) one (Some fits.0)
                → ((w : Thing) → one ≡ Some w → IsTypedValue interfaces w) → ValueFits interfaces (Some t) one
            a_capture None both typed = absurd both
            a_capture (Some w) both typed = (
              w,
              refl,
              typed w refl,
              (at_type found.graph interfaces t (nodes t refl).0 (nodes t refl).1 w fits.0 both).1 fits.2,
            )

    -- the body of a branch has a type within what is wanted, where its variables have types that hold what they capture of the value
    pub body_has : (kept : Kept) (types : Types) (body : Expr) (wanted : Set)
        → ((e : Thing) (caught : Captures Name) → IsFirst scope before pattern (In matched) e caught
        → (own : Types) × (s : Typ) × AreTypes own × HoldCaptured scope own before pattern (In matched)
        × IsType s × Has kept scope (own ++ types) body s × (In s ⊆ wanted))
        → (own : Types) × (s : Typ) × AreTypes own × ValuesFit interfaces own captures
        × IsType s × Has kept scope (own ++ types) body s × (In s ⊆ wanted)
    body_has kept types body wanted bodies =
        let come = some_element in
        let known = bodies come.0 come.1 come.2 in
        (known.0, known.1, known.2, values_fit known.0 known.2 known.3, known.4, known.5, known.6)

    -- and so for what comes after a `let`
    pub rest_has : (kept : Kept) (types : Types) (rest : Expr) (t : Typ)
        → ((e : Thing) (caught : Captures Name) → IsFirst scope before pattern (In matched) e caught
        → (own : Types) × AreTypes own × HoldCaptured scope own before pattern (In matched) × Has kept scope (own ++ types) rest t)
        → (own : Types) × AreTypes own × ValuesFit interfaces own captures × Has kept scope (own ++ types) rest t
    rest_has kept types rest t rests =
        let come = some_element in
        let known = rests come.0 come.1 come.2 in
        (known.0, known.1, values_fit known.0 known.1 known.2, known.3)
