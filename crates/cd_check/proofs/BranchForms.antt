-- Forms with branches: what is known of their operands and of their bodies is known of the whole, and faults of these are faults of it.
use Rattle.std.proofs.Common.{◌≡◌, ◌<◌, ℕ, ◌⊎◌, inl, inr, List, [], ◌∷◌, ◌++◌, sym, subst, map, length, Option, Some, None, option_map}
use Rattle.std.proofs.Common.{lit<}
use Rattle.cd_sets.specs.declared.node_id.NodeId.{NodeId}
use Rattle.cd_syntax.specs.TypeTree.{Tree}
use Rattle.cd_model.specs.BuiltIns.{built_ins, DATA, EMPTY}
use Rattle.cd_model.specs.Formula.{Graph, IsGraph}
use Rattle.cd_model.specs.Scope.{Scope}
use Rattle.cd_model.specs.Thing.{Thing, IsElement}
use Rattle.cd_forms.specs.Unions.{IsInOne}
use Rattle.cd_program.specs.Expr.{Expr, Branches, NoBranch, ABranch, Match, Try, Map, Transform, Let}
use Rattle.cd_meaning.specs.Sequences.{IsSequence, IsListOf, IsItemOf}
use Rattle.cd_meaning.specs.Sets.{Set, ◌⊆◌, elements_of}
use Rattle.cd_model.proofs.BuiltIns.{nothing_is_empty}
use Rattle.cd_model.specs.Types.{no_closure}
use Rattle.cd_matching.specs.Captures.{Captures}
use Rattle.cd_syntax.specs.Name.{Name}
use Rattle.cd_typing.specs.Branches.{IsFirst}
use Rattle.cd_typing.proofs.Later.{later_still, earlier_in}
use Rattle.cd_typing.proofs.BuiltInSets.{built_in_within, node_within}
use Rattle.cd_typing.proofs.Subsets.{through}
use Rattle.cd_typing.specs.Later.{IsLater}
use Rattle.cd_typing.specs.Typ.{typ, BuiltIn, Types}
use Rattle.cd_typing.specs.Typing.{KindHas}
use Rattle.cd_typing.specs.declared.rule.Rule.{Rule}
use Rattle.cd_typing.specs.declared.rule.Rule.TheVariants as rule
use Rattle.cd_least.proofs.LeastForms.{match_least, let_least, try_least, map_least, transform_least}
use Rattle.cd_least.proofs.Monotone.{lists_grow, items_grow}
use Rattle.cd_least.specs.Faults.{Fault, KindFault, BranchFault, Breaks, Nothing, ASequence}
use Rattle.cd_least.specs.Least.{InOne, IsBodyLeast}
use Rattle.cd_least.specs.Misses.{HasSome, Least, IsUncovered, AreCaptured}
use Rattle.cd_check.proofs.KnownTypes.{fails_earlier}
use Rattle.cd_check.proofs.LeftOver.{FirstFault, come_same, bodies_least_alike, body_least_alike, body_fault_alike, branch_fault_alike}
use Rattle.cd_check.proofs.LeftOver.{uncovered_more, covering_same, owes_itself}
use Rattle.cd_check.proofs.BodiesKnown.{same_later}
use Rattle.cd_check.proofs.Owing.{owes_less}
use Rattle.cd_check.proofs.TypesLater.{types_later}
use Rattle.cd_check.specs.Inner.BodyFaults.{those, Owes, BodyFault, CoveringFault, BodyLeast, BodiesLeast, BranchesLeast}
use Rattle.cd_check.specs.Inner.Environment.{Nodes, AreOfTypes, AreNodesOf, AreSame}
use Rattle.cd_check.specs.Inner.Known.{IsBelow, IsKnown, Fails}
use Rattle.cd_check.specs.declared.bodies.Limit.{Limit}
use Rattle.cd_check.specs.declared.fault.CheckError.{CheckError}

-- what is in one of the nodes is in one of those found
pub in_those : (graph : Graph) (found : List (Option NodeId)) → IsInOne (map (typ graph) (those found)) ⊆ InOne (map (option_map (typ graph)) found)
in_those graph [] d element inside = absurd inside
in_those graph (None ∷ found) d element inside = in_those graph found d element inside
in_those graph (Some id ∷ found) d element (inl here) = inl here
in_those graph (Some id ∷ found) d element (inr further) = inr (in_those graph found d element further)

-- and the last of more nodes may come first
pub last_first : (graph : Graph) (ids : List NodeId) (id : NodeId) (d : Thing) → IsInOne (map (typ graph) (ids ++ id ∷ [])) d
    → elements_of graph id d ⊎ IsInOne (map (typ graph) ids) d
last_first graph [] id d (inl here) = inl here
last_first graph [] id d (inr none) = absurd none
last_first graph (one ∷ ids) id d (inl here) = inr (inl here)
last_first graph (one ∷ ids) id d (inr further) = by (last_first graph ids id d further)
  where
    by : elements_of graph id d ⊎ IsInOne (map (typ graph) ids) d → elements_of graph id d ⊎ IsInOne (map (typ graph) (one ∷ ids)) d
    by (inl last) = inl last
    by (inr among) = inr (inr among)

-- branches whose bodies are in a union of their nodes
pub union_least : (scope : Scope) (old : Graph) (nodes : Nodes) (last new : Graph) (branches : Branches) (matched : Set) (results : List NodeId)
    → BodiesLeast scope old nodes last branches matched results → (id : NodeId)
    → elements_of new id ⊆ IsInOne (map (typ last) results) → BranchesLeast scope old nodes new branches matched id
union_least scope old nodes last new branches matched results bodies id only types of = (
  map (option_map (typ last)) bodies.found,
  bodies.least types of,
  through (elements_of new id) (IsInOne (map (typ last) results)) (InOne (map (option_map (typ last)) bodies.found)) only
      (subst (λ ids. IsInOne (map (typ last) ids) ⊆ InOne (map (option_map (typ last)) bodies.found)) bodies.are (in_those last bodies.found)),
)

none_empty : (graph more : Graph) → graph ≡ built_ins ++ more → (d : Thing) → elements_of graph EMPTY d → ⊥
none_empty graph more begins d inside = nothing_is_empty more no_closure d (subst (λ (all : Graph). elements_of all EMPTY d) begins inside)

-- The value is known in the first graph
module _ (scope : Scope) (old : Graph) (sound : IsGraph old) (nodes : Nodes) (old_nodes : AreNodesOf old nodes) (value : Expr)
    (matched : NodeId) (first : Graph) (is_first : IsLater old first) (known : IsKnown old nodes scope first value matched) where
  module _ (types : Types) (of : AreOfTypes old nodes types) where
    -- what is matched is what the value has in all its types
    same_least : AreSame (elements_of first matched) (Least scope types value)
    same_least = let one = known types of in record {
      within = λ d element inside t is_type has. one.least t is_type has d element inside;
      whole = λ d element least. least (typ first matched) one.is_type one.has;
    }

    some : HasSome scope types value
    some = let one = known types of in (typ first matched, one.is_type, one.has)

    same_items : (second : Graph) (item : NodeId) → IsItemOf (elements_of first matched) ⊆ elements_of second item
        → elements_of second item ⊆ IsItemOf (elements_of first matched) → AreSame (elements_of second item) (IsItemOf (Least scope types value))
    same_items second item has only = record {
      within = through (elements_of second item) (IsItemOf (elements_of first matched)) (IsItemOf (Least scope types value)) only
          (items_grow (elements_of first matched) (Least scope types value) same_least.within);
      whole = through (IsItemOf (Least scope types value)) (IsItemOf (elements_of first matched)) (elements_of second item)
          (items_grow (Least scope types value) (elements_of first matched) same_least.whole) has;
    }

  -- names have their types in the first graph
  then_types : (types : Types) → AreOfTypes old nodes types → AreOfTypes first nodes types
  then_types types of = types_later old first is_first sound nodes old_nodes types of

  module _ (branches : Branches) where
    pub match_is_least : (new : Graph) (id : NodeId) → BranchesLeast scope first nodes new branches (elements_of first matched) id
        → IsBelow old nodes new (λ types t. KindHas scope types (Match value branches) t) id
    match_is_least new id bodies types of t is_type has = let its = bodies types (then_types types of) in
        match_least scope types value branches (typ first matched) (typ new id) (known types of) its.0 its.1 its.2 t has

    pub match_fails : (table : List Thing) (here : ℕ) (error : CheckError)
        → Fails first nodes table (λ types. CoveringFault scope types here (elements_of first matched) (Nothing scope) branches) error
        → Fails old nodes table (λ types. KindFault scope types here (Match value branches)) error
    match_fails table here = fails_earlier old first is_first sound nodes old_nodes table
        (λ types. CoveringFault scope types here (elements_of first matched) (Nothing scope) branches)
        (λ types. KindFault scope types here (Match value branches))
        (λ types of at reported d fault. inr (
          some types of,
          covering_same scope (Nothing scope) (Nothing scope) (owes_itself scope (Nothing scope))
              types at reported d here branches (elements_of first matched) (Least scope types value) (same_least types of) fault,
        ))

  -- the body of `let` is checked from a second graph on
  module _ (second : Graph) (is_second : IsLater first second) (first_nodes : AreNodesOf first nodes) (below : matched.0 < length first)
      (pattern : Tree) (rest : Expr) where
    let_types : (types : Types) → AreOfTypes old nodes types → AreOfTypes second nodes types
    let_types types of = types_later first second is_second is_first.sound nodes first_nodes types (then_types types of)

    matched_first : AreSame (elements_of second matched) (elements_of first matched)
    matched_first = let same = same_later first second is_second is_first.sound matched below in
        record { within = same.whole; whole = same.within }

    let_body : (types : Types) → AreOfTypes old nodes types → (new : Graph) (found : Option NodeId)
        → BodyLeast scope second nodes new (elements_of second matched) pattern rest found
        → IsBodyLeast scope types [] pattern (elements_of first matched) rest (option_map (typ new) found)
    let_body types of new found body = body_least_alike scope [] [] (elements_of second matched) (elements_of first matched)
        (come_same scope [] (elements_of second matched) (elements_of first matched) matched_first) pattern types rest
        (option_map (typ new) found) (body types (let_types types of))

    pub let_is_least : (new : Graph) (id : NodeId) → BodyLeast scope second nodes new (elements_of second matched) pattern rest (Some id)
        → IsBelow old nodes new (λ types t. KindHas scope types (Let pattern value rest) t) id
    let_is_least new id body types of = let_least scope types pattern value rest (typ first matched) (typ new id) (known types of)
        (Some (typ new id)) (let_body types of new (Some id) body) (λ d element inside. inl inside)

    pub let_is_empty : (new more : Graph) → new ≡ built_ins ++ more
        → BodyLeast scope second nodes new (elements_of second matched) pattern rest None
        → IsBelow old nodes new (λ types t. KindHas scope types (Let pattern value rest) t) EMPTY
    let_is_empty new more begins body types of = let_least scope types pattern value rest (typ first matched) (typ new EMPTY) (known types of)
        None (let_body types of new None body) (λ d element inside. absurd (none_empty new more begins d inside))

    matched_least : (types : Types) → AreOfTypes old nodes types → AreSame (elements_of second matched) (Least scope types value)
    matched_least types of = let value = same_least types of in record {
      within = λ d element inside. value.within d element (matched_first.within d element inside);
      whole = λ d element least. matched_first.whole d element (value.whole d element least);
    }

    pub let_fails : (table : List Thing) (here : ℕ) (error : CheckError)
        → Fails second nodes table (λ types. BodyFault scope types pattern (elements_of second matched) (Owes scope second None) rest) error
        → Fails old nodes table (λ types. KindFault scope types here (Let pattern value rest)) error
    let_fails table here = fails_earlier old second (later_still old first second is_first is_second) sound nodes old_nodes table
        (λ types. BodyFault scope types pattern (elements_of second matched) (Owes scope second None) rest)
        (λ types. KindFault scope types here (Let pattern value rest))
        (λ types of at reported d fault. inr (
          some types of,
          inr (by types at reported d (body_fault_alike scope (Nothing scope) (Nothing scope)
              (owes_itself scope (Nothing scope)) types at reported d [] [] (elements_of second matched) (Least scope types value)
              (come_same scope [] (elements_of second matched) (Least scope types value) (matched_least types of)) pattern rest fault)),
        ))
      where
        by : (types : Types) (at : ℕ) (reported : Rule) (d : Thing)
            → FirstFault scope types [] pattern (Least scope types value) (Nothing scope) rest at reported d
            → (e : Thing) × (captures : Captures Name) × IsFirst scope [] pattern (Least scope types value) e captures
            × (own : Types) × AreCaptured scope own [] pattern (Least scope types value) × Fault scope (own ++ types) rest at reported d
        by types at reported d fault = (fault.0, fault.1, fault.2, fault.3, fault.4, one fault.5)
          where
            one : Fault scope (fault.3 ++ types) rest at reported d ⊎ ⊥ → Fault scope (fault.3 ++ types) rest at reported d
            one (inl own) = own
            one (inr never) = absurd never

    -- what the pattern leaves of what is matched
    pub let_uncovered : (table : List Thing) (here : ℕ) (error : CheckError)
        → Fails second nodes table (λ types. IsUncovered scope here (ABranch pattern rest NoBranch) (elements_of second matched)) error
        → Fails old nodes table (λ types. KindFault scope types here (Let pattern value rest)) error
    let_uncovered table here = fails_earlier old second (later_still old first second is_first is_second) sound nodes old_nodes table
        (λ types. IsUncovered scope here (ABranch pattern rest NoBranch) (elements_of second matched))
        (λ types. KindFault scope types here (Let pattern value rest))
        (λ types of at reported d fault. inr (
          some types of,
          inl (uncovered_more scope (Nothing scope) (Nothing scope)
              (owes_itself scope (Nothing scope)) types at reported d here (ABranch pattern rest NoBranch) (elements_of second matched)
              (Least scope types value) (matched_least types of).within fault),
        ))

  -- what `try` matches are values of DATA
  module _ (branches : Branches) (more : Graph) (begins : first ≡ built_ins ++ more) where
    data_first : AreSame (elements_of first DATA) (BuiltIn DATA)
    data_first = record { within = node_within first more begins DATA (lit< tt); whole = built_in_within first more begins DATA (lit< tt) }

    pub try_is_least : (second new : Graph) → IsLater first second → matched.0 < length first → (results : List NodeId) (id : NodeId)
        → BodiesLeast scope first nodes second branches (elements_of first DATA) results
        → elements_of new id ⊆ IsInOne (map (typ second) (results ++ matched ∷ []))
        → IsBelow old nodes new (λ types t. KindHas scope types (Try value branches) t) id
    try_is_least second new is_second below results id bodies only types of = try_least scope types value branches (typ first matched) (typ new id)
        (known types of) (map (option_map (typ second)) bodies.found)
        (bodies_least_alike scope branches [] [] (elements_of first DATA) (BuiltIn DATA)
        (come_same scope [] (elements_of first DATA) (BuiltIn DATA) data_first) types (map (option_map (typ second)) bodies.found)
        (bodies.least types (then_types types of)))
        (λ d element inside. by d element (last_first second results matched d (only d element inside)))
      where
        by : (d : Thing) → IsElement d → elements_of second matched d ⊎ IsInOne (map (typ second) results) d
            → InOne (Some (typ first matched) ∷ map (option_map (typ second)) bodies.found) d
        by d element (inl last) = inl (earlier_in first second is_second is_first.sound matched below d element last)
        by d element (inr among) = inr (in_those second bodies.found d element
            (subst (λ ids. IsInOne (map (typ second) ids) d) (sym bodies.are) among))

    pub try_fails : (table : List Thing) (here : ℕ) (error : CheckError)
        → Fails first nodes table (λ types. BranchFault scope types [] (elements_of first DATA) (Owes scope first None) branches) error
        → Fails old nodes table (λ types. KindFault scope types here (Try value branches)) error
    try_fails table here = fails_earlier old first is_first sound nodes old_nodes table
        (λ types. BranchFault scope types [] (elements_of first DATA) (Owes scope first None) branches)
        (λ types. KindFault scope types here (Try value branches))
        (λ types of at reported d fault. inr (branch_fault_alike scope (Nothing scope) (Nothing scope) (owes_itself scope (Nothing scope)) types at reported d
        branches [] [] (elements_of first DATA) (BuiltIn DATA) (come_same scope [] (elements_of first DATA) (BuiltIn DATA) data_first) fault))

  -- the items of what is matched are in a node of a second graph
  module _ (branches : Branches) (second : Graph) (is_second : IsLater first second) (first_nodes : AreNodesOf first nodes) (item : NodeId)
      (has : IsItemOf (elements_of first matched) ⊆ elements_of second item)
      (only : elements_of second item ⊆ IsItemOf (elements_of first matched)) where
    second_types : (types : Types) → AreOfTypes old nodes types → AreOfTypes second nodes types
    second_types types of = types_later first second is_second is_first.sound nodes first_nodes types (then_types types of)

    items_first : AreSame (elements_of second item) (IsItemOf (elements_of first matched))
    items_first = record { within = only; whole = has }

    pub map_is_least : (third new : Graph) (body id : NodeId) → BranchesLeast scope second nodes third branches (elements_of second item) body
        → elements_of new id ⊆ IsListOf (elements_of third body)
        → IsBelow old nodes new (λ types t. KindHas scope types (Map value branches) t) id
    map_is_least third new body id bodies list types of t is_type typed = let its = bodies types (second_types types of) in
        map_least scope types value branches (typ first matched) (typ new id) (known types of) its.0
        (bodies_least_alike scope branches [] [] (elements_of second item) (IsItemOf (elements_of first matched))
        (come_same scope [] (elements_of second item) (IsItemOf (elements_of first matched)) items_first) types its.0 its.1)
        (through (elements_of new id) (IsListOf (elements_of third body)) (IsListOf (InOne its.0)) list
        (lists_grow (elements_of third body) (InOne its.0) its.2)) t typed

    pub map_fails : (table : List Thing) (here : ℕ) (error : CheckError)
        → Fails second nodes table (λ types. CoveringFault scope types here (elements_of second item) (Nothing scope) branches) error
        → Fails old nodes table (λ types. KindFault scope types here (Map value branches)) error
    map_fails table here = fails_earlier old second (later_still old first second is_first is_second) sound nodes old_nodes table
        (λ types. CoveringFault scope types here (elements_of second item) (Nothing scope) branches)
        (λ types. KindFault scope types here (Map value branches))
        (λ types of at reported d fault. inr (inr (some types of, whole types of at reported d fault)))
      where
        whole : (types : Types) → AreOfTypes old nodes types → (at : ℕ) (reported : Rule) (d : Thing)
            → CoveringFault scope types here (elements_of second item) (Nothing scope) branches at reported d
            → CoveringFault scope types here (IsItemOf (Least scope types value)) (Nothing scope) branches at reported d
        whole types of at reported d = covering_same scope (Nothing scope) (Nothing scope) (owes_itself scope (Nothing scope)) types at reported d here
            branches (elements_of second item) (IsItemOf (Least scope types value)) (same_items types of second item has only)

    pub transform_is_least : (third fourth fifth new : Graph) (results : List NodeId) (lists inner id : NodeId)
        → BodiesLeast scope second nodes third branches (elements_of second item) results
        → elements_of fourth lists ⊆ IsInOne (map (typ third) results) → elements_of fifth inner ⊆ IsItemOf (elements_of fourth lists)
        → elements_of new id ⊆ IsListOf (elements_of fifth inner)
        → IsBelow old nodes new (λ types t. KindHas scope types (Transform value branches) t) id
    transform_is_least third fourth fifth new results lists inner id bodies union items list types of t is_type typed =
        let its = union_least scope second nodes third fourth branches (elements_of second item) results bodies lists union types
        (second_types types of) in
        transform_least scope types value branches (typ first matched) (typ new id) (known types of) its.0
        (bodies_least_alike scope branches [] [] (elements_of second item) (IsItemOf (elements_of first matched))
        (come_same scope [] (elements_of second item) (IsItemOf (elements_of first matched)) items_first) types its.0 its.1)
        (through (elements_of new id) (IsListOf (elements_of fifth inner)) (IsListOf (IsItemOf (InOne its.0))) list
        (lists_grow (elements_of fifth inner) (IsItemOf (InOne its.0))
        (through (elements_of fifth inner) (IsItemOf (elements_of fourth lists)) (IsItemOf (InOne its.0)) items
        (items_grow (elements_of fourth lists) (InOne its.0) its.2)))) t typed

    -- bodies owe a sequence
    pub transform_fails : (limit : Limit) → limit.rule ≡ rule.BranchSequence → IsSequence ⊆ elements_of second limit.node
        → (table : List Thing) (here : ℕ) (error : CheckError)
        → Fails second nodes table (λ types. BranchFault scope types [] (elements_of second item) (Owes scope second (Some limit)) branches) error
        → Fails old nodes table (λ types. KindFault scope types here (Transform value branches)) error
    transform_fails limit is_rule sequences table here = fails_earlier old second (later_still old first second is_first is_second) sound nodes
        old_nodes table (λ types. BranchFault scope types [] (elements_of second item) (Owes scope second (Some limit)) branches)
        (λ types. KindFault scope types here (Transform value branches))
        (λ types of at reported d fault. inr (inr (some types of, whole types of at reported d fault)))
      where
        owes : (types : Types) (e : Expr) (at : ℕ) (reported : Rule) (d : Thing) → Owes scope second (Some limit) types e at reported d
            → ASequence scope types e at reported d
        owes types e at reported d owed = subst (λ (is : Rule). Breaks scope types e IsSequence is at reported d) is_rule
            (owes_less scope second limit IsSequence sequences types e at reported d owed)

        whole : (types : Types) → AreOfTypes old nodes types → (at : ℕ) (reported : Rule) (d : Thing)
            → BranchFault scope types [] (elements_of second item) (Owes scope second (Some limit)) branches at reported d
            → BranchFault scope types [] (IsItemOf (Least scope types value)) (ASequence scope) branches at reported d
        whole types of at reported d = branch_fault_alike scope (Owes scope second (Some limit)) (ASequence scope) owes types at reported d branches [] []
            (elements_of second item) (IsItemOf (Least scope types value))
            (come_same scope [] (elements_of second item) (IsItemOf (Least scope types value)) (same_items types of second item has only))
