-- Forms with branches have types that hold what the bodies give.
use Rattle.std.proofs.Common.{◌⊎◌, inl, inr, [], Some, None}
use Rattle.cd_sets.specs.declared.node_id.NodeId.{NodeId}
use Rattle.cd_syntax.specs.Name.{Name}
use Rattle.cd_syntax.specs.TypeTree.{Tree}
use Rattle.cd_model.specs.BuiltIns.{DATA}
use Rattle.cd_model.specs.Formula.{Graph, IsGraph}
use Rattle.cd_model.specs.Scope.{Scope}
use Rattle.cd_model.specs.Thing.{Thing, IsElement}
use Rattle.cd_matching.specs.Captures.{Captures}
use Rattle.cd_matching.specs.Takes.{WrittenTakes}
use Rattle.cd_program.specs.Expr.{Expr, Branches, NoBranch, ABranch, Match, Try, Map, Transform, Let}
use Rattle.cd_meaning.specs.Sets.{Set, ◌⊆◌, elements_of}
use Rattle.cd_meaning.specs.Sequences.{IsListOf}
use Rattle.cd_typing.specs.Typ.{typ, IsType, Types, BuiltIn}
use Rattle.cd_typing.specs.Branches.{Cover, IsTaken}
use Rattle.cd_typing.specs.Later.{IsLater}
use Rattle.cd_typing.specs.Typing.{Has, KindHas, BodiesHave}
use Rattle.cd_typing.proofs.Later.{later_in}
use Rattle.cd_typing.proofs.Widening.{widen, bodies_have_more}
use Rattle.cd_check.specs.Inner.Environment.{Nodes, AreOfTypes, AreNodesOf, Gives}
use Rattle.cd_check.specs.Inner.Bodies.{Decides, BodyGives}
use Rattle.cd_check.proofs.BodiesTyped.{fewer_bodies, fewer_first}
use Rattle.cd_check.proofs.TypesLater.{types_later}

-- branches have bodies in what a node holds, where their names have types in a graph
abbrev pub BodiesFrom : Scope → Graph → Nodes → (matched : Set) → Branches → (wanted : Set) → Type 0
BodiesFrom scope graph nodes matched branches wanted =
    (types : Types) → AreOfTypes graph nodes types → BodiesHave scope types [] matched branches wanted

module _ (scope : Scope) (old : Graph) (sound : IsGraph old) (nodes : Nodes) (old_nodes : AreNodesOf old nodes) (value : Expr)
    (matched : NodeId) (first : Graph) (is_first : IsLater old first)
    (value_gives : Gives old nodes first (λ types t. Has scope types value t) matched) where
  -- the branches are checked from the first graph on
  pub match_gives : (branches : Branches) (new : Graph) (result : NodeId) → IsType (typ new result)
      → Cover scope branches (elements_of first matched)
      → BodiesFrom scope first nodes (elements_of first matched) branches (elements_of new result)
      → Gives old nodes new (λ types t. KindHas scope types (Match value branches) t) result
  match_gives branches new result is_type cover have = record {
    is_type = is_type;
    has = λ types of. (
      typ first matched,
      value_gives.is_type,
      value_gives.has types of,
      cover,
      have types (types_later old first is_first sound nodes old_nodes types of),
    );
  }

  -- the body of `let` from a second one on
  module _ (second : Graph) (is_second : IsLater first second) (first_nodes : AreNodesOf first nodes) (pattern : Tree) (rest : Expr) where
    abbrev Matched : Set
    Matched = elements_of first matched

    abbrev Passes : Type 0
    Passes = (e : Thing) → IsElement e → Matched e → WrittenTakes scope pattern e None → ⊥

    matched_then : Matched ⊆ elements_of second matched
    matched_then = later_in first second is_second is_first.sound matched value_gives.is_type.is_node

    let_covers : Decides scope pattern → Passes → Cover scope (ABranch pattern rest NoBranch) Matched
    let_covers decides none e element inside = by (decides e element)
      where
        by : ((captures : Captures Name) × WrittenTakes scope pattern e (Some captures)) ⊎ WrittenTakes scope pattern e None
            → IsTaken scope (ABranch pattern rest NoBranch) e
        by (inl takes) = inl takes
        by (inr fails) = absurd (none e element inside fails)

    pub let_gives : Decides scope pattern → Passes → (new : Graph) (id : NodeId)
        → BodyGives scope second nodes new (elements_of second matched) pattern rest (Some id)
        → Gives old nodes new (λ types t. KindHas scope types (Let pattern value rest) t) id
    let_gives decides none new id gives = record {
      is_type = gives.0;
      has = λ types of. let own = gives.1 types (types_later first second is_second is_first.sound nodes first_nodes types
          (types_later old first is_first sound nodes old_nodes types of)) in (
            typ first matched,
            value_gives.is_type,
            value_gives.has types of,
            let_covers decides none,
            λ e captures is. (
              own.0,
              own.1,
              λ d caught earlier. own.2 d caught (fewer_first scope pattern (elements_of second matched) Matched matched_then d caught earlier),
              own.3,
            ),
          );
    }

    pub let_gives_none : Decides scope pattern → Passes → (new : Graph) (id : NodeId) → IsType (typ new id)
        → BodyGives scope second nodes new (elements_of second matched) pattern rest None
        → Gives old nodes new (λ types t. KindHas scope types (Let pattern value rest) t) id
    let_gives_none decides none new id is_type gives = record {
      is_type = is_type;
      has = λ types of. (
        typ first matched,
        value_gives.is_type,
        value_gives.has types of,
        let_covers decides none,
        λ e captures is. absurd (gives e captures (fewer_first scope pattern (elements_of second matched) Matched matched_then e captures is)),
      );
    }

  -- what is matched by `try` are values of DATA
  pub try_gives : (branches : Branches) (new : Graph) (result : NodeId) → IsType (typ new result)
      → BuiltIn DATA ⊆ elements_of first DATA → elements_of first matched ⊆ elements_of new result
      → BodiesFrom scope first nodes (elements_of first DATA) branches (elements_of new result)
      → Gives old nodes new (λ types t. KindHas scope types (Try value branches) t) result
  try_gives branches new result is_type in_data within have = record {
    is_type = is_type;
    has = λ types of. (
      widen scope value types (typ first matched) (typ new result) within (value_gives.has types of),
      fewer_bodies scope types branches (elements_of first DATA) (BuiltIn DATA) in_data (elements_of new result)
          (have types (types_later old first is_first sound nodes old_nodes types of)),
    );
  }

  -- the items of a list are in a node of a second graph
  module _ (second : Graph) (is_second : IsLater first second) (first_nodes : AreNodesOf first nodes) (item : NodeId)
      (item_type : IsType (typ second item)) (lists : elements_of first matched ⊆ IsListOf (elements_of second item)) where
    pub map_gives : (branches : Branches) (third new : Graph) (body result : NodeId) → IsType (typ third body) → IsType (typ new result)
        → Cover scope branches (elements_of second item)
        → BodiesFrom scope second nodes (elements_of second item) branches (elements_of third body)
        → IsListOf (elements_of third body) ⊆ elements_of new result
        → Gives old nodes new (λ types t. KindHas scope types (Map value branches) t) result
    map_gives branches third new body result body_type is_type cover have list = record {
      is_type = is_type;
      has = λ types of. (
        typ first matched,
        typ second item,
        typ third body,
        value_gives.is_type,
        value_gives.has types of,
        item_type,
        lists,
        cover,
        body_type,
        have types (types_later first second is_second is_first.sound nodes first_nodes types
            (types_later old first is_first sound nodes old_nodes types of)),
        list,
      );
    }

    pub transform_gives : (branches : Branches) (third new : Graph) (inner result : NodeId) → IsType (typ third inner) → IsType (typ new result)
        → BodiesFrom scope second nodes (elements_of second item) branches (elements_of new result)
        → IsListOf (elements_of third inner) ⊆ elements_of new result → elements_of new result ⊆ IsListOf (elements_of third inner)
        → Gives old nodes new (λ types t. KindHas scope types (Transform value branches) t) result
    transform_gives branches third new inner result inner_type is_type have list only = record {
      is_type = is_type;
      has = λ types of. (
        typ first matched,
        typ second item,
        typ third inner,
        value_gives.is_type,
        value_gives.has types of,
        item_type,
        lists,
        inner_type,
        bodies_have_more scope types [] (elements_of second item) branches (elements_of new result) (IsListOf (elements_of third inner)) only
            (have types (types_later first second is_second is_first.sound nodes first_nodes types
            (types_later old first is_first sound nodes old_nodes types of))),
        list,
      );
    }
