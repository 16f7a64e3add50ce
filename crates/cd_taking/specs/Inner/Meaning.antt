-- What a state of the machine leads to.
use Rattle.std.specs.Prelude.{◌≡◌, ◌≤◌, ℕ, Bool, List, [], ◌∷◌, Option, Some, None, option_map}
use Rattle.std.specs.Prelude.{length, take, drop}
use Rattle.std.specs.List.{slice_get}
use Rattle.cd_sets.specs.declared.node_id.NodeId.{NodeId}
use Rattle.cd_model.specs.AllOf.{AllOf}
use Rattle.cd_model.specs.Thing as thing
use Rattle.cd_model.specs.Thing.{Thing, EachClosure}
use Rattle.cd_matching.specs.Captures.{Captures, nothing, joined, both}
use Rattle.cd_matching.specs.Kernel.{gathered, taken, taken_at, on_fields}
use Rattle.cd_taking.specs.declared.node_parts.PairNode.{PairNode}
use Rattle.cd_taking.specs.Inner.Machine.{as_pair, as_xml, as_record, Node, Named}
use Rattle.cd_taking.specs.Inner.Machine.{pair_node, xml_node, record_node, Frame, Or, And, First}
use Rattle.cd_taking.specs.Inner.Machine.{Second, Tag, Attributes, Field, Part, Look, Fields, Yes}
use Rattle.cd_taking.specs.Inner.Machine.{No, Caught, State, caught, after_second}

-- no mark is beyond so many captures, nor beyond the marks above it
abbrev pub AreMarked : (bound : ℕ) → List Frame → Type 0
AreMarked bound [] = Unit {0}
AreMarked bound (Or d second mark ∷ frames) = (mark ≤ bound) × AreMarked mark frames
AreMarked bound (Second pair node mark ∷ frames) = (mark ≤ bound) × AreMarked mark frames
AreMarked bound (And d second ∷ frames) = AreMarked bound frames
AreMarked bound (First pair node ∷ frames) = AreMarked bound frames
AreMarked bound (Tag xml node ∷ frames) = AreMarked bound frames
AreMarked bound (Attributes xml node ∷ frames) = AreMarked bound frames
AreMarked bound (Field fields node from ∷ frames) = AreMarked bound frames

-- the thing of a frame, and of a part
abbrev pub thing_in : Frame → Thing
thing_in (Or d second mark) = d
thing_in (And d second) = d
thing_in (First pair node) = pair
thing_in (Second pair node mark) = pair
thing_in (Tag xml node) = xml
thing_in (Attributes xml node) = xml
thing_in (Field fields node from) = fields

abbrev pub HasPart : (Thing → Type 0) → Part → Type 0
HasPart fact (Look d node) = fact d
HasPart fact (Fields d node from) = fact d
HasPart fact Yes = Unit {0}
HasPart fact No = Unit {0}

-- the captures of two parts, of which the second one may gather
abbrev pub join_second : Option ℕ → Thing → Option (Captures ℕ) → Option (Captures ℕ)
    → Option (Captures ℕ)
join_second None first one other = both one other
join_second (Some variable) first one other = gathered variable first one other

module _ (test : NodeId → Thing → Bool) (nodes : List Node) where
  abbrev pub takes : Thing → ℕ → Option (Captures ℕ)
  takes d number = taken NodeId test nodes d number

  -- what is captured of a pair, of which the first part has these captures
  abbrev pub pair_with : Option (Thing × Thing) → Option PairNode → Option (Captures ℕ)
      → Option (Captures ℕ)
  pair_with (Some pair) (Some node) first =
      join_second node.variable pair.0 first (takes pair.1 node.second)
  pair_with _ _ first = None

  -- what is captured of the rest of an XML thing
  abbrev pub rest_of_tag : Option (Thing × Thing × Thing) → Option (ℕ × ℕ × ℕ)
      → Option (Captures ℕ)
  rest_of_tag (Some xml) (Some node) = both (takes xml.1 node.1) (takes xml.2 node.2)
  rest_of_tag _ _ = None

  abbrev pub rest_of_attributes : Option (Thing × Thing × Thing) → Option (ℕ × ℕ × ℕ)
      → Option (Captures ℕ)
  rest_of_attributes (Some xml) (Some node) = takes xml.2 node.2
  rest_of_attributes _ _ = None

  -- of the fields from here on
  abbrev pub rest_of_fields : Option thing.Fields → Option (Named × Bool) → ℕ
      → Option (Captures ℕ)
  rest_of_fields (Some fields) (Some node) from =
      on_fields NodeId test nodes (taken_at NodeId test nodes fields) (drop from node.0)
  rest_of_fields _ _ from = None

  abbrev pub gives : Part → Option (Captures ℕ)
  gives (Look d node) = takes d node
  gives (Fields d node from) =
      rest_of_fields (as_record d) (record_node (slice_get nodes node)) from
  gives Yes = Some nothing
  gives No = None

  module _ (goal : Option (Captures ℕ)) where
    -- the frames make the goal of what is captured so far and of the answer that comes
    abbrev pub lead : List Frame → List Caught → Option (Captures ℕ) → Type 0
    lead [] trail answer = option_map (joined (caught trail)) answer ≡ goal
    lead (Or d second mark ∷ frames) trail None = lead frames (take mark trail) (takes d second)
    lead (Or d second mark ∷ frames) trail (Some captures) = lead frames trail (Some captures)
    lead (And d second ∷ frames) trail answer = lead frames trail (both answer (takes d second))
    lead (First pair node ∷ frames) trail answer =
        let whole = pair_with (as_pair pair) (pair_node (slice_get nodes node)) answer in
        (whole ≡ None → takes pair node ≡ None) × lead frames trail whole
    lead (Second pair node mark ∷ frames) trail None =
        (takes pair node ≡ None) × lead frames trail None
    lead (Second pair node mark ∷ frames) trail (Some captures) =
        lead frames (take mark trail) (Some
        (after_second (as_pair pair) (pair_node (slice_get nodes node))
        (joined (caught (drop mark trail)) captures)))
    lead (Tag xml node ∷ frames) trail answer = lead frames trail
        (both answer (rest_of_tag (as_xml xml) (xml_node (slice_get nodes node))))
    lead (Attributes xml node ∷ frames) trail answer = lead frames trail
        (both answer (rest_of_attributes (as_xml xml) (xml_node (slice_get nodes node))))
    lead (Field d node from ∷ frames) trail answer = lead frames trail (both answer
        (rest_of_fields (as_record d) (record_node (slice_get nodes node)) from))

    -- a state that leads to the goal, and knows failures alone; a fact of each closure that may
    -- still be met is at hand
    pub record Leads (fact : ℕ → Type 0) (state : State) : Type 0 where
      pub marked : AreMarked (length state.trail) state.frames
      pub failed : AllOf (λ one. takes one.0 one.1 ≡ None) state.failed
      pub frames : AllOf (λ frame. EachClosure fact (thing_in frame)) state.frames
      pub part : HasPart (EachClosure fact) state.part
      pub leads : lead state.frames state.trail (gives state.part)
