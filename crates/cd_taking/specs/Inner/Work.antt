-- How many steps a state of the machine may take.
use Rattle.std.specs.Prelude.{ℕ, ◌+◌, zero, suc, Bool, List, [], ◌∷◌, Option, Some, None, length, drop}
use Rattle.std.specs.Prelude.{bytes_eq, if◌then◌else◌}
use Rattle.std.specs.List.{slice_get}
use Rattle.cd_sets.specs.declared.node_id.NodeId.{NodeId}
use Rattle.cd_syntax.specs.Name.{Name}
use Rattle.cd_model.specs.Thing as thing
use Rattle.cd_model.specs.Thing.{Thing}
use Rattle.cd_matching.specs.Kernel as kernel
use Rattle.cd_matching.specs.Kernel.{KernelField, Present, Optional, Test, Bind, Put}
use Rattle.cd_taking.specs.declared.node_parts.PairNode.{PairNode}
use Rattle.cd_taking.specs.Inner.Machine.{as_pair, as_xml, as_record, Node, Named}
use Rattle.cd_taking.specs.Inner.Machine.{pair_node, xml_node, record_node, Frame, Or, And, First}
use Rattle.cd_taking.specs.Inner.Machine.{Second, Tag, Attributes, Field, Part, Look, Fields, Yes}
use Rattle.cd_taking.specs.Inner.Machine.{No, State}

-- the work of one thing at each node
abbrev pub Effort : Type 0
Effort = ℕ → ℕ

-- what a record has at a label, by its work
abbrev pub Labelled : Type 0
Labelled = Name → Option Effort

-- the work of a node that takes a thing apart
abbrev pub pair_work : (one other : Effort) → Option PairNode → ℕ
pair_work one other None = 1
pair_work one other (Some node) = 4 + (one node.first + other node.second)

abbrev pub xml_work : (tag attributes content : Effort) → Option (ℕ × ℕ × ℕ) → ℕ
xml_work tag attributes content None = 1
xml_work tag attributes content (Some node) =
    6 + (tag node.0 + (attributes node.1 + content node.2))

abbrev pub field_effort : KernelField NodeId → Option Effort → ℕ
field_effort (Present node) (Some effort) = effort node
field_effort field effort = 0

abbrev pub fields_work : Labelled → Named → ℕ
fields_work at [] = 1
fields_work at (field ∷ fields) = 3 + (field_effort field.1 (at field.0) + fields_work at fields)

abbrev pub record_work : Labelled → Option (Named × Bool) → ℕ
record_work at None = 1
record_work at (Some node) = 2 + fields_work at node.0

abbrev pub Apart : Type 0
Apart = Option Node → ℕ

abbrev pub no_work : Apart
no_work _ = 1

-- one node, by the nodes that it leads to
abbrev pub by_node : Apart → Effort → Option Node → ℕ
by_node apart others None = 1
by_node apart others (Some (Test type)) = 1
by_node apart others (Some (Bind variable)) = 1
by_node apart others (Some (Put variable constant)) = 1
by_node apart others (Some (kernel.Both first second)) = 3 + (others first + others second)
by_node apart others (Some (kernel.First first second)) = 3 + (others first + others second)
by_node apart others (Some node) = apart (Some node)

module _ (nodes : List Node) where
  -- so many nodes in a row that leave the thing whole
  abbrev pub in_a_row : Apart → ℕ → Effort
  in_a_row apart zero number = 1
  in_a_row apart (suc steps) number =
      by_node apart (in_a_row apart steps) (slice_get nodes number)

  abbrev mutual
    pub effort : Thing → Effort
    effort (thing.Pair first second) = in_a_row
        (λ node. pair_work (effort first) (effort second) (pair_node node)) (length nodes)
    effort (thing.Xml tag attributes content) = in_a_row
        (λ node. xml_work (effort tag) (effort attributes) (effort content) (xml_node node))
        (length nodes)
    effort (thing.Record fields) = in_a_row
        (λ node. record_work (effort_at fields) (record_node node)) (length nodes)
    effort d = in_a_row no_work (length nodes)

    pub effort_at : thing.Fields → Labelled
    effort_at thing.NoField label = None
    effort_at (thing.Field name d rest) label =
        if bytes_eq name label then Some (effort d) else effort_at rest label

  -- the node that takes a thing apart
  abbrev pub apart_of : Thing → Apart
  apart_of (thing.Pair first second) node =
      pair_work (effort first) (effort second) (pair_node node)
  apart_of (thing.Xml tag attributes content) node =
      xml_work (effort tag) (effort attributes) (effort content) (xml_node node)
  apart_of (thing.Record fields) node = record_work (effort_at fields) (record_node node)
  apart_of _ _ = 1

  abbrev pub second_effort : Option (Thing × Thing) → Option PairNode → ℕ
  second_effort (Some pair) (Some node) = effort pair.1 node.second
  second_effort _ _ = 0

  abbrev pub tag_effort : Option (Thing × Thing × Thing) → Option (ℕ × ℕ × ℕ) → ℕ
  tag_effort (Some xml) (Some node) = effort xml.1 node.1 + effort xml.2 node.2
  tag_effort _ _ = 0

  abbrev pub attributes_effort : Option (Thing × Thing × Thing) → Option (ℕ × ℕ × ℕ) → ℕ
  attributes_effort (Some xml) (Some node) = effort xml.2 node.2
  attributes_effort _ _ = 0

  abbrev pub fields_effort : Option thing.Fields → Option (Named × Bool) → ℕ → ℕ
  fields_effort (Some fields) (Some node) from =
      fields_work (effort_at fields) (drop from node.0)
  fields_effort _ _ from = 1

  abbrev pub frame_work : Frame → ℕ
  frame_work (Or d second mark) = 1 + effort d second
  frame_work (And d second) = 1 + effort d second
  frame_work (First pair node) =
      2 + second_effort (as_pair pair) (pair_node (slice_get nodes node))
  frame_work (Second pair node mark) = 1
  frame_work (Tag xml node) = 3 + tag_effort (as_xml xml) (xml_node (slice_get nodes node))
  frame_work (Attributes xml node) =
      1 + attributes_effort (as_xml xml) (xml_node (slice_get nodes node))
  frame_work (Field d node from) =
      1 + fields_effort (as_record d) (record_node (slice_get nodes node)) from

  abbrev pub part_work : Part → ℕ
  part_work (Look d node) = effort d node
  part_work (Fields d node from) =
      fields_effort (as_record d) (record_node (slice_get nodes node)) from
  part_work Yes = 0
  part_work No = 0

  abbrev pub frames_work : List Frame → ℕ
  frames_work [] = 0
  frames_work (frame ∷ frames) = frame_work frame + frames_work frames

  abbrev pub work : State → ℕ
  work state = part_work state.part + frames_work state.frames
