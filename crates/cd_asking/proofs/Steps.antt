-- What tasks make of answers, step by step.
use Rattle.std.proofs.Common.{◌≡◌, ℕ, zero, suc, List, [], ◌∷◌, ◌++◌, refl, ap, ◌∙◌}
use Rattle.cd_sets.specs.declared.node_id.NodeId.{NodeId}
use Rattle.cd_syntax.specs.Name.{Name}
use Rattle.cd_model.specs.Formula.{Graph}
use Rattle.cd_model.specs.Thing as thing
use Rattle.cd_model.specs.Thing.{Thing, Fields}
use Rattle.cd_asking.specs.Inner.Shapes.{Closed, Record, shape_of, fields_with, members}
use Rattle.cd_asking.specs.Inner.Tasks as child
use Rattle.cd_asking.specs.Inner.Tasks.{Covers, among, answered, Task, OfSecond, OfPairs, OfAttributes, OfContent, OfXml, OfField, again, paired, after, finish}
use Rattle.cd_asking.proofs.Agreeing.{agree_same, agree_covered, pair_members, xml_members, record_members}

module _ (graph : Graph) (closed : Closed) (set next : List NodeId) where
  -- the value is asked at a set, and its first child at the one that this leads to
  pub to_first : (first second : Thing) → Covers graph child.First set next
      → after graph closed (OfSecond second set) (members graph (shape_of graph closed first) next)
      ≡ (members graph (shape_of graph closed (thing.Pair first second)) set)
  to_first first second covers = (pair_members graph _ _ _ _ set
      (agree_covered graph child.First set next (shape_of graph closed first) covers) (agree_same graph child.Second set _))

  pub to_second : (second : Thing) (first : List NodeId) → Covers graph child.Second set next
      → after graph closed (OfPairs set first (suc zero)) (members graph (shape_of graph closed second) next)
      ≡ after graph closed (OfSecond second set) first
  to_second second first covers = (pair_members graph _ _ _ _ set
      (agree_same graph child.First set _) (agree_covered graph child.Second set next (shape_of graph closed second) covers))

  pub to_tag : (tag attributes content : Thing) → Covers graph child.Tag set next
      → after graph closed (OfAttributes attributes content set) (members graph (shape_of graph closed tag) next)
      ≡ (members graph (shape_of graph closed (thing.Xml tag attributes content)) set)
  to_tag tag attributes content covers = (xml_members graph _ _ _ _ _ _ set
      (agree_covered graph child.Tag set next (shape_of graph closed tag) covers) (agree_same graph child.Attributes set _) (agree_same graph child.Content set _))

  pub to_attributes : (attributes content : Thing) (tag : List NodeId) → Covers graph child.Attributes set next
      → after graph closed (OfContent content set tag) (members graph (shape_of graph closed attributes) next)
      ≡ after graph closed (OfAttributes attributes content set) tag
  to_attributes attributes content tag covers = (xml_members graph _ _ _ _ _ _ set
      (agree_same graph child.Tag set _) (agree_covered graph child.Attributes set next (shape_of graph closed attributes) covers) (agree_same graph child.Content set _))

  pub to_content : (content : Thing) (tag attributes : List NodeId) → Covers graph child.Content set next
      → after graph closed (OfXml set tag attributes) (members graph (shape_of graph closed content) next)
      ≡ after graph closed (OfContent content set tag) attributes
  to_content content tag attributes covers = (xml_members graph _ _ _ _ _ _ set
      (agree_same graph child.Tag set _) (agree_same graph child.Attributes set _) (agree_covered graph child.Content set next (shape_of graph closed content) covers))

  -- a field of a record, of which these have answered
  pub to_field : (done : List (Name × List NodeId)) (label : Name) (value : Thing) (left : Fields) → Covers graph (child.At label) set next
      → after graph closed (OfField set done label left) (members graph (shape_of graph closed value) next)
      ≡ (members graph (Record (answered done ++ fields_with graph closed (thing.Field label value left))) set)
  to_field done label value left covers = (record_members graph (answered done) (fields_with graph closed left) label _ _ set
      (agree_covered graph (child.At label) set next (shape_of graph closed value) covers))

-- the last task is done first
pub last_first : (graph : Graph) (closed : Closed) (tasks : List Task) (task : Task) (answer : List NodeId)
    → finish graph closed (tasks ++ task ∷ []) answer ≡ finish graph closed tasks (after graph closed task answer)
last_first graph closed [] task answer = refl
last_first graph closed (first ∷ tasks) task answer = ap (after graph closed first) (last_first graph closed tasks task answer)

-- where one more step changes nothing, no further step does
pub runs_stop : (graph : Graph) (set first : List NodeId) (answer : List NodeId) (count : ℕ) → paired graph set first answer ≡ answer
    → again count (paired graph set first) answer ≡ answer
runs_stop graph set first answer zero is = refl
runs_stop graph set first answer (suc count) is = ap (again count (paired graph set first)) is ∙ runs_stop graph set first answer count is
