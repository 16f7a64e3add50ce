-- Each step leaves less work.
use Rattle.std.proofs.Common.{◌≡◌, ℕ, ◌+◌, ◌<◌, ◌≤◌, arith, Bool, true, false, List, length, refl, ap₂, ◌∙◌, subst}
use Rattle.std.specs.List.{slice_get}
use Rattle.cd_sets.specs.declared.node_id.NodeId.{NodeId}
use Rattle.cd_model.specs.Thing.{Thing}
use Rattle.cd_matching.specs.Kernel.{Ends}
use Rattle.cd_taking.specs.Inner.Machine as step
use Rattle.cd_taking.specs.Inner.Machine.{as_pair, as_xml, as_record, Node, Named, pair_node, xml_node, record_node, work_at, FieldWork}
use Rattle.cd_taking.specs.Inner.Machine.{Frame, Or, And, First, Second, Tag, Attributes, Field, Part, Look, Fields, Yes, No, State, Step, answered}
use Rattle.cd_taking.specs.Inner.Work.{effort, effort_at, fields_work, second_effort, tag_effort, attributes_effort, fields_effort}
use Rattle.cd_taking.specs.Inner.Work.{frame_work, frames_work, part_work, work}
use Rattle.cd_taking.proofs.Efforts.{effort_by, work_of_pair, work_of_xml, work_of_record, some_work}
use Rattle.cd_taking.proofs.FieldsInTurn.{work_gives, fields_fall}

module _ (Asked : NodeId → Thing → Bool → Type 0) (nodes : List Node)
    (ends : (number : ℕ) → number < length nodes → Ends nodes (length nodes) number) where
  -- the work of the fields, by the next one
  left : (d : Thing) (n index : ℕ) (is : FieldWork) → work_at (as_record d) (record_node (slice_get nodes n)) index ≡ is
      → work_gives nodes is (fields_effort nodes (as_record d) (record_node (slice_get nodes n)) (index + 1))
      ≤ fields_effort nodes (as_record d) (record_node (slice_get nodes n)) index
  left d n index is same = subst (λ is. work_gives nodes is (fields_effort nodes (as_record d) (record_node (slice_get nodes n)) (index + 1))
      ≤ fields_effort nodes (as_record d) (record_node (slice_get nodes n)) index) same
      (fields_fall nodes (as_record d) (record_node (slice_get nodes n)) index)

  answer_falls : (answer : Bool) (d : Thing) (n more : ℕ) → part_work nodes (answered answer) + more < effort nodes d n + more
  answer_falls true d n more = let some = some_work nodes ends d n in omega (arith, some)
  answer_falls false d n more = let some = some_work nodes ends d n in omega (arith, some)

  some_frame_work : (f : Frame) (more : ℕ) → 0 + more < 0 + (frame_work nodes f + more)
  some_frame_work (Or d second mark) more = omega arith
  some_frame_work (And d second) more = omega arith
  some_frame_work (First pair n) more = omega arith
  some_frame_work (Second pair n mark) more = omega arith
  some_frame_work (Tag xml n) more = omega arith
  some_frame_work (Attributes xml n) more = omega arith
  some_frame_work (Field d n from) more = omega arith

  fails_falls : (d : Thing) (n more : ℕ) → 0 + more < effort nodes d n + more
  fails_falls d n more = let some = some_work nodes ends d n in omega (arith, some)

  pub falls : (one other : State) → Step Asked nodes one other → work nodes other < work nodes one
  falls _ _ (step.missing fs t x d n none) = fails_falls d n (frames_work nodes fs)
  falls _ _ (step.asks fs t x d n type answer is asked) = answer_falls answer d n (frames_work nodes fs)
  falls _ _ (step.binds fs t x d n variable is) = fails_falls d n (frames_work nodes fs)
  falls _ _ (step.puts fs t x d e n variable constant is same) = fails_falls d n (frames_work nodes fs)
  falls _ _ (step.joins fs t x d n p q is) =
      let by : effort nodes d n ≡ 3 + (effort nodes d p + effort nodes d q) = effort_by nodes ends d n _ is in omega (arith, by)
  falls _ _ (step.chooses fs t x d n p q is) =
      let by : effort nodes d n ≡ 3 + (effort nodes d p + effort nodes d q) = effort_by nodes ends d n _ is in omega (arith, by)
  falls _ _ (step.known fs t x d n failed) = fails_falls d n (frames_work nodes fs)
  falls _ _ (step.no_pair fs t x d n parts is none) = fails_falls d n (frames_work nodes fs)
  falls _ _ (step.opens fs t x d n parts pair is pairs) =
      let by : effort nodes d n ≡ 4 + (effort nodes pair.0 parts.first + effort nodes pair.1 parts.second) =
      effort_by nodes ends d n _ refl ∙ work_of_pair nodes d (slice_get nodes n) parts pair is pairs in
      let second : second_effort nodes (as_pair d) (pair_node (slice_get nodes n)) ≡ effort nodes pair.1 parts.second =
      ap₂ (second_effort nodes) pairs is in omega (arith, by, second)
  falls _ _ (step.no_xml fs t x d n parts is none) = fails_falls d n (frames_work nodes fs)
  falls _ _ (step.opens_xml fs t x d n parts xml is xmls) =
      let by : effort nodes d n ≡ 6 + (effort nodes xml.0 parts.0 + (effort nodes xml.1 parts.1 + effort nodes xml.2 parts.2)) =
      effort_by nodes ends d n _ refl ∙ work_of_xml nodes d (slice_get nodes n) parts xml is xmls in
      let rest : tag_effort nodes (as_xml d) (xml_node (slice_get nodes n)) ≡ effort nodes xml.1 parts.1 + effort nodes xml.2 parts.2 =
      ap₂ (tag_effort nodes) xmls is in omega (arith, by, rest)
  falls _ _ (step.no_record fs t x d n parts is none) = fails_falls d n (frames_work nodes fs)
  falls _ _ (step.other_fields fs t x d n parts fields is are others) = fails_falls d n (frames_work nodes fs)
  falls _ _ (step.opens_record fs t x d n parts fields is are allowed) =
      let by : effort nodes d n ≡ 2 + fields_work (effort_at nodes fields) parts.0 =
      effort_by nodes ends d n _ refl ∙ work_of_record nodes d (slice_get nodes n) parts fields is are in
      let rest : fields_effort nodes (as_record d) (record_node (slice_get nodes n)) 0 ≡ fields_work (effort_at nodes fields) parts.0 =
      ap₂ (λ fields node. fields_effort nodes fields node 0) are is in omega (arith, by, rest)
  falls _ _ (step.lacks fs t x d n index is) = let less = left d n index _ is in omega (arith, less)
  falls _ _ (step.ends fs t x d n index is) = let less = left d n index _ is in omega (arith, less)
  falls _ _ (step.passes fs t x d n index is) = let less = left d n index _ is in omega (arith, less)
  falls _ _ (step.field_is_in fs t x d e n index type is asked) = let less = left d n index _ is in omega (arith, less)
  falls _ _ (step.field_is_out fs t x d e n index type is asked) = let less = left d n index _ is in omega (arith, less)
  falls _ _ (step.opens_field fs t x d e n index number is) = let less = left d n index _ is in omega (arith, less)
  falls _ _ (step.chosen fs t x d q mark) = omega arith
  falls _ _ (step.goes_on fs t x d q) = omega arith
  falls _ _ (step.no_second fs t x d n none) = omega arith
  falls _ _ (step.opens_second fs t x d n parts pair is pairs) =
      let second : second_effort nodes (as_pair d) (pair_node (slice_get nodes n)) ≡ effort nodes pair.1 parts.second =
      ap₂ (second_effort nodes) pairs is in omega (arith, second)
  falls _ _ (step.gathers fs t u x d n mark is) = omega arith
  falls _ _ (step.no_attributes fs t x d n none) = omega arith
  falls _ _ (step.opens_attributes fs t x d n parts xml is xmls) =
      let rest : tag_effort nodes (as_xml d) (xml_node (slice_get nodes n)) ≡ effort nodes xml.1 parts.1 + effort nodes xml.2 parts.2 =
      ap₂ (tag_effort nodes) xmls is in
      let last : attributes_effort nodes (as_xml d) (xml_node (slice_get nodes n)) ≡ effort nodes xml.2 parts.2 =
      ap₂ (attributes_effort nodes) xmls is in omega (arith, rest, last)
  falls _ _ (step.no_content fs t x d n none) = omega arith
  falls _ _ (step.opens_content fs t x d n parts xml is xmls) =
      let last : attributes_effort nodes (as_xml d) (xml_node (slice_get nodes n)) ≡ effort nodes xml.2 parts.2 =
      ap₂ (attributes_effort nodes) xmls is in omega (arith, last)
  falls _ _ (step.next fs t x d n index) = omega arith
  falls _ _ (step.tries fs t x d q mark) = omega arith
  falls _ _ (step.fails fs t x y d n mark adds) = omega arith
  falls _ _ (step.gives_up fs t x f passes) = some_frame_work f (frames_work nodes fs)
