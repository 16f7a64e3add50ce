-- XML elements whose parts are known: their least types and their faults.
use Rattle.std.proofs.Common.{◌≡◌, ℕ, inl, inr, List}
use Rattle.cd_sets.specs.declared.node_id.NodeId.{NodeId}
use Rattle.cd_model.specs.BuiltIns.{ATOM, RECORD}
use Rattle.cd_model.specs.Formula.{Graph, IsGraph}
use Rattle.cd_model.specs.Scope.{Scope}
use Rattle.cd_model.specs.Thing.{Thing}
use Rattle.cd_program.specs.Expr.{Expr, Xml}
use Rattle.cd_meaning.specs.Sets.{◌⊆◌, elements_of}
use Rattle.cd_typing.proofs.Later.{later_still}
use Rattle.cd_typing.specs.Later.{IsLater}
use Rattle.cd_typing.specs.Results.{IsXmlOf}
use Rattle.cd_typing.specs.Typ.{typ, BuiltIn}
use Rattle.cd_typing.specs.Typing.{KindHas}
use Rattle.cd_typing.specs.declared.rule.Rule.TheVariants as rule
use Rattle.cd_least.proofs.LeastForms.{xml_least}
use Rattle.cd_least.specs.Faults.{Fault, KindFault, Breaks}
use Rattle.cd_least.specs.Misses.{place_of}
use Rattle.cd_check.proofs.KnownTypes.{known_later, known_earlier, fails_more, fails_earlier}
use Rattle.cd_check.proofs.Needed.{breaks}
use Rattle.cd_check.specs.Inner.Environment.{Nodes, AreNodesOf}
use Rattle.cd_check.specs.Inner.Known.{IsBelow, IsKnown, Fails, IsOutside}
use Rattle.cd_check.specs.declared.fault.CheckError.{CheckError}

module _ (scope : Scope) (nodes : Nodes) (old first second third : Graph) (sound : IsGraph old) (old_nodes : AreNodesOf old nodes)
    (one : IsLater old first) (two : IsLater first second) (three : IsLater second third) (tag attributes content : Expr) where
  module _ (tag_id attributes_id content_id : NodeId) (tag_known : IsKnown old nodes scope first tag tag_id)
      (attributes_known : IsKnown first nodes scope second attributes attributes_id) where
    -- the tag and the attributes are known once the content is checked
    tag_still : IsKnown old nodes scope third tag tag_id
    tag_still = known_later scope old nodes first third (later_still first second third two three) one.sound tag tag_id tag_known

    attributes_still : IsKnown old nodes scope third attributes attributes_id
    attributes_still = known_later scope old nodes second third three two.sound attributes attributes_id
        (known_earlier old first one sound nodes old_nodes scope second attributes attributes_id attributes_known)

    pub xml_below : (last : Graph) (id : NodeId) → IsKnown second nodes scope third content content_id
        → elements_of last id ⊆ IsXmlOf (elements_of third tag_id) (elements_of third attributes_id) (elements_of third content_id)
        → IsBelow old nodes last (λ types t. KindHas scope types (Xml tag attributes content) t) id
    xml_below last id content_known only types of s is_type has =
        let content_still = known_earlier old second (later_still old first second one two) sound nodes old_nodes scope third content content_id
        content_known in
        xml_least scope types tag attributes content (typ third tag_id) (typ third attributes_id) (typ third content_id) (typ last id)
        (tag_still types of) (attributes_still types of) (content_still types of) only s has

    module _ (here : ℕ) (table : List Thing) (error : CheckError) where
      -- what is no atom, and what is no record
      pub tag_misfits : BuiltIn ATOM ⊆ elements_of third ATOM → (at : ℕ) → at ≡ place_of tag
          → IsOutside third table tag_id ATOM at rule.Tag error
          → Fails old nodes table (λ types. KindFault scope types here (Xml tag attributes content)) error
      tag_misfits holds at place outside = fails_more old nodes table (λ types. Breaks scope types tag (BuiltIn ATOM) rule.Tag)
          (λ types. KindFault scope types here (Xml tag attributes content)) (λ types of reported_at reported d is. inr (inr (inr (inl is)))) error
          (breaks scope old nodes third tag tag_id tag_still ATOM (BuiltIn ATOM) holds at place rule.Tag table error outside)

      pub attributes_misfit : BuiltIn RECORD ⊆ elements_of third RECORD → (at : ℕ) → at ≡ place_of attributes
          → IsOutside third table attributes_id RECORD at rule.Attributes error
          → Fails old nodes table (λ types. KindFault scope types here (Xml tag attributes content)) error
      attributes_misfit holds at place outside = fails_more old nodes table
          (λ types. Breaks scope types attributes (BuiltIn RECORD) rule.Attributes)
          (λ types. KindFault scope types here (Xml tag attributes content)) (λ types of reported_at reported d is. inr (inr (inr (inr is)))) error
          (breaks scope old nodes third attributes attributes_id attributes_still RECORD (BuiltIn RECORD) holds at place rule.Attributes table error
          outside)

-- a fault of the attributes, or of the content, which is checked from a later graph on
module _ (scope : Scope) (nodes : Nodes) (old middle : Graph) (sound : IsGraph old) (old_nodes : AreNodesOf old nodes) (is : IsLater old middle)
    (tag attributes content : Expr) (here : ℕ) (table : List Thing) (error : CheckError) where
  pub attributes_fail : Fails middle nodes table (λ types. Fault scope types attributes) error
      → Fails old nodes table (λ types. KindFault scope types here (Xml tag attributes content)) error
  attributes_fail = fails_earlier old middle is sound nodes old_nodes table (λ types. Fault scope types attributes)
      (λ types. KindFault scope types here (Xml tag attributes content)) (λ types of at reported d one. inr (inl one)) error

  pub content_fails : Fails middle nodes table (λ types. Fault scope types content) error
      → Fails old nodes table (λ types. KindFault scope types here (Xml tag attributes content)) error
  content_fails = fails_earlier old middle is sound nodes old_nodes table (λ types. Fault scope types content)
      (λ types. KindFault scope types here (Xml tag attributes content)) (λ types of at reported d one. inr (inr (inl one))) error
