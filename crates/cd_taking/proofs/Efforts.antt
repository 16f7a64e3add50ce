-- The work of each node of a kernel, where each way through Both and First ends.
use Rattle.std.proofs.Common.{◌≡◌, ℕ, zero, suc, ◌+◌, ◌<◌, arith, Bool, List, length, inl, inr, Option, Some, None, refl, sym, ap, ap₂, ◌∙◌}
use Rattle.std.proofs.Common.{subst₂}
use Rattle.std.proofs.lemmas.Option.{slice_get_cases, none-some, same_Some}
use Rattle.std.specs.List.{slice_get}
use Rattle.cd_model.specs.Thing as thing
use Rattle.cd_model.specs.Thing.{Thing}
use Rattle.cd_model.proofs.Ones.{each_weaker}
use Rattle.cd_matching.specs.Kernel as kernel
use Rattle.cd_matching.specs.Kernel.{Ends, EachEnds, leads_to, Test, Bind, Put}
use Rattle.cd_taking.specs.declared.node_parts.PairNode.{PairNode}
use Rattle.cd_taking.specs.Inner.Machine.{as_pair, as_xml, as_record, Node, Named, pair_node, xml_node, record_node}
use Rattle.cd_taking.specs.Inner.Work.{Effort, Apart, Labelled, by_node, in_a_row, effort, effort_at, apart_of, fields_work, pair_work, xml_work, record_work}

module _ (nodes : List Node) where
  -- the work of a node is that of the nodes that it leads to
  same_work : (apart : Apart) (one other : Effort) (node : Option Node) → EachEnds (λ number. one number ≡ other number) node
      → by_node apart one node ≡ by_node apart other node
  same_work apart one other None same = refl
  same_work apart one other (Some (Test type)) same = refl
  same_work apart one other (Some (Bind variable)) same = refl
  same_work apart one other (Some (Put variable constant)) same = refl
  same_work apart one other (Some (kernel.Pair first second)) same = refl
  same_work apart one other (Some (kernel.Xml tag attributes content)) same = refl
  same_work apart one other (Some (kernel.Record fields more)) same = refl
  same_work apart one other (Some (kernel.Both first second)) same = ap₂ (λ a b. 3 + (a + b)) same.0 same.1.0
  same_work apart one other (Some (kernel.First first second)) same = ap₂ (λ a b. 3 + (a + b)) same.0 same.1.0
  same_work apart one other (Some (kernel.Gather variable first second)) same = refl

  ends_weaker : (P Q : ℕ → Type 0) → ((number : ℕ) → P number → Q number) → (node : Option Node) → EachEnds P node → EachEnds Q node
  ends_weaker P Q weaker None ends = ends
  ends_weaker P Q weaker (Some node) ends = each_weaker P Q weaker (leads_to node) ends

  -- one step more changes nothing
  enough : (apart : Apart) (steps number : ℕ) → Ends nodes steps number
      → in_a_row nodes apart (suc steps) number ≡ in_a_row nodes apart steps number
  enough apart zero number ends = absurd ends
  enough apart (suc steps) number ends =
      same_work apart (in_a_row nodes apart (suc steps)) (in_a_row nodes apart steps) (slice_get nodes number)
      (ends_weaker (Ends nodes steps) (λ next. in_a_row nodes apart (suc steps) next ≡ in_a_row nodes apart steps next)
      (enough apart steps) (slice_get nodes number) ends)

  none_in_a_row : (apart : Apart) (steps number : ℕ) → slice_get nodes number ≡ None → in_a_row nodes apart steps number ≡ 1
  none_in_a_row apart zero number none = refl
  none_in_a_row apart (suc steps) number none = ap (by_node apart (in_a_row nodes apart steps)) none

  in_row : (d : Thing) → effort nodes d ≡ in_a_row nodes (apart_of nodes d) (length nodes)
  in_row (thing.Pair first second) = refl
  in_row (thing.Xml tag attributes content) = refl
  in_row (thing.Record fields) = refl
  in_row (thing.Integer n) = refl
  in_row (thing.Character c) = refl
  in_row (thing.Atom name) = refl
  in_row (thing.Function pairs) = refl
  in_row (thing.Closure function environment) = refl

  module _ (ends : (number : ℕ) → number < length nodes → Ends nodes (length nodes) number) where
    -- each number is read by one rule
    pub effort_by : (d : Thing) (number : ℕ) (found : Option Node) → slice_get nodes number ≡ found
        → effort nodes d number ≡ by_node (apart_of nodes d) (effort nodes d) found
    effort_by d number found is = elim (slice_get_cases nodes number).1 [
      | inl there ↦ ap (λ row. row number) (in_row d) ∙ sym (enough (apart_of nodes d) (length nodes) number (ends number there.1))
          ∙ ap₂ (by_node (apart_of nodes d)) (sym (in_row d)) is
      | inr past ↦ ap (λ row. row number) (in_row d) ∙ none_in_a_row (apart_of nodes d) (length nodes) number past.1
          ∙ ap (by_node (apart_of nodes d) (effort nodes d)) (sym past.1 ∙ is)
    ]

  pub work_of_pair : (d : Thing) (found : Option Node) (parts : PairNode) (pair : Thing × Thing) → pair_node found ≡ Some parts → as_pair d ≡ Some pair
      → by_node (apart_of nodes d) (effort nodes d) found ≡ 4 + (effort nodes pair.0 parts.first + effort nodes pair.1 parts.second)
  work_of_pair (thing.Pair a b) (Some (kernel.Pair p q)) parts pair h g = subst₂
      (λ (parts : PairNode) (pair : Thing × Thing). 4 + (effort nodes a p + effort nodes b q)
      ≡ 4 + (effort nodes pair.0 parts.first + effort nodes pair.1 parts.second))
      (same_Some _ parts h) (same_Some _ pair g) refl
  work_of_pair (thing.Pair a b) (Some (kernel.Gather variable p q)) parts pair h g = subst₂
      (λ (parts : PairNode) (pair : Thing × Thing). 4 + (effort nodes a p + effort nodes b q)
      ≡ 4 + (effort nodes pair.0 parts.first + effort nodes pair.1 parts.second))
      (same_Some _ parts h) (same_Some _ pair g) refl
  work_of_pair (thing.Pair a b) _ parts pair h g = absurd (none-some parts h)
  work_of_pair _ _ parts pair h g = absurd (none-some pair g)

  pub work_of_xml : (d : Thing) (found : Option Node) (parts : ℕ × ℕ × ℕ) (xml : Thing × Thing × Thing) → xml_node found ≡ Some parts → as_xml d ≡ Some xml
      → by_node (apart_of nodes d) (effort nodes d) found
      ≡ 6 + (effort nodes xml.0 parts.0 + (effort nodes xml.1 parts.1 + effort nodes xml.2 parts.2))
  work_of_xml (thing.Xml a b c) (Some (kernel.Xml p q r)) parts xml h g = subst₂
      (λ (parts : ℕ × ℕ × ℕ) (xml : Thing × Thing × Thing). 6 + (effort nodes a p + (effort nodes b q + effort nodes c r))
      ≡ 6 + (effort nodes xml.0 parts.0 + (effort nodes xml.1 parts.1 + effort nodes xml.2 parts.2)))
      (same_Some _ parts h) (same_Some _ xml g) refl
  work_of_xml (thing.Xml a b c) _ parts xml h g = absurd (none-some parts h)
  work_of_xml _ _ parts xml h g = absurd (none-some xml g)

  pub work_of_record : (d : Thing) (found : Option Node) (parts : Named × Bool) (fields : thing.Fields) → record_node found ≡ Some parts → as_record d ≡ Some fields
      → by_node (apart_of nodes d) (effort nodes d) found ≡ 2 + fields_work (effort_at nodes fields) parts.0
  work_of_record (thing.Record fields) (Some (kernel.Record named more)) parts others h g = subst₂
      (λ (parts : Named × Bool) (others : thing.Fields). 2 + fields_work (effort_at nodes fields) named ≡ 2 + fields_work (effort_at nodes others) parts.0)
      (same_Some _ parts h) (same_Some _ others g) refl
  work_of_record (thing.Record fields) _ parts others h g = absurd (none-some parts h)
  work_of_record _ _ parts others h g = absurd (none-some others g)

  -- no thing is without work
  some_pair_work : (one other : Effort) (node : Option PairNode) → 0 < pair_work one other node
  some_pair_work one other None = omega arith
  some_pair_work one other (Some parts) = omega arith

  some_xml_work : (one other last : Effort) (node : Option (ℕ × ℕ × ℕ)) → 0 < xml_work one other last node
  some_xml_work one other last None = omega arith
  some_xml_work one other last (Some parts) = omega arith

  some_record_work : (at : Labelled) (node : Option (Named × Bool)) → 0 < record_work at node
  some_record_work at None = omega arith
  some_record_work at (Some parts) = omega arith

  some_work_apart : (d : Thing) (found : Option Node) → 0 < apart_of nodes d found
  some_work_apart (thing.Pair a b) found = some_pair_work (effort nodes a) (effort nodes b) (pair_node found)
  some_work_apart (thing.Xml a b c) found = some_xml_work (effort nodes a) (effort nodes b) (effort nodes c) (xml_node found)
  some_work_apart (thing.Record fields) found = some_record_work (effort_at nodes fields) (record_node found)
  some_work_apart _ _ = omega arith

  some_work_by : (d : Thing) (found : Option Node) → 0 < by_node (apart_of nodes d) (effort nodes d) found
  some_work_by d None = omega arith
  some_work_by d (Some (Test type)) = omega arith
  some_work_by d (Some (Bind variable)) = omega arith
  some_work_by d (Some (Put variable constant)) = omega arith
  some_work_by d (Some (kernel.Both first second)) = omega arith
  some_work_by d (Some (kernel.First first second)) = omega arith
  some_work_by d (Some (kernel.Pair first second)) = some_work_apart d (Some (kernel.Pair first second))
  some_work_by d (Some (kernel.Gather variable first second)) = some_work_apart d (Some (kernel.Gather variable first second))
  some_work_by d (Some (kernel.Xml tag attributes content)) = some_work_apart d (Some (kernel.Xml tag attributes content))
  some_work_by d (Some (kernel.Record named more)) = some_work_apart d (Some (kernel.Record named more))

  module _ (ends : (number : ℕ) → number < length nodes → Ends nodes (length nodes) number) where
    pub some_work : (d : Thing) (number : ℕ) → 0 < effort nodes d number
    some_work d number =
        let is = effort_by ends d number (slice_get nodes number) refl in
        let some = some_work_by d (slice_get nodes number) in
        omega (arith, is, some)
