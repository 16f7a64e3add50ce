-- Captures may stand in the list, or come with the answer.
use Rattle.std.proofs.Common.{◌≡◌, ℕ, ◌≤◌, Bool, List, [], ◌∷◌, ◌++◌, Option, Some, None, option_map, length, drop, refl, sym, ap, ◌∙◌}
use Rattle.std.proofs.Common.{subst, subst₂, arith}
use Rattle.std.proofs.lemmas.List.{drop-append-le, take-append-le}
use Rattle.std.specs.List.{slice_get}
use Rattle.cd_sets.specs.declared.node_id.NodeId.{NodeId}
use Rattle.cd_model.specs.Thing.{Thing}
use Rattle.cd_matching.specs.Captures.{Captures, joined, both}
use Rattle.cd_taking.specs.declared.node_parts.PairNode.{PairNode}
use Rattle.cd_taking.specs.Inner.Machine.{as_pair, as_xml, as_record, Node, pair_node, xml_node, record_node}
use Rattle.cd_taking.specs.Inner.Machine.{Frame, Or, And, First, Second, Tag, Attributes, Field, Caught, caught, after_second}
use Rattle.cd_taking.specs.Inner.Meaning.{AreMarked, lead, takes, pair_with, rest_of_tag, rest_of_attributes, rest_of_fields}
use Rattle.cd_taking.proofs.Joining.{joined_assoc, caught_append, map_joined, both_shift, second_shift}

pub marked_weaker : (one other : ℕ) → one ≤ other → (frames : List Frame) → AreMarked one frames → AreMarked other frames
marked_weaker one other le [] marked = tt
marked_weaker one other le (Or d second mark ∷ frames) marked = let low = marked.0 in (omega (arith, le, low), marked.1)
marked_weaker one other le (Second pair node mark ∷ frames) marked = let low = marked.0 in (omega (arith, le, low), marked.1)
marked_weaker one other le (And d second ∷ frames) marked = marked_weaker one other le frames marked
marked_weaker one other le (First pair node ∷ frames) marked = marked_weaker one other le frames marked
marked_weaker one other le (Tag xml node ∷ frames) marked = marked_weaker one other le frames marked
marked_weaker one other le (Attributes xml node ∷ frames) marked = marked_weaker one other le frames marked
marked_weaker one other le (Field d node from ∷ frames) marked = marked_weaker one other le frames marked

module _ (test : NodeId → Thing → Bool) (nodes : List Node) (goal : Option (Captures ℕ)) where
  abbrev leads : List Frame → List Caught → Option (Captures ℕ) → Type 0
  leads = lead test nodes goal

  pair_shift : (pair : Option (Thing × Thing)) (node : Option PairNode) (a : Captures ℕ) (r : Option (Captures ℕ))
      → pair_with test nodes pair node (option_map (joined a) r) ≡ option_map (joined a) (pair_with test nodes pair node r)
  pair_shift (Some pair) (Some node) a r = second_shift node.variable pair.0 a r (takes test nodes pair.1 node.second)
  pair_shift (Some pair) None a r = refl
  pair_shift None _ a r = refl

  pub shift : (frames : List Frame) (t u : List Caught) (r : Option (Captures ℕ)) → AreMarked (length t) frames
      → leads frames t (option_map (joined (caught u)) r) → leads frames (t ++ u) r
  shift [] t u r marked h =
      ap (λ all. option_map (joined all) r) (caught_append t u) ∙ sym (map_joined (caught t) (caught u) r) ∙ h
  shift (Or d second mark ∷ frames) t u None marked h =
      subst (λ trail. leads frames trail (takes test nodes d second)) (sym (take-append-le mark t u marked.0)) h
  shift (Or d second mark ∷ frames) t u (Some captures) marked h =
      shift frames t u (Some captures) (marked_weaker mark (length t) marked.0 frames marked.1) h
  shift (And d second ∷ frames) t u r marked h =
      let other : Option (Captures ℕ) = takes test nodes d second in
      shift frames t u (both r other) marked (subst (leads frames t) (both_shift (caught u) r other) h)
  shift (First pair node ∷ frames) t u r marked h =
      let same = pair_shift (as_pair pair) (pair_node (slice_get nodes node)) (caught u) r in (
        (λ none. h.0 (same ∙ ap (option_map (joined (caught u))) none)),
        shift frames t u (pair_with test nodes (as_pair pair) (pair_node (slice_get nodes node)) r) marked
            (subst (leads frames t) same h.1),
      )
  shift (Second pair node mark ∷ frames) t u None marked h =
      (h.0, shift frames t u None (marked_weaker mark (length t) marked.0 frames marked.1) h.1)
  shift (Second pair node mark ∷ frames) t u (Some captures) marked h =
      subst₂ (λ trail all. leads frames trail (Some (after_second (as_pair pair) (pair_node (slice_get nodes node)) all)))
      (sym (take-append-le mark t u marked.0))
      (sym (joined_assoc (caught (drop mark t)) (caught u) captures)
      ∙ ap (λ all. joined all captures) (sym (caught_append (drop mark t) u) ∙ ap caught (sym (drop-append-le mark t u marked.0)))) h
  shift (Tag xml node ∷ frames) t u r marked h =
      let other : Option (Captures ℕ) = rest_of_tag test nodes (as_xml xml) (xml_node (slice_get nodes node)) in
      shift frames t u (both r other) marked (subst (leads frames t) (both_shift (caught u) r other) h)
  shift (Attributes xml node ∷ frames) t u r marked h =
      let other : Option (Captures ℕ) = rest_of_attributes test nodes (as_xml xml) (xml_node (slice_get nodes node)) in
      shift frames t u (both r other) marked (subst (leads frames t) (both_shift (caught u) r other) h)
  shift (Field d node from ∷ frames) t u r marked h =
      let other : Option (Captures ℕ) = rest_of_fields test nodes (as_record d) (record_node (slice_get nodes node)) from in
      shift frames t u (both r other) marked (subst (leads frames t) (both_shift (caught u) r other) h)
