-- A test of the types of a graph that is right of each thing; by it a pattern takes an element as
-- the graph says.
use Rattle.std.proofs.Common.{◌≡◌, ◌++◌, Bool, true, false, ◌⊎◌, inl, inr, List, [], ◌∷◌, Option}
use Rattle.std.proofs.Common.{Some, None, option_map, bytes_eq, codes, if◌then◌else◌, refl, sym}
use Rattle.std.proofs.Common.{ap, subst, ◌∙◌}
use Rattle.std.proofs.lemmas.Bool.{true≢false}
use Rattle.std.proofs.lemmas.Slice.Eq.{bytes_eq-Decides}
use Rattle.cd_sets.specs.declared.node_id.NodeId.{NodeId}
use Rattle.cd_model.proofs.Apart.{element_apart}
use Rattle.cd_model.proofs.ApartAtNodes.{nodes_keep}
use Rattle.cd_model.proofs.BuiltIns.{nils_are}
use Rattle.cd_model.proofs.DecidedAtNodes.{in_or_outside}
use Rattle.cd_model.proofs.Sorts.{elements}
use Rattle.cd_model.specs.BuiltIns.{built_ins, EMPTY, ANY, NIL}
use Rattle.cd_model.specs.Formula.{Graph, nodes, in_node}
use Rattle.cd_model.specs.Kinds.{IsNil}
use Rattle.cd_model.specs.Thing as thing
use Rattle.cd_model.specs.Thing.{Thing, IsElement}
use Rattle.cd_model.specs.Types.{no_closure}
use Rattle.cd_matching.specs.Pattern.{Pattern}
use Rattle.cd_matching.specs.Sequences.{items, is_no_item}
use Rattle.cd_matching.specs.Take.{take}
use Rattle.cd_matching.specs.Takes.{IsRight, ElementTakes}
use Rattle.cd_matching.proofs.AlikeTakes.{takes_same}
use Rattle.cd_matching.proofs.Retyped.{retyped, alike_retyped}

-- the empty sequence has no item, and nothing else is a sequence without items
nil_has_none : (d : Thing) → IsNil d → is_no_item (items d) ≡ true
nil_has_none (thing.Atom name) is =
    ap (λ (b : Bool). is_no_item (if b then Some [] else None))
    ((bytes_eq-Decides name (codes "nil")).1 is)
nil_has_none _ is = absurd is

none_is_nil : (d : Thing) → is_no_item (items d) ≡ true → IsNil d
none_is_nil (thing.Atom name) none = by_test (bytes_eq name (codes "nil")) refl none
  where
    by_test : (b : Bool) → bytes_eq name (codes "nil") ≡ b
        → is_no_item (if b then Some [] else None) ≡ true → IsNil (thing.Atom name)
    by_test true same has = (bytes_eq-Decides name (codes "nil")).0 same
    by_test false differs has = absurd (true≢false (sym has))
none_is_nil (thing.Pair first second) none = absurd (no_list (items second) none)
  where
    no_list : (all : Option (List Thing))
        → is_no_item (option_map (λ rest. first ∷ rest) all) ≡ true → ⊥
    no_list None has = true≢false (sym has)
    no_list (Some rest) has = true≢false (sym has)
none_is_nil _ none = absurd (true≢false (sym none))

module _ (graph : Graph) where
  abbrev answer : {A B : Type 0} → A ⊎ B → Bool
  answer (inl a) = true
  answer (inr b) = false

  is_answer : (d : Thing) (id : NodeId)
      (either : in_node graph d id true ⊎ in_node graph d id false)
      → in_node graph d id (answer either)
  is_answer d id (inl inside) = inside
  is_answer d id (inr out) = out

  -- what each thing answers
  abbrev pub test : NodeId → Thing → Bool
  test id d = answer (in_or_outside graph d id)

  pub right : (id : NodeId) (d : Thing) → in_node graph d id (test id d)
  right id d = is_answer d id (in_or_outside graph d id)

  -- no other answer is right
  pub one_answer : (d : Thing) (id : NodeId) (one other : Bool) → in_node graph d id one
      → in_node graph d id other → one ≡ other
  one_answer d id true true is also = refl
  one_answer d id false false is also = refl
  one_answer d id true false is also =
      absurd (element_apart (nodes graph) (nodes_keep graph) d id is also)
  one_answer d id false true is also =
      absurd (element_apart (nodes graph) (nodes_keep graph) d id also is)

  abbrev AgreeOn : NodeId → (Thing → Bool) → Type 0
  AgreeOn id one = (d : Thing) → IsElement d → test id d ≡ one d

  -- so a pattern takes an element by this test as the graph says
  pub takes_by_test : (p : Pattern NodeId) (e : Thing) → IsElement e
      → ElementTakes graph p e (take NodeId test p e)
  takes_by_test p e is = record {
    tested = retyped test p;
    right = alike_retyped test (IsRight (in_node graph) IsElement) (λ id d here. right id d) p;
    gives = sym (takes_same elements test (λ (one : Thing → Bool). one) AgreeOn
        (λ id one agree. agree) p (retyped test p)
        (alike_retyped test AgreeOn (λ id d here. refl) p) e is);
  }

  -- at the built-in nodes that kernels ask of
  module _ (more : Graph) (begins : graph ≡ built_ins ++ more) where
    pub empty_is : (d : Thing) → test EMPTY d ≡ false
    empty_is d = one_answer d EMPTY (test EMPTY d) false (right EMPTY d)
        (subst (λ (g : Graph). in_node g d EMPTY false) (sym begins) refl)

    pub any_is : (d : Thing) → test ANY d ≡ true
    any_is d = one_answer d ANY (test ANY d) true (right ANY d)
        (subst (λ (g : Graph). in_node g d ANY true) (sym begins) refl)

    nil_at : (d : Thing) → in_node graph d NIL true → IsNil d
    nil_at d inside = (nils_are more no_closure d).0
        (subst (λ (g : Graph). in_node g d NIL true) begins inside)

    at_nil : (d : Thing) → IsNil d → in_node graph d NIL true
    at_nil d is = subst (λ (g : Graph). in_node g d NIL true) (sym begins)
        ((nils_are more no_closure d).1 is)

    pub nil_is : (d : Thing) → test NIL d ≡ is_no_item (items d)
    nil_is d = by_answers (test NIL d) (is_no_item (items d)) (right NIL d) refl
      where
        by_answers : (one other : Bool) → in_node graph d NIL one
            → is_no_item (items d) ≡ other → one ≡ other
        by_answers true true is same = refl
        by_answers false false is same = refl
        by_answers true false is same =
            absurd (true≢false (sym (nil_has_none d (nil_at d is)) ∙ same))
        by_answers false true is same =
            absurd (true≢false (one_answer d NIL true false (at_nil d (none_is_nil d same)) is))
