-- The items of a sequence, put one before the other, the last one first.
use Rattle.std.proofs.Common.{◌≡◌, ◌<◌, ◌≤◌, ◌+◌, ◌++◌, ℕ, suc, List, [], ◌∷◌, map, length, Option}
use Rattle.std.proofs.Common.{Some}
use Rattle.std.proofs.Common.{None, refl, sym, ap, subst, ◌∙◌, arith, append_assoc, length-append}
use Rattle.std.proofs.Common.{true}
use Rattle.std.proofs.Common.{◌-◌, get_or, take}
use Rattle.std.proofs.lemmas.List.{append-nil, length-map, map-append}
use Rattle.cd_sets.specs.declared.node_id.NodeId.{NodeId}
use Rattle.cd_model.specs.AllOf.{AllOf}
use Rattle.cd_model.specs.Formula.{Graph, IsGraph}
use Rattle.cd_model.specs.Membership.{answers}
use Rattle.cd_model.specs.Thing.{Thing}
use Rattle.cd_model.proofs.Extending.{kept_elements}
use Rattle.cd_matching.specs.Sequences.{nil}
use Rattle.cd_meaning.specs.Sets.{Set, ◌⊆◌, elements_of}
use Rattle.cd_meaning.specs.Sequences.{IsJoinOf}
use Rattle.cd_program.specs.Expr.{Expr, Items, Item, One, Splice, Run, items_of}
use Rattle.cd_program.specs.PlainExpr.{plain_item}
use Rattle.cd_program.specs.declared.expr.Item.{Item as CodeItem}
use Rattle.cd_model.proofs.Ones.{each_weaker}
use Rattle.cd_typing.specs.Results.{IsSequenceOf}
use Rattle.cd_typing.specs.Typ.{typ, In, AreIn}
use Rattle.cd_forms.specs.Inner.Chains.{AreBefore, IsTextBefore}
use Rattle.cd_forms.specs.Inner.Putting.{HoldsJust, IsPut, wanted, ArePut, whole}
use Rattle.cd_forms.proofs.Followed.{front_and_last}
use Rattle.cd_forms.proofs.SequencesHold.{one_before, before_one, splice_before, before_splice}
use Rattle.cd_forms.proofs.SequencesHold.{run_before, before_run, before_more, text_before_more}
use Rattle.cd_forms.proofs.SequencesHold.{join_more, end_is_nil, nil_is_end, none_made}

-- what is put so far: the last items with the last parts, in a graph that is longer
pub record AreSoFar (start now : Graph) (items left : List Item) (parts here : List NodeId)
    (rest : NodeId) : Type 0 where
  pub more : Graph
  pub longer : now ≡ start ++ more
  pub last : List Item
  pub items_are : items ≡ left ++ last
  pub put : List NodeId
  pub parts_are : parts ≡ here ++ put
  pub count : wanted (items_of last) ≡ length put
  pub holds : HoldsJust now rest (IsSequenceOf (items_of last) (map (typ start) put))

wanted_more : (items last : List Item)
    → wanted (items_of (items ++ last)) ≡ wanted (items_of items) + wanted (items_of last)
wanted_more [] last = omega arith
wanted_more (One e ∷ items) last = let on = wanted_more items last in omega (arith, on)
wanted_more (Splice e ∷ items) last = let on = wanted_more items last in omega (arith, on)
wanted_more (Run text ∷ items) last = wanted_more items last

-- at first nothing is put
pub none_put : (graph : Graph) (items : List Item) (parts : List NodeId) (id : NodeId)
    → id.0 < length graph → ((e : Thing) → answers graph e id true → e ≡ nil)
    → ((e : Thing) → e ≡ nil → answers graph e id true)
    → AreSoFar graph graph items items parts parts id
none_put graph items parts id node only has = record {
  more = [];
  longer = sym (append-nil graph);
  last = [];
  items_are = sym (append-nil items);
  put = [];
  parts_are = sym (append-nil parts);
  count = refl;
  holds = record {
    node = node;
    has = λ e element is. has e (end_is_nil e is);
    only = λ e element there. nil_is_end e (only e there);
  };
}

-- parts that are left are nodes of the longer graph
pub still_nodes : (start now : Graph) (items left : List Item) (parts here : List NodeId)
    (rest : NodeId) → AreSoFar start now items left parts here rest
    → AllOf (λ id. id.0 < length start) parts → AllOf (λ id. id.0 < length now) here
still_nodes start now items left parts here rest so_far each =
    let long = ap length so_far.longer ∙ length-append start so_far.more in
    each_weaker (λ (id : NodeId). id.0 < length start) (λ id. id.0 < length now)
    (λ id small. omega (arith, long, small)) here
    (front here so_far.put
    (subst (AllOf (λ (id : NodeId). id.0 < length start)) so_far.parts_are each))
  where
    front : (ids others : List NodeId) → AllOf (λ id. id.0 < length start) (ids ++ others)
        → AllOf (λ id. id.0 < length start) ids
    front [] others each = tt
    front (id ∷ ids) others each = (each.0, front ids others each.1)

-- one item more
module _ (start now new : Graph) (sound : IsGraph start) (items front : List Item) (item : Item)
    (parts here : List NodeId) (rest : NodeId)
    (each : AllOf (λ id. id.0 < length start) parts)
    (so_far : AreSoFar start now items (front ++ item ∷ []) parts here rest)
    (grown : (more : Graph) × (new ≡ now ++ more)) where
  abbrev last : Items
  last = items_of so_far.last

  abbrev Later : Set
  Later = IsSequenceOf last (map (typ start) so_far.put)

  items_still : items ≡ front ++ item ∷ so_far.last
  items_still = so_far.items_are ∙ append_assoc front (item ∷ []) so_far.last

  new_longer : new ≡ start ++ (so_far.more ++ grown.0)
  new_longer = grown.1 ∙ ap (λ g. g ++ grown.0) so_far.longer
      ∙ append_assoc start so_far.more grown.0

  -- a part of the first graph holds the same elements now
  module _ (part : NodeId) (below : part.0 < length start) where
    now_in : In (typ start part) ⊆ elements_of now part
    now_in e element there = subst (λ (g : Graph). answers g e part true) (sym so_far.longer)
        ((kept_elements start so_far.more sound e part true below).0 there)

    was_in : elements_of now part ⊆ In (typ start part)
    was_in e element there = (kept_elements start so_far.more sound e part true below).1
        (subst (λ (g : Graph). answers g e part true) so_far.longer there)

    row_now : AreBefore (typ start part ∷ []) (elements_of now rest)
        ⊆ AreBefore (typ now part ∷ []) (elements_of now rest)
    row_now e element (ds, end, are, end_element, there, same) =
        (ds, end, in_it ds are, end_element, there, same)
      where
        in_it : (ds : List Thing) → AreIn (typ start part ∷ []) ds → AreIn (typ now part ∷ []) ds
        in_it [] are = are
        in_it (d ∷ ds) are = (are.0, now_in d are.0 are.1, later ds are.2)
          where
            later : (ds : List Thing) → AreIn [] ds → AreIn [] ds
            later [] are = are
            later (d ∷ ds) are = are

    row_was : AreBefore (typ now part ∷ []) (elements_of now rest)
        ⊆ AreBefore (typ start part ∷ []) (elements_of now rest)
    row_was e element (ds, end, are, end_element, there, same) =
        (ds, end, in_it ds are, end_element, there, same)
      where
        in_it : (ds : List Thing) → AreIn (typ now part ∷ []) ds → AreIn (typ start part ∷ []) ds
        in_it [] are = are
        in_it (d ∷ ds) are = (are.0, was_in d are.0 are.1, later ds are.2)
          where
            later : (ds : List Thing) → AreIn [] ds → AreIn [] ds
            later [] are = are
            later (d ∷ ds) are = are

  -- the last part that was left
  module _ (left : List NodeId) (part : NodeId) (is : here ≡ left ++ part ∷ []) where
    parts_still : parts ≡ left ++ part ∷ so_far.put
    parts_still = so_far.parts_are ∙ ap (λ ids. ids ++ so_far.put) is
        ∙ append_assoc left (part ∷ []) so_far.put

    last_below : (ids : List NodeId) → AllOf (λ id. id.0 < length start) (ids ++ part ∷ so_far.put)
        → part.0 < length start
    last_below [] below = below.0
    last_below (id ∷ ids) below = last_below ids below.1

    part_below : part.0 < length start
    part_below = last_below left
        (subst (AllOf (λ (id : NodeId). id.0 < length start)) parts_still each)

    with_part : (id : NodeId) → wanted (items_of (item ∷ so_far.last)) ≡ suc (wanted last)
        → HoldsJust new id (IsSequenceOf (items_of (item ∷ so_far.last))
        (map (typ start) (part ∷ so_far.put)))
        → AreSoFar start new items front parts left id
    with_part id counts holds = record {
      more = so_far.more ++ grown.0;
      longer = new_longer;
      last = item ∷ so_far.last;
      items_are = items_still;
      put = part ∷ so_far.put;
      parts_are = parts_still;
      count = counts ∙ ap suc so_far.count;
      holds = holds;
    }

  one_put : (x : Expr) → item ≡ One x → (left : List NodeId) (id part : NodeId)
      → here ≡ left ++ part ∷ []
      → HoldsJust new id (AreBefore (typ now part ∷ []) (elements_of now rest))
      → AreSoFar start new items front parts left id
  one_put x same left id part is held =
      let below = part_below left part is in
      with_part left part is id (ap (λ (i : Item). wanted (items_of (i ∷ so_far.last))) same)
      (subst (λ (i : Item). HoldsJust new id (IsSequenceOf (items_of (i ∷ so_far.last))
      (map (typ start) (part ∷ so_far.put)))) (sym same) (record {
        node = held.node;
        has = λ e element there. held.has e element (row_now part below e element
            (before_more (typ start part ∷ []) Later (elements_of now rest) so_far.holds.has e
            element
            (one_before last (map (typ start) so_far.put) x (typ start part) e element there)));
        only = λ e element there. before_one last (map (typ start) so_far.put) x (typ start part) e
            (before_more (typ start part ∷ []) (elements_of now rest) Later so_far.holds.only e
            element
            (row_was part below e element (held.only e element there)));
      }))

  splice_put : (x : Expr) → item ≡ Splice x → (left : List NodeId) (id part : NodeId)
      → here ≡ left ++ part ∷ []
      → HoldsJust new id (IsJoinOf (elements_of now part) (elements_of now rest))
      → AreSoFar start new items front parts left id
  splice_put x same left id part is held =
      let below = part_below left part is in
      with_part left part is id (ap (λ (i : Item). wanted (items_of (i ∷ so_far.last))) same)
      (subst (λ (i : Item). HoldsJust new id (IsSequenceOf (items_of (i ∷ so_far.last))
      (map (typ start) (part ∷ so_far.put)))) (sym same) (record {
        node = held.node;
        has = λ e element there. held.has e element
            (join_more (In (typ start part)) (elements_of now part) Later (elements_of now rest)
            (now_in part below) so_far.holds.has e element
            (splice_before last (map (typ start) so_far.put) x (typ start part) e element there));
        only = λ e element there.
            before_splice last (map (typ start) so_far.put) x (typ start part) e
            (join_more (elements_of now part) (In (typ start part)) (elements_of now rest) Later
            (was_in part below) so_far.holds.only e element (held.only e element there));
      }))

  run_put : (text : List ℕ) → item ≡ Run text → (left : List NodeId) (id : NodeId) → left ≡ here
      → HoldsJust new id (IsTextBefore text (elements_of now rest))
      → AreSoFar start new items front parts left id
  run_put text same left id is held = record {
    more = so_far.more ++ grown.0;
    longer = new_longer;
    last = item ∷ so_far.last;
    items_are = items_still;
    put = so_far.put;
    parts_are = so_far.parts_are ∙ ap (λ ids. ids ++ so_far.put) (sym is);
    count = ap (λ (i : Item). wanted (items_of (i ∷ so_far.last))) same ∙ so_far.count;
    holds = subst (λ (i : Item). HoldsJust new id (IsSequenceOf (items_of (i ∷ so_far.last))
        (map (typ start) so_far.put))) (sym same) (record {
          node = held.node;
          has = λ e element there. held.has e element
              (text_before_more text Later (elements_of now rest) so_far.holds.has e element
              (run_before last (map (typ start) so_far.put) text e there));
          only = λ e element there. before_run last (map (typ start) so_far.put) text e
              (text_before_more text (elements_of now rest) Later so_far.holds.only e element
              (held.only e element there));
        });
  }

  pub item_put : (left : List NodeId) (id : NodeId)
      → IsPut now new item here left rest (Some id) → AreSoFar start new items front parts left id
  item_put left id put = by_item item refl put
    where
      by_item : (one : Item) → item ≡ one → IsPut now new one here left rest (Some id)
          → AreSoFar start new items front parts left id
      by_item (One x) same put = one_put x same left id put.0 put.1 put.2
      by_item (Splice x) same put = splice_put x same left id put.0 put.1 put.2
      by_item (Run text) same put = run_put text same left id put.0 put.1

  -- where no part is left for it there are too few
  pub too_few : (left : List NodeId) → IsPut now new item here left rest None
      → length parts < wanted (items_of items)
  too_few left put = by_item item refl put
    where
      fewer : wanted (items_of (item ∷ so_far.last)) ≡ suc (wanted last) → here ≡ []
          → length parts < wanted (items_of items)
      fewer counts none =
          let all = ap (λ all. wanted (items_of all)) items_still
          ∙ wanted_more front (item ∷ so_far.last) in
          let count = so_far.count in
          let parts_count = ap length so_far.parts_are
          ∙ ap (λ ids. length (ids ++ so_far.put)) none in
          omega (arith, all, counts, count, parts_count)

      by_item : (one : Item) → item ≡ one → IsPut now new one here left rest None
          → length parts < wanted (items_of items)
      by_item (One x) same put =
          fewer (ap (λ (i : Item). wanted (items_of (i ∷ so_far.last))) same) put
      by_item (Splice x) same put =
          fewer (ap (λ (i : Item). wanted (items_of (i ∷ so_far.last))) same) put
      by_item (Run text) same put = absurd put

-- a sequence has just as many parts as its items have
module _ (start : Graph) (items : List Item) (parts : List NodeId) where
  counted : (e : Thing) → IsSequenceOf (items_of items) (map (typ start) parts) e
      → length parts ≡ wanted (items_of items)
  counted e is = sym (length-map parts (typ start))
      ∙ none_made (items_of items) (map (typ start) parts) e is

  pub none_of_few : (e : Thing) → IsSequenceOf (items_of items) (map (typ start) parts) e
      → length parts < wanted (items_of items) → ⊥
  none_of_few e is few = omega (arith, counted e is, few)

  pub none_of_many : (now : Graph) (left : List NodeId) (id : NodeId) → 0 < length left
      → ArePut start now items parts left (Some id) → (e : Thing)
      → IsSequenceOf (items_of items) (map (typ start) parts) e → ⊥
  none_of_many now left id some (put, are, count, held) e is =
      omega (arith, counted e is, count, ap length are ∙ length-append left put, some)

  pub holds_all : (now : Graph) (left : List NodeId) (id : NodeId) → left ≡ []
      → ArePut start now items parts left (Some id)
      → HoldsJust now id (IsSequenceOf (items_of items) (map (typ start) parts))
  holds_all now left id none (put, are, count, held) =
      let same : put ≡ parts = sym (are ∙ ap (λ ids. ids ++ put) none) in
      subst (λ (ids : List NodeId). HoldsJust now id
      (IsSequenceOf (items_of items) (map (typ start) ids))) same held

-- as code finds it: the last of the items that are left, and those before it
pub split_items : (left : List CodeItem) (item : CodeItem) → 1 ≤ length left
    → item ≡ get_or left (length left - 1) item
    → map plain_item left ≡ map plain_item (take (length left - 1) left) ++ plain_item item ∷ []
split_items left item some is =
    ap (map plain_item) (sym (front_and_last left item some))
    ∙ map-append plain_item (take (length left - 1) left) (get_or left (length left - 1) item ∷ [])
    ∙ ap (λ (one : CodeItem). map plain_item (take (length left - 1) left) ++ plain_item one ∷ [])
    (sym is)

-- a whole sequence, or nothing
module _ (start now : Graph) (items : List Item) (parts left : List NodeId) (nothing : NodeId)
    (empty : (e : Thing) → answers now e nothing true → ⊥) (there : nothing.0 < length now)
  where
    abbrev Sequences : Set
    Sequences = IsSequenceOf (items_of items) (map (typ start) parts)

    none_held : ((e : Thing) → Sequences e → ⊥) → HoldsJust now nothing Sequences
    none_held none = record {
      node = there;
      has = λ e element is. absurd (none e is);
      only = λ e element is. absurd (empty e is);
    }

    pub whole_holds : (found : Option NodeId) → ArePut start now items parts left found
        → HoldsJust now (whole found left nothing) Sequences
    whole_holds None few = none_held (λ e is. none_of_few start items parts e is few)
    whole_holds (Some id) put = by_left left refl
      where
        by_left : (ids : List NodeId) → left ≡ ids
            → HoldsJust now (whole (Some id) ids nothing) Sequences
        by_left [] none = holds_all start items parts now left id none put
        by_left (first ∷ rest) some = none_held (λ e is. none_of_many start items parts now left id
            (subst (λ (ids : List NodeId). 0 < length ids) (sym some) (omega arith)) put e is)
