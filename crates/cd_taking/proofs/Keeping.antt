-- Each step leads where the state before it does.
use Rattle.std.proofs.Common.{◌≡◌, ℕ, ◌+◌, ◌<◌, arith, Bool, true, false, List, [], ◌∷◌, ◌++◌, length, take, drop, ◌⊎◌, inl, inr}
use Rattle.std.proofs.Common.{Option, Some, None, option_map, refl, sym, ap, ap₂, ◌∙◌, subst, subst₂, length-append, if◌then◌else◌}
use Rattle.std.proofs.lemmas.List.{take_all, drop_all, length-take-le}
use Rattle.std.specs.List.{slice_get}
use Rattle.cd_sets.specs.declared.node_id.NodeId.{NodeId}
use Rattle.cd_model.specs.AllOf.{AllOf}
use Rattle.cd_model.specs.Thing.{Thing, EachClosure}
use Rattle.cd_matching.specs.Captures.{Captures, nothing, joined, both, or_else, if_so}
use Rattle.cd_matching.specs.Kernel.{Ends, just, taken, taken_at, on_fields}
use Rattle.cd_taking.specs.Inner.Machine as step
use Rattle.cd_taking.specs.declared.node_parts.PairNode.{PairNode}
use Rattle.cd_taking.specs.Inner.Machine.{as_pair, as_xml, as_record, Node, Named, pair_node, xml_node, record_node, work_at, FieldWork}
use Rattle.cd_taking.specs.Inner.Machine.{Frame, Or, And, First, Second, Tag, Attributes, Field, Part, Look, Fields, Yes, No, State, Step, at, answered}
use Rattle.cd_taking.specs.Inner.Machine.{Caught, caught, Failure, gather, after_second, PassesNo}
use Rattle.cd_taking.specs.Inner.Adds.{Adds}
use Rattle.cd_taking.specs.Inner.Meaning.{AreMarked, HasPart, join_second, pair_with, rest_of_tag, rest_of_attributes, rest_of_fields, gives, lead, Leads}
use Rattle.cd_taking.proofs.Joining.{joined_nothing, both_nothing, second_nothing, second_fails}
use Rattle.cd_taking.proofs.Shifting.{marked_weaker, shift}
use Rattle.cd_taking.proofs.Nodes.{takes_by, of_pair, of_no_pair, of_xml, of_no_xml, of_record, of_no_record}
use Rattle.cd_taking.proofs.FieldsInTurn.{field_gives, fields_give}
use Rattle.cd_taking.proofs.Lists.{one_of, all_with}
use Rattle.cd_taking.proofs.Closures.{pair_closures, xml_closures, asked_closures, looked_closures}

module _ (Asked : NodeId → Thing → Bool → Type 0) (test : NodeId → Thing → Bool) (nodes : List Node)
    (ends : (number : ℕ) → number < length nodes → Ends nodes (length nodes) number)
    (fact : ℕ → Type 0)
    (right : (type : NodeId) (d : Thing) (answer : Bool) → Asked type d answer → EachClosure fact d → test type d ≡ answer)
    (goal : Option (Captures ℕ)) where
  abbrev takes : Thing → ℕ → Option (Captures ℕ)
  takes d n = taken NodeId test nodes d n

  abbrev leads : List Frame → List Caught → Option (Captures ℕ) → Type 0
  leads = lead test nodes goal

  abbrev IsLeading : State → Type 0
  IsLeading = Leads test nodes goal fact

  abbrev node_at : ℕ → Option Node
  node_at n = slice_get nodes n

  -- the frames stay, and the part gives the same
  same_frames : (fs : List Frame) (t : List Caught) (x : List Failure) (one other : Part) → gives test nodes one ≡ gives test nodes other
      → HasPart (EachClosure fact) other → IsLeading (at fs t x one) → IsLeading (at fs t x other)
  same_frames fs t x one other same part l = record {
    marked = l.marked;
    failed = l.failed;
    frames = l.frames;
    part = part;
    leads = subst (leads fs t) same l.leads;
  }

  -- a test
  answer_gives : (answer : Bool) → if_so answer ≡ gives test nodes (answered answer)
  answer_gives true = refl
  answer_gives false = refl

  answer_part : (answer : Bool) → HasPart (EachClosure fact) (answered answer)
  answer_part true = tt
  answer_part false = tt

  -- a capture
  puts_one : (fs : List Frame) (t : List Caught) (x : List Failure) (d e : Thing) (n variable : ℕ) → takes d n ≡ Some (just variable e)
      → IsLeading (at fs t x (Look d n)) → IsLeading (at fs (t ++ (variable, e) ∷ []) x Yes)
  puts_one fs t x d e n variable is l =
      let longer = length-append t ((variable, e) ∷ []) in record {
        marked = marked_weaker (length t) (length (t ++ (variable, e) ∷ [])) (omega (arith, longer)) fs l.marked;
        failed = l.failed;
        frames = l.frames;
        part = tt;
        leads = shift test nodes goal fs t ((variable, e) ∷ []) (Some nothing) l.marked (subst (leads fs t)
            (is ∙ ap Some (sym (joined_nothing (just variable e)) ∙ sym (joined_nothing (joined (just variable e) nothing)))) l.leads);
      }

  -- a choice
  choose : (fs : List Frame) (t : List Caught) (d : Thing) (q : ℕ) (r : Option (Captures ℕ)) → leads fs t (or_else r (takes d q))
      → leads (Or d q (length t) ∷ fs) t r
  choose fs t d q (Some c) h = h
  choose fs t d q None h = subst (λ trail. leads fs trail (takes d q)) (sym (take_all (length t) t (omega arith))) h

  -- pairs
  pair_is : (d : Thing) (n : ℕ) (parts : PairNode) (pair : Thing × Thing) → pair_node (node_at n) ≡ Some parts → as_pair d ≡ Some pair
      → (r : Option (Captures ℕ))
      → pair_with test nodes (as_pair d) (pair_node (node_at n)) r ≡ join_second parts.variable pair.0 r (takes pair.1 parts.second)
  pair_is d n parts pair is pairs r = ap₂ (λ pair node. pair_with test nodes pair node r) pairs is

  takes_pair : (d : Thing) (n : ℕ) (parts : PairNode) (pair : Thing × Thing) → pair_node (node_at n) ≡ Some parts → as_pair d ≡ Some pair
      → takes d n ≡ join_second parts.variable pair.0 (takes pair.0 parts.first) (takes pair.1 parts.second)
  takes_pair d n parts pair is pairs =
      takes_by nodes ends test d n (node_at n) refl ∙ of_pair nodes ends test d (node_at n) parts pair is pairs

  no_pair_with : (pair : Option (Thing × Thing)) (node : Option PairNode) (r : Option (Captures ℕ)) → (node ≡ None) ⊎ (pair ≡ None)
      → pair_with test nodes pair node r ≡ None
  no_pair_with pair n r (inl none) = ap (λ n. pair_with test nodes pair n r) none ∙ no_node pair
    where
      no_node : (pair : Option (Thing × Thing)) → pair_with test nodes pair None r ≡ None
      no_node (Some pair) = refl
      no_node None = refl
  no_pair_with pair n r (inr none) = ap (λ pair. pair_with test nodes pair n r) none

  fails_with : (pair : Option (Thing × Thing)) (node : Option PairNode) → pair_with test nodes pair node None ≡ None
  fails_with (Some pair) (Some node) = second_fails node.variable pair.0 (takes pair.1 node.second)
  fails_with (Some pair) None = refl
  fails_with None _ = refl

  second : (fs : List Frame) (t : List Caught) (d : Thing) (n : ℕ) (parts : PairNode) (pair : Thing × Thing)
      → pair_node (node_at n) ≡ Some parts → as_pair d ≡ Some pair → (r : Option (Captures ℕ))
      → (option_map (gather parts.variable pair.0) r ≡ None → takes d n ≡ None) → leads fs t (option_map (gather parts.variable pair.0) r)
      → leads (Second d n (length t) ∷ fs) t r
  second fs t d n parts pair is pairs None none h = (none refl, h)
  second fs t d n parts pair is pairs (Some c) none h = subst₂ (λ trail all. leads fs trail (Some all))
      (sym (take_all (length t) t (omega arith)))
      (sym (ap₂ (λ pair node. after_second pair node (joined (caught (drop (length t) t)) c)) pairs is
      ∙ ap (λ u. gather parts.variable pair.0 (joined (caught u) c)) (drop_all (length t) t (omega arith)))) h

  -- XML things
  no_tag_rest : (xml : Option (Thing × Thing × Thing)) (node : Option (ℕ × ℕ × ℕ)) → (node ≡ None) ⊎ (xml ≡ None)
      → rest_of_tag test nodes xml node ≡ None
  no_tag_rest xml n (inl none) = ap (rest_of_tag test nodes xml) none ∙ no_node xml
    where
      no_node : (xml : Option (Thing × Thing × Thing)) → rest_of_tag test nodes xml None ≡ None
      no_node (Some xml) = refl
      no_node None = refl
  no_tag_rest xml n (inr none) = ap (λ xml. rest_of_tag test nodes xml n) none

  no_attributes_rest : (xml : Option (Thing × Thing × Thing)) (node : Option (ℕ × ℕ × ℕ)) → (node ≡ None) ⊎ (xml ≡ None)
      → rest_of_attributes test nodes xml node ≡ None
  no_attributes_rest xml n (inl none) = ap (rest_of_attributes test nodes xml) none ∙ no_node xml
    where
      no_node : (xml : Option (Thing × Thing × Thing)) → rest_of_attributes test nodes xml None ≡ None
      no_node (Some xml) = refl
      no_node None = refl
  no_attributes_rest xml n (inr none) = ap (λ xml. rest_of_attributes test nodes xml n) none

  -- the next field
  field_is : (d : Thing) (n index : ℕ) (work : FieldWork) → work_at (as_record d) (record_node (node_at n)) index ≡ work
      → gives test nodes (Fields d n index) ≡ field_gives nodes test work (gives test nodes (Fields d n (index + 1)))
  field_is d n index work is =
      fields_give nodes test (as_record d) (record_node (node_at n)) index
      ∙ ap (λ work. field_gives nodes test work (gives test nodes (Fields d n (index + 1)))) is

  -- failures
  adds : (x y : List Failure) (d : Thing) (n : ℕ) → Adds (d, n) x y → AllOf (λ one. takes one.0 one.1 ≡ None) x → takes d n ≡ None
      → AllOf (λ one. takes one.0 one.1 ≡ None) y
  adds x y d n (inl same) all one = subst (AllOf (λ one. takes one.0 one.1 ≡ None)) (sym same) all
  adds x y d n (inr more) all one = subst (AllOf (λ one. takes one.0 one.1 ≡ None)) (sym more)
      (all_with (λ (one : Failure). takes one.0 one.1 ≡ None) x (d, n) all one)

  marked_below : (bound : ℕ) (f : Frame) (fs : List Frame) → PassesNo f → AreMarked bound (f ∷ fs) → AreMarked bound fs
  marked_below bound (Or d q mark) fs passes marked = absurd passes
  marked_below bound (Second d n mark) fs passes marked = absurd passes
  marked_below bound (And d q) fs passes marked = marked
  marked_below bound (First d n) fs passes marked = marked
  marked_below bound (Tag d n) fs passes marked = marked
  marked_below bound (Attributes d n) fs passes marked = marked
  marked_below bound (Field d n from) fs passes marked = marked

  leads_below : (f : Frame) (fs : List Frame) (t : List Caught) → PassesNo f → leads (f ∷ fs) t None → leads fs t None
  leads_below (Or d q mark) fs t passes h = absurd passes
  leads_below (Second d n mark) fs t passes h = absurd passes
  leads_below (And d q) fs t passes h = h
  leads_below (First d n) fs t passes h = subst (leads fs t) (fails_with (as_pair d) (pair_node (node_at n))) h.1
  leads_below (Tag d n) fs t passes h = h
  leads_below (Attributes d n) fs t passes h = h
  leads_below (Field d n from) fs t passes h = h

  pub keeps : (one other : State) → Step Asked nodes one other → IsLeading one → IsLeading other
  keeps _ _ (step.missing fs t x d n none) l = same_frames fs t x (Look d n) No (takes_by nodes ends test d n _ none) tt l
  keeps _ _ (step.asks fs t x d n type answer is asked) l =
      same_frames fs t x (Look d n) (answered answer)
      (takes_by nodes ends test d n _ is ∙ ap if_so (right type d answer asked l.part) ∙ answer_gives answer) (answer_part answer) l
  keeps _ _ (step.binds fs t x d n variable is) l = puts_one fs t x d d n variable (takes_by nodes ends test d n _ is) l
  keeps _ _ (step.puts fs t x d e n variable constant is same) l =
      puts_one fs t x d e n variable (takes_by nodes ends test d n _ is ∙ ap (λ e. Some (just variable e)) (sym same)) l
  keeps _ _ (step.joins fs t x d n p q is) l = record {
    marked = l.marked;
    failed = l.failed;
    frames = (l.part, l.frames);
    part = l.part;
    leads = subst (leads fs t) (takes_by nodes ends test d n _ is) l.leads;
  }
  keeps _ _ (step.chooses fs t x d n p q is) l = record {
    marked = (omega arith, l.marked);
    failed = l.failed;
    frames = (l.part, l.frames);
    part = l.part;
    leads = choose fs t d q (takes d p) (subst (leads fs t) (takes_by nodes ends test d n _ is) l.leads);
  }
  keeps _ _ (step.known fs t x d n failed) l =
      same_frames fs t x (Look d n) No (one_of (λ (one : Failure). takes one.0 one.1 ≡ None) x (d, n) l.failed failed) tt l
  keeps _ _ (step.no_pair fs t x d n parts is none) l =
      same_frames fs t x (Look d n) No
      (takes_by nodes ends test d n (node_at n) refl ∙ of_no_pair nodes ends test d (node_at n) parts is none) tt l
  keeps _ _ (step.opens fs t x d n parts pair is pairs) l =
      let whole = pair_is d n parts pair is pairs (takes pair.0 parts.first) ∙ sym (takes_pair d n parts pair is pairs) in record {
        marked = l.marked;
        failed = l.failed;
        frames = (l.part, l.frames);
        part = (pair_closures fact d pair pairs l.part).0;
        leads = ((λ none. sym whole ∙ none), subst (leads fs t) (sym whole) l.leads);
      }
  keeps _ _ (step.no_xml fs t x d n parts is none) l =
      same_frames fs t x (Look d n) No
      (takes_by nodes ends test d n (node_at n) refl ∙ of_no_xml nodes ends test d (node_at n) parts is none) tt l
  keeps _ _ (step.opens_xml fs t x d n parts xml is xmls) l = record {
    marked = l.marked;
    failed = l.failed;
    frames = (l.part, l.frames);
    part = (xml_closures fact d xml xmls l.part).0;
    leads = subst (leads fs t)
        (takes_by nodes ends test d n (node_at n) refl ∙ of_xml nodes ends test d (node_at n) parts xml is xmls
        ∙ ap (both (takes xml.0 parts.0)) (sym (ap₂ (rest_of_tag test nodes) xmls is))) l.leads;
  }
  keeps _ _ (step.no_record fs t x d n parts is none) l =
      same_frames fs t x (Look d n) No
      (takes_by nodes ends test d n (node_at n) refl ∙ of_no_record nodes ends test d (node_at n) parts is none) tt l
  keeps _ _ (step.other_fields fs t x d n parts fields is are others) l =
      same_frames fs t x (Look d n) No
      (takes_by nodes ends test d n (node_at n) refl ∙ of_record nodes ends test d (node_at n) parts fields is are
      ∙ ap (λ b. if b then on_fields NodeId test nodes (taken_at NodeId test nodes fields) parts.0 else None) others) tt l
  keeps _ _ (step.opens_record fs t x d n parts fields is are allowed) l =
      same_frames fs t x (Look d n) (Fields d n 0)
      (takes_by nodes ends test d n (node_at n) refl ∙ of_record nodes ends test d (node_at n) parts fields is are
      ∙ ap (λ b. if b then on_fields NodeId test nodes (taken_at NodeId test nodes fields) parts.0 else None) allowed
      ∙ sym (ap₂ (λ fields node. rest_of_fields test nodes fields node 0) are is)) l.part l
  keeps _ _ (step.lacks fs t x d n index is) l = same_frames fs t x (Fields d n index) No (field_is d n index _ is) tt l
  keeps _ _ (step.ends fs t x d n index is) l = same_frames fs t x (Fields d n index) Yes (field_is d n index _ is) tt l
  keeps _ _ (step.passes fs t x d n index is) l =
      same_frames fs t x (Fields d n index) (Fields d n (index + 1)) (field_is d n index _ is) l.part l
  keeps _ _ (step.field_is_in fs t x d e n index type is asked) l =
      let rest : Option (Captures ℕ) = gives test nodes (Fields d n (index + 1)) in
      same_frames fs t x (Fields d n index) (Fields d n (index + 1))
      (field_is d n index _ is
      ∙ ap (λ b. both (if_so b) rest) (right type e true asked (asked_closures fact d (record_node (node_at n)) index type e is l.part))
      ∙ both_nothing rest) l.part l
  keeps _ _ (step.field_is_out fs t x d e n index type is asked) l =
      let rest : Option (Captures ℕ) = gives test nodes (Fields d n (index + 1)) in
      same_frames fs t x (Fields d n index) No
      (field_is d n index _ is
      ∙ ap (λ b. both (if_so b) rest) (right type e false asked (asked_closures fact d (record_node (node_at n)) index type e is l.part)))
      tt l
  keeps _ _ (step.opens_field fs t x d e n index number is) l = record {
    marked = l.marked;
    failed = l.failed;
    frames = (l.part, l.frames);
    part = looked_closures fact d (record_node (node_at n)) index e number is l.part;
    leads = subst (leads fs t) (field_is d n index _ is) l.leads;
  }
  keeps _ _ (step.chosen fs t x d q mark) l = record {
    marked = marked_weaker mark (length t) l.marked.0 fs l.marked.1;
    failed = l.failed;
    frames = l.frames.1;
    part = tt;
    leads = l.leads;
  }
  keeps _ _ (step.goes_on fs t x d q) l = record {
    marked = l.marked;
    failed = l.failed;
    frames = l.frames.1;
    part = l.frames.0;
    leads = subst (leads fs t) (both_nothing (takes d q)) l.leads;
  }
  keeps _ _ (step.no_second fs t x d n none) l = record {
    marked = l.marked;
    failed = l.failed;
    frames = l.frames.1;
    part = tt;
    leads = subst (leads fs t) (no_pair_with (as_pair d) (pair_node (node_at n)) (Some nothing) none) l.leads.1;
  }
  keeps _ _ (step.opens_second fs t x d n parts pair is pairs) l =
      let whole = pair_is d n parts pair is pairs (Some nothing) ∙ second_nothing parts.variable pair.0 (takes pair.1 parts.second) in record {
        marked = (omega arith, l.marked);
        failed = l.failed;
        frames = l.frames;
        part = (pair_closures fact d pair pairs l.frames.0).1;
        leads = second fs t d n parts pair is pairs (takes pair.1 parts.second) (λ none. l.leads.0 (whole ∙ none))
            (subst (leads fs t) whole l.leads.1);
      }
  keeps _ _ (step.gathers fs t u x d n mark is) l =
      let cut = length-take-le mark t l.marked.0 in
      let longer = length-append (take mark t) u in record {
        marked = marked_weaker mark (length (take mark t ++ u)) (omega (arith, cut, longer)) fs l.marked.1;
        failed = l.failed;
        frames = l.frames.1;
        part = tt;
        leads = shift test nodes goal fs (take mark t) u (Some nothing)
            (subst (λ bound. AreMarked bound fs) (sym cut) l.marked.1)
            (subst (λ all. leads fs (take mark t) (Some all))
            (ap (after_second (as_pair d) (pair_node (node_at n))) (joined_nothing (caught (drop mark t))) ∙ sym is ∙ sym (joined_nothing (caught u)))
            l.leads);
      }
  keeps _ _ (step.no_attributes fs t x d n none) l = record {
    marked = l.marked;
    failed = l.failed;
    frames = l.frames.1;
    part = tt;
    leads = subst (leads fs t) (ap (both (Some nothing)) (no_tag_rest (as_xml d) (xml_node (node_at n)) none)) l.leads;
  }
  keeps _ _ (step.opens_attributes fs t x d n parts xml is xmls) l = record {
    marked = l.marked;
    failed = l.failed;
    frames = l.frames;
    part = (xml_closures fact d xml xmls l.frames.0).1;
    leads = subst (leads fs t)
        (both_nothing (rest_of_tag test nodes (as_xml d) (xml_node (node_at n))) ∙ ap₂ (rest_of_tag test nodes) xmls is
        ∙ ap (both (takes xml.1 parts.1)) (sym (ap₂ (rest_of_attributes test nodes) xmls is))) l.leads;
  }
  keeps _ _ (step.no_content fs t x d n none) l = record {
    marked = l.marked;
    failed = l.failed;
    frames = l.frames.1;
    part = tt;
    leads = subst (leads fs t) (ap (both (Some nothing)) (no_attributes_rest (as_xml d) (xml_node (node_at n)) none)) l.leads;
  }
  keeps _ _ (step.opens_content fs t x d n parts xml is xmls) l = record {
    marked = l.marked;
    failed = l.failed;
    frames = l.frames.1;
    part = (xml_closures fact d xml xmls l.frames.0).2;
    leads = subst (leads fs t)
        (both_nothing (rest_of_attributes test nodes (as_xml d) (xml_node (node_at n))) ∙ ap₂ (rest_of_attributes test nodes) xmls is) l.leads;
  }
  keeps _ _ (step.next fs t x d n index) l = record {
    marked = l.marked;
    failed = l.failed;
    frames = l.frames.1;
    part = l.frames.0;
    leads = subst (leads fs t) (both_nothing (gives test nodes (Fields d n index))) l.leads;
  }
  keeps _ _ (step.tries fs t x d q mark) l = record {
    marked = subst (λ bound. AreMarked bound fs) (sym (length-take-le mark t l.marked.0)) l.marked.1;
    failed = l.failed;
    frames = l.frames.1;
    part = l.frames.0;
    leads = l.leads;
  }
  keeps _ _ (step.fails fs t x y d n mark more) l = record {
    marked = marked_weaker mark (length t) l.marked.0 fs l.marked.1;
    failed = adds x y d n more l.failed l.leads.0;
    frames = l.frames.1;
    part = tt;
    leads = l.leads.1;
  }
  keeps _ _ (step.gives_up fs t x f passes) l = record {
    marked = marked_below (length t) f fs passes l.marked;
    failed = l.failed;
    frames = l.frames.1;
    part = tt;
    leads = leads_below f fs t passes l.leads;
  }
