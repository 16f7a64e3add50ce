-- Steps of the code as steps of the machine.
use Rattle.std.proofs.Common.{◌≡◌, ◌∙◌, refl, sym, ap, ap₂, subst, ℕ, Bool, true, false, List, [], ◌∷◌, ◌++◌, map, length, take, drop, ◌⊎◌, inl, inr, Some}
use Rattle.std.proofs.Common.{◌==◌, ◌&&◌, ◌||◌, ◌≢◌, subst₂, append-nil}
use Rattle.std.specs.List.{slice_get}
use Rattle.std.proofs.lemmas.Bool.Decides.{eqb_tells}
use Rattle.std.proofs.lemmas.List.{map-append, length-map, take-map, drop-map}
use Rattle.cd_sets.specs.declared.node_id.NodeId.{NodeId}
use Rattle.cd_model.specs.AllOf.{AllOf, AnyOf}
use Rattle.cd_model.specs.Formula.{Graph}
use Rattle.cd_model.specs.Thing.{Thing}
use Rattle.cd_model.proofs.Ones.{each_weaker}
use Rattle.cd_cells.specs.Cells.{thing_at}
use Rattle.cd_cells.specs.Table.{table, names, Grows}
use Rattle.cd_cells.specs.declared.cell.ValueId.{ValueId}
use Rattle.cd_matching.specs.Kernel.{Test}
use Rattle.cd_asking.specs.Known.{KnowsOf}
use Rattle.cd_asking.specs.declared.asker.Asker.{Asker}
use Rattle.cd_asking.proofs.Grown.{knows_in_grown}
use Rattle.cd_cells.specs.declared.values.Values.{Values}
use Rattle.cd_asking.specs.Mappings.{Mappings}
use Rattle.cd_taking.specs.declared.capture.Capture.{Capture}
use Rattle.cd_taking.specs.declared.failures.Failure.{Failure}
use Rattle.cd_taking.specs.declared.frame.Frame.{Frame}
use Rattle.cd_taking.specs.declared.frame.Frame.TheVariants as frame
use Rattle.cd_taking.specs.declared.frame.Next.{Next}
use Rattle.cd_taking.specs.declared.frame.Next.TheVariants as next
use Rattle.cd_taking.specs.declared.taker.Taker.{Taker}
use Rattle.cd_taking.specs.Inner.Machine as plain
use Rattle.cd_taking.specs.Inner.Machine.{Node, State, Step, at, Caught, PassesNo, as_pair, pair_node, after_second}
use Rattle.cd_taking.specs.Inner.Adds.{Adds}
use Rattle.cd_taking.specs.Inner.Coded.{plain_frame, plain_capture, plain_failure, plain_next, state, IsFrameWithin, IsCaptureWithin, IsFailureWithin, IsNextWithin}
use Rattle.cd_taking.specs.Inner.Coded.{IsWithin, Pushes, Catches, Cuts, on_top, is_known, IsGathered}
use Rattle.cd_taking.specs.Inner.Stepping.{Asked, Steps}
use Rattle.cd_cells.proofs.GrownTables.{within_grown, thing_grown}
use Rattle.cd_taking.proofs.Lists.{all_with, all_take}

same_parts : (f g : List plain.Frame) (t u : List Caught) (x y : List plain.Failure) (p : plain.Part) → f ≡ g → t ≡ u → x ≡ y → at f t x p ≡ at g u y p
same_parts f g t u x y p a b c = λ i. at (a i) (b i) (c i) p

-- what stands in a table, in one that has grown
module _ (old new : Values) (grows : Grows old new) where
  abbrev bound : ℕ
  bound = length (table old)

  abbrev wider : ℕ
  wider = length (table new)

  frame_grown : (one : Frame) → IsFrameWithin bound one → plain_frame (table new) one ≡ plain_frame (table old) one
  frame_grown (frame.Or value second mark) within = ap (λ d. plain.Or d second mark) (thing_grown old new grows value.0 within)
  frame_grown (frame.And value second) within = ap (λ d. plain.And d second) (thing_grown old new grows value.0 within)
  frame_grown (frame.First pair node) within = ap (λ d. plain.First d node) (thing_grown old new grows pair.0 within)
  frame_grown (frame.Second pair node mark) within = ap (λ d. plain.Second d node mark) (thing_grown old new grows pair.0 within)
  frame_grown (frame.Tag xml node) within = ap (λ d. plain.Tag d node) (thing_grown old new grows xml.0 within)
  frame_grown (frame.Attributes xml node) within = ap (λ d. plain.Attributes d node) (thing_grown old new grows xml.0 within)
  frame_grown (frame.Field value node from) within = ap (λ d. plain.Field d node from) (thing_grown old new grows value.0 within)

  frame_wider : (one : Frame) → IsFrameWithin bound one → IsFrameWithin wider one
  frame_wider (frame.Or value second mark) within = within_grown old new grows value.0 within
  frame_wider (frame.And value second) within = within_grown old new grows value.0 within
  frame_wider (frame.First pair node) within = within_grown old new grows pair.0 within
  frame_wider (frame.Second pair node mark) within = within_grown old new grows pair.0 within
  frame_wider (frame.Tag xml node) within = within_grown old new grows xml.0 within
  frame_wider (frame.Attributes xml node) within = within_grown old new grows xml.0 within
  frame_wider (frame.Field value node from) within = within_grown old new grows value.0 within

  frames_grown : (all : List Frame) → AllOf (IsFrameWithin bound) all → map (plain_frame (table new)) all ≡ map (plain_frame (table old)) all
  frames_grown [] within = refl
  frames_grown (one ∷ all) within = ap₂ (λ one all. one ∷ all) (frame_grown one within.0) (frames_grown all within.1)

  pub captures_grown : (all : List Capture) → AllOf (IsCaptureWithin bound) all → map (plain_capture (table new)) all ≡ map (plain_capture (table old)) all
  captures_grown [] within = refl
  captures_grown (one ∷ all) within =
      ap₂ (λ d all. (one.variable, d) ∷ all) (thing_grown old new grows one.value.0 within.0) (captures_grown all within.1)

  failures_grown : (all : List Failure) → AllOf (IsFailureWithin bound) all → map (plain_failure (table new)) all ≡ map (plain_failure (table old)) all
  failures_grown [] within = refl
  failures_grown (one ∷ all) within =
      ap₂ (λ d all. (d, one.node) ∷ all) (thing_grown old new grows one.pair within.0) (failures_grown all within.1)

  pub wider_within : (taker : Taker) → IsWithin bound taker → IsWithin wider taker
  wider_within taker within = record {
    frames = each_weaker (IsFrameWithin bound) (IsFrameWithin wider) frame_wider taker.frames within.frames;
    captures = each_weaker (IsCaptureWithin bound) (IsCaptureWithin wider) (λ (one : Capture) is. within_grown old new grows one.value.0 is) taker.captures.items within.captures;
    failures = each_weaker (IsFailureWithin bound) (IsFailureWithin wider) (λ (one : Failure) is. within_grown old new grows one.pair is) taker.failures within.failures;
  }

module _ (graph : Graph) (maps : Mappings) (nodes : List Node) where
  abbrev StepOf : State → State → Type 0
  StepOf one other = Step (Asked graph maps) nodes one other

  -- nothing but what is done next changes
  pub stays : (things : List Thing) (taker : Taker) (was then : Next) → StepOf (state things taker was) (state things taker then)
      → IsWithin (length things) taker → IsNextWithin (length things) then
      → Steps graph maps nodes things things taker taker was then
  stays things taker was then step within next_within = record { step = step; within = within; next_within = next_within }

  -- a frame is put on the top
  pub pushed : (things : List Thing) (one : Frame) (old new : Taker) (was then : Next) → Pushes one old new
      → StepOf (state things old was)
      (at (plain_frame things one ∷ map (plain_frame things) old.frames) (map (plain_capture things) old.captures.items)
      (map (plain_failure things) old.failures) (plain_next things then))
      → IsWithin (length things) old → IsFrameWithin (length things) one → IsNextWithin (length things) then
      → Steps graph maps nodes things things old new was then
  pushed things one old new was then pushes step within one_within next_within = record {
    step = subst (StepOf (state things old was))
        (sym (same_parts _ _ _ _ _ _ (plain_next things then) (ap (map (plain_frame things)) pushes.frames)
        (ap (λ captures. map (plain_capture things) captures.items) pushes.captures) (ap (map (plain_failure things)) pushes.failures))) step;
    within = record {
      frames = subst (AllOf (IsFrameWithin (length things))) (sym pushes.frames) (one_within, within.frames);
      captures = subst (λ captures. AllOf (IsCaptureWithin (length things)) captures.items) (sym pushes.captures) within.captures;
      failures = subst (AllOf (IsFailureWithin (length things))) (sym pushes.failures) within.failures;
    };
    next_within = next_within;
  }

  -- a capture is put after the others
  pub caught : (values after : Values) → Grows values after → (one : Capture) (old new : Taker) (was : Next) → Catches one old new
      → StepOf (state (table values) old was)
      (at (map (plain_frame (table values)) old.frames) (map (plain_capture (table values)) old.captures.items ++ plain_capture (table after) one ∷ [])
      (map (plain_failure (table values)) old.failures) plain.Yes)
      → IsWithin (length (table values)) old → IsCaptureWithin (length (table after)) one
      → Steps graph maps nodes (table values) (table after) old new was next.Yes
  caught values after grows one old new was catches step within one_within =
      let wider = wider_within values after grows old within in record {
        step = subst (StepOf (state (table values) old was))
            (sym (same_parts _ _ _ _ _ _ plain.Yes
            (ap (map (plain_frame (table after))) catches.frames ∙ frames_grown values after grows old.frames within.frames)
            (ap (map (plain_capture (table after))) catches.captures ∙ map-append (plain_capture (table after)) old.captures.items (one ∷ [])
            ∙ ap (λ (all : List Caught). all ++ plain_capture (table after) one ∷ []) (captures_grown values after grows old.captures.items within.captures))
            (ap (map (plain_failure (table after))) catches.failures ∙ failures_grown values after grows old.failures within.failures))) step;
        within = record {
          frames = subst (AllOf (IsFrameWithin (length (table after)))) (sym catches.frames) wider.frames;
          captures = subst (AllOf (IsCaptureWithin (length (table after)))) (sym catches.captures)
              (all_with (IsCaptureWithin (length (table after))) old.captures.items one wider.captures one_within);
          failures = subst (AllOf (IsFailureWithin (length (table after)))) (sym catches.failures) wider.failures;
        };
        next_within = tt;
      }

-- what stood on the top is done
module _ (graph : Graph) (maps : Mappings) (nodes : List Node) (things : List Thing) (one : Frame) (old : Taker) (was : Next)
    (within : IsWithin (length things) (on_top one old)) where
  abbrev StepsFrom : State → Type 0
  StepsFrom other = Step (Asked graph maps) nodes (state things (on_top one old) was) other

  rest_within : IsWithin (length things) old
  rest_within = record { frames = within.frames.1; captures = within.captures; failures = within.failures }

  pub popped : (then : Next) → StepsFrom (state things old then) → IsNextWithin (length things) then
      → Steps graph maps nodes things things (on_top one old) old was then
  popped then step next_within = record { step = step; within = rest_within; next_within = next_within }

  pub replaced : (other : Frame) (new : Taker) (then : Next) → Pushes other old new
      → StepsFrom (at (plain_frame things other ∷ map (plain_frame things) old.frames) (map (plain_capture things) old.captures.items)
      (map (plain_failure things) old.failures) (plain_next things then))
      → IsFrameWithin (length things) other → IsNextWithin (length things) then
      → Steps graph maps nodes things things (on_top one old) new was then
  replaced other new then pushes step other_within next_within = record {
    step = subst StepsFrom
        (sym (same_parts _ _ _ _ _ _ (plain_next things then) (ap (map (plain_frame things)) pushes.frames)
        (ap (λ captures. map (plain_capture things) captures.items) pushes.captures) (ap (map (plain_failure things)) pushes.failures))) step;
    within = record {
      frames = subst (AllOf (IsFrameWithin (length things))) (sym pushes.frames) (other_within, within.frames.1);
      captures = subst (λ captures. AllOf (IsCaptureWithin (length things)) captures.items) (sym pushes.captures) within.captures;
      failures = subst (AllOf (IsFailureWithin (length things))) (sym pushes.failures) within.failures;
    };
    next_within = next_within;
  }

  -- the captures are cut
  pub cut : (mark : ℕ) (new : Taker) (then : Next) → Cuts mark old new
      → StepsFrom (at (map (plain_frame things) old.frames) (take mark (map (plain_capture things) old.captures.items))
      (map (plain_failure things) old.failures) (plain_next things then))
      → IsNextWithin (length things) then → Steps graph maps nodes things things (on_top one old) new was then
  cut mark new then cuts step next_within = record {
    step = subst StepsFrom
        (sym (same_parts _ _ _ _ _ _ (plain_next things then) (ap (map (plain_frame things)) cuts.frames)
        (ap (map (plain_capture things)) cuts.captures ∙ sym (take-map (plain_capture things) mark old.captures.items))
        (ap (map (plain_failure things)) cuts.failures))) step;
    within = record {
      frames = subst (AllOf (IsFrameWithin (length things))) (sym cuts.frames) within.frames.1;
      captures = subst (AllOf (IsCaptureWithin (length things))) (sym cuts.captures)
          (all_take (IsCaptureWithin (length things)) mark old.captures.items within.captures);
      failures = subst (AllOf (IsFailureWithin (length things))) (sym cuts.failures) within.failures;
    };
    next_within = next_within;
  }

-- a mark counts the captures
pub counted : (things : List Thing) (captures : List Capture) (mark : ℕ) → mark ≡ length captures
    → length (map (plain_capture things) captures) ≡ mark
counted things captures mark is = length-map captures (plain_capture things) ∙ sym is

-- a failure that is known
pub known_failure : (things : List Thing) (one : Failure) (all : List Failure) → is_known one all ≡ true
    → AnyOf (λ other. other ≡ plain_failure things one) (map (plain_failure things) all)
known_failure things one [] is = absurd cc
known_failure things one (other ∷ all) is = by_test (one.pair == other.pair) (one.node == other.node)
    (eqb_tells one.pair other.pair) (eqb_tells one.node other.node) is (known_failure things one all)
  where
    by_test : (a b : Bool) → ((a ≡ true) × (one.pair ≡ other.pair)) ⊎ ((a ≡ false) × (one.pair ≢ other.pair))
        → ((b ≡ true) × (one.node ≡ other.node)) ⊎ ((b ≡ false) × (one.node ≢ other.node))
        → (a && b) || is_known one all ≡ true → (is_known one all ≡ true → AnyOf (λ other. other ≡ plain_failure things one) (map (plain_failure things) all))
        → (plain_failure things other ≡ plain_failure things one) ⊎ AnyOf (λ other. other ≡ plain_failure things one) (map (plain_failure things) all)
    by_test true true (inl pairs) (inl nodes) is later = inl (ap₂ (λ pair node. (thing_at things pair, node)) (sym pairs.1) (sym nodes.1))
    by_test true true (inr pairs) nodes is later = absurd cc
    by_test true true (inl pairs) (inr nodes) is later = absurd cc
    by_test true false pairs nodes is later = inr (later is)
    by_test false b pairs nodes is later = inr (later is)

-- a test was asked
pub answers : (graph : Graph) (maps : Mappings) (nodes : List Node) (things : List Thing) (taker : Taker) (value : ValueId) (n : ℕ) (type : NodeId) (answer : Bool) (then : Next)
    → ((table : List Thing) → plain_next table then ≡ plain.answered answer) → ((bound : ℕ) → IsNextWithin bound then)
    → slice_get nodes n ≡ Some (Test type) → Asked graph maps type (thing_at things value.0) answer → IsWithin (length things) taker
    → Steps graph maps nodes things things taker taker (next.Look value n) then
answers graph maps nodes things taker value n type answer then is within_is found asked within = record {
  step = subst (λ (part : plain.Part). Step (Asked graph maps) nodes (state things taker (next.Look value n))
      (at (map (plain_frame things) taker.frames) (map (plain_capture things) taker.captures.items) (map (plain_failure things) taker.failures) part))
      (sym (is things)) (plain.asks _ _ _ _ _ type answer found asked);
  within = within;
  next_within = within_is (length things);
}

-- what is known stays right while values are added
pub known_on : (graph : Graph) (old new : Values) → Grows old new → (asker : Asker) → KnowsOf graph (names old) asker → KnowsOf graph (names new) asker
known_on graph old new grows asker knows =
    subst₂ (λ graph names. KnowsOf graph names asker) (append-nil graph) (sym grows.labels.1)
    (knows_in_grown graph [] (names old) grows.labels.0 asker knows)

-- all other frames pass a failure on
pub passes_no : (things : List Thing) (one : Frame) → ((value : ValueId) (second mark : ℕ) → one ≡ frame.Or value second mark → ⊥)
    → ((pair : ValueId) (node mark : ℕ) → one ≡ frame.Second pair node mark → ⊥) → PassesNo (plain_frame things one)
passes_no things (frame.Or value second mark) choice pair = choice value second mark refl
passes_no things (frame.Second value node mark) choice pair = pair value node mark refl
passes_no things (frame.And value second) choice pair = tt
passes_no things (frame.First value node) choice pair = tt
passes_no things (frame.Tag value node) choice pair = tt
passes_no things (frame.Attributes value node) choice pair = tt
passes_no things (frame.Field value node from) choice pair = tt

-- both parts of a pair were taken
pub gathered : (graph : Graph) (maps : Mappings) (nodes : List Node) (values after : Values) → Grows values after
    → (pair : ValueId) (n mark : ℕ) (old new : Taker) → new.frames ≡ old.frames → new.failures ≡ old.failures
    → IsGathered (after_second (as_pair (thing_at (table values) pair.0)) (pair_node (slice_get nodes n))) (table after) mark old.captures.items new.captures.items
    → AllOf (IsCaptureWithin (length (table after))) new.captures.items
    → IsWithin (length (table values)) (on_top (frame.Second pair n mark) old)
    → Steps graph maps nodes (table values) (table after) (on_top (frame.Second pair n mark) old) new next.Yes next.Yes
gathered graph maps nodes values after grows pair n mark old new same_frames same_failures puts captures_within within =
    let one : List Thing = table values in
    let two : List Thing = table after in
    let t : List Caught = map (plain_capture one) old.captures.items in
    let u : List Caught = map (plain_capture two) puts.more in
    let grown : map (plain_capture two) old.captures.items ≡ t = captures_grown values after grows old.captures.items within.captures in
    let wider = wider_within values after grows old
    record { frames = within.frames.1; captures = within.captures; failures = within.failures } in record {
      step = subst (Step (Asked graph maps) nodes (state one (on_top (frame.Second pair n mark) old) next.Yes))
          (sym (same_parts _ _ _ _ _ _ plain.Yes
          (ap (map (plain_frame two)) same_frames ∙ frames_grown values after grows old.frames within.frames.1)
          (ap (map (plain_capture two)) puts.is ∙ map-append (plain_capture two) (take mark old.captures.items) puts.more
          ∙ ap (λ (all : List Caught). all ++ u) (sym (take-map (plain_capture two) mark old.captures.items) ∙ ap (take mark) grown))
          (ap (map (plain_failure two)) same_failures ∙ failures_grown values after grows old.failures within.failures)))
          (plain.gathers _ t u _ (thing_at one pair.0) n mark
          (puts.gives ∙ ap (λ (all : List Caught). after_second (as_pair (thing_at one pair.0)) (pair_node (slice_get nodes n)) (plain.caught all))
          (sym (drop-map (plain_capture two) mark old.captures.items) ∙ ap (drop mark) grown)));
      within = record {
        frames = subst (AllOf (IsFrameWithin (length two))) (sym same_frames) wider.frames;
        captures = captures_within;
        failures = subst (AllOf (IsFailureWithin (length two))) (sym same_failures) wider.failures;
      };
      next_within = tt;
    }

-- the node is known not to take the pair
pub failed : (graph : Graph) (maps : Mappings) (nodes : List Node) (things : List Thing) (pair : ValueId) (n mark : ℕ) (old new : Taker)
    → new.frames ≡ old.frames → new.captures ≡ old.captures
    → Adds (record { pair = pair.0; node = n }) old.failures new.failures
    → IsWithin (length things) (on_top (frame.Second pair n mark) old)
    → Steps graph maps nodes things things (on_top (frame.Second pair n mark) old) new next.No next.No
failed graph maps nodes things pair n mark old new same_frames same_captures adds within = record {
  step = subst (Step (Asked graph maps) nodes (state things (on_top (frame.Second pair n mark) old) next.No))
      (sym (same_parts _ _ _ _ _ _ plain.No (ap (map (plain_frame things)) same_frames) (ap (λ captures. map (plain_capture things) captures.items) same_captures) refl))
      (plain.fails _ _ _ (map (plain_failure things) new.failures) _ _ _ (more adds));
  within = record {
    frames = subst (AllOf (IsFrameWithin (length things))) (sym same_frames) within.frames.1;
    captures = subst (λ captures. AllOf (IsCaptureWithin (length things)) captures.items) (sym same_captures) within.captures;
    failures = all_more adds;
  };
  next_within = tt;
}
  where
    more : Adds (record { pair = pair.0; node = n }) old.failures new.failures
        → Adds (thing_at things pair.0, n) (map (plain_failure things) old.failures) (map (plain_failure things) new.failures)
    more (inl same) = inl (ap (map (plain_failure things)) same)
    more (inr longer) = inr (ap (map (plain_failure things)) longer ∙ map-append (plain_failure things) old.failures (record { pair = pair.0; node = n } ∷ []))

    all_more : Adds (record { pair = pair.0; node = n }) old.failures new.failures → AllOf (IsFailureWithin (length things)) new.failures
    all_more (inl same) = subst (AllOf (IsFailureWithin (length things))) (sym same) within.failures
    all_more (inr longer) = subst (AllOf (IsFailureWithin (length things))) (sym longer)
        (all_with (IsFailureWithin (length things)) old.failures (record { pair = pair.0; node = n }) within.failures within.frames.0)
