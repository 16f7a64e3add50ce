-- The machine that reads documents: a state says what may come next, and has a stack of the forms
-- that are open.
use Rattle.std.specs.Prelude.{◌≡◌, ℕ, Bool, not, ◌&&◌, List, [], ◌∷◌, length}
use Rattle.std.specs.Prelude.{Option, Some, None, Result, Ok, Err, nat_lt, if◌then◌else◌}
use Rattle.cd_syntax.specs.declared.tokens.Token.{Token}
use Rattle.cd_syntax.specs.Name.{Name}
use Rattle.cd_model.specs.Thing.{Thing, Integer, Character, Atom, Pair, Xml, Record, Fields}
use Rattle.cd_model.specs.Thing.{NoField}
use Rattle.cd_documents.specs.Document.{the_nil, characters_before, is_among, with_field}
use Rattle.cd_documents.specs.Terminal.{Terminal, terminal, opens, Number, Letters, Text, AnAtom}
use Rattle.cd_documents.specs.Terminal.{Label, OpenTuple, CloseTuple, OpenSequence, CloseSequence}
use Rattle.cd_documents.specs.Terminal.{OpenRecord, CloseRecord, OpenTag, CloseTag, Equal, Comma}
use Rattle.cd_documents.specs.Terminal.{Semicolon, Bracket, ATuple, ASequence, ARecord}
use Rattle.cd_documents.specs.Terminal.{ATag, AContent}

-- what may come next
pub data Expecting : Type 0 where
  AtValue : Expecting
  AtItem : Expecting
  AfterPart : Expecting
  AtField : Expecting
  AfterField : Expecting
  AtTag : Expecting
  AtAttribute : Expecting
  AfterAttribute : Expecting
  AtEqual : Expecting
  Done : Thing → Expecting

-- A form that is open, with what was read of it, the last first. Fields whose last one has no value
-- yet have one more label. A tag has the name `[]` until its own is read
pub data OpenTree : Type 0 where
  InTuple : List Thing → OpenTree
  InSequence : List Thing → OpenTree
  InRecord : (labels : List Name) (values : List Thing) → OpenTree
  InTag : (tag : Name) (labels : List Name) (values : List Thing) → OpenTree
  InContent : (tag : Name) (attributes : Fields) → OpenTree

pub record State : Type 0 where
  pub expecting : Expecting
  pub trees : List OpenTree

abbrev pub state : Expecting → List OpenTree → State
state expecting trees = record { expecting = expecting; trees = trees }

abbrev pub start : State
start = state AtValue []

-- the bracket of a form
abbrev pub bracket_of : OpenTree → Bracket
bracket_of (InTuple before) = ATuple
bracket_of (InSequence before) = ASequence
bracket_of (InRecord labels values) = ARecord
bracket_of (InTag tag labels values) = ATag
bracket_of (InContent tag attributes) = AContent

-- why tokens are refused, at which byte
pub data Fault : Type 0 where
  Syntax : (from : ℕ) → Fault
  TooDeep : (from : ℕ) → Fault

-- pairs before an end
abbrev pub pairs : List Thing → Thing → Thing
pairs [] end = end
pairs (one ∷ before) end = pairs before (Pair one end)

abbrev pub letters_onto : List ℕ → List Thing → List Thing
letters_onto [] items = items
letters_onto (c ∷ cs) items = letters_onto cs (Character c ∷ items)

-- fields with those that were read
abbrev pub with_fields : List Name → List Thing → Fields → Fields
with_fields (label ∷ labels) (value ∷ values) rest =
    with_fields labels values (with_field label value rest)
with_fields labels values rest = rest

-- the state after a value: it ends each content that it is
abbrev pub put : Thing → List OpenTree → State
put value [] = state (Done value) []
put value (InTuple before ∷ trees) = state AfterPart (InTuple (value ∷ before) ∷ trees)
put value (InSequence before ∷ trees) = state AtItem (InSequence (value ∷ before) ∷ trees)
put value (InRecord labels values ∷ trees) =
    state AfterField (InRecord labels (value ∷ values) ∷ trees)
put value (InTag tag labels values ∷ trees) =
    state AfterAttribute (InTag tag labels (value ∷ values) ∷ trees)
put value (InContent tag attributes ∷ trees) =
    put (Xml (Atom tag) (Record attributes) value) trees

-- the state after a terminal, for each thing that may come next, if it can stand there
abbrev pub at_value : List OpenTree → Terminal → Option State
at_value trees (Number n) = Some (put (Integer n) trees)
at_value trees (Letters (c ∷ [])) = Some (put (Character c) trees)
at_value trees (Text cs) = Some (put (characters_before cs the_nil) trees)
at_value trees (AnAtom name) = Some (put (Atom name) trees)
at_value trees OpenTuple = Some (state AtValue (InTuple [] ∷ trees))
at_value trees OpenSequence = Some (state AtItem (InSequence [] ∷ trees))
at_value trees OpenRecord = Some (state AtField (InRecord [] [] ∷ trees))
at_value trees OpenTag = Some (state AtTag (InTag [] [] [] ∷ trees))
at_value trees _ = None

abbrev pub at_item : List OpenTree → Terminal → Option State
at_item (InSequence before ∷ trees) CloseSequence = Some (put (pairs before the_nil) trees)
at_item (InSequence before ∷ trees) (Letters cs) =
    Some (state AtItem (InSequence (letters_onto cs before) ∷ trees))
at_item trees is = at_value trees is

abbrev pub after_part : List OpenTree → Terminal → Option State
after_part (InTuple (last ∷ before) ∷ trees) CloseTuple = Some (put (pairs before last) trees)
after_part trees Comma = Some (state AtValue trees)
after_part trees _ = None

-- a label that is none of those before
abbrev pub label_of : List OpenTree → Name → Option State
label_of (InRecord labels values ∷ trees) label =
    if is_among label labels then None
    else Some (state AtEqual (InRecord (label ∷ labels) values ∷ trees))
label_of (InTag tag labels values ∷ trees) label =
    if is_among label labels then None
    else Some (state AtEqual (InTag tag (label ∷ labels) values ∷ trees))
label_of trees label = None

abbrev pub close_record : List OpenTree → Option State
close_record (InRecord labels values ∷ trees) =
    Some (put (Record (with_fields labels values NoField)) trees)
close_record trees = None

abbrev pub close_tag : List OpenTree → Option State
close_tag (InTag tag labels values ∷ trees) =
    Some (state AtValue (InContent tag (with_fields labels values NoField) ∷ trees))
close_tag trees = None

abbrev pub at_field : List OpenTree → Terminal → Option State
at_field trees (Label label) = label_of trees label
at_field trees CloseRecord = close_record trees
at_field trees _ = None

abbrev pub after_field : List OpenTree → Terminal → Option State
after_field trees Semicolon = Some (state AtField trees)
after_field trees CloseRecord = close_record trees
after_field trees _ = None

abbrev pub at_tag : List OpenTree → Terminal → Option State
at_tag (InTag _ labels values ∷ trees) (Label tag) =
    Some (state AtAttribute (InTag tag labels values ∷ trees))
at_tag trees _ = None

abbrev pub at_attribute : List OpenTree → Terminal → Option State
at_attribute trees (Label label) = label_of trees label
at_attribute trees CloseTag = close_tag trees
at_attribute trees _ = None

abbrev pub after_attribute : List OpenTree → Terminal → Option State
after_attribute trees Semicolon = Some (state AtAttribute trees)
after_attribute trees is = at_attribute trees is

abbrev pub at_equal : List OpenTree → Terminal → Option State
at_equal trees Equal = Some (state AtValue trees)
at_equal trees _ = None

abbrev pub after_terminal : Expecting → List OpenTree → Terminal → Option State
after_terminal AtValue trees is = at_value trees is
after_terminal AtItem trees is = at_item trees is
after_terminal AfterPart trees is = after_part trees is
after_terminal AtField trees is = at_field trees is
after_terminal AfterField trees is = after_field trees is
after_terminal AtTag trees is = at_tag trees is
after_terminal AtAttribute trees is = at_attribute trees is
after_terminal AfterAttribute trees is = after_attribute trees is
after_terminal AtEqual trees is = at_equal trees is
after_terminal (Done value) trees is = None

abbrev pub or_wrong : ℕ → Option State → Result State Fault
or_wrong from (Some next) = Ok next
or_wrong from None = Err (Syntax from)

-- an opening bracket where so many are open is too deep, whether or not it could stand there
abbrev pub is_too_deep : ℕ → List OpenTree → Terminal → Bool
is_too_deep most trees is = opens is && not (nat_lt (length trees) most)

abbrev pub step_on : ℕ → State → ℕ → Terminal → Result State Fault
step_on most now from is =
    if is_too_deep most now.trees is then Err (TooDeep from)
    else or_wrong from (after_terminal now.expecting now.trees is)

abbrev pub step : ℕ → State → Token → Result State Fault
step most now next = step_on most now next.span.from (terminal next.kind)

abbrev pub and_then : Result State Fault → (State → Result State Fault) → Result State Fault
and_then (Ok next) go = go next
and_then (Err fault) go = Err fault

-- the state after tokens, with at most so many brackets open
abbrev pub reach : ℕ → State → List Token → Result State Fault
reach most now [] = Ok now
reach most now (first ∷ tokens) = and_then (step most now first) (λ next. reach most next tokens)

-- the value where all is read
abbrev pub value_at : Expecting → Option Thing
value_at (Done value) = Some value
value_at expecting = None

abbrev pub ended : Result State Fault → Result (Option Thing) Fault
ended (Ok last) = Ok (value_at last.expecting)
ended (Err fault) = Err fault

-- the value of a document, none where the tokens end before it is whole
abbrev pub run : ℕ → State → List Token → Result (Option Thing) Fault
run most now tokens = ended (reach most now tokens)

-- what may come next fits the forms that are open
abbrev pub Fits : Expecting → List OpenTree → Type 0
Fits AtValue trees = Unit {0}
Fits AtItem (InSequence before ∷ trees) = Unit {0}
Fits AtItem trees = ⊥
Fits AfterPart (InTuple (last ∷ before) ∷ trees) = Unit {0}
Fits AfterPart trees = ⊥
Fits AtField (InRecord labels values ∷ trees) = Unit {0}
Fits AtField trees = ⊥
Fits AfterField (InRecord labels values ∷ trees) = Unit {0}
Fits AfterField trees = ⊥
Fits AtTag (InTag tag labels values ∷ trees) = Unit {0}
Fits AtTag trees = ⊥
Fits AtAttribute (InTag tag labels values ∷ trees) = Unit {0}
Fits AtAttribute trees = ⊥
Fits AfterAttribute (InTag tag labels values ∷ trees) = Unit {0}
Fits AfterAttribute trees = ⊥
Fits AtEqual (InTag tag labels values ∷ trees) = Unit {0}
Fits AtEqual (InRecord labels values ∷ trees) = Unit {0}
Fits AtEqual trees = ⊥
Fits (Done value) [] = Unit {0}
Fits (Done value) trees = ⊥

-- some tokens end a document from this state on
abbrev pub Ends : ℕ → State → Type 0
Ends most now = (more : List Token) × (value : Thing) × (run most now more ≡ Ok (Some value))
