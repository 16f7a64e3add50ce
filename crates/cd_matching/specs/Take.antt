-- What patterns take, and what their variables capture.
--
-- Types are tested by `test`. A pattern takes a thing or fails; where it takes it, each of its
-- variables captures a thing. As Benzaken, Castagna and Frisch, "CDuce: an XML-centric
-- general-purpose language" (ICFP 2003); a sequence is taken in the first way of its expression
-- that leaves nothing.
use Rattle.std.specs.Prelude.{Bool, true, ◌||◌, ◌&&◌, List, [], ◌∷◌, ◌++◌, map, Option, Some}
use Rattle.std.specs.Prelude.{None, option_map, bytes_eq, if◌then◌else◌}
use Rattle.cd_syntax.specs.Name.{Name}
use Rattle.cd_model.specs.Thing as thing
use Rattle.cd_model.specs.Thing.{Thing}
use Rattle.cd_matching.specs.Captures.{Captures, nothing, just, or_else, both, if_so}
use Rattle.cd_matching.specs.Pattern as pattern
use Rattle.cd_matching.specs.Pattern.{Pattern, Patterns, NoPattern, APattern, Fields, NoField}
use Rattle.cd_matching.specs.Pattern.{Present, Optional, Regular, Regulars, NoRegular, ARegular}
use Rattle.cd_matching.specs.Sequences.{sequence_of, items, thing_of}
use Rattle.cd_matching.specs.Variables.{is_gathered, names_label}
use Rattle.cd_matching.specs.Ways.{Way, Ways, still, one_item, gathers, then_, repeated}
use Rattle.cd_matching.specs.Ways.{first_whole}

-- what something takes
abbrev pub Taking : Type 0
Taking = Thing → Option (Captures Name)

-- what a record has at a label
abbrev pub at_label : thing.Fields → Name → Option Thing
at_label thing.NoField label = None
at_label (thing.Field name d rest) label =
    if bytes_eq name label then Some d else at_label rest label

-- each label of a record is one that the pattern names
abbrev pub all_named : {T : Type 0} → Fields T → thing.Fields → Bool
all_named fields thing.NoField = true
all_named fields (thing.Field label d rest) = names_label fields label && all_named fields rest

abbrev pub take_pair : (first second : Taking) → Taking
take_pair first second (thing.Pair d e) = both (first d) (second e)
take_pair first second d = None

abbrev pub take_xml : (tag attributes content : Taking) → Taking
take_xml tag attributes content (thing.Xml d e f) =
    both (tag d) (both (attributes e) (content f))
take_xml tag attributes content d = None

abbrev pub take_record : (more : Bool) → (thing.Fields → Bool)
    → (thing.Fields → Option (Captures Name)) → Taking
take_record more named take (thing.Record fields) =
    if more || named fields then take fields else None
take_record more named take d = None

-- a field that has to be present, and one that may be absent
abbrev pub take_present : Taking → Option Thing → Option (Captures Name)
take_present take None = None
take_present take (Some d) = take d

abbrev pub take_optional : (Thing → Bool) → Option Thing → Option (Captures Name)
take_optional test None = Some nothing
take_optional test (Some d) = if_so (test d)

-- what the variables of a sequence capture
abbrev pub captures_of : (gathered : Name → Bool) → Way → Captures Name
captures_of gathered way name =
    if gathered name then Some (sequence_of (way.gathered name)) else way.plain name

abbrev pub take_items : (gathered : Name → Bool) → Ways → Option (List Thing)
    → Option (Captures Name)
take_items gathered ways None = None
take_items gathered ways (Some things) =
    option_map (captures_of gathered) (first_whole (ways things))

abbrev pub take_sequence : (gathered : Name → Bool) → Ways → Taking
take_sequence gathered ways d = take_items gathered ways (items d)

-- the way, if there is one, that takes the first of the things
abbrev pub ways_taking : Thing → List Thing → Option (Captures Name) → List Way
ways_taking d rest None = []
ways_taking d rest (Some captures) = one_item d rest captures ∷ []

abbrev pub ways_of_item : Taking → Ways
ways_of_item take [] = []
ways_of_item take (d ∷ rest) = ways_taking d rest (take d)

module _ (T : Type 0) (test : T → Thing → Bool) where
  abbrev mutual
    pub take : Pattern T → Taking
    take (pattern.OfType type) d = if_so (test type d)
    take (pattern.Bind variable) d = Some (just variable d)
    take (pattern.Default variable constant) d = Some (just variable (thing_of constant))
    take (pattern.Pair first second) d = take_pair (take first) (take second) d
    take (pattern.Xml tag attributes content) d =
        take_xml (take tag) (take attributes) (take content) d
    take (pattern.Record fields more) d =
        take_record more (all_named fields) (take_fields fields) d
    take (pattern.Both all) d = take_all all d
    take (pattern.First all) d = take_first all d
    take (pattern.Sequence r) d = take_sequence (is_gathered r) (ways r) d

    pub take_all : Patterns T → Taking
    take_all NoPattern d = Some nothing
    take_all (APattern first rest) d = both (take first d) (take_all rest d)

    pub take_first : Patterns T → Taking
    take_first NoPattern d = None
    take_first (APattern first rest) d = or_else (take first d) (take_first rest d)

    pub take_fields : Fields T → thing.Fields → Option (Captures Name)
    take_fields NoField fields = Some nothing
    take_fields (Present label first rest) fields =
        both (take_present (take first) (at_label fields label)) (take_fields rest fields)
    take_fields (Optional label type rest) fields =
        both (take_optional (test type) (at_label fields label)) (take_fields rest fields)

    pub ways : Regular T → Ways
    ways pattern.Nothing things = still things ∷ []
    ways (pattern.Item p) things = ways_of_item (take p) things
    ways (pattern.Seq all) things = ways_in_turn all things
    ways (pattern.Alt all) things = ways_of_one all things
    ways (pattern.Repeat r post) things = repeated post (ways r) things
    ways (pattern.Capture variable r) things = map (gathers variable) (ways r things)

    pub ways_in_turn : Regulars T → Ways
    ways_in_turn NoRegular things = still things ∷ []
    ways_in_turn (ARegular first rest) things = then_ (ways first things) (ways_in_turn rest)

    pub ways_of_one : Regulars T → Ways
    ways_of_one NoRegular things = []
    ways_of_one (ARegular first rest) things = ways first things ++ ways_of_one rest things
