-- What a type holds, whatever types are: nodes of a graph, or written types in a scope.
--
-- A presentation gives types `X` and says how a thing answers at each of them from what it answers
-- at heads: the forms that are neither connectives nor names. What is special to nodes or to
-- written types is in the presentation; the rest is here. Each answer has a rule of its own: the
-- one for false says which part is outside.
use Rattle.std.specs.Prelude.{◌≡◌, ℕ, ℤ, Bool, true, false, List, [], ◌∷◌, Option, Some, None, ◌⊎◌}
use Rattle.std.specs.Prelude.{bytes_eq, codes, if◌then◌else◌}
use Rattle.cd_syntax.specs.Name.{Name}
use Rattle.cd_syntax.specs.declared.type_tree.Post.{Post}
use Rattle.cd_syntax.specs.declared.type_tree.Post.TheVariants as post
use Rattle.cd_model.specs.Language.{Language, none, nothing, item, either, followed, star, plus}
use Rattle.cd_model.specs.Language.{optional}
use Rattle.cd_model.specs.Thing.{Thing, Integer, Character, Atom, Pair, Xml, Record, Function}
use Rattle.cd_model.specs.Thing.{Closure, Fields, NoField, Field, Pairs, NoPair, Maps, Fails}
use Rattle.cd_model.specs.Thing.{IsElement}

-- what a record type says of one label: whether the field may be absent, and in which type its
-- value is
pub record FieldOf (X : Type 0) : Type 0 where
  pub optional : Bool
  pub type : X

-- a field that is not named may be absent, and else is in `rest`
abbrev pub field_of : {X : Type 0} → List (Name × FieldOf X) → X → Name → FieldOf X
field_of [] rest label = record { optional = true; type = rest }
field_of (field ∷ named) rest label =
    if bytes_eq field.0 label then field.1 else field_of named rest label

-- a regular expression over types
mutual
  pub data Regular (X : Type 0) : Type 0 where
    NoItem : Regular X
    Item : X → Regular X
    Seq : Regulars X → Regular X
    Alt : Regulars X → Regular X
    Repeat : Regular X → Post → Regular X

  pub data Regulars (X : Type 0) : Type 0 where
    NoRegular : Regulars X
    ARegular : Regular X → Regulars X → Regulars X

-- a form that is neither a connective nor a name
pub data Head (X : Type 0) : Type 0 where
  Integers : (ℤ → Bool) → Head X
  Characters : (ℕ → Bool) → Head X
  Atoms : (Name → Bool) → Head X
  Products : (first second : X) → Head X
  Xmls : (tag attributes content : X) → Head X
  Records : List (Name × FieldOf X) → (rest : X) → Head X
  Arrows : (argument result : X) → Head X
  Sequences : Regular X → Head X

-- what a thing answers at each type, and at each head
abbrev pub Answers : Type 0 → Type 1
Answers X = X → Bool → Type 0

abbrev pub Reader : Type 0 → Type 1
Reader X = Head X → Bool → Type 0

abbrev pub Presentation : Type 0 → Type 1
Presentation X = Reader X → Answers X

-- a form with no head holds nothing
abbrev pub at_head : {X : Type 0} → Reader X → Option (Head X) → Bool → Type 0
at_head read None answer = answer ≡ false
at_head read (Some head) answer = read head answer

-- the lists of things that fit a regular expression; a lazy form holds what the greedy one holds
abbrev pub repeated : {X : Type 1} → Post → Language X → Language X
repeated post.Star one = star one
repeated post.LazyStar one = star one
repeated post.Plus one = plus one
repeated post.LazyPlus one = plus one
repeated post.Opt one = optional one
repeated post.LazyOpt one = optional one

abbrev mutual
  pub fits : {X : Type 0} → Regular X → Language (Answers X)
  fits NoItem = nothing
  fits (Item x) = item (λ answers. answers x)
  fits (Seq all) = fits_in_turn all
  fits (Alt all) = fits_one all
  fits (Repeat is post) = repeated post (fits is)

  pub fits_in_turn : {X : Type 0} → Regulars X → Language (Answers X)
  fits_in_turn NoRegular = nothing
  fits_in_turn (ARegular first rest) = followed (fits first) (fits_in_turn rest)

  pub fits_one : {X : Type 0} → Regulars X → Language (Answers X)
  fits_one NoRegular = none
  fits_one (ARegular first rest) = either (fits first) (fits_one rest)

-- the items of a sequence: the first parts of pairs that end in the atom `nil`
pub data Items (X : Type 1) : Type 1 where
  NoSequence : Items X
  Listed : List X → Items X

abbrev pub no_items_if : {X : Type 1} → Bool → Items X
no_items_if true = Listed []
no_items_if false = NoSequence

abbrev pub items_of_atom : {X : Type 1} → Name → Items X
items_of_atom name = no_items_if (bytes_eq name (codes "nil"))

abbrev pub with_item : {X : Type 1} → X → Items X → Items X
with_item first NoSequence = NoSequence
with_item first (Listed rest) = Listed (first ∷ rest)

abbrev pub are_in : {X : Type 1} → Items X → Language X → Bool → Type 0
are_in NoSequence language answer = answer ≡ false
are_in (Listed items) language answer = language items answer

abbrev pub integer_at : {X : Type 0} → ℤ → Reader X
integer_at n (Integers set) answer = set n ≡ answer
integer_at n head answer = answer ≡ false

abbrev pub character_at : {X : Type 0} → ℕ → Reader X
character_at c (Characters set) answer = set c ≡ answer
character_at c head answer = answer ≡ false

abbrev pub atom_at : {X : Type 0} → Name → Reader X
atom_at name (Atoms set) answer = set name ≡ answer
atom_at name head answer = answer ≡ false

-- a pair is in the pairs of two types where its first part is in the first and its second part in
-- the second
abbrev pub pair_at : {X : Type 0} → Answers X → Answers X → Reader X
pair_at first second (Products one other) true = first one true × second other true
pair_at first second (Products one other) false = first one false ⊎ second other false
pair_at first second head answer = answer ≡ false

abbrev pub xml_at : {X : Type 0} → Answers X → Answers X → Answers X → Reader X
xml_at tag attributes content (Xmls one other last) true = tag one true × attributes other true
    × content last true
xml_at tag attributes content (Xmls one other last) false = tag one false ⊎ attributes other false
    ⊎ content last false
xml_at tag attributes content head answer = answer ≡ false

-- A record is what it answers at each label: whether what it has there is as a type says of that
-- label. It is in a record type where this is so at every label
abbrev pub Labelled : Type 0 → Type 1
Labelled X = Name → FieldOf X → Bool → Type 0

abbrev pub record_at : {X : Type 0} → Labelled X → Reader X
record_at labelled (Records named rest) true = (label : Name)
    → labelled label (field_of named rest label) true
record_at labelled (Records named rest) false = (label : Name)
    × labelled label (field_of named rest label) false
record_at labelled head answer = answer ≡ false

-- where nothing is at the label, the field has to be one that may be absent
abbrev pub absent : {X : Type 0} → FieldOf X → Bool → Type 0
absent field answer = field.optional ≡ answer

-- a function is what it answers at an argument's type and a result's: whether it maps the one into
-- the other
abbrev pub Mapping : Type 0 → Type 1
Mapping X = (argument result : X) → Bool → Type 0

abbrev pub function_at : {X : Type 0} → Mapping X → Reader X
function_at mapping (Arrows argument result) answer = mapping argument result answer
function_at mapping head answer = answer ≡ false

-- a sequence is in `[R]` where its items fit R
abbrev pub with_sequences : {X : Type 0} → Items (Answers X) → Reader X → Reader X
with_sequences items read (Sequences is) answer = are_in items (fits is) answer
with_sequences items read head answer = read head answer

-- the one where it is so, else the other
abbrev pub chosen : Bool → Type 0 → Type 0 → Type 0
chosen true one other = one
chosen false one other = other

-- what a thing answers at heads, where the closures of each number map as is given
module _ {X : Type 0} (at : Presentation X) (closed : ℕ → Mapping X) where
  abbrev mutual
    pub reader : Thing → Reader X
    reader (Integer n) = integer_at n
    reader (Character c) = character_at c
    reader (Atom name) = with_sequences (items_of_atom name) (atom_at name)
    reader (Pair first second) =
        with_sequences (with_item (at (reader first)) (items second))
        (pair_at (at (reader first)) (at (reader second)))
    reader (Xml tag attributes content) =
        xml_at (at (reader tag)) (at (reader attributes)) (at (reader content))
    reader (Record fields) = record_at (labelled fields)
    reader (Function pairs) = function_at (mapping pairs)
    reader (Closure function environment) = function_at (closed function)

    pub items : Thing → Items (Answers X)
    items (Atom name) = items_of_atom name
    items (Pair first second) = with_item (at (reader first)) (items second)
    items is = NoSequence

    pub labelled : Fields → Labelled X
    labelled NoField label field answer = absent field answer
    labelled (Field name is rest) label field answer =
        chosen (bytes_eq name label) (at (reader is) field.type answer)
        (labelled rest label field answer)

    -- A function maps one type into another where each of its pairs does: its argument is outside
    -- the one, or its result in the other. A pair that fails has no result
    pub mapping : Pairs → Mapping X
    mapping NoPair argument result answer = answer ≡ true
    mapping (Maps from to rest) argument result true =
        (at (reader from) argument false ⊎ at (reader to) result true)
        × mapping rest argument result true
    mapping (Maps from to rest) argument result false =
        (at (reader from) argument true × at (reader to) result false)
        ⊎ mapping rest argument result false
    mapping (Fails from rest) argument result true = at (reader from) argument false
        × mapping rest argument result true
    mapping (Fails from rest) argument result false = at (reader from) argument true
        ⊎ mapping rest argument result false

  abbrev pub answers : Thing → Answers X
  answers is = at (reader is)

-- a closure is no element
abbrev pub no_closure : {X : Type 0} → ℕ → Mapping X
no_closure function argument result answer = answer ≡ false

-- what an element answers, and whether a function element maps
abbrev pub element_answers : {X : Type 0} → Presentation X → Thing → Answers X
element_answers at = answers at no_closure

abbrev pub element_maps : {X : Type 0} → Presentation X → Pairs → Mapping X
element_maps at = mapping at no_closure

-- which function elements the interface of each function of a program admits: those that are in all
-- its arrows
abbrev pub Admits : Type 1
Admits = ℕ → Pairs → Type 0

-- a closure maps one type into another where each function element does that its interface admits
abbrev pub AllMap : {X : Type 0} → Presentation X → Admits → ℕ → (argument result : X) → Type 0
AllMap at admits function argument result = (pairs : Pairs) → IsElement (Function pairs)
    → admits function pairs → element_maps at pairs argument result true

abbrev pub closure_maps : {X : Type 0} → Presentation X → Admits → ℕ → Mapping X
closure_maps at admits function argument result true = AllMap at admits function argument result
closure_maps at admits function argument result false = AllMap at admits function argument result
    → ⊥

-- what a value answers
abbrev pub value_answers : {X : Type 0} → Presentation X → Admits → Thing → Answers X
value_answers at admits = answers at (closure_maps at admits)
