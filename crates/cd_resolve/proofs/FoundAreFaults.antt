-- Each fault that is found is one, and each link is true.
use Rattle.std.proofs.Common.{◌≡◌, ℕ, ◌<◌, ◌≤◌, ◌⊎◌, inl, inr, List, [], ◌∷◌, ◌++◌, length, Bool, true, false, Option}
use Rattle.std.proofs.Common.{Some, None, refl, sym, subst, arith}
use Rattle.std.specs.Prelude.{◌||◌}
use Rattle.std.specs.List.{slice_get as nth}
use Rattle.cd_syntax.specs.Name.{Name}
use Rattle.cd_syntax.specs.TypeTree.{Tree, tree, Kind, Builtin, Ints, Chars, Atom, Text, Tuple, Arrows, Union, Meet}
use Rattle.cd_syntax.specs.TypeTree.{Sequence, Record, Xml, Named, Where, Variable, Default, Trees, NoTree, ATree}
use Rattle.cd_syntax.specs.TypeTree.{Signs, NoSign, ASign, Fields, NoField, AField, Declarations, NoDeclaration}
use Rattle.cd_syntax.specs.TypeTree.{ADeclaration, Regular, regular, RegularKind, Nothing, Item, Seq, Alt, Repeat}
use Rattle.cd_syntax.specs.TypeTree.{Capture, Regulars, NoRegular, ARegular, Rest, Closed, Open, Typed}
use Rattle.cd_model.specs.Scope.{Scope, Declared}
use Rattle.cd_model.specs.Guarded.{IsOneOf, IsSigned, LeadsTo}
use Rattle.cd_model.specs.Guarded as guarded
use Rattle.cd_model.specs.Written.{kind_of}
use Rattle.cd_resolve.specs.declared.fault.NameFault.{NameFault}
use Rattle.cd_resolve.specs.declared.fault.NameFault.TheVariants.{Unknown, Twice}
use Rattle.cd_resolve.specs.Faults.{Fault, IsField, LabelAgain, IsItem, IsItemOfOne, IsDeclared, DeclaredAgain, IsFirst}
use Rattle.cd_resolve.specs.Faults.{IsPart, IsFault, IsFaultOfList}
use Rattle.cd_resolve.specs.Faults as fault
use Rattle.cd_resolve.specs.Inner.BuiltinNames.{is_among, is_builtin}
use Rattle.cd_resolve.specs.Inner.Finding.{ScopeLevels, innermost, Id, Link, DeclaredAt, State, reported, reported_if, entered, linked}
use Rattle.cd_resolve.specs.Inner.Finding.{met, declared_under, labelled, start_of, found_in, found_in_kind, found_in_trees}
use Rattle.cd_resolve.specs.Inner.Finding.{found_in_signs, found_in_fields, found_in_declared, found_in_regular}
use Rattle.cd_resolve.specs.Inner.Finding.{found_in_regular_kind, found_in_regulars, found_in_rest}
use Rattle.cd_resolve.proofs.InLists.{IsIn, in_front, in_last, in_more}
use Rattle.cd_resolve.proofs.Rich.{whole}
use Rattle.cd_resolve.proofs.FoundGrows.{Grows, same, then, if_grows, entered_grows, labelled_grows, walked_grows}
use Rattle.cd_resolve.proofs.FoundGrows.{fields_grow, declared_grows, regular_grows}
use Rattle.cd_resolve.proofs.WhatNamesMean.{scope_of, Fits, fits_on, IsNode, node_on, declared_at, declared_at_found}
use Rattle.cd_resolve.proofs.WhatNamesMean.{declared_at_none}
use Rattle.cd_resolve.proofs.Visits.{under, in_list, under_fits}
use Rattle.cd_resolve.proofs.Complete.{among_in, in_among, twice}
use Rattle.cd_resolve.proofs.BuiltIn.{is_built_in}
use Rattle.cd_resolve.proofs.Paths.{nth_more}

-- a link of two declared names, the one of which leads to the other
pub record IsTrueLink (outer : Scope) (lists : List ScopeLevels) (link : Link) : Type 0 where
  pub start_at : ℕ
  pub start_is : Tree
  pub start_levels : ScopeLevels
  pub start_node : IsNode lists link.start start_at start_is start_levels
  pub inside : length outer < length (scope_of start_levels)
  pub to_is : Tree
  pub to_levels : ScopeLevels
  pub to_node : IsNode lists link.to link.at to_is to_levels
  pub leads : LeadsTo outer (scope_of start_levels) (kind_of start_is) (declared_at link.to.name to_levels to_is)

link_on : (outer : Scope) (s t : State ScopeLevels) (link : Link) → Grows s t → IsTrueLink outer s.lists link
    → IsTrueLink outer t.lists link
link_on outer s t link grows is = record {
  start_at = is.start_at;
  start_is = is.start_is;
  start_levels = is.start_levels;
  start_node = node_on s t link.start is.start_at is.start_is is.start_levels grows is.start_node;
  inside = is.inside;
  to_is = is.to_is;
  to_levels = is.to_levels;
  to_node = node_on s t link.to link.at is.to_is is.to_levels grows is.to_node;
  leads = is.leads;
}

-- the declared name that leads to what is walked over, if one does
pub record Starts (outer : Scope) (lists : List ScopeLevels) (id : Id) (IsLed : Declared → Type 0) : Type 0 where
  pub at : ℕ
  pub is : Tree
  pub levels : ScopeLevels
  pub node : IsNode lists id at is levels
  pub inside : length outer < length (scope_of levels)
  pub on : (name : Declared) → IsLed name → LeadsTo outer (scope_of levels) (kind_of is) name

abbrev pub IsStart : Scope → List ScopeLevels → Option Id → (Declared → Type 0) → Type 0
IsStart outer lists None IsLed = Unit {0}
IsStart outer lists (Some id) IsLed = Starts outer lists id IsLed

start_on : (outer : Scope) (s t : State ScopeLevels) (start : Option Id) (IsLed IsLess : Declared → Type 0) → Grows s t
    → ((name : Declared) → IsLess name → IsLed name)
    → IsStart outer s.lists start IsLed → IsStart outer t.lists start IsLess
start_on outer s t None IsLed IsLess grows less is = tt
start_on outer s t (Some id) IsLed IsLess grows less is = record {
  at = is.at;
  is = is.is;
  levels = is.levels;
  node = node_on s t id is.at is.is is.levels grows is.node;
  inside = is.inside;
  on = λ name led. is.on name (less name led);
}

-- the faults and links so far, where the lists from this number on are of the whole
pub record IsSound (outer : Scope) (least : ℕ) (IsWhole : Fault → Type 0) (s : State ScopeLevels) : Type 0 where
  pub faults : (one : Fault) → IsIn one s.faults → IsWhole one
  pub lists : (n : ℕ) (levels : ScopeLevels) → least ≤ n → nth s.lists n ≡ Some levels → (one : Fault)
      → IsFaultOfList outer (scope_of levels) (innermost levels) one → IsWhole one
  pub links : (link : Link) → IsIn link s.links → IsTrueLink outer s.lists link

sound_reported : (outer : Scope) (least : ℕ) (IsWhole : Fault → Type 0) (kind : NameFault) (name : Name) (at : ℕ)
    (s : State ScopeLevels) → IsSound outer least IsWhole s
    → IsWhole (record { fault = kind; name = name; at = at }) → IsSound outer least IsWhole (reported kind name at s)
sound_reported outer least IsWhole kind name at s sound is = record {
  faults = λ one there. by one (in_more one (record { fault = kind; name = name; at = at }) s.faults there);
  lists = sound.lists;
  links = sound.links;
}
  where
    by : (one : Fault) → IsIn one s.faults ⊎ (one ≡ (record { fault = kind; name = name; at = at })) → IsWhole one
    by one (inl old) = sound.faults one old
    by one (inr new) = rw new is

sound_if : (outer : Scope) (least : ℕ) (IsWhole : Fault → Type 0) (b : Bool) (name : Name) (at : ℕ) (s : State ScopeLevels)
    → IsSound outer least IsWhole s
    → (b ≡ true → IsWhole (twice name at)) → IsSound outer least IsWhole (reported_if b name at s)
sound_if outer least IsWhole true name at s sound is = sound_reported outer least IsWhole Twice name at s sound (is refl)
sound_if outer least IsWhole false name at s sound is = sound

pub sound_entered : (outer : Scope) (least : ℕ) (IsWhole : Fault → Type 0) (levels : ScopeLevels) (s : State ScopeLevels)
    → IsSound outer least IsWhole s
    → ((one : Fault) → IsFaultOfList outer (scope_of levels) (innermost levels) one → IsWhole one)
    → IsSound outer least IsWhole (entered levels s)
sound_entered outer least IsWhole levels s sound is = record {
  faults = sound.faults;
  lists = λ n there late at. by n there late (nth_more s.lists levels there n at);
  links = λ link there. link_on outer s (entered levels s) link (entered_grows levels s) (sound.links link there);
}
  where
    by : (n : ℕ) (there : ScopeLevels) → least ≤ n → (nth s.lists n ≡ Some there) ⊎ ((n ≡ length s.lists) × (levels ≡ there))
        → (one : Fault) → IsFaultOfList outer (scope_of there) (innermost there) one → IsWhole one
    by n there late (inl old) = sound.lists n there late old
    by n there late (inr new) = rw (sym new.1) is

sound_linked : (outer : Scope) (least : ℕ) (IsWhole : Fault → Type 0) (start to : Id) (at : ℕ) (s : State ScopeLevels)
    → IsSound outer least IsWhole s
    → IsTrueLink outer s.lists (record { start = start; to = to; at = at })
    → IsSound outer least IsWhole (linked start to at s)
sound_linked outer least IsWhole start to at s sound is = record {
  faults = sound.faults;
  lists = sound.lists;
  links = λ link there. by link (in_more link (record { start = start; to = to; at = at }) s.links there);
}
  where
    by : (link : Link) → IsIn link s.links ⊎ (link ≡ (record { start = start; to = to; at = at }))
        → IsTrueLink outer s.lists link
    by link (inl old) = sound.links link old
    by link (inr new) = rw new is

-- a name that is met
sound_met : (outer : Scope) (least : ℕ) (IsWhole : Fault → Type 0) (levels : ScopeLevels) (start : Option Id) (name : Name)
    (at : ℕ) (place : Option DeclaredAt) (s : State ScopeLevels)
    → IsSound outer least IsWhole s → Fits s.lists levels → declared_under levels name ≡ place
    → IsStart outer s.lists start (LeadsTo outer (scope_of levels) (Named name))
    → (place ≡ None → IsWhole (record { fault = Unknown; name = name; at = at }))
    → IsSound outer least IsWhole (met start name at place s)
sound_met outer least IsWhole levels start name at None s sound fits here starts unknown =
    sound_reported outer least IsWhole Unknown name at s sound (unknown refl)
sound_met outer least IsWhole levels None name at (Some place) s sound fits here starts unknown = sound
sound_met outer least IsWhole levels (Some id) name at (Some place) s sound fits here starts unknown =
    let there = declared_at_found s.lists levels name place fits here in
    sound_linked outer least IsWhole id (record { list = place.list; name = name }) place.at s sound (record {
      start_at = starts.at;
      start_is = starts.is;
      start_levels = starts.levels;
      start_node = starts.node;
      inside = starts.inside;
      to_is = there.is;
      to_levels = there.levels_there;
      to_node = there.node;
      leads = starts.on (declared_at name there.levels_there there.is)
          (guarded.named outer (scope_of levels) name (declared_at name there.levels_there there.is) there.declared);
    })

-- the labels of a record, where those before are of it
pub record AreBefore (seen : List Name) (fields all : Fields) : Type 0 where
  pub again : (label : Name) (at : ℕ) (is : Tree) → IsIn label seen → IsField label at is fields
      → LabelAgain label at all
  pub inside : (label : Name) (at : ℕ) → LabelAgain label at fields → LabelAgain label at all

again_here : (other label : Name) (there at : ℕ) (optional : Bool) (one is : Tree) (rest : Fields) → other ≡ label
    → IsField other there one rest
    → LabelAgain other there (AField label at optional is rest)
again_here other label there at optional one is rest equal field = rw equal
    (fault.LabelAgain.here label there at optional one is rest (rw equal at field))

before_more : (seen : List Name) (label : Name) (at : ℕ) (optional : Bool) (is : Tree) (rest all : Fields)
    → AreBefore seen (AField label at optional is rest) all → AreBefore (seen ++ label ∷ []) rest all
before_more seen label at optional is rest all before = record {
  again = λ other there one is_in field. by other there one field (in_more other label seen is_in);
  inside = λ other there on. before.inside other there
      (fault.LabelAgain.later other label there at optional is rest on);
}
  where
    by : (other : Name) (there : ℕ) (one : Tree) → IsField other there one rest → IsIn other seen ⊎ (other ≡ label)
        → LabelAgain other there all
    by other there one field (inl old) = before.again other there one old
        (fault.IsField.later other label there at optional one is rest field)
    by other there one field (inr equal) = before.inside other there
        (again_here other label there at optional one is rest equal field)

sound_labelled : (outer : Scope) (least : ℕ) (IsWhole : Fault → Type 0) (seen : List Name) (fields all : Fields)
    (s : State ScopeLevels) → IsSound outer least IsWhole s
    → AreBefore seen fields all → ((label : Name) (at : ℕ) → LabelAgain label at all → IsWhole (twice label at))
    → IsSound outer least IsWhole (labelled seen fields s)
sound_labelled outer least IsWhole seen NoField all s sound before is = sound
sound_labelled outer least IsWhole seen (AField label at optional one rest) all s sound before is =
    sound_labelled outer least IsWhole (seen ++ label ∷ []) rest all (reported_if (is_among seen label) label at s)
    (sound_if outer least IsWhole (is_among seen label) label at s sound
    (λ among. is label at (before.again label at one (among_in seen label among) (fault.IsField.first label at
    optional one rest))))
    (before_more seen label at optional one rest all before) is

-- the declarations of a list, where those before are of it
pub record AreDeclaredBefore (seen : List Name) (declarations all : Declarations) : Type 0 where
  pub declared : (name : Name) (at : ℕ) (is : Tree) → IsDeclared name at is declarations → IsDeclared name at is all
  pub again : (name : Name) (at : ℕ) (is : Tree) → IsIn name seen → IsDeclared name at is declarations
      → DeclaredAgain name at all
  pub inside : (name : Name) (at : ℕ) → DeclaredAgain name at declarations → DeclaredAgain name at all
  pub first : (name : Name) (at : ℕ) (is : Tree) → (IsIn name seen → ⊥) → IsFirst name at is declarations
      → IsFirst name at is all

again_declared : (other name : Name) (there at : ℕ) (one is : Tree) (rest : Declarations) → other ≡ name
    → IsDeclared other there one rest
    → DeclaredAgain other there (ADeclaration name at is rest)
again_declared other name there at one is rest equal on = rw equal
    (fault.DeclaredAgain.here name there at one is rest (rw equal at on))

declared_more : (seen : List Name) (name : Name) (at : ℕ) (is : Tree) (rest all : Declarations)
    → AreDeclaredBefore seen (ADeclaration name at is rest) all → AreDeclaredBefore (seen ++ name ∷ []) rest all
declared_more seen name at is rest all before = record {
  declared = λ other there one on. before.declared other there one
      (fault.IsDeclared.later other name there at one is rest on);
  again = λ other there one is_in on. by other there one on (in_more other name seen is_in);
  inside = λ other there on. before.inside other there (fault.DeclaredAgain.later other name there at is rest on);
  first = λ other there one none on. before.first other there one (λ old. none (in_front_of other old))
      (fault.IsFirst.later other name there at one is rest (λ equal. none (rw equal (in_last name seen))) on);
}
  where
    in_front_of : (other : Name) → IsIn other seen → IsIn other (seen ++ name ∷ [])
    in_front_of other old = in_front other seen (name ∷ []) old

    by : (other : Name) (there : ℕ) (one : Tree) → IsDeclared other there one rest → IsIn other seen ⊎ (other ≡ name)
        → DeclaredAgain other there all
    by other there one on (inl old) = before.again other there one old
        (fault.IsDeclared.later other name there at one is rest on)
    by other there one on (inr equal) = before.inside other there
        (again_declared other name there at one is rest equal on)

pub all_declared : (declarations : Declarations) → AreDeclaredBefore [] declarations declarations
all_declared declarations = record {
  declared = λ name at is on. on;
  again = λ name at is nothing on. elim nothing [ ];
  inside = λ name at on. on;
  first = λ name at is none on. on;
}

or_either : (a b : Bool) → (a || b) ≡ true → (a ≡ true) ⊎ (b ≡ true)
or_either true b is = inl refl
or_either false b is = inr is

declared_fault : (outer : Scope) (scope : Scope) (seen : List Name) (name : Name) (at : ℕ) (is : Tree)
    (rest all : Declarations) → AreDeclaredBefore seen (ADeclaration name at is rest) all
    → (is_among seen name || is_builtin name) ≡ true → IsFaultOfList outer scope all (twice name at)
declared_fault outer scope seen name at is rest all before taken = by (or_either _ _ taken)
  where
    by : (is_among seen name ≡ true) ⊎ (is_builtin name ≡ true) → IsFaultOfList outer scope all (twice name at)
    by (inl among) = fault.IsFaultOfList.twice outer scope all name at
        (before.again name at is (among_in seen name among) (fault.IsDeclared.first name at is rest))
    by (inr builtin) =
        let there = is_built_in name builtin in
        fault.built_in outer scope all name at is there.0
        (before.declared name at is (fault.IsDeclared.first name at is rest)) there.1

not_both : (names : List Name) (name : Name) → is_among names name ≡ false → IsIn name names → ⊥
not_both names name none is = let some = in_among names name is in absurd cc

-- the tree of a declaration is led to from its name, where it is the first of its name
declared_start : (outer : Scope) (s : State ScopeLevels) (levels : ScopeLevels) (list : ℕ) (seen : List Name) (name : Name)
    (at : ℕ) (is : Tree) (rest : Declarations) (b : Bool)
    → is_among seen name ≡ b → AreDeclaredBefore seen (ADeclaration name at is rest) (innermost levels)
    → nth s.lists list ≡ Some levels → length outer < length (scope_of levels)
    → IsStart outer s.lists (start_of b list name) (LeadsTo outer (scope_of levels) (kind_of is))
declared_start outer s levels list seen name at is rest true among before listed inside = tt
declared_start outer s levels list seen name at is rest false among before listed inside = record {
  at = at;
  is = is;
  levels = levels;
  node = record {
    listed = listed;
    first = before.first name at is (λ is_in. not_both seen name among is_in)
        (fault.IsFirst.here name at is rest);
  };
  inside = inside;
  on = λ name led. led;
}

-- what a list of trees leads to
abbrev TreesLead : Scope → Scope → Trees → Declared → Type 0
TreesLead outer scope trees name = (is : Tree) × IsOneOf is trees × LeadsTo outer scope (kind_of is) name

abbrev SignsLead : Scope → Scope → Signs → Declared → Type 0
SignsLead outer scope signs name = (is : Tree) × IsSigned is signs × LeadsTo outer scope (kind_of is) name

-- nothing is led to under a constructor
nothing_led : (outer : Scope) (s : State ScopeLevels) (IsLed : Declared → Type 0) → IsStart outer s.lists None IsLed
nothing_led outer s IsLed = tt

mutual
  pub sound_walked : (outer : Scope) (least : ℕ) (IsWhole : Fault → Type 0) (levels : ScopeLevels) (start : Option Id)
      (is : Tree) (s : State ScopeLevels) → IsSound outer least IsWhole s
      → Fits s.lists levels → length outer ≤ length (scope_of levels)
      → IsStart outer s.lists start (LeadsTo outer (scope_of levels) (kind_of is))
      → ((one : Fault) → IsFault outer (scope_of levels) is one → IsWhole one)
      → IsSound outer least IsWhole (found_in whole levels start is s)
  sound_walked outer least IsWhole levels start (tree span kind) s sound fits long starts of_whole = sound_kind outer
      least IsWhole levels start span kind s sound fits long starts of_whole

  sound_kind : (outer : Scope) (least : ℕ) (IsWhole : Fault → Type 0) (levels : ScopeLevels) (start : Option Id) (span : _)
      (kind : Kind) (s : State ScopeLevels) → IsSound outer least IsWhole s
      → Fits s.lists levels → length outer ≤ length (scope_of levels)
      → IsStart outer s.lists start (LeadsTo outer (scope_of levels) kind)
      → ((one : Fault) → IsFault outer (scope_of levels) (tree span kind) one → IsWhole one)
      → IsSound outer least IsWhole (found_in_kind whole levels start span.from kind s)
  sound_kind outer least IsWhole levels start span (Tuple trees) s sound fits long starts of_whole =
      sound_trees outer least IsWhole levels None trees s sound fits long
      (nothing_led outer s (TreesLead outer (scope_of levels) trees))
      (λ is one_of one is_fault. of_whole one
      (fault.in_part outer (scope_of levels) (scope_of levels) span (Tuple trees)
      is one (fault.in_tuple (scope_of levels) is trees one_of) is_fault))
  sound_kind outer least IsWhole levels start span (Arrows trees) s sound fits long starts of_whole =
      sound_trees outer least IsWhole levels None trees s sound fits long
      (nothing_led outer s (TreesLead outer (scope_of levels) trees))
      (λ is one_of one is_fault. of_whole one
      (fault.in_part outer (scope_of levels) (scope_of levels) span (Arrows trees)
      is one (fault.in_arrows (scope_of levels) is trees one_of) is_fault))
  sound_kind outer least IsWhole levels start span (Union trees) s sound fits long starts of_whole =
      sound_trees outer least IsWhole levels start trees s sound fits long
      (start_on outer s s start (LeadsTo outer (scope_of levels) (Union trees))
      (TreesLead outer (scope_of levels) trees) (same s)
      (λ name led. guarded.in_union outer (scope_of levels) trees led.0 name led.1 led.2) starts)
      (λ is one_of one is_fault. of_whole one
      (fault.in_part outer (scope_of levels) (scope_of levels) span (Union trees)
      is one (fault.in_union (scope_of levels) is trees one_of) is_fault))
  sound_kind outer least IsWhole levels start span (Meet first signs) s sound fits long starts of_whole =
      let more = walked_grows levels start first s in
      sound_signs outer least IsWhole levels start signs (found_in whole levels start first s)
      (sound_walked outer least IsWhole levels start first s sound fits long
      (start_on outer s s start (LeadsTo outer (scope_of levels) (Meet first signs))
      (LeadsTo outer (scope_of levels) (kind_of first)) (same s)
      (λ name led. guarded.in_first outer (scope_of levels) first signs name led) starts)
      (λ one is_fault. of_whole one (fault.in_part outer (scope_of levels) (scope_of levels) span
      (Meet first signs) first one (fault.in_first (scope_of levels) first signs) is_fault)))
      (fits_on s _ levels more fits) long
      (start_on outer s (found_in whole levels start first s) start (LeadsTo outer (scope_of levels) (Meet first signs))
      (SignsLead outer (scope_of levels) signs) more
      (λ name led. guarded.in_signed outer (scope_of levels) first led.0 signs name led.1 led.2) starts)
      (λ is signed one is_fault. of_whole one (fault.in_part outer (scope_of levels) (scope_of levels) span (Meet first
      signs) is one (fault.in_signed (scope_of levels) first is signs signed) is_fault))
  sound_kind outer least IsWhole levels start span (Sequence all) s sound fits long starts of_whole =
      sound_regular outer least IsWhole levels all s sound fits long
      (λ is item one is_fault. of_whole one (fault.in_part outer (scope_of levels) (scope_of levels) span (Sequence all)
      is one (fault.in_sequence (scope_of levels) is all item) is_fault))
  sound_kind outer least IsWhole levels start span (Record fields rest) s sound fits long starts of_whole =
      let one_state = labelled [] fields s in
      let two_state = found_in_fields whole levels fields one_state in
      let to_one = labelled_grows [] fields s in
      let to_two = then s one_state two_state to_one (fields_grow levels fields one_state) in
      sound_rest outer least IsWhole levels rest two_state
      (sound_fields outer least IsWhole levels fields one_state
      (sound_labelled outer least IsWhole [] fields fields s sound
      (record { again = λ label at is nothing field. elim nothing [ ]; inside = λ label at on. on })
      (λ label at again. of_whole (twice label at) (fault.label_twice outer (scope_of levels) span fields rest label at
      again)))
      (fits_on s one_state levels to_one fits) long
      (λ label at is field one is_fault. of_whole one
      (fault.in_part outer (scope_of levels) (scope_of levels) span (Record fields rest) is one
      (fault.in_record (scope_of levels) label at is fields rest field) is_fault)))
      (fits_on s two_state levels to_two fits) long
      (λ is same one is_fault. of_whole one
      (fault.in_part outer (scope_of levels) (scope_of levels) span (Record fields rest) is one
      (subst (λ rest. IsPart (scope_of levels) (Record fields rest) (scope_of levels) is) (sym same)
      (fault.in_rest (scope_of levels) fields is)) is_fault))
  sound_kind outer least IsWhole levels start span (Xml tag attributes content) s sound fits long starts of_whole =
      let one_state = found_in whole levels None tag s in
      let two_state = found_in whole levels None attributes one_state in
      let to_one = walked_grows levels None tag s in
      let to_two = then s one_state two_state to_one (walked_grows levels None attributes one_state) in
      sound_walked outer least IsWhole levels None content two_state
      (sound_walked outer least IsWhole levels None attributes one_state
      (sound_walked outer least IsWhole levels None tag s sound fits long
      (nothing_led outer s (LeadsTo outer (scope_of levels) (kind_of tag)))
      (λ one is_fault. of_whole one (fault.in_part outer (scope_of levels) (scope_of levels) span (Xml tag attributes
      content) tag one (fault.in_tag (scope_of levels) tag attributes content) is_fault)))
      (fits_on s one_state levels to_one fits) long (nothing_led outer one_state
      (LeadsTo outer (scope_of levels) (kind_of attributes)))
      (λ one is_fault. of_whole one (fault.in_part outer (scope_of levels) (scope_of levels) span (Xml tag attributes
      content) attributes one (fault.in_attributes (scope_of levels) tag attributes content) is_fault)))
      (fits_on s two_state levels to_two fits) long (nothing_led outer two_state
      (LeadsTo outer (scope_of levels) (kind_of content)))
      (λ one is_fault. of_whole one (fault.in_part outer (scope_of levels) (scope_of levels) span (Xml tag attributes
      content) content one (fault.in_content (scope_of levels) tag attributes content) is_fault))
  sound_kind outer least IsWhole levels start span (Named name) s sound fits long starts of_whole =
      sound_met outer least IsWhole levels start name span.from (declared_under levels name) s sound fits refl starts
      (λ none. of_whole _ (fault.unknown outer (scope_of levels) span name (declared_at_none levels name none)))
  sound_kind outer least IsWhole levels start span (Where is declarations) s sound fits long starts of_whole =
      let there = under declarations levels s in
      let one_state = entered there s in
      let two_state = in_list declarations levels s in
      let to_one = entered_grows there s in
      let to_two = then s one_state two_state to_one
      (declared_grows there (length s.lists) [] declarations one_state) in
      let there_fits = under_fits declarations levels s fits in
      let long_too : length outer ≤ length (scope_of there) = omega arith in
      let inside : length outer < length (scope_of there) = omega arith in
      sound_walked outer least IsWhole there start is two_state
      (sound_declared outer least IsWhole there (length s.lists) [] declarations one_state
      (sound_entered outer least IsWhole there s sound
      (λ one is_fault. of_whole one (fault.in_where outer (scope_of levels) span is declarations one is_fault)))
      there_fits there_fits.0 inside (all_declared declarations)
      (λ one is_fault. of_whole one (fault.in_where outer (scope_of levels) span is declarations one is_fault)))
      (fits_on one_state two_state there (declared_grows there (length s.lists) [] declarations one_state) there_fits)
      long_too
      (start_on outer s two_state start (LeadsTo outer (scope_of levels) (Where is declarations))
      (LeadsTo outer (scope_of there) (kind_of is)) to_two
      (λ name led. guarded.under_where outer (scope_of levels) is declarations name led) starts)
      (λ one is_fault. of_whole one (fault.in_part outer (scope_of levels) (scope_of there) span (Where is declarations)
      is one (fault.under_where (scope_of levels) is declarations) is_fault))
  sound_kind outer least IsWhole levels start span (Builtin name) s sound fits long starts of_whole = sound
  sound_kind outer least IsWhole levels start span (Ints low high) s sound fits long starts of_whole = sound
  sound_kind outer least IsWhole levels start span (Chars low high) s sound fits long starts of_whole = sound
  sound_kind outer least IsWhole levels start span (Atom name) s sound fits long starts of_whole = sound
  sound_kind outer least IsWhole levels start span (Text text) s sound fits long starts of_whole = sound
  sound_kind outer least IsWhole levels start span (Variable name) s sound fits long starts of_whole = sound
  sound_kind outer least IsWhole levels start span (Default name constant) s sound fits long starts of_whole = sound

  sound_trees : (outer : Scope) (least : ℕ) (IsWhole : Fault → Type 0) (levels : ScopeLevels) (start : Option Id)
      (trees : Trees) (s : State ScopeLevels) → IsSound outer least IsWhole s
      → Fits s.lists levels → length outer ≤ length (scope_of levels)
      → IsStart outer s.lists start (TreesLead outer (scope_of levels) trees)
      → ((is : Tree) → IsOneOf is trees → (one : Fault) → IsFault outer (scope_of levels) is one → IsWhole one)
      → IsSound outer least IsWhole (found_in_trees whole levels start trees s)
  sound_trees outer least IsWhole levels start NoTree s sound fits long starts of_whole = sound
  sound_trees outer least IsWhole levels start (ATree first rest) s sound fits long starts of_whole =
      let next = found_in whole levels start first s in
      let more = walked_grows levels start first s in
      sound_trees outer least IsWhole levels start rest next
      (sound_walked outer least IsWhole levels start first s sound fits long
      (start_on outer s s start (TreesLead outer (scope_of levels) (ATree first rest))
      (LeadsTo outer (scope_of levels) (kind_of first)) (same s)
      (λ name led. (first, guarded.IsOneOf.first first rest, led)) starts)
      (of_whole first (guarded.IsOneOf.first first rest)))
      (fits_on s next levels more fits) long
      (start_on outer s next start (TreesLead outer (scope_of levels) (ATree first rest))
      (TreesLead outer (scope_of levels) rest) more
      (λ name led. (led.0, guarded.IsOneOf.later led.0 first rest led.1, led.2)) starts)
      (λ is one_of. of_whole is (guarded.IsOneOf.later is first rest one_of))

  sound_signs : (outer : Scope) (least : ℕ) (IsWhole : Fault → Type 0) (levels : ScopeLevels) (start : Option Id)
      (signs : Signs) (s : State ScopeLevels) → IsSound outer least IsWhole s
      → Fits s.lists levels → length outer ≤ length (scope_of levels)
      → IsStart outer s.lists start (SignsLead outer (scope_of levels) signs)
      → ((is : Tree) → IsSigned is signs → (one : Fault) → IsFault outer (scope_of levels) is one → IsWhole one)
      → IsSound outer least IsWhole (found_in_signs whole levels start signs s)
  sound_signs outer least IsWhole levels start NoSign s sound fits long starts of_whole = sound
  sound_signs outer least IsWhole levels start (ASign kept first rest) s sound fits long starts of_whole =
      let next = found_in whole levels start first s in
      let more = walked_grows levels start first s in
      sound_signs outer least IsWhole levels start rest next
      (sound_walked outer least IsWhole levels start first s sound fits long
      (start_on outer s s start (SignsLead outer (scope_of levels) (ASign kept first rest))
      (LeadsTo outer (scope_of levels) (kind_of first)) (same s)
      (λ name led. (first, guarded.IsSigned.first kept first rest, led)) starts)
      (of_whole first (guarded.IsSigned.first kept first rest)))
      (fits_on s next levels more fits) long
      (start_on outer s next start (SignsLead outer (scope_of levels) (ASign kept first rest))
      (SignsLead outer (scope_of levels) rest) more
      (λ name led. (led.0, guarded.IsSigned.later kept led.0 first rest led.1, led.2)) starts)
      (λ is signed. of_whole is (guarded.IsSigned.later kept is first rest signed))

  sound_fields : (outer : Scope) (least : ℕ) (IsWhole : Fault → Type 0) (levels : ScopeLevels) (fields : Fields)
      (s : State ScopeLevels) → IsSound outer least IsWhole s
      → Fits s.lists levels → length outer ≤ length (scope_of levels)
      → ((label : Name) (at : ℕ) (is : Tree) → IsField label at is fields → (one : Fault) → IsFault outer
      (scope_of levels) is one → IsWhole one) → IsSound outer least IsWhole (found_in_fields whole levels fields s)
  sound_fields outer least IsWhole levels NoField s sound fits long of_whole = sound
  sound_fields outer least IsWhole levels (AField label at optional first rest) s sound fits long of_whole =
      let next = found_in whole levels None first s in
      sound_fields outer least IsWhole levels rest next
      (sound_walked outer least IsWhole levels None first s sound fits long
      (nothing_led outer s (LeadsTo outer (scope_of levels) (kind_of first)))
      (of_whole label at first (fault.IsField.first label at optional first rest)))
      (fits_on s next levels (walked_grows levels None first s) fits) long
      (λ other there is field. of_whole other there is
      (fault.IsField.later other label there at optional is first rest field))

  sound_rest : (outer : Scope) (least : ℕ) (IsWhole : Fault → Type 0) (levels : ScopeLevels) (rest : Rest)
      (s : State ScopeLevels) → IsSound outer least IsWhole s
      → Fits s.lists levels → length outer ≤ length (scope_of levels)
      → ((is : Tree) → rest ≡ Typed is → (one : Fault) → IsFault outer (scope_of levels) is one → IsWhole one)
      → IsSound outer least IsWhole (found_in_rest whole levels rest s)
  sound_rest outer least IsWhole levels Closed s sound fits long of_whole = sound
  sound_rest outer least IsWhole levels Open s sound fits long of_whole = sound
  sound_rest outer least IsWhole levels (Typed is) s sound fits long of_whole =
      sound_walked outer least IsWhole levels None is s sound fits long
      (nothing_led outer s (LeadsTo outer (scope_of levels) (kind_of is))) (of_whole is refl)

  pub sound_declared : (outer : Scope) (least : ℕ) (IsWhole : Fault → Type 0) (levels : ScopeLevels) (list : ℕ)
      (seen : List Name) (declarations : Declarations) (s : State ScopeLevels) → IsSound outer least IsWhole s
      → Fits s.lists levels → nth s.lists list ≡ Some levels → length outer < length (scope_of levels)
      → AreDeclaredBefore seen declarations (innermost levels)
      → ((one : Fault) → IsFaultOfList outer (scope_of levels) (innermost levels) one → IsWhole one)
      → IsSound outer least IsWhole (found_in_declared whole levels list seen declarations s)
  sound_declared outer least IsWhole levels list seen NoDeclaration s sound fits listed inside before of_whole = sound
  sound_declared outer least IsWhole levels list seen (ADeclaration name at is rest) s sound fits listed inside before
      of_whole =
      let taken = is_among seen name || is_builtin name in
      let one_state = reported_if taken name at s in
      let start = start_of (is_among seen name) list name in
      let two_state = found_in whole levels start is one_state in
      let to_one = if_grows taken name at s in
      let to_two = then s one_state two_state to_one (walked_grows levels start is one_state) in
      let long : length outer ≤ length (scope_of levels) = omega arith in
      sound_declared outer least IsWhole levels list (seen ++ name ∷ []) rest two_state
      (sound_walked outer least IsWhole levels start is one_state
      (sound_if outer least IsWhole taken name at s sound
      (λ is_taken. of_whole (twice name at) (declared_fault outer (scope_of levels) seen name at is rest (innermost
      levels) before is_taken)))
      (fits_on s one_state levels to_one fits) long
      (declared_start outer one_state levels list seen name at is rest (is_among seen name) refl before
      (to_one.lists list levels listed) inside)
      (λ one is_fault. of_whole one (fault.in_declared outer (scope_of levels) (innermost levels) name at is one
      (before.declared name at is (fault.IsDeclared.first name at is rest)) is_fault)))
      (fits_on s two_state levels to_two fits) (to_two.lists list levels listed) inside
      (declared_more seen name at is rest (innermost levels) before) of_whole

  sound_regular : (outer : Scope) (least : ℕ) (IsWhole : Fault → Type 0) (levels : ScopeLevels) (all : Regular)
      (s : State ScopeLevels) → IsSound outer least IsWhole s
      → Fits s.lists levels → length outer ≤ length (scope_of levels)
      → ((is : Tree) → IsItem is all → (one : Fault) → IsFault outer (scope_of levels) is one → IsWhole one)
      → IsSound outer least IsWhole (found_in_regular whole levels all s)
  sound_regular outer least IsWhole levels (regular span kind) s sound fits long of_whole =
      sound_regular_kind outer least IsWhole levels span kind s sound fits long of_whole

  sound_regular_kind : (outer : Scope) (least : ℕ) (IsWhole : Fault → Type 0) (levels : ScopeLevels) (span : _)
      (kind : RegularKind) (s : State ScopeLevels) → IsSound outer least IsWhole s
      → Fits s.lists levels → length outer ≤ length (scope_of levels)
      → ((is : Tree) → IsItem is (regular span kind) → (one : Fault) → IsFault outer (scope_of levels) is one → IsWhole
      one) → IsSound outer least IsWhole (found_in_regular_kind whole levels kind s)
  sound_regular_kind outer least IsWhole levels span Nothing s sound fits long of_whole = sound
  sound_regular_kind outer least IsWhole levels span (Item is) s sound fits long of_whole =
      sound_walked outer least IsWhole levels None is s sound fits long
      (nothing_led outer s (LeadsTo outer (scope_of levels) (kind_of is))) (of_whole is (fault.IsItem.item span is))
  sound_regular_kind outer least IsWhole levels span (Seq all) s sound fits long of_whole =
      sound_regulars outer least IsWhole levels all s sound fits long
      (λ is on. of_whole is (fault.IsItem.in_seq span is all on))
  sound_regular_kind outer least IsWhole levels span (Alt all) s sound fits long of_whole =
      sound_regulars outer least IsWhole levels all s sound fits long
      (λ is on. of_whole is (fault.IsItem.in_alt span is all on))
  sound_regular_kind outer least IsWhole levels span (Repeat all post) s sound fits long of_whole =
      sound_regular outer least IsWhole levels all s sound fits long
      (λ is on. of_whole is (fault.IsItem.repeated span is all post on))
  sound_regular_kind outer least IsWhole levels span (Capture name all) s sound fits long of_whole =
      sound_regular outer least IsWhole levels all s sound fits long
      (λ is on. of_whole is (fault.IsItem.captured span is name all on))

  sound_regulars : (outer : Scope) (least : ℕ) (IsWhole : Fault → Type 0) (levels : ScopeLevels) (all : Regulars)
      (s : State ScopeLevels) → IsSound outer least IsWhole s
      → Fits s.lists levels → length outer ≤ length (scope_of levels)
      → ((is : Tree) → IsItemOfOne is all → (one : Fault) → IsFault outer (scope_of levels) is one → IsWhole one)
      → IsSound outer least IsWhole (found_in_regulars whole levels all s)
  sound_regulars outer least IsWhole levels NoRegular s sound fits long of_whole = sound
  sound_regulars outer least IsWhole levels (ARegular first rest) s sound fits long of_whole =
      let next = found_in_regular whole levels first s in
      sound_regulars outer least IsWhole levels rest next
      (sound_regular outer least IsWhole levels first s sound fits long
      (λ is on. of_whole is (fault.IsItemOfOne.first is first rest on)))
      (fits_on s next levels (regular_grows levels first s) fits) long
      (λ is on. of_whole is (fault.IsItemOfOne.later is first rest on))
