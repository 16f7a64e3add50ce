-- Each fault of a tree is found, but those of names that lead back to themselves, whose lists are entered.
use Rattle.std.proofs.Common.{◌≡◌, ◌≢◌, ℕ, ◌≤◌, ◌⊎◌, inl, inr, List, [], ◌∷◌, ◌++◌, length, Bool, true, false, Option}
use Rattle.std.proofs.Common.{Some, None, refl, sym, ap, ◌∙◌}
use Rattle.std.specs.Prelude.{◌||◌, bytes_eq}
use Rattle.std.specs.List.{slice_get as nth}
use Rattle.std.proofs.lemmas.Bool.{cases_Bool}
use Rattle.std.proofs.lemmas.Slice.Eq.{bytes_eq-Decides}
use Rattle.cd_syntax.specs.Name.{Name}
use Rattle.cd_syntax.specs.TypeTree.{Tree, tree, Fields, Declarations}
use Rattle.cd_syntax.specs.BuiltIn.{IsBuiltin}
use Rattle.cd_syntax.specs.BuiltIn as grammar
use Rattle.cd_model.specs.Scope.{Scope, declared_as}
use Rattle.cd_model.specs.Guarded.{LeadsTo}
use Rattle.cd_model.specs.Written.{kind_of}
use Rattle.cd_resolve.specs.declared.fault.NameFault.TheVariants.{Unknown, Twice, Unguarded}
use Rattle.cd_resolve.specs.Faults.{Fault, IsField, LabelAgain, IsDeclared, DeclaredAgain, IsFirst, IsFault}
use Rattle.cd_resolve.specs.Faults.{IsFaultOfList}
use Rattle.cd_resolve.specs.Faults as fault
use Rattle.cd_tables.specs.Rows.{row_of}
use Rattle.cd_resolve.specs.Inner.BuiltinNames.{is_among, is_builtin}
use Rattle.cd_resolve.specs.Inner.Finding.{ScopeLevels, innermost, Id, DeclaredAt, State, reported_if, entered, met, declared_under}
use Rattle.cd_resolve.specs.Inner.Finding.{labelled, start_of, found_in, found_in_fields, found_in_declared}
use Rattle.cd_resolve.proofs.InLists.{IsIn, in_front, in_last, in_more}
use Rattle.cd_resolve.proofs.Rich.{whole}
use Rattle.cd_resolve.proofs.FoundGrows.{Grows, then, if_grows, labelled_grows, walked_grows, fields_grow}
use Rattle.cd_resolve.proofs.FoundGrows.{rest_grows, declared_grows}
use Rattle.cd_resolve.proofs.WhatNamesMean.{scope_of, Fits, fits_on, IsNode, declared_at, declared_at_found}
use Rattle.cd_resolve.proofs.Visits.{Visited, ListVisited, kind_visited, later_late, visits_part, visits_list, under}
use Rattle.cd_resolve.proofs.Visits.{in_list, under_fits}

-- names among others
pub among_in : (names : List Name) (name : Name) → is_among names name ≡ true → IsIn name names
among_in [] name is = absurd cc
among_in (first ∷ rest) name is = by (bytes_eq name first) refl (among_in rest name)
  where
    by : (b : Bool) → bytes_eq name first ≡ b → (is_among rest name ≡ true → IsIn name rest) → IsIn name (first ∷ rest)
    by true same on = inl ((bytes_eq-Decides name first).0 same)
    by false other on = inr (on (rw other at is))

pub in_among : (names : List Name) (name : Name) → IsIn name names → is_among names name ≡ true
in_among [] name is = elim is [ ]
in_among (first ∷ rest) name (inl same) = rw ((bytes_eq-Decides name first).1 same) refl
in_among (first ∷ rest) name (inr on) = by (bytes_eq name first) (in_among rest name on)
  where
    by : (b : Bool) → is_among rest name ≡ true → (b || is_among rest name) ≡ true
    by true held = refl
    by false held = held

pub not_among : (names : List Name) (name : Name) → (IsIn name names → ⊥) → is_among names name ≡ false
not_among names name none = by (cases_Bool (is_among names name))
  where
    by : (is_among names name ≡ true) ⊎ (is_among names name ≡ false) → is_among names name ≡ false
    by (inl is) = absurd (none (among_in names name is))
    by (inr is) = is

or_left : (a b : Bool) → a ≡ true → (a || b) ≡ true
or_left a b is = rw is refl

or_right : (a b : Bool) → b ≡ true → (a || b) ≡ true
or_right true b is = refl
or_right false b is = is

pub builtin_is : (name : Name) (is : _) → IsBuiltin name is → is_builtin name ≡ true
unfolding is_builtin row_of
builtin_is _ _ grammar.any = refl
builtin_is _ _ grammar.any_name = refl
builtin_is _ _ grammar.empty = refl
builtin_is _ _ grammar.int = refl
builtin_is _ _ grammar.char = refl
builtin_is _ _ grammar.byte = refl
builtin_is _ _ grammar.IsBuiltin.atom = refl
builtin_is _ _ grammar.bool = refl
builtin_is _ _ grammar.string = refl
builtin_is _ _ grammar.IsBuiltin.arrow = refl
builtin_is _ _ grammar.pair = refl
builtin_is _ _ grammar.IsBuiltin.record_type = refl
builtin_is _ _ grammar.any_xml = refl
builtin_is _ _ grammar.data_type = refl

-- a fault of a label or name that stands twice
abbrev pub twice : Name → ℕ → Fault
twice name at = record { fault = Twice; name = name; at = at }

reported_once : (b : Bool) (name : Name) (at : ℕ) (s : State ScopeLevels) → b ≡ true
    → IsIn (twice name at) (reported_if b name at s).faults
reported_once true name at s is = in_last (twice name at) s.faults
reported_once false name at s is = absurd cc

-- a label that is among those before is reported
label_reported : (label : Name) (at : ℕ) (is : Tree) (fields : Fields) (seen : List Name) (s : State ScopeLevels)
    → IsField label at is fields → IsIn label seen
    → IsIn (twice label at) (labelled seen fields s).faults
label_reported label at is _ seen s (fault.IsField.first _ _ optional _ rest) before =
    (labelled_grows (seen ++ label ∷ []) rest (reported_if (is_among seen label) label at s)).faults (twice label at)
    (reported_once (is_among seen label) label at s (in_among seen label before))
label_reported label at is _ seen s (fault.IsField.later _ other _ there optional _ another rest on) before =
    label_reported label at is rest (seen ++ other ∷ []) (reported_if (is_among seen other) other there s) on
    (in_front label seen (other ∷ []) before)

pub again_reported : (label : Name) (at : ℕ) (fields : Fields) (seen : List Name) (s : State ScopeLevels)
    → LabelAgain label at fields
    → IsIn (twice label at) (labelled seen fields s).faults
again_reported label at _ seen s (fault.LabelAgain.here _ _ there optional is other rest on) =
    label_reported label at is rest (seen ++ label ∷ []) (reported_if (is_among seen label) label there s) on
    (in_last label seen)
again_reported label at _ seen s (fault.LabelAgain.later _ other _ there optional is rest on) =
    again_reported label at rest (seen ++ other ∷ []) (reported_if (is_among seen other) other there s) on

-- a name that is declared again, or is built in, is reported
abbrev IsTaken : List Name → Name → Type 0
IsTaken seen name = IsIn name seen ⊎ (is_builtin name ≡ true)

taken_is : (seen : List Name) (name : Name) → IsTaken seen name → (is_among seen name || is_builtin name) ≡ true
taken_is seen name (inl before) = or_left _ _ (in_among seen name before)
taken_is seen name (inr builtin) = or_right _ _ builtin

taken_on : (seen : List Name) (name other : Name) → IsTaken seen name → IsTaken (seen ++ other ∷ []) name
taken_on seen name other (inl before) = inl (in_front name seen (other ∷ []) before)
taken_on seen name other (inr builtin) = inr builtin

pub taken_reported : (levels : ScopeLevels) (list : ℕ) (name : Name) (at : ℕ) (is : Tree) (declarations : Declarations)
    (seen : List Name) (s : State ScopeLevels) → IsDeclared name at is declarations
    → IsTaken seen name → IsIn (twice name at) (found_in_declared whole levels list seen declarations s).faults
taken_reported levels list name at is _ seen s (fault.IsDeclared.first _ _ _ rest) taken =
    let one = reported_if (is_among seen name || is_builtin name) name at s in
    let two = found_in whole levels (start_of (is_among seen name) list name) is one in
    (then one two _ (walked_grows levels (start_of (is_among seen name) list name) is one)
    (declared_grows levels list (seen ++ name ∷ []) rest two)).faults
    (twice name at) (reported_once (is_among seen name || is_builtin name) name at s (taken_is seen name taken))
taken_reported levels list name at is _ seen s (fault.IsDeclared.later _ other _ there _ another rest on) taken =
    taken_reported levels list name at is rest (seen ++ other ∷ []) _ on (taken_on seen name other taken)

pub declared_reported : (levels : ScopeLevels) (list : ℕ) (name : Name) (at : ℕ) (declarations : Declarations) (seen : List Name)
    (s : State ScopeLevels) → DeclaredAgain name at declarations
    → IsIn (twice name at) (found_in_declared whole levels list seen declarations s).faults
declared_reported levels list name at _ seen s (fault.DeclaredAgain.here _ _ there is other rest on) =
    taken_reported levels list name at is rest (seen ++ name ∷ []) _ on (inl (in_last name seen))
declared_reported levels list name at _ seen s (fault.DeclaredAgain.later _ other _ there is rest on) =
    declared_reported levels list name at rest (seen ++ other ∷ []) _ on

-- the tree of a declaration is walked over
pub visits_declared : (least : ℕ) (levels : ScopeLevels) (list : ℕ) (name : Name) (at : ℕ) (is : Tree)
    (declarations : Declarations) (seen : List Name) (s t : State ScopeLevels)
    → IsDeclared name at is declarations → Fits s.lists levels → least ≤ length s.lists
    → Grows (found_in_declared whole levels list seen declarations s) t
    → (start : Option Id) × Visited least start levels is t
visits_declared least levels list name at is _ seen s t (fault.IsDeclared.first _ _ _ rest) fits late grows =
    let one = reported_if (is_among seen name || is_builtin name) name at s in
    let more = if_grows (is_among seen name || is_builtin name) name at s in
    let two = found_in whole levels (start_of (is_among seen name) list name) is one in (
      start_of (is_among seen name) list name,
      record {
        before = one;
        fits = fits_on s one levels more fits;
        late = later_late least s one more late;
        grows = then two _ t (declared_grows levels list (seen ++ name ∷ []) rest two) grows;
      },
    )
visits_declared least levels list name at is _ seen s t (fault.IsDeclared.later _ other _ there _ another rest on) fits
    late grows =
    let one = reported_if (is_among seen other || is_builtin other) other there s in
    let two = found_in whole levels (start_of (is_among seen other) list other) another one in
    let more = then s one two (if_grows (is_among seen other || is_builtin other) other there s)
    (walked_grows levels (start_of (is_among seen other) list other) another one) in
    visits_declared least levels list name at is rest (seen ++ other ∷ []) two t on (fits_on s two levels more fits)
    (later_late least s two more late) grows

-- and that of the first declaration of a name from that name
not_in_more : (seen : List Name) (name other : Name) → name ≢ other → (IsIn name seen → ⊥)
    → IsIn name (seen ++ other ∷ []) → ⊥
not_in_more seen name other differ none is = by (in_more name other seen is)
  where
    by : IsIn name seen ⊎ (name ≡ other) → ⊥
    by (inl before) = none before
    by (inr equal) = differ equal

pub visits_first : (least : ℕ) (levels : ScopeLevels) (list : ℕ) (name : Name) (at : ℕ) (is : Tree)
    (declarations : Declarations) (seen : List Name) (s t : State ScopeLevels)
    → IsFirst name at is declarations → (IsIn name seen → ⊥) → Fits s.lists levels → least ≤ length s.lists
    → Grows (found_in_declared whole levels list seen declarations s) t
    → Visited least (Some (record { list = list; name = name })) levels is t
visits_first least levels list name at is _ seen s t (fault.IsFirst.here _ _ _ rest) none fits late grows =
    let new = not_among seen name none in
    let one = reported_if (is_among seen name || is_builtin name) name at s in
    let more = if_grows (is_among seen name || is_builtin name) name at s in
    let two = found_in whole levels (start_of (is_among seen name) list name) is one in
    rw (ap (λ b. start_of b list name) new) at (let visited : Visited least (start_of (is_among seen name) list name)
    levels is t = record {
      before = one;
      fits = fits_on s one levels more fits;
      late = later_late least s one more late;
      grows = then two _ t (declared_grows levels list (seen ++ name ∷ []) rest two) grows;
    } in visited)
visits_first least levels list name at is _ seen s t (fault.IsFirst.later _ other _ there _ another rest differ on) none
    fits late grows =
    let one = reported_if (is_among seen other || is_builtin other) other there s in
    let two = found_in whole levels (start_of (is_among seen other) list other) another one in
    let more = then s one two (if_grows (is_among seen other || is_builtin other) other there s)
    (walked_grows levels (start_of (is_among seen other) list other) another one) in
    visits_first least levels list name at is rest (seen ++ other ∷ []) two t on
    (not_in_more seen name other differ none)
    (fits_on s two levels more fits) (later_late least s two more late) grows

-- a name of a list that leads back to itself
pub record Loop (outer : Scope) (least : ℕ) (lists : List ScopeLevels) (fault : Fault) : Type 0 where
  pub list : ℕ
  pub late : least ≤ list
  pub levels : ScopeLevels
  pub is : Tree
  pub node : IsNode lists (record { list = list; name = fault.name }) fault.at is levels
  pub leads : LeadsTo outer (scope_of levels) (kind_of is) (declared_at fault.name levels is)
  pub unguarded : fault.fault ≡ Unguarded

abbrev pub Outcome : Scope → ℕ → State ScopeLevels → Fault → Type 0
Outcome outer least t fault = IsIn fault t.faults ⊎ Loop outer least t.lists fault

some_not : {A : Type 0} → (a : A) (found : Option A) → found ≡ Some a → found ≡ None → ⊥
some_not a found is none = absurd cc

unknown_reported : (levels : ScopeLevels) (start : Option Id) (name : Name) (at : ℕ) (s : State ScopeLevels) → Fits s.lists levels
    → declared_as (scope_of levels) name ≡ None
    → IsIn (record { fault = Unknown; name = name; at = at }) (met start name at (declared_under levels name) s).faults
unknown_reported levels start name at s fits none = by (declared_under levels name) refl
  where
    by : (place : Option DeclaredAt) → declared_under levels name ≡ place
        → IsIn (record { fault = Unknown; name = name; at = at }) (met start name at place s).faults
    by None is = in_last (let reported : Fault = record { fault = Unknown; name = name; at = at } in reported) s.faults
    by (Some place) is = let found = declared_at_found s.lists levels name place fits is in absurd
        (some_not _ _ found.declared none)

mutual
  pub complete : (outer : Scope) (least : ℕ) (start : Option Id) (levels : ScopeLevels) (scope : Scope) (is : Tree)
      (one : Fault) (t : State ScopeLevels) → scope ≡ scope_of levels
      → IsFault outer scope is one → Visited least start levels is t → Outcome outer least t one
  complete _ least start levels _ _ _ t same_scope (fault.unknown outer scope span name none) visited =
      inl (visited.grows.faults _ (unknown_reported levels start name span.from visited.before visited.fits (ap (λ scope.
      declared_as scope name) (sym same_scope) ∙ none)))
  complete _ least start levels _ _ _ t same_scope (fault.label_twice outer scope span fields rest label at again)
      visited =
      let labels = labelled [] fields visited.before in
      let more = then labels _ _ (fields_grow levels fields labels)
      (rest_grows levels rest (found_in_fields whole levels fields labels)) in
      inl ((then labels _ _ more visited.grows).faults
      (twice label at) (again_reported label at fields [] visited.before again))
  complete _ least start levels _ _ _ t same_scope (fault.in_part outer scope inner span kind part one is_part is_fault)
      visited =
      let there = visits_part least start levels scope inner kind part t same_scope is_part
      (kind_visited least start levels (tree span kind) t visited) in
      complete outer least there.start there.levels inner part one t there.scope is_fault there.visited
  complete _ least start levels _ _ _ t same_scope (fault.in_where outer scope span is declarations one is_fault)
      visited =
      let on = walked_grows (under declarations levels visited.before) start is
      (in_list declarations levels visited.before) in
      let there = visits_list least levels declarations visited.before t visited.fits visited.late
      (then _ _ _ on visited.grows) in
      complete_list outer least (length visited.before.lists) (under declarations levels visited.before) _ declarations
      one t (ap (λ outer. declarations ∷ outer) same_scope) refl visited.late
      (fits_on _ _ (under declarations levels visited.before)
      (then _ _ _ (declared_grows (under declarations levels visited.before) (length visited.before.lists) []
      declarations (entered (under declarations levels visited.before) visited.before)) (then _ _ _ on
      visited.grows)) (under_fits declarations levels visited.before visited.fits)).0
      is_fault there

  pub complete_list : (outer : Scope) (least list : ℕ) (levels : ScopeLevels) (scope : Scope) (declarations : Declarations)
      (one : Fault) (t : State ScopeLevels) → scope ≡ scope_of levels
      → declarations ≡ innermost levels → least ≤ list → nth t.lists list ≡ Some levels
      → IsFaultOfList outer scope declarations one → ListVisited least list levels t → Outcome outer least t one
  complete_list _ least list levels _ _ _ t same_scope same_list late listed
      (fault.IsFaultOfList.twice outer scope declarations name at again) visited =
      inl (visited.grows.faults (twice name at) (rw same_list at (declared_reported levels list name at declarations []
      visited.before again)))
  complete_list _ least list levels _ _ _ t same_scope same_list late listed
      (fault.built_in outer scope declarations name at is type declared builtin) visited =
      inl (visited.grows.faults (twice name at) (rw same_list at (taken_reported levels list name at is declarations []
      visited.before declared (inr (builtin_is name type builtin)))))
  complete_list _ least list levels _ _ _ t same_scope same_list late listed
      (fault.unguarded outer scope declarations name at is first leads) visited =
      inr (record {
        list = list;
        late = late;
        levels = levels;
        is = is;
        node = record { listed = listed; first = rw same_list at first };
        leads = rw same_scope at leads;
        unguarded = refl;
      })
  complete_list _ least list levels _ _ _ t same_scope same_list late listed
      (fault.in_declared outer scope declarations name at is one declared is_fault) visited =
      let there = visits_declared least levels list name at is declarations [] visited.before t declared visited.fits
      visited.late (rw same_list visited.grows) in
      complete outer least there.0 levels scope is one t same_scope is_fault there.1
