-- Each list that is entered is walked over, so what a declared name leads to is led to by links.
use Rattle.std.proofs.Common.{◌≡◌, ℕ, zero, suc, ◌<◌, ◌≤◌, ◌⊎◌, inl, inr, List, [], ◌∷◌, ◌++◌, length, Bool, true}
use Rattle.std.proofs.Common.{false, Option, Some, None, refl, sym, ap, ◌∙◌}
use Rattle.std.specs.Prelude.{◌||◌}
use Rattle.std.specs.List.{slice_get as nth}
use Rattle.std.proofs.lemmas.Option.{same_Some}
use Rattle.cd_syntax.specs.Name.{Name}
use Rattle.cd_syntax.specs.TypeTree.{Tree, tree, Kind, Builtin, Ints, Chars, Atom, Text, Tuple, Arrows, Union, Meet}
use Rattle.cd_syntax.specs.TypeTree.{Sequence, Record, Xml, Named, Where, Variable, Default, Trees, NoTree, ATree}
use Rattle.cd_syntax.specs.TypeTree.{Signs, NoSign, ASign, Fields, NoField, AField, Declarations, NoDeclaration}
use Rattle.cd_syntax.specs.TypeTree.{ADeclaration, Regular, regular, RegularKind, Nothing, Item, Seq, Alt, Repeat}
use Rattle.cd_syntax.specs.TypeTree.{Capture, Regulars, NoRegular, ARegular, Rest, Closed, Open, Typed}
use Rattle.cd_model.specs.Scope.{Scope, Declared, declared_as}
use Rattle.cd_model.specs.Guarded.{LeadsTo}
use Rattle.cd_model.specs.Guarded as guarded
use Rattle.cd_model.specs.Written.{kind_of}
use Rattle.cd_resolve.specs.Inner.BuiltinNames.{is_among, is_builtin}
use Rattle.cd_resolve.specs.Inner.Finding.{ScopeLevels, innermost, Id, Link, DeclaredAt, State, reported_if, entered, met, declared_under}
use Rattle.cd_resolve.specs.Inner.Finding.{labelled, start_of, found_in, found_in_kind, found_in_trees, found_in_signs}
use Rattle.cd_resolve.specs.Inner.Finding.{found_in_fields, found_in_declared, found_in_regular, found_in_regular_kind}
use Rattle.cd_resolve.specs.Inner.Finding.{found_in_regulars, found_in_rest}
use Rattle.cd_resolve.proofs.InLists.{IsIn, in_last}
use Rattle.cd_resolve.proofs.Rich.{whole}
use Rattle.cd_resolve.proofs.FoundGrows.{Grows, then, if_grows, entered_grows, met_grows, labelled_grows}
use Rattle.cd_resolve.proofs.FoundGrows.{walked_grows, trees_grow, signs_grow, fields_grow, declared_grows}
use Rattle.cd_resolve.proofs.FoundGrows.{rest_grows, regular_grows, regulars_grow}
use Rattle.cd_resolve.proofs.WhatNamesMean.{scope_of, Fits, fits_on, IsNode, node_on, declared_at, IsFound, declared_at_found}
use Rattle.cd_resolve.proofs.WhatNamesMean.{declared_at_none}
use Rattle.cd_resolve.proofs.Visits.{VisitedKind, ListVisited, kind_visited, later_late, visits_tree, visits_trees}
use Rattle.cd_resolve.proofs.Visits.{visits_signs, visits_body, visits_list, under, in_list, under_fits}
use Rattle.cd_resolve.proofs.Complete.{visits_first}
use Rattle.cd_resolve.proofs.Reaching.{Leads, by_link, leads_on}

-- each list that is new from the one state to the other is walked over
pub record New (least : ℕ) (s u t : State ScopeLevels) : Type 0 where
  pub each : (n : ℕ) (levels : ScopeLevels) → nth u.lists n ≡ Some levels
      → (nth s.lists n ≡ Some levels) ⊎ ListVisited least n levels t

none_new : (least : ℕ) (s t : State ScopeLevels) → New least s s t
none_new least s t = record { each = λ n levels is. inl is }

pub new_then : (least : ℕ) (s u v t : State ScopeLevels) → New least s u t → New least u v t → New least s v t
new_then least s u v t first second = record { each = λ n levels is. by n levels (second.each n levels is) }
  where
    by : (n : ℕ) (levels : ScopeLevels) → (nth u.lists n ≡ Some levels) ⊎ ListVisited least n levels t
        → (nth s.lists n ≡ Some levels) ⊎ ListVisited least n levels t
    by n levels (inl old) = first.each n levels old
    by n levels (inr new) = inr new

new_if : (least : ℕ) (b : Bool) (name : Name) (at : ℕ) (s t : State ScopeLevels) → New least s (reported_if b name at s) t
new_if least true name at s t = record { each = λ n levels is. inl is }
new_if least false name at s t = record { each = λ n levels is. inl is }

new_met : (least : ℕ) (start : Option Id) (name : Name) (at : ℕ) (place : Option DeclaredAt) (s t : State ScopeLevels)
    → New least s (met start name at place s) t
new_met least start name at None s t = record { each = λ n levels is. inl is }
new_met least None name at (Some place) s t = record { each = λ n levels is. inl is }
new_met least (Some start) name at (Some place) s t = record { each = λ n levels is. inl is }

new_labelled : (least : ℕ) (seen : List Name) (fields : Fields) (s t : State ScopeLevels)
    → New least s (labelled seen fields s) t
new_labelled least seen NoField s t = none_new least s t
new_labelled least seen (AField label at optional is rest) s t =
    let one = reported_if (is_among seen label) label at s in
    new_then least s one _ t (new_if least (is_among seen label) label at s t)
    (new_labelled least (seen ++ label ∷ []) rest one t)

pub nth_more : {A : Type 0} → (xs : List A) (a b : A) (n : ℕ) → nth (xs ++ a ∷ []) n ≡ Some b
    → (nth xs n ≡ Some b) ⊎ ((n ≡ length xs) × (a ≡ b))
nth_more [] a b zero is = inr (refl, cc)
nth_more [] a b (suc n) is = absurd cc
nth_more (x ∷ xs) a b zero is = inl is
nth_more (x ∷ xs) a b (suc n) is = by (nth_more xs a b n is)
  where
    by : (nth xs n ≡ Some b) ⊎ ((n ≡ length xs) × (a ≡ b)) → (nth xs n ≡ Some b) ⊎ ((suc n ≡ suc (length xs)) × (a ≡ b))
    by (inl old) = inl old
    by (inr new) = inr (ap suc new.0, new.1)

pub new_entered : (least : ℕ) (declarations : Declarations) (levels : ScopeLevels) (s t : State ScopeLevels) → Fits s.lists levels
    → least ≤ length s.lists
    → Grows (in_list declarations levels s) t → New least s (entered (under declarations levels s) s) t
new_entered least declarations levels s t fits late grows = record
    { each = λ n there is. by n there (nth_more s.lists (under declarations levels s) there n is) }
  where
    by : (n : ℕ) (there : ScopeLevels) → (nth s.lists n ≡ Some there) ⊎
        ((n ≡ length s.lists) × (under declarations levels s ≡ there))
        → (nth s.lists n ≡ Some there) ⊎ ListVisited least n there t
    by n there (inl old) = inl old
    by n there (inr new) = inr (rw (new.0, sym new.1) (visits_list least levels declarations s t fits late grows))

mutual
  pub new_walked : (least : ℕ) (levels : ScopeLevels) (start : Option Id) (is : Tree) (s t : State ScopeLevels)
      → Fits s.lists levels → least ≤ length s.lists
      → Grows (found_in whole levels start is s) t → New least s (found_in whole levels start is s) t
  new_walked least levels start (tree span kind) s t fits late grows =
      new_kind least levels start span.from kind s t fits late grows

  new_kind : (least : ℕ) (levels : ScopeLevels) (start : Option Id) (at : ℕ) (kind : Kind) (s t : State ScopeLevels)
      → Fits s.lists levels → least ≤ length s.lists
      → Grows (found_in_kind whole levels start at kind s) t
      → New least s (found_in_kind whole levels start at kind s) t
  new_kind least levels start at (Tuple trees) s t fits late grows =
      new_trees least levels None trees s t fits late grows
  new_kind least levels start at (Arrows trees) s t fits late grows = new_trees least levels None trees s t fits late
      grows
  new_kind least levels start at (Union trees) s t fits late grows = new_trees least levels start trees s t fits late
      grows
  new_kind least levels start at (Meet first signs) s t fits late grows =
      let one = found_in whole levels start first s in
      let more = walked_grows levels start first s in
      new_then least s one _ t (new_walked least levels start first s t fits late
      (then one _ t (signs_grow levels start signs one) grows))
      (new_signs least levels start signs one t (fits_on s one levels more fits)
      (later_late least s one more late) grows)
  new_kind least levels start at (Sequence is) s t fits late grows = new_regular least levels is s t fits late grows
  new_kind least levels start at (Record fields rest) s t fits late grows =
      let one = labelled [] fields s in
      let two = found_in_fields whole levels fields one in
      let to_one = labelled_grows [] fields s in
      let far = then s one two to_one (fields_grow levels fields one) in
      new_then least s two _ t
      (new_then least s one two t (new_labelled least [] fields s t)
      (new_fields least levels fields one t (fits_on s one levels to_one fits) (later_late least s one to_one late)
      (then two _ t (rest_grows levels rest two) grows)))
      (new_rest least levels rest two t (fits_on s two levels far fits) (later_late least s two far late) grows)
  new_kind least levels start at (Xml tag attributes content) s t fits late grows =
      let one = found_in whole levels None tag s in
      let two = found_in whole levels None attributes one in
      let three = found_in whole levels None content two in
      let to_one = walked_grows levels None tag s in
      let to_two = walked_grows levels None attributes one in
      let to_three = walked_grows levels None content two in
      let far = then s one two to_one to_two in
      new_then least s two three t
      (new_then least s one two t
      (new_walked least levels None tag s t fits late (then one two t to_two (then two three t to_three grows)))
      (new_walked least levels None attributes one t (fits_on s one levels to_one fits)
      (later_late least s one to_one late) (then two three t to_three grows)))
      (new_walked least levels None content two t (fits_on s two levels far fits)
      (later_late least s two far late) grows)
  new_kind least levels start at (Named name) s t fits late grows =
      new_met least start name at (declared_under levels name) s t
  new_kind least levels start at (Where is declarations) s t fits late grows =
      let there = under declarations levels s in
      let one = entered there s in
      let two = in_list declarations levels s in
      let three = found_in whole there start is two in
      let to_one = entered_grows there s in
      let to_two = declared_grows there (length s.lists) [] declarations one in
      let to_three = walked_grows there start is two in
      let one_fits = under_fits declarations levels s fits in
      new_then least s two three t
      (new_then least s one two t
      (new_entered least declarations levels s t fits late (then two three t to_three grows))
      (new_declared least there (length s.lists) [] declarations one t one_fits (later_late least s one to_one late)
      (then two three t to_three grows)))
      (new_walked least there start is two t (fits_on one two there to_two one_fits)
      (later_late least s two (then s one two to_one to_two) late) grows)
  new_kind least levels start at (Builtin name) s t fits late grows = none_new least s t
  new_kind least levels start at (Ints low high) s t fits late grows = none_new least s t
  new_kind least levels start at (Chars low high) s t fits late grows = none_new least s t
  new_kind least levels start at (Atom name) s t fits late grows = none_new least s t
  new_kind least levels start at (Text text) s t fits late grows = none_new least s t
  new_kind least levels start at (Variable name) s t fits late grows = none_new least s t
  new_kind least levels start at (Default name constant) s t fits late grows = none_new least s t

  new_trees : (least : ℕ) (levels : ScopeLevels) (start : Option Id) (trees : Trees) (s t : State ScopeLevels)
      → Fits s.lists levels → least ≤ length s.lists
      → Grows (found_in_trees whole levels start trees s) t → New least s (found_in_trees whole levels start trees s) t
  new_trees least levels start NoTree s t fits late grows = none_new least s t
  new_trees least levels start (ATree first rest) s t fits late grows =
      let one = found_in whole levels start first s in
      let more = walked_grows levels start first s in
      new_then least s one _ t (new_walked least levels start first s t fits late
      (then one _ t (trees_grow levels start rest one) grows))
      (new_trees least levels start rest one t (fits_on s one levels more fits)
      (later_late least s one more late) grows)

  new_signs : (least : ℕ) (levels : ScopeLevels) (start : Option Id) (signs : Signs) (s t : State ScopeLevels)
      → Fits s.lists levels → least ≤ length s.lists
      → Grows (found_in_signs whole levels start signs s) t → New least s (found_in_signs whole levels start signs s) t
  new_signs least levels start NoSign s t fits late grows = none_new least s t
  new_signs least levels start (ASign kept is rest) s t fits late grows =
      let one = found_in whole levels start is s in
      let more = walked_grows levels start is s in
      new_then least s one _ t (new_walked least levels start is s t fits late
      (then one _ t (signs_grow levels start rest one) grows))
      (new_signs least levels start rest one t (fits_on s one levels more fits)
      (later_late least s one more late) grows)

  new_fields : (least : ℕ) (levels : ScopeLevels) (fields : Fields) (s t : State ScopeLevels) → Fits s.lists levels
      → least ≤ length s.lists
      → Grows (found_in_fields whole levels fields s) t → New least s (found_in_fields whole levels fields s) t
  new_fields least levels NoField s t fits late grows = none_new least s t
  new_fields least levels (AField label at optional is rest) s t fits late grows =
      let one = found_in whole levels None is s in
      let more = walked_grows levels None is s in
      new_then least s one _ t (new_walked least levels None is s t fits late
      (then one _ t (fields_grow levels rest one) grows))
      (new_fields least levels rest one t (fits_on s one levels more fits) (later_late least s one more late) grows)

  new_rest : (least : ℕ) (levels : ScopeLevels) (rest : Rest) (s t : State ScopeLevels) → Fits s.lists levels
      → least ≤ length s.lists
      → Grows (found_in_rest whole levels rest s) t → New least s (found_in_rest whole levels rest s) t
  new_rest least levels Closed s t fits late grows = none_new least s t
  new_rest least levels Open s t fits late grows = none_new least s t
  new_rest least levels (Typed is) s t fits late grows = new_walked least levels None is s t fits late grows

  pub new_declared : (least : ℕ) (levels : ScopeLevels) (list : ℕ) (seen : List Name) (declarations : Declarations)
      (s t : State ScopeLevels) → Fits s.lists levels → least ≤ length s.lists
      → Grows (found_in_declared whole levels list seen declarations s) t
      → New least s (found_in_declared whole levels list seen declarations s) t
  new_declared least levels list seen NoDeclaration s t fits late grows = none_new least s t
  new_declared least levels list seen (ADeclaration name at is rest) s t fits late grows =
      let one = reported_if (is_among seen name || is_builtin name) name at s in
      let start = start_of (is_among seen name) list name in
      let two = found_in whole levels start is one in
      let to_one = if_grows (is_among seen name || is_builtin name) name at s in
      let to_two = walked_grows levels start is one in
      let far = then s one two to_one to_two in
      new_then least s two _ t
      (new_then least s one two t (new_if least (is_among seen name || is_builtin name) name at s t)
      (new_walked least levels start is one t (fits_on s one levels to_one fits) (later_late least s one to_one late)
      (then two _ t (declared_grows levels list (seen ++ name ∷ []) rest two) grows)))
      (new_declared least levels list (seen ++ name ∷ []) rest two t (fits_on s two levels far fits)
      (later_late least s two far late) grows)

  new_regular : (least : ℕ) (levels : ScopeLevels) (is : Regular) (s t : State ScopeLevels) → Fits s.lists levels
      → least ≤ length s.lists
      → Grows (found_in_regular whole levels is s) t → New least s (found_in_regular whole levels is s) t
  new_regular least levels (regular span kind) s t fits late grows = new_regular_kind least levels kind s t fits late
      grows

  new_regular_kind : (least : ℕ) (levels : ScopeLevels) (kind : RegularKind) (s t : State ScopeLevels) → Fits s.lists levels
      → least ≤ length s.lists
      → Grows (found_in_regular_kind whole levels kind s) t → New least s (found_in_regular_kind whole levels kind s) t
  new_regular_kind least levels Nothing s t fits late grows = none_new least s t
  new_regular_kind least levels (Item is) s t fits late grows = new_walked least levels None is s t fits late grows
  new_regular_kind least levels (Seq all) s t fits late grows = new_regulars least levels all s t fits late grows
  new_regular_kind least levels (Alt all) s t fits late grows = new_regulars least levels all s t fits late grows
  new_regular_kind least levels (Repeat is post) s t fits late grows = new_regular least levels is s t fits late grows
  new_regular_kind least levels (Capture name is) s t fits late grows = new_regular least levels is s t fits late grows

  new_regulars : (least : ℕ) (levels : ScopeLevels) (all : Regulars) (s t : State ScopeLevels) → Fits s.lists levels
      → least ≤ length s.lists
      → Grows (found_in_regulars whole levels all s) t → New least s (found_in_regulars whole levels all s) t
  new_regulars least levels NoRegular s t fits late grows = none_new least s t
  new_regulars least levels (ARegular first rest) s t fits late grows =
      let one = found_in_regular whole levels first s in
      let more = regular_grows levels first s in
      new_then least s one _ t (new_regular least levels first s t fits late
      (then one _ t (regulars_grow levels rest one) grows))
      (new_regulars least levels rest one t (fits_on s one levels more fits) (later_late least s one more late) grows)

-- a declared name of the definitions, and one of the walk
pub record Stands (lists : List ScopeLevels) (id : Id) (name : Declared) : Type 0 where
  pub at : ℕ
  pub is : Tree
  pub levels : ScopeLevels
  pub node : IsNode lists id at is levels
  pub declared : name ≡ declared_at id.name levels is

pub record IsDeclaredAt (lists : List ScopeLevels) (levels : ScopeLevels) (name : Name) (one : Declared) : Type 0 where
  pub place : DeclaredAt
  pub is_declared_at : declared_under levels name ≡ Some place
  pub found : IsFound lists levels name place
  pub equal : one ≡ declared_at name found.levels_there found.is

not_some : {A : Type 0} → (a : A) (found : Option A) → found ≡ None → found ≡ Some a → ⊥
not_some a found none is = absurd cc

pub is_declared_at : (lists : List ScopeLevels) (levels : ScopeLevels) (name : Name) (one : Declared) → Fits lists levels
    → declared_as (scope_of levels) name ≡ Some one → IsDeclaredAt lists levels name one
is_declared_at lists levels name one fits is = by (declared_under levels name) refl
  where
    by : (place : Option DeclaredAt) → declared_under levels name ≡ place → IsDeclaredAt lists levels name one
    by None none = absurd (not_some one (declared_as (scope_of levels) name) (declared_at_none levels name none) is)
    by (Some place) here =
        let there = declared_at_found lists levels name place fits here in
        record { place = place; is_declared_at = here; found = there; equal = same_Some _ _ (sym is ∙ there.declared) }

-- each list is walked over whose names are gone through
abbrev pub AllVisited : Scope → State ScopeLevels → Type 0
AllVisited outer t = (n : ℕ) (levels : ScopeLevels) → nth t.lists n ≡ Some levels → length outer < length (scope_of levels)
    → ListVisited zero n levels t

pub node_visited : (outer : Scope) (t : State ScopeLevels) (id : Id) (at : ℕ) (is : Tree) (levels : ScopeLevels)
    → AllVisited outer t → IsNode t.lists id at is levels
    → length outer < length (scope_of levels) → VisitedKind zero (Some id) levels (kind_of is) t
node_visited outer t id at is levels all node inside =
    let list = all id.list levels node.listed inside in
    kind_visited zero (Some id) levels is t
    (visits_first zero levels id.list id.name at is (innermost levels) [] list.before t node.first
    (λ nothing. elim nothing [ ]) list.fits list.late list.grows)

met_link : (levels : ScopeLevels) (id : Id) (name : Name) (at : ℕ) (place : DeclaredAt) (found : Option DeclaredAt) (s : State ScopeLevels)
    → found ≡ Some place
    → IsIn (record { start = id; to = record { list = place.list; name = name }; at = place.at })
    (met (Some id) name at found s).links
met_link levels id name at place found s is = rw is
    (in_last (let link : Link = record { start = id; to = record { list = place.list; name = name }; at = place.at } in
    link) s.links)

kind_of_equal : (start : Option Id) (levels : ScopeLevels) (one other : Declared) (t : State ScopeLevels) → one ≡ other
    → VisitedKind zero start levels (kind_of other.tree) t
    → VisitedKind zero start levels (kind_of one.tree) t
kind_of_equal start levels one other t equal visited = rw equal visited

inside_equal : (outer : Scope) (one other : Declared) → one ≡ other → length outer < length one.scope
    → length outer < length other.scope
inside_equal outer one other equal long = rw (sym equal) long

pub leads_path : (outer scope : Scope) (kind : Kind) (name : Declared) (levels : ScopeLevels) (id : Id) (t : State ScopeLevels)
    → LeadsTo outer scope kind name → scope ≡ scope_of levels
    → AllVisited outer t → VisitedKind zero (Some id) levels kind t
    → (to : Id) × Stands t.lists to name × Leads t.links id to
leads_path _ _ _ _ levels id t (guarded.in_union outer scope trees is name one leads) same_scope all visited =
    leads_path outer scope (kind_of is) name levels id t leads same_scope all
    (kind_visited zero (Some id) levels is t (visits_trees zero (Some id) levels is trees visited.before t one
    visited.fits visited.late visited.grows))
leads_path _ _ _ _ levels id t (guarded.in_first outer scope is signs name leads) same_scope all visited =
    leads_path outer scope (kind_of is) name levels id t leads same_scope all
    (kind_visited zero (Some id) levels is t (visits_tree zero (Some id) levels is visited.before t visited.fits
    visited.late
    (then _ _ _ (signs_grow levels (Some id) signs (found_in whole levels (Some id) is visited.before)) visited.grows)))
leads_path _ _ _ _ levels id t (guarded.in_signed outer scope first is signs name one leads) same_scope all visited =
    let more = walked_grows levels (Some id) first visited.before in
    leads_path outer scope (kind_of is) name levels id t leads same_scope all
    (kind_visited zero (Some id) levels is t
    (visits_signs zero (Some id) levels is signs (found_in whole levels (Some id) first visited.before) t one
    (fits_on _ _ levels more visited.fits) (later_late zero _ _ more visited.late) visited.grows))
leads_path _ _ _ _ levels id t (guarded.under_where outer scope is declarations name leads) same_scope all visited =
    leads_path outer (declarations ∷ scope) (kind_of is) name (under declarations levels visited.before) id t leads
    (ap (λ rest. declarations ∷ rest) same_scope) all
    (kind_visited zero (Some id) (under declarations levels visited.before) is t
    (visits_body zero (Some id) levels is declarations visited.before t visited.fits visited.late visited.grows))
leads_path _ _ _ _ levels id t (guarded.named outer scope name is declared) same_scope all visited =
    let there = is_declared_at visited.before.lists levels name is visited.fits
    (ap (λ scope. declared_as scope name) (sym same_scope) ∙ declared) in
    let to : Id = record { list = there.place.list; name = name } in
    let link = met_link levels id name visited.at there.place (declared_under levels name) visited.before there.is_declared_at in (
      to,
      record {
        at = there.place.at;
        is = there.found.is;
        levels = there.found.levels_there;
        node = node_on visited.before t to there.place.at there.found.is there.found.levels_there
            (then _ _ _ (met_grows (Some id) name visited.at (declared_under levels name) visited.before) visited.grows)
            there.found.node;
        declared = there.equal;
      },
      by_link id to _ (visited.grows.links _ link) refl refl,
    )
leads_path _ _ _ _ levels id t (guarded.through_name outer scope name is last declared long leads) same_scope all
    visited =
    let there = is_declared_at visited.before.lists levels name is visited.fits
    (ap (λ scope. declared_as scope name) (sym same_scope) ∙ declared) in
    let to : Id = record { list = there.place.list; name = name } in
    let link = met_link levels id name visited.at there.place (declared_under levels name) visited.before there.is_declared_at in
    let node = node_on visited.before t to there.place.at there.found.is there.found.levels_there
    (then _ _ _ (met_grows (Some id) name visited.at (declared_under levels name) visited.before) visited.grows)
    there.found.node in
    let inside = inside_equal outer is (declared_at name there.found.levels_there there.found.is) there.equal long in
    let next = node_visited outer t to there.place.at there.found.is there.found.levels_there all node inside in
    let at_next = kind_of_equal (Some to) there.found.levels_there is
    (declared_at name there.found.levels_there there.found.is) t there.equal next in
    let on = leads_path outer is.scope (kind_of is.tree) last there.found.levels_there to t leads
    (ap (λ one. one.scope) there.equal) all at_next in
    (on.0, on.1, leads_on t.links id to on.0 (by_link id to _ (visited.grows.links _ link) refl refl) on.2)
