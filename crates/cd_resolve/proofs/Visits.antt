-- Each part of a tree is walked over in the walk over the tree.
use Rattle.std.proofs.Common.{◌≡◌, ℕ, ◌≤◌, [], ◌∷◌, length, Option, None, ap, arith}
use Rattle.cd_syntax.specs.Name.{Name}
use Rattle.cd_syntax.specs.TypeTree.{Tree, tree, Kind, Trees, Signs, Fields, Declarations, Regular, Regulars}
use Rattle.cd_model.specs.Scope.{Scope}
use Rattle.cd_model.specs.Guarded.{IsOneOf, IsSigned}
use Rattle.cd_model.specs.Guarded as guarded
use Rattle.cd_model.specs.Written.{kind_of}
use Rattle.cd_resolve.specs.Faults.{IsField, IsItem, IsItemOfOne, IsPart}
use Rattle.cd_resolve.specs.Faults as fault
use Rattle.cd_resolve.specs.Inner.Finding.{ScopeLevels, innermost, Id, State, entered, labelled, found_in, found_in_kind}
use Rattle.cd_resolve.specs.Inner.Finding.{found_in_trees, found_in_signs, found_in_fields, found_in_declared}
use Rattle.cd_resolve.specs.Inner.Finding.{found_in_regular, found_in_regulars}
use Rattle.cd_resolve.proofs.GrowingLists.{get_next}
use Rattle.cd_resolve.proofs.Rich.{whole}
use Rattle.cd_resolve.proofs.FoundGrows.{Grows, then, entered_grows, labelled_grows, walked_grows, trees_grow}
use Rattle.cd_resolve.proofs.FoundGrows.{signs_grow, fields_grow, rest_grows, declared_grows, regular_grows}
use Rattle.cd_resolve.proofs.FoundGrows.{regulars_grow}
use Rattle.cd_resolve.proofs.WhatNamesMean.{scope_of, Fits, fits_on}

-- the tree is walked over before this is found, from some state that has so many lists at least
pub record Visited (least : ℕ) (start : Option Id) (levels : ScopeLevels) (is : Tree) (t : State ScopeLevels) : Type 0 where
  pub before : State ScopeLevels
  pub fits : Fits before.lists levels
  pub late : least ≤ length before.lists
  pub grows : Grows (found_in whole levels start is before) t

pub record VisitedKind (least : ℕ) (start : Option Id) (levels : ScopeLevels) (kind : Kind) (t : State ScopeLevels) : Type 0 where
  pub before : State ScopeLevels
  pub fits : Fits before.lists levels
  pub late : least ≤ length before.lists
  pub at : ℕ
  pub grows : Grows (found_in_kind whole levels start at kind before) t

-- likewise a list, which has this number
pub record ListVisited (least : ℕ) (list : ℕ) (levels : ScopeLevels) (t : State ScopeLevels) : Type 0 where
  pub before : State ScopeLevels
  pub fits : Fits before.lists levels
  pub late : least ≤ length before.lists
  pub grows : Grows (found_in_declared whole levels list [] (innermost levels) before) t

pub kind_visited : (least : ℕ) (start : Option Id) (levels : ScopeLevels) (is : Tree) (t : State ScopeLevels)
    → Visited least start levels is t → VisitedKind least start levels (kind_of is) t
kind_visited least start levels (tree span kind) t visited = record
    { before = visited.before; fits = visited.fits; late = visited.late; at = span.from; grows = visited.grows }

pub later_late : (least : ℕ) (s t : State ScopeLevels) → Grows s t → least ≤ length s.lists → least ≤ length t.lists
later_late least s t grows late = let longer = grows.longer in omega arith

pub visits_tree : (least : ℕ) (start : Option Id) (levels : ScopeLevels) (is : Tree) (s t : State ScopeLevels)
    → Fits s.lists levels → least ≤ length s.lists
    → Grows (found_in whole levels start is s) t → Visited least start levels is t
visits_tree least start levels is s t fits late grows = record { before = s; fits = fits; late = late; grows = grows }

pub visits_trees : (least : ℕ) (start : Option Id) (levels : ScopeLevels) (is : Tree) (trees : Trees) (s t : State ScopeLevels)
    → IsOneOf is trees → Fits s.lists levels
    → least ≤ length s.lists → Grows (found_in_trees whole levels start trees s) t → Visited least start levels is t
visits_trees least start levels is _ s t (guarded.IsOneOf.first _ rest) fits late grows =
    record {
      before = s;
      fits = fits;
      late = late;
      grows = then _ _ _
          (trees_grow levels start rest (found_in whole levels start is s)) grows;
    }
visits_trees least start levels is _ s t (guarded.IsOneOf.later _ other rest on) fits late grows =
    let more = walked_grows levels start other s in
    visits_trees least start levels is rest (found_in whole levels start other s) t on (fits_on s _ levels more fits)
    (later_late least s _ more late) grows

pub visits_signs : (least : ℕ) (start : Option Id) (levels : ScopeLevels) (is : Tree) (signs : Signs) (s t : State ScopeLevels)
    → IsSigned is signs → Fits s.lists levels
    → least ≤ length s.lists → Grows (found_in_signs whole levels start signs s) t → Visited least start levels is t
visits_signs least start levels is _ s t (guarded.IsSigned.first kept _ rest) fits late grows =
    record {
      before = s;
      fits = fits;
      late = late;
      grows = then _ _ _
          (signs_grow levels start rest (found_in whole levels start is s)) grows;
    }
visits_signs least start levels is _ s t (guarded.IsSigned.later kept _ other rest on) fits late grows =
    let more = walked_grows levels start other s in
    visits_signs least start levels is rest (found_in whole levels start other s) t on (fits_on s _ levels more fits)
    (later_late least s _ more late) grows

pub visits_fields : (least : ℕ) (levels : ScopeLevels) (label : Name) (at : ℕ) (is : Tree) (fields : Fields)
    (s t : State ScopeLevels) → IsField label at is fields → Fits s.lists levels
    → least ≤ length s.lists → Grows (found_in_fields whole levels fields s) t → Visited least None levels is t
visits_fields least levels label at is _ s t (fault.IsField.first _ _ optional _ rest) fits late grows =
    record {
      before = s;
      fits = fits;
      late = late;
      grows = then _ _ _
          (fields_grow levels rest (found_in whole levels None is s)) grows;
    }
visits_fields least levels label at is _ s t (fault.IsField.later _ other _ there optional _ another rest on) fits late
    grows =
    let more = walked_grows levels None another s in
    visits_fields least levels label at is rest (found_in whole levels None another s) t on
    (fits_on s _ levels more fits)
    (later_late least s _ more late) grows

mutual
  pub visits_item : (least : ℕ) (levels : ScopeLevels) (is : Tree) (all : Regular) (s t : State ScopeLevels) → IsItem is all
      → Fits s.lists levels
      → least ≤ length s.lists → Grows (found_in_regular whole levels all s) t → Visited least None levels is t
  visits_item least levels is _ s t (fault.IsItem.item span _) fits late grows = record
      { before = s; fits = fits; late = late; grows = grows }
  visits_item least levels is _ s t (fault.IsItem.in_seq span _ all on) fits late grows =
      visits_items least levels is all s t on fits late grows
  visits_item least levels is _ s t (fault.IsItem.in_alt span _ all on) fits late grows =
      visits_items least levels is all s t on fits late grows
  visits_item least levels is _ s t (fault.IsItem.repeated span _ all post on) fits late grows =
      visits_item least levels is all s t on fits late grows
  visits_item least levels is _ s t (fault.IsItem.captured span _ name all on) fits late grows =
      visits_item least levels is all s t on fits late grows

  visits_items : (least : ℕ) (levels : ScopeLevels) (is : Tree) (all : Regulars) (s t : State ScopeLevels) → IsItemOfOne is all
      → Fits s.lists levels
      → least ≤ length s.lists → Grows (found_in_regulars whole levels all s) t → Visited least None levels is t
  visits_items least levels is _ s t (fault.IsItemOfOne.first _ one rest on) fits late grows =
      visits_item least levels is one s t on fits late
      (then _ _ _ (regulars_grow levels rest (found_in_regular whole levels one s)) grows)
  visits_items least levels is _ s t (fault.IsItemOfOne.later _ one rest on) fits late grows =
      let more = regular_grows levels one s in
      visits_items least levels is rest (found_in_regular whole levels one s) t on (fits_on s _ levels more fits)
      (later_late least s _ more late) grows

-- a part of a tree, in the scope that it stands in
pub record PartVisited (least : ℕ) (inner : Scope) (is : Tree) (t : State ScopeLevels) : Type 0 where
  pub levels : ScopeLevels
  pub start : Option Id
  pub scope : inner ≡ scope_of levels
  pub visited : Visited least start levels is t

-- a list that is entered, and the walk over it and over the body
abbrev pub under : Declarations → ScopeLevels → State ScopeLevels → ScopeLevels
under declarations levels s = record { declarations = declarations; list = length s.lists } ∷ levels

abbrev pub in_list : Declarations → ScopeLevels → State ScopeLevels → State ScopeLevels
in_list declarations levels s = found_in_declared whole (under declarations levels s) (length s.lists) [] declarations
    (entered (under declarations levels s) s)

pub under_fits : (declarations : Declarations) (levels : ScopeLevels) (s : State ScopeLevels) → Fits s.lists levels
    → Fits (entered (under declarations levels s) s).lists (under declarations levels s)
under_fits declarations levels s fits = (
  get_next (under declarations levels s) s.lists [],
  fits_on s _ levels
      (entered_grows (under declarations levels s) s) fits,
)

pub visits_body : (least : ℕ) (start : Option Id) (levels : ScopeLevels) (is : Tree) (declarations : Declarations)
    (s t : State ScopeLevels) → Fits s.lists levels → least ≤ length s.lists
    → Grows (found_in whole (under declarations levels s) start is (in_list declarations levels s)) t
    → Visited least start (under declarations levels s) is t
visits_body least start levels is declarations s t fits late grows =
    let more = entered_grows (under declarations levels s) s in
    let on = declared_grows (under declarations levels s) (length s.lists) [] declarations
    (entered (under declarations levels s) s) in
    record {
      before = in_list declarations levels s;
      fits = fits_on _ _ (under declarations levels s) on (under_fits declarations levels s fits);
      late = later_late least _ _ (then _ _ _ more on) late;
      grows = grows;
    }

pub visits_list : (least : ℕ) (levels : ScopeLevels) (declarations : Declarations) (s t : State ScopeLevels) → Fits s.lists levels
    → least ≤ length s.lists
    → Grows (in_list declarations levels s) t → ListVisited least (length s.lists) (under declarations levels s) t
visits_list least levels declarations s t fits late grows =
    record {
      before = entered (under declarations levels s) s;
      fits = under_fits declarations levels s fits;
      late = later_late least _ _ (entered_grows (under declarations levels s) s) late;
      grows = grows;
    }

pub visits_part : (least : ℕ) (start : Option Id) (levels : ScopeLevels) (scope inner : Scope) (kind : Kind) (is : Tree)
    (t : State ScopeLevels) → scope ≡ scope_of levels
    → IsPart scope kind inner is → VisitedKind least start levels kind t → PartVisited least inner is t
visits_part least start levels _ _ _ _ t same_scope (fault.in_tuple scope is trees one) kind = record {
  levels = levels;
  start = None;
  scope = same_scope;
  visited = visits_trees least None levels is trees kind.before t one kind.fits kind.late kind.grows;
}
visits_part least start levels _ _ _ _ t same_scope (fault.in_arrows scope is trees one) kind = record {
  levels = levels;
  start = None;
  scope = same_scope;
  visited = visits_trees least None levels is trees kind.before t one kind.fits kind.late kind.grows;
}
visits_part least start levels _ _ _ _ t same_scope (fault.in_union scope is trees one) kind = record {
  levels = levels;
  start = start;
  scope = same_scope;
  visited = visits_trees least start levels is trees kind.before t one kind.fits kind.late kind.grows;
}
visits_part least start levels _ _ _ _ t same_scope (fault.in_first scope is signs) kind = record {
  levels = levels;
  start = start;
  scope = same_scope;
  visited = visits_tree least start levels is kind.before t kind.fits kind.late
      (then _ _ _ (signs_grow levels start signs (found_in whole levels start is kind.before)) kind.grows);
}
visits_part least start levels _ _ _ _ t same_scope (fault.in_signed scope first is signs one) kind =
    let more = walked_grows levels start first kind.before in record {
      levels = levels;
      start = start;
      scope = same_scope;
      visited = visits_signs least start levels is signs (found_in whole levels start first kind.before) t one
          (fits_on _ _ levels more kind.fits) (later_late least _ _ more kind.late) kind.grows;
    }
visits_part least start levels _ _ _ _ t same_scope (fault.in_sequence scope is all one) kind = record {
  levels = levels;
  start = None;
  scope = same_scope;
  visited = visits_item least levels is all kind.before t one kind.fits kind.late kind.grows;
}
visits_part least start levels _ _ _ _ t same_scope (fault.in_record scope label at is fields rest one) kind =
    let labels = labelled [] fields kind.before in
    let more = labelled_grows [] fields kind.before in record {
      levels = levels;
      start = None;
      scope = same_scope;
      visited = visits_fields least levels label at is fields labels t one
          (fits_on _ _ levels more kind.fits) (later_late least _ _ more kind.late)
          (then _ _ t (rest_grows levels rest (found_in_fields whole levels fields labels)) kind.grows);
    }
visits_part least start levels _ _ _ _ t same_scope (fault.in_rest scope fields is) kind =
    let labels = labelled [] fields kind.before in
    let all = found_in_fields whole levels fields labels in
    let more = then _ _ _ (labelled_grows [] fields kind.before) (fields_grow levels fields labels) in record {
      levels = levels;
      start = None;
      scope = same_scope;
      visited = visits_tree least None levels is all t (fits_on _ _ levels more kind.fits)
          (later_late least _ _ more kind.late) kind.grows;
    }
visits_part least start levels _ _ _ _ t same_scope (fault.in_tag scope tag attributes content) kind =
    let one = found_in whole levels None tag kind.before in
    let two = found_in whole levels None attributes one in record {
      levels = levels;
      start = None;
      scope = same_scope;
      visited = visits_tree least None levels tag kind.before t kind.fits kind.late
          (then one _ t (walked_grows levels None attributes one)
          (then two _ t (walked_grows levels None content two) kind.grows));
    }
visits_part least start levels _ _ _ _ t same_scope (fault.in_attributes scope tag attributes content) kind =
    let one = found_in whole levels None tag kind.before in
    let two = found_in whole levels None attributes one in
    let more = walked_grows levels None tag kind.before in record {
      levels = levels;
      start = None;
      scope = same_scope;
      visited = visits_tree least None levels attributes one t (fits_on _ _ levels more kind.fits)
          (later_late least _ _ more kind.late)
          (then two _ t (walked_grows levels None content two) kind.grows);
    }
visits_part least start levels _ _ _ _ t same_scope (fault.in_content scope tag attributes content) kind =
    let one = found_in whole levels None tag kind.before in
    let two = found_in whole levels None attributes one in
    let more = then _ _ _ (walked_grows levels None tag kind.before) (walked_grows levels None attributes one) in
    record {
      levels = levels;
      start = None;
      scope = same_scope;
      visited = visits_tree least None levels content two t (fits_on _ _ levels more kind.fits)
          (later_late least _ _ more kind.late) kind.grows;
    }
visits_part least start levels _ _ _ _ t same_scope (fault.under_where scope is declarations) kind = record {
  levels = under declarations levels kind.before;
  start = start;
  scope = ap (λ outer. declarations ∷ outer) same_scope;
  visited = visits_body least start levels is declarations kind.before t kind.fits kind.late kind.grows;
}
