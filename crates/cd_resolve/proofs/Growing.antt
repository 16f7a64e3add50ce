-- A walk loses no equation: one over a tree puts equations after those that are there, and one over declared names
-- gives each its own.
use Rattle.std.proofs.Common.{◌≡◌, ℕ, zero, suc, ◌+◌, ◌-◌, ◌<◌, ◌≤◌, true, List, [], ◌∷◌, ◌++◌, length, set, Option}
use Rattle.std.proofs.Common.{Some, None, refl, sym, ap, subst, ◌∙◌, append_assoc, arith}
use Rattle.std.specs.List.{slice_get}
use Rattle.std.proofs.lemmas.List.{append-nil, length-append, length-set}
use Rattle.cd_sets.specs.declared.node_id.NodeId.{NodeId}
use Rattle.cd_syntax.specs.Name.{Name}
use Rattle.cd_syntax.specs.TypeTree as type
use Rattle.cd_syntax.specs.TypeTree.{Tree, tree, Kind, Trees, NoTree, ATree, Signs, NoSign, ASign, Fields, NoField}
use Rattle.cd_syntax.specs.TypeTree.{AField, Declarations, NoDeclaration, ADeclaration}
use Rattle.cd_model.specs.Formula.{Formula, Field}
use Rattle.cd_model.proofs.ByNumber.{got_after}
use Rattle.cd_regex.specs.Regular.{Regular}
use Rattle.cd_shared.specs.Equation.{Equation, Equations, Same}
use Rattle.cd_resolve.specs.Inner.ScopeLevels.{ScopeLevels, number_in}
use Rattle.cd_resolve.specs.Inner.Leaves.{characters, Joint, Pairs, Arrows}
use Rattle.cd_resolve.specs.Inner.Members.{Sign, union_of, meet_of}
use Rattle.cd_resolve.specs.Inner.Walk.{Read, unread, entered, settled, pushed, leaf, walked_text, chained, united, met}
use Rattle.cd_resolve.specs.Inner.Walk.{one_more, level_after, walked, walked_kind, walked_trees, walked_signs}
use Rattle.cd_resolve.specs.Inner.Walk.{walked_fields, walked_regular, walked_regular_kind, walked_regulars}
use Rattle.cd_resolve.specs.Inner.Walk.{walked_rest, walked_declared, walked_list}
use Rattle.cd_resolve.proofs.GrowingLists.{get_before, get_set, get_other, set_later}

-- the equations of the first are those of the second, and more may follow
pub record Grows (s t : Equations) : Type 0 where
  pub still : (n : ℕ) (e : Equation) → slice_get s n ≡ Some (Some e) → slice_get t n ≡ Some (Some e)

-- the second is the first and more
pub record Appends (s t : Equations) : Type 0 where
  pub more : Equations
  pub are : t ≡ s ++ more

-- equations keep what they have, and what is kept twice is kept
pub same : (s : Equations) → Grows s s
same s = record { still = λ n e is. is }

pub grows_then : (s t u : Equations) → Grows s t → Grows t u → Grows s u
grows_then s t u first second = record { still = λ n e is. second.still n e (first.still n e is) }

-- nothing more, and more after more
pub appends_same : (s : Equations) → Appends s s
appends_same s = record { more = []; are = sym (append-nil s) }

pub appends_then : (s t u : Equations) → Appends s t → Appends t u → Appends s u
appends_then s t u first second = record {
  more = first.more ++ second.more;
  are = second.are ∙ ap (λ (before : Equations). before ++ second.more) first.are
      ∙ append_assoc s first.more second.more;
}

-- where more follows, all is kept, and there are no fewer
pub appends_grows : (s t : Equations) → Appends s t → Grows s t
appends_grows s t appends = record {
  still = λ n e is. subst (λ (t : Equations). slice_get t n ≡ Some (Some e)) (sym appends.are)
      (get_before (Some e) s appends.more n is);
}

pub appends_longer : (s t : Equations) → Appends s t → length s ≤ length t
appends_longer s t appends =
    let long = ap length appends.are in let both = length-append s appends.more in omega arith

-- and a place that has no equation yet has none then
pub appends_unread : (s t : Equations) (n : ℕ) → Appends s t → slice_get s n ≡ Some None → slice_get t n ≡ Some None
appends_unread s t n appends is =
    subst (λ (t : Equations). slice_get t n ≡ Some None) (sym appends.are) (get_before None s appends.more n is)

-- the names from this one on, of which there are so many, have no equations yet
pub record AreUnread (s : Equations) (number count : ℕ) : Type 0 where
  pub none : (n : ℕ) → number ≤ n → n < number + count → slice_get s n ≡ Some None

pub unread_later : (s t : Equations) (number count : ℕ) → Appends s t → AreUnread s number count
    → AreUnread t number count
unread_later s t number count appends are =
    record { none = λ n from to. appends_unread s t n appends (are.none n from to) }

-- names that were entered have none
unread_none : (count n : ℕ) → n < count → slice_get (unread count) n ≡ Some None
unread_none zero n within = absurd (omega arith)
unread_none (suc count) zero within = refl
unread_none (suc count) (suc n) within = unread_none count n (omega arith)

pub unread_length : (count : ℕ) → length (unread count) ≡ count
unread_length zero = refl
unread_length (suc count) = ap suc (unread_length count)

pub entered_appends : (declarations : Declarations) (s : Equations) → Appends s (entered declarations s)
entered_appends declarations s = record { more = unread (number_in declarations); are = refl }

pub entered_length : (declarations : Declarations) (s : Equations)
    → length (entered declarations s) ≡ length s + number_in declarations
entered_length declarations s =
    let both = length-append s (unread (number_in declarations)) in let long = unread_length (number_in declarations) in
    omega arith

pub entered_unread : (declarations : Declarations) (s : Equations)
    → AreUnread (entered declarations s) (length s) (number_in declarations)
entered_unread declarations s = record {
  none = λ n from to.
      let place : length s + (n - length s) ≡ n = omega arith in
      subst (λ (n : ℕ). slice_get (entered declarations s) n ≡ Some None) place
      (got_after s (unread (number_in declarations)) (n - length s)
      ∙ unread_none (number_in declarations) (n - length s) (omega arith));
}

-- a name's equation stands at its place, and all others stay
pub settled_is : (number : ℕ) (one : Read) → number < length one.1
    → slice_get (settled number one) number ≡ Some (Some (Same one.0))
settled_is number one within = get_set (Some (Same one.0)) one.1 number within

pub settled_grows : (number : ℕ) (one : Read) → slice_get one.1 number ≡ Some None → Grows one.1 (settled number one)
settled_grows number one none = record {
  still = λ n e is. get_other (Some (Same one.0)) one.1 number n
      (λ equal. let there = subst (λ (n : ℕ). slice_get one.1 n ≡ Some (Some e)) equal is in absurd cc) ∙ is;
}

pub settled_unread : (number count : ℕ) (one : Read) → AreUnread one.1 number (count + 1)
    → AreUnread (settled number one) (number + 1) count
settled_unread number count one are = record {
  none = λ n from to. get_other (Some (Same one.0)) one.1 number n (λ equal. omega arith)
      ∙ are.none n (omega arith) (omega arith);
}

pub settled_length : (number : ℕ) (one : Read) → length (settled number one) ≡ length one.1
settled_length number one = length-set one.1 number (Some (Same one.0))

-- what stands before it stays
settled_appends : (before : Equations) (number : ℕ) (one : Read) → length before ≤ number → Appends before one.1
    → Appends before (settled number one)
settled_appends before number one past appends = record {
  more = set appends.more (number - length before) (Some (Same one.0));
  are = ap (λ (s : Equations). set s number (Some (Same one.0))) appends.are
      ∙ set_later (Some (Same one.0)) before appends.more number past;
}

module _ (first : ℕ) where
  -- one equation more
  pub pushed_appends : (equation : Equation) (s : Equations) → Appends s (pushed first equation s).1
  pushed_appends equation s = record { more = Some equation ∷ []; are = refl }

  -- a leaf, a text, a chain of nodes, a union and a meet
  pub leaf_appends : (formula : Option Formula) (s : Equations) → Appends s (leaf first formula s).1
  leaf_appends (Some formula) s = pushed_appends _ s
  leaf_appends None s = appends_same s

  pub text_appends : (text : List ℕ) (s : Equations) → Appends s (walked_text first text s).1
  text_appends [] s = appends_same s
  text_appends (c ∷ text) s =
      let one = (walked_text first text s).1 in
      let two = (leaf first (characters c c) one).1 in
      appends_then s one _ (text_appends text s)
      (appends_then one two _ (leaf_appends (characters c c) one) (pushed_appends _ two))

  pub chained_appends : (joint : Joint) (ids : List NodeId) (s : Equations) → Appends s (chained first joint ids s).1
  chained_appends joint [] s = appends_same s
  chained_appends joint (one ∷ []) s = appends_same s
  chained_appends joint (one ∷ next ∷ rest) s =
      let later = (chained first joint (next ∷ rest) s).1 in
      appends_then s later _ (chained_appends joint (next ∷ rest) s) (pushed_appends _ later)

  pub united_appends : (ids : List NodeId) (s : Equations) → Appends s (united first ids s).1
  united_appends [] s = appends_same s
  united_appends (one ∷ []) s = appends_same s
  united_appends (one ∷ other ∷ rest) s = pushed_appends _ s

  pub met_appends : (signs : List Sign) (s : Equations) → Appends s (met first signs s).1
  met_appends [] s = appends_same s
  met_appends ((true, one) ∷ []) s = appends_same s
  met_appends signs s = pushed_appends _ s

  module _ (names : List (Name × NodeId)) where
    mutual
      -- a tree, and what trees are made of
      pub walked_appends : (levels : ScopeLevels) (is : Tree) (s : Equations) → Appends s (walked first names levels is s).1
      walked_appends levels (tree span kind) s = kind_appends levels kind s

      pub kind_appends : (levels : ScopeLevels) (kind : Kind) (s : Equations)
          → Appends s (walked_kind first names levels kind s).1
      kind_appends levels (type.Builtin name) s = appends_same s
      kind_appends levels (type.Ints low high) s = leaf_appends _ s
      kind_appends levels (type.Chars low high) s = leaf_appends _ s
      kind_appends levels (type.Atom name) s = pushed_appends _ s
      kind_appends levels (type.Text text) s = text_appends text s
      kind_appends levels (type.Tuple NoTree) s = appends_same s
      kind_appends levels (type.Tuple (ATree one NoTree)) s = appends_same s
      kind_appends levels (type.Tuple (ATree one (ATree next rest))) s =
          let all = walked_trees first names levels (ATree one (ATree next rest)) [] s in
          appends_then s all.1 _ (trees_append levels (ATree one (ATree next rest)) [] s)
          (chained_appends Pairs all.0 all.1)
      kind_appends levels (type.Arrows NoTree) s = appends_same s
      kind_appends levels (type.Arrows (ATree one NoTree)) s = appends_same s
      kind_appends levels (type.Arrows (ATree one (ATree next rest))) s =
          let all = walked_trees first names levels (ATree one (ATree next rest)) [] s in
          appends_then s all.1 _ (trees_append levels (ATree one (ATree next rest)) [] s)
          (chained_appends Arrows all.0 all.1)
      kind_appends levels (type.Union trees) s =
          let all = walked_trees first names levels trees [] s in
          appends_then s all.1 _ (trees_append levels trees [] s) (united_appends (union_of all.0) all.1)
      kind_appends levels (type.Meet one signs) s =
          let kept = walked first names levels one s in
          let all = walked_signs first names levels signs ((true, kept.0) ∷ []) kept.1 in
          appends_then s kept.1 _ (walked_appends levels one s)
          (appends_then kept.1 all.1 _ (signs_append levels signs ((true, kept.0) ∷ []) kept.1)
          (met_appends (meet_of all.0) all.1))
      kind_appends levels (type.Sequence is) s =
          let all = walked_regular first names levels is s in
          appends_then s all.1 _ (regular_appends levels is s) (record { more = _; are = refl })
      kind_appends levels (type.Record fields rest) s =
          let all = walked_fields first names levels fields [] s in
          let other = walked_rest first names levels rest all.1 in
          appends_then s all.1 _ (fields_append levels fields [] s)
          (appends_then all.1 other.1 _ (rest_appends levels rest all.1) (pushed_appends _ other.1))
      kind_appends levels (type.Xml tag attributes content) s =
          let one = walked first names levels tag s in
          let two = walked first names levels attributes one.1 in
          let three = walked first names levels content two.1 in
          appends_then s one.1 _ (walked_appends levels tag s)
          (appends_then one.1 two.1 _ (walked_appends levels attributes one.1)
          (appends_then two.1 three.1 _ (walked_appends levels content two.1) (pushed_appends _ three.1)))
      kind_appends levels (type.Named name) s = appends_same s
      kind_appends levels (type.Where is declarations) s =
          let under : ScopeLevels = level_after first declarations s ∷ levels in
          let one = entered declarations s in
          let two = walked_declared first names under (length s) declarations one in
          appends_then s two _
          (declared_appends s under (length s) declarations one (entered_appends declarations s) (omega arith))
          (walked_appends under is two)
      kind_appends levels (type.Variable name) s = appends_same s
      kind_appends levels (type.Default name constant) s = appends_same s

      pub trees_append : (levels : ScopeLevels) (trees : Trees) (made : List NodeId) (s : Equations)
          → Appends s (walked_trees first names levels trees made s).1
      trees_append levels NoTree made s = appends_same s
      trees_append levels (ATree is rest) made s =
          let one = walked first names levels is s in
          appends_then s one.1 _ (walked_appends levels is s) (trees_append levels rest (one_more made one.0) one.1)

      pub signs_append : (levels : ScopeLevels) (signs : Signs) (made : List Sign) (s : Equations)
          → Appends s (walked_signs first names levels signs made s).1
      signs_append levels NoSign made s = appends_same s
      signs_append levels (ASign kept is rest) made s =
          let one = walked first names levels is s in
          appends_then s one.1 _ (walked_appends levels is s)
          (signs_append levels rest (one_more made (kept, one.0)) one.1)

      pub fields_append : (levels : ScopeLevels) (fields : Fields) (made : List (Name × Field)) (s : Equations)
          → Appends s (walked_fields first names levels fields made s).1
      fields_append levels NoField made s = appends_same s
      fields_append levels (AField label at optional is rest) made s =
          let one = walked first names levels is s in
          appends_then s one.1 _ (walked_appends levels is s)
          (fields_append levels rest (one_more made (label, record { optional = optional; type = one.0 })) one.1)

      pub rest_appends : (levels : ScopeLevels) (rest : type.Rest) (s : Equations)
          → Appends s (walked_rest first names levels rest s).1
      rest_appends levels type.Closed s = appends_same s
      rest_appends levels type.Open s = appends_same s
      rest_appends levels (type.Typed is) s = walked_appends levels is s

      pub regular_appends : (levels : ScopeLevels) (is : type.Regular) (s : Equations)
          → Appends s (walked_regular first names levels is s).1
      regular_appends levels (type.regular span kind) s = regular_kind_appends levels kind s

      pub regular_kind_appends : (levels : ScopeLevels) (kind : type.RegularKind) (s : Equations)
          → Appends s (walked_regular_kind first names levels kind s).1
      regular_kind_appends levels type.Nothing s = appends_same s
      regular_kind_appends levels (type.Item is) s = walked_appends levels is s
      regular_kind_appends levels (type.Seq all) s = regulars_append levels all [] s
      regular_kind_appends levels (type.Alt all) s = regulars_append levels all [] s
      regular_kind_appends levels (type.Repeat is post) s = regular_appends levels is s
      regular_kind_appends levels (type.Capture name is) s = appends_same s

      pub regulars_append : (levels : ScopeLevels) (all : type.Regulars) (made : List Regular) (s : Equations)
          → Appends s (walked_regulars first names levels all made s).1
      regulars_append levels type.NoRegular made s = appends_same s
      regulars_append levels (type.ARegular is rest) made s =
          let one = walked_regular first names levels is s in
          appends_then s one.1 _ (regular_appends levels is s) (regulars_append levels rest (one_more made one.0) one.1)

      -- the trees of a list of declarations, whose names have numbers past those that stay
      pub declared_appends : (before : Equations) (levels : ScopeLevels) (number : ℕ) (declarations : Declarations)
          (s : Equations)
          → Appends before s → length before ≤ number
          → Appends before (walked_declared first names levels number declarations s)
      declared_appends before levels number NoDeclaration s appends past = appends
      declared_appends before levels number (ADeclaration name at is rest) s appends past =
          let one = walked first names levels is s in
          declared_appends before levels (number + 1) rest (settled number one)
          (settled_appends before number one past (appends_then before s one.1 appends (walked_appends levels is s)))
          (omega arith)

    -- no equation is lost where the names have none yet, and there are no fewer
    pub declared_grows : (levels : ScopeLevels) (number : ℕ) (declarations : Declarations) (s : Equations)
        → AreUnread s number (number_in declarations)
        → Grows s (walked_declared first names levels number declarations s)
    declared_grows levels number NoDeclaration s are = same s
    declared_grows levels number (ADeclaration name at is rest) s are =
        let one = walked first names levels is s in
        let later = unread_later s one.1 number (number_in rest + 1) (walked_appends levels is s) are in
        grows_then s one.1 _ (appends_grows s one.1 (walked_appends levels is s))
        (grows_then one.1 (settled number one) _
        (settled_grows number one (later.none number (omega arith) (omega arith)))
        (declared_grows levels (number + 1) rest (settled number one)
        (settled_unread number (number_in rest) one later)))

    pub declared_longer : (levels : ScopeLevels) (number : ℕ) (declarations : Declarations) (s : Equations)
        → length s ≤ length (walked_declared first names levels number declarations s)
    declared_longer levels number NoDeclaration s = omega arith
    declared_longer levels number (ADeclaration name at is rest) s =
        let one = walked first names levels is s in
        let longer = appends_longer s one.1 (walked_appends levels is s) in
        let set_long = settled_length number one in
        let on = declared_longer levels (number + 1) rest (settled number one) in
        omega arith

    -- a list of declarations
    pub list_appends : (levels : ScopeLevels) (declarations : Declarations) (s : Equations)
        → Appends s (walked_list first names levels declarations s)
    list_appends levels declarations s =
        declared_appends s (level_after first declarations s ∷ levels) (length s) declarations (entered declarations s)
        (entered_appends declarations s) (omega arith)

    pub list_longer : (levels : ScopeLevels) (declarations : Declarations) (s : Equations)
        → length s + number_in declarations ≤ length (walked_list first names levels declarations s)
    list_longer levels declarations s =
        let long = entered_length declarations s in
        let on = declared_longer (level_after first declarations s ∷ levels) (length s) declarations
        (entered declarations s) in
        omega arith

    -- all grow
    pub walked_grows : (levels : ScopeLevels) (is : Tree) (s : Equations) → Grows s (walked first names levels is s).1
    walked_grows levels is s = appends_grows s _ (walked_appends levels is s)

    pub list_grows : (levels : ScopeLevels) (declarations : Declarations) (s : Equations)
        → Grows s (walked_list first names levels declarations s)
    list_grows levels declarations s = appends_grows s _ (list_appends levels declarations s)
