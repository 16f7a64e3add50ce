-- The groups that the code makes have each variable that gathers and is kept once, and in a group
-- no two variables gather one item.
use Rattle.std.proofs.Common.{◌≡◌, ℕ, Bool, true, false, ◌||◌, ◌&&◌, List, [], ◌∷◌, ◌++◌}
use Rattle.std.proofs.Common.{map, Some, None, bytes_eq, refl, sym, ap, ap₂, subst, ◌∙◌}
use Rattle.std.proofs.Common.{if◌then◌else◌}
use Rattle.std.specs.List.{slice_get}
use Rattle.std.proofs.lemmas.Bool.{true≢false}
use Rattle.cd_sets.specs.declared.node_id.NodeId.{NodeId}
use Rattle.cd_syntax.specs.Name.{Name}
use Rattle.cd_model.specs.AllOf.{AllOf}
use Rattle.cd_model.proofs.ByNumber.{all_got}
use Rattle.cd_matching.specs.Pattern as pattern
use Rattle.cd_matching.specs.Pattern.{Regular, Regulars, NoRegular, ARegular}
use Rattle.cd_matching.specs.Variables.{is_gathered}
use Rattle.cd_moves.specs.Automaton.{ItemOf, items_of, items_of_all}
use Rattle.cd_kernel.specs.Copies.{IsNumber, is_among, AreDistinct, gatherer}
use Rattle.cd_kernel.specs.Inner.Gathering.{with_gathered, nests, one_nests, singly, groups_of}
use Rattle.cd_kernel.specs.Inner.Gathering.{numbered}
use Rattle.cd_kernel.proofs.GatheredNames.{gathered_among, gathered_distinct}
use Rattle.cd_kernel.proofs.RowsBuilt.{HaveNumbers}
use Rattle.cd_kernel.proofs.VariableNumbers.{names_same, name_itself, name_turned}

abbrev pub in_one_of : List (List Name) → Name → Bool
in_one_of [] name = false
in_one_of (group ∷ groups) name = is_among group name || in_one_of groups name

abbrev pub GroupsDisjoint : List (List Name) → Type 0
GroupsDisjoint [] = Unit {0}
GroupsDisjoint (group ∷ groups) =
    ((name : Name) → is_among group name ≡ true → in_one_of groups name ≡ false)
    × GroupsDisjoint groups

-- no two variables of a group gather one item
abbrev pub IsAlone : Regular NodeId → List Name → Type 0
IsAlone r group = (place : ℕ) (of : ItemOf NodeId) (name : Name)
    → slice_get (items_of [] r) place ≡ Some of → is_among group name ≡ true
    → is_among of.1 name ≡ true → gatherer group of.1 ≡ Some name

pub record IsGroup (variables : List Name) (r : Regular NodeId) (group : List Name) : Type 0 where
  pub named : HaveNumbers variables group
  pub distinct : AreDistinct group
  pub alone : IsAlone r group

or_false : (a : Bool) → (a || false) ≡ a
or_false true = refl
or_false false = refl

-- at most one variable gathers an item
abbrev AtMostOne : List Name → Type 0
AtMostOne [] = Unit {0}
AtMostOne (name ∷ []) = Unit {0}
AtMostOne (name ∷ other ∷ names) = ⊥

abbrev IsShort : (within : Bool) → List Name → Type 0
IsShort true around = AtMostOne around
IsShort false around = around ≡ []

short_is_one : (within : Bool) (around : List Name) → IsShort within around → AtMostOne around
short_is_one true around short = short
short_is_one false around short = subst AtMostOne (sym short) tt

items_append : {X : Type 0} (fact : X → Type 0) (xs ys : List X) → AllOf fact xs → AllOf fact ys
    → AllOf fact (xs ++ ys)
items_append fact [] ys first second = second
items_append fact (x ∷ xs) ys first second = (first.0, items_append fact xs ys first.1 second)

neither : (a b : Bool) → (a || b) ≡ false → (a ≡ false) × (b ≡ false)
neither true b h = absurd (true≢false h)
neither false b h = (refl, h)

abbrev HasAtMostOne : ItemOf NodeId → Type 0
HasAtMostOne of = AtMostOne of.1

mutual
  at_most_one : (r : Regular NodeId) (within : Bool) (around : List Name)
      → nests within r ≡ false → IsShort within around → AllOf HasAtMostOne (items_of around r)
  at_most_one pattern.Nothing within around none short = tt
  at_most_one (pattern.Item p) within around none short = (short_is_one within around short, tt)
  at_most_one (pattern.Seq all) within around none short = all_at_most all within around none short
  at_most_one (pattern.Alt all) within around none short = all_at_most all within around none short
  at_most_one (pattern.Repeat r post) within around none short =
      at_most_one r within around none short
  at_most_one (pattern.Capture name r) within around none short =
      let parts = neither within (nests true r) none in
      at_most_one r true (name ∷ around) parts.1
      (subst (λ (names : List Name). AtMostOne (name ∷ names))
      (sym (subst (λ (b : Bool). IsShort b around) parts.0 short)) tt)

  all_at_most : (all : Regulars NodeId) (within : Bool) (around : List Name)
      → one_nests within all ≡ false → IsShort within around
      → AllOf HasAtMostOne (items_of_all around all)
  all_at_most NoRegular within around none short = tt
  all_at_most (ARegular first rest) within around none short =
      let parts = neither (nests within first) (one_nests within rest) none in
      items_append HasAtMostOne (items_of around first) (items_of_all around rest)
      (at_most_one first within around parts.0 short)
      (all_at_most rest within around parts.1 short)

only_gathers : (group around : List Name) (name : Name) → AtMostOne around
    → is_among group name ≡ true → is_among around name ≡ true → gatherer group around ≡ Some name
only_gathers group [] name short in_group in_around = absurd (true≢false (sym in_around))
only_gathers group (one ∷ []) name short in_group in_around =
    let same = names_same name one (sym (or_false (bytes_eq name one)) ∙ in_around) in
    subst (λ (n : Name). (if is_among group n then Some n else None) ≡ Some name) same
    (ap (λ (b : Bool). if b then Some name else None) in_group)
only_gathers group (one ∷ other ∷ around) name short in_group in_around = absurd short

alone_by_name : (one : Name) (around : List Name) (name : Name) → one ≡ name
    → is_among around name ≡ true → gatherer (one ∷ []) around ≡ Some name
alone_by_name one [] name same there = absurd (true≢false (sym there))
alone_by_name one (head ∷ around) name same there =
    by_test (bytes_eq head one) refl there (alone_by_name one around name same)
  where
    by_test : (b : Bool) → bytes_eq head one ≡ b
        → (bytes_eq name head || is_among around name) ≡ true
        → (is_among around name ≡ true → gatherer (one ∷ []) around ≡ Some name)
        → (if b || false then Some head else gatherer (one ∷ []) around) ≡ Some name
    by_test true is there on = ap Some (names_same head one is ∙ same)
    by_test false differs there on = on
        (sym (ap (λ (b : Bool). b || is_among around name)
        (name_turned name head ∙ ap (bytes_eq head) (sym same) ∙ differs)) ∙ there)

single_is_alone : (r : Regular NodeId) (one : Name) → IsAlone r (one ∷ [])
single_is_alone r one place of name found in_group in_around = alone_by_name one of.1 name
    (sym (names_same name one (sym (or_false (bytes_eq name one)) ∙ in_group))) in_around

whole_is_alone : (r : Regular NodeId) (group : List Name) → nests false r ≡ false → IsAlone r group
whole_is_alone r group none place of name found in_group in_around = only_gathers group of.1 name
    (all_got HasAtMostOne (items_of [] r) place of (at_most_one r false [] none refl) found)
    in_group in_around

have_numbers : (variables names : List Name)
    → ((name : Name) → is_among names name ≡ true
    → IsNumber variables name (numbered variables name)) → HaveNumbers variables names
have_numbers variables [] named = tt
have_numbers variables (first ∷ names) named = (
  named first (ap (λ (b : Bool). b || is_among names first) (name_itself first)),
  have_numbers variables names (λ name there. named name (later (bytes_eq name first)
      (is_among names name) there)),
)
  where
    later : (a b : Bool) → b ≡ true → (a || b) ≡ true
    later true b h = refl
    later false b h = h

-- a group for each
abbrev each_single : List Name → List (List Name)
each_single = map (λ one. one ∷ [])

in_a_single : (names : List Name) (name : Name)
    → in_one_of (each_single names) name ≡ is_among names name
in_a_single [] name = refl
in_a_single (one ∷ names) name =
    ap₂ (λ (a b : Bool). a || b) (or_false (bytes_eq name one)) (in_a_single names name)

singles_disjoint : (names : List Name) → AreDistinct names → GroupsDisjoint (each_single names)
singles_disjoint [] distinct = tt
singles_disjoint (one ∷ names) distinct = (
  (λ name there. in_a_single names name
      ∙ ap (is_among names) (names_same name one (sym (or_false (bytes_eq name one)) ∙ there))
      ∙ distinct.0),
  singles_disjoint names distinct.1,
)

singles_are_groups : (variables : List Name) (r : Regular NodeId) (names : List Name)
    → HaveNumbers variables names → AllOf (IsGroup variables r) (each_single names)
singles_are_groups variables r [] named = tt
singles_are_groups variables r (one ∷ names) named = (
  record { named = (named.0, tt); distinct = (refl, tt); alone = single_is_alone r one },
  singles_are_groups variables r names named.1,
)

-- groups that are right, the first of which is this one
pub record AreGroups (variables : List Name) (keeps : Name → Bool) (r : Regular NodeId)
    (groups : List (List Name)) : Type 0 where
  pub first : List Name
  pub rest : List (List Name)
  pub are : groups ≡ first ∷ rest
  pub each : AllOf (IsGroup variables r) groups
  pub apart : GroupsDisjoint groups
  pub all : (name : Name) → in_one_of groups name ≡ (keeps name && is_gathered r name)

module _ (variables : List Name) (keeps : Name → Bool) (r : Regular NodeId) where
  no_group : ((name : Name) → is_gathered r name ≡ true → keeps name ≡ false)
      → AreGroups variables keeps r ([] ∷ [])
  no_group fits = record {
    first = [];
    rest = [];
    are = refl;
    each = (
      record {
        named = tt;
        distinct = tt;
        alone = λ place of name found in_group in_around. absurd (true≢false (sym in_group));
      },
      tt,
    );
    apart = ((λ name there. refl), tt);
    all = λ name. sym (hidden (keeps name) (is_gathered r name) (fits name));
  }
    where
      hidden : (a b : Bool) → (b ≡ true → a ≡ false) → (a && b) ≡ false
      hidden true true h = absurd (true≢false (h refl))
      hidden true false h = refl
      hidden false b h = refl

  abbrev names : List Name
  names = with_gathered r []

  among_names : (name : Name) → is_among names name ≡ is_gathered r name
  among_names name = gathered_among r [] name

  shown : (a b : Bool) → (b ≡ true → a ≡ true) → b ≡ (a && b)
  shown true b h = refl
  shown false true h = absurd (true≢false (sym (h refl)))
  shown false false h = refl

  module _ (fits : (name : Name) → is_gathered r name ≡ true
      → (keeps name ≡ true) × IsNumber variables name (numbered variables name)) where
    named : HaveNumbers variables names
    named = have_numbers variables names
        (λ name there. (fits name (sym (among_names name) ∙ there)).1)

    in_names : (name : Name) → is_among names name ≡ (keeps name && is_gathered r name)
    in_names name = among_names name
        ∙ shown (keeps name) (is_gathered r name) (λ there. (fits name there).0)

    one_group : nests false r ≡ false → AreGroups variables keeps r (names ∷ [])
    one_group none = record {
      first = names;
      rest = [];
      are = refl;
      each = (
        record {
          named = named;
          distinct = gathered_distinct r [] tt;
          alone = whole_is_alone r names none;
        },
        tt,
      );
      apart = ((λ name there. refl), tt);
      all = λ name. or_false (is_among names name) ∙ in_names name;
    }

    single_groups : (list : List Name) → list ≡ names → AreGroups variables keeps r (singly list)
    single_groups [] is = no_group (λ name there. absurd (true≢false
        (sym there ∙ sym (among_names name)
        ∙ sym (ap (λ (all : List Name). is_among all name) is))))
    single_groups (one ∷ list) is = record {
      first = one ∷ [];
      rest = each_single list;
      are = refl;
      each = singles_are_groups variables r (one ∷ list)
          (subst (HaveNumbers variables) (sym is) named);
      apart = singles_disjoint (one ∷ list)
          (subst AreDistinct (sym is) (gathered_distinct r [] tt));
      all = λ name. in_a_single (one ∷ list) name
          ∙ ap (λ (all : List Name). is_among all name) is ∙ in_names name;
    }

    kept_groups : AreGroups variables keeps r (groups_of true r)
    kept_groups = by_test (nests false r) refl
      where
        by_test : (b : Bool) → nests false r ≡ b
            → AreGroups variables keeps r (if b then singly names else names ∷ [])
        by_test true nested = single_groups names refl
        by_test false none = one_group none

  pub are_groups : (kept : Bool) → ((name : Name) → is_gathered r name ≡ true
      → (keeps name ≡ kept) × IsNumber variables name (numbered variables name))
      → AreGroups variables keeps r (groups_of kept r)
  are_groups true fits = kept_groups fits
  are_groups false fits = no_group (λ name there. (fits name there).0)
