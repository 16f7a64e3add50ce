-- The faults that are found, with those of names that lead back to themselves by links, are all faults.
use Rattle.std.proofs.Common.{◌≡◌, ℕ, zero, ◌<◌, ◌≤◌, ◌⊎◌, inl, inr, List, [], ◌∷◌, length, Bool, true, false, Some}
use Rattle.std.proofs.Common.{refl, sym, ap, ◌∙◌}
use Rattle.std.specs.List.{slice_get as nth}
use Rattle.std.proofs.lemmas.Option.{same_Some}
use Rattle.cd_syntax.specs.Name.{Name}
use Rattle.cd_syntax.specs.TypeTree.{Tree, Kind, Declarations, NoDeclaration}
use Rattle.cd_model.specs.Scope.{Scope, Declared}
use Rattle.cd_model.specs.Guarded.{LeadsTo}
use Rattle.cd_model.specs.Guarded as guarded
use Rattle.cd_model.specs.Written.{kind_of}
use Rattle.cd_resolve.specs.declared.fault.NameFault.TheVariants.{Unguarded}
use Rattle.cd_resolve.specs.Faults.{Fault, IsFirst}
use Rattle.cd_resolve.specs.Faults as fault
use Rattle.cd_resolve.specs.Inner.Finding.{ScopeLevels, innermost, Id, Link, State}
use Rattle.cd_resolve.specs.Inner.Cycles.{is_cyclic, unguarded, reported_cycle, cycles_reported}
use Rattle.cd_resolve.proofs.InLists.{IsIn, in_front, in_last, in_more}
use Rattle.cd_resolve.proofs.WhatNamesMean.{scope_of, IsNode, declared_at, first_place, first_tree}
use Rattle.cd_resolve.proofs.Visits.{VisitedKind, ListVisited, kind_visited}
use Rattle.cd_resolve.proofs.Complete.{Loop, Outcome, visits_first}
use Rattle.cd_resolve.proofs.Paths.{Stands, AllVisited, leads_path}
use Rattle.cd_resolve.proofs.FoundAreFaults.{IsTrueLink, IsSound}
use Rattle.cd_resolve.proofs.Reaching.{Leads, by_link, and_on, cyclic_leads, leads_cyclic, last_link, returns}

-- what a declared name stands for is one
pub record IsOneNode (at other_at : ℕ) (is other_is : Tree) (levels other_levels : ScopeLevels) : Type 0 where
  pub at_is : at ≡ other_at
  pub tree_is : is ≡ other_is
  pub levels_are : levels ≡ other_levels

one_place : (at other_at : ℕ) (is other_is : Tree) (name : Name) (levels other_levels : ScopeLevels) → levels ≡ other_levels
    → IsFirst name at is (innermost levels) → IsFirst name other_at other_is (innermost other_levels)
    → IsOneNode at other_at is other_is levels other_levels
one_place at other_at is other_is name levels other_levels equal first other_first =
    let one = first_place name at is (innermost levels) first in
    let other = first_place name other_at other_is (innermost other_levels) other_first in
    let one_tree = first_tree name at is (innermost levels) first in
    let other_tree = first_tree name other_at other_is (innermost other_levels) other_first in
    record { at_is = cc; tree_is = cc; levels_are = equal }

one_node : (lists : List ScopeLevels) (id : Id) (at other_at : ℕ) (is other_is : Tree) (levels other_levels : ScopeLevels)
    → IsNode lists id at is levels
    → IsNode lists id other_at other_is other_levels → IsOneNode at other_at is other_is levels other_levels
one_node lists id at other_at is other_is levels other_levels node other =
    one_place at other_at is other_is id.name levels other_levels
    (same_Some levels other_levels (sym node.listed ∙ other.listed)) node.first other.first

-- to lead on through a declared name
leads_through : (outer scope : Scope) (kind : Kind) (middle last : Declared) → LeadsTo outer scope kind middle
    → length outer < length middle.scope
    → LeadsTo outer middle.scope (kind_of middle.tree) last → LeadsTo outer scope kind last
leads_through _ _ _ _ last (guarded.in_union outer scope trees is middle one leads) long on =
    guarded.in_union outer scope trees is last one (leads_through outer scope (kind_of is) middle last leads long on)
leads_through _ _ _ _ last (guarded.in_first outer scope is signs middle leads) long on =
    guarded.in_first outer scope is signs last (leads_through outer scope (kind_of is) middle last leads long on)
leads_through _ _ _ _ last (guarded.in_signed outer scope first is signs middle one leads) long on =
    guarded.in_signed outer scope first is signs last one
    (leads_through outer scope (kind_of is) middle last leads long on)
leads_through _ _ _ _ last (guarded.under_where outer scope is declarations middle leads) long on =
    guarded.under_where outer scope is declarations last
    (leads_through outer (declarations ∷ scope) (kind_of is) middle last leads long on)
leads_through _ _ _ _ last (guarded.named outer scope name middle declared) long on = guarded.through_name outer scope
    name middle last declared long on
leads_through _ _ _ _ last (guarded.through_name outer scope name is middle declared long_too leads) long on =
    guarded.through_name outer scope name is last declared long_too
    (leads_through outer is.scope (kind_of is.tree) middle last leads long on)

-- links lead as declared names do
pub record IsTruePath (outer : Scope) (lists : List ScopeLevels) (start to : Id) : Type 0 where
  pub start_at : ℕ
  pub start_is : Tree
  pub start_levels : ScopeLevels
  pub start_node : IsNode lists start start_at start_is start_levels
  pub inside : length outer < length (scope_of start_levels)
  pub to_at : ℕ
  pub to_is : Tree
  pub to_levels : ScopeLevels
  pub to_node : IsNode lists to to_at to_is to_levels
  pub leads : LeadsTo outer (scope_of start_levels) (kind_of start_is) (declared_at to.name to_levels to_is)

path_of_link : (outer : Scope) (lists : List ScopeLevels) (link : Link) → IsTrueLink outer lists link
    → IsTruePath outer lists link.start link.to
path_of_link outer lists link is = record {
  start_at = is.start_at;
  start_is = is.start_is;
  start_levels = is.start_levels;
  start_node = is.start_node;
  inside = is.inside;
  to_at = link.at;
  to_is = is.to_is;
  to_levels = is.to_levels;
  to_node = is.to_node;
  leads = is.leads;
}

middle_equal : (outer : Scope) (name : Name) (is other_is last_is : Tree) (levels other_levels last_levels : ScopeLevels)
    (last : Declared) → is ≡ other_is → levels ≡ other_levels
    → length outer < length (scope_of other_levels) → LeadsTo outer (scope_of other_levels) (kind_of other_is) last
    → (length outer < length (declared_at name levels is).scope) × LeadsTo outer (scope_of levels) (kind_of is) last
middle_equal outer name is other_is last_is levels other_levels last_levels last same_is same_levels long leads =
    (rw same_levels long, rw (same_is, same_levels) leads)

path_on : (outer : Scope) (lists : List ScopeLevels) (start middle to : Id) → IsTruePath outer lists start middle
    → IsTruePath outer lists middle to → IsTruePath outer lists start to
path_on outer lists start middle to first second =
    let same_node = one_node lists middle first.to_at second.start_at first.to_is second.start_is first.to_levels
    second.start_levels first.to_node second.start_node in
    let last = declared_at to.name second.to_levels second.to_is in
    let on = middle_equal outer middle.name first.to_is second.start_is second.to_is first.to_levels second.start_levels
    second.to_levels last same_node.tree_is same_node.levels_are second.inside second.leads in
    record {
      start_at = first.start_at;
      start_is = first.start_is;
      start_levels = first.start_levels;
      start_node = first.start_node;
      inside = first.inside;
      to_at = second.to_at;
      to_is = second.to_is;
      to_levels = second.to_levels;
      to_node = second.to_node;
      leads = leads_through outer (scope_of first.start_levels) (kind_of first.start_is)
          (declared_at middle.name first.to_levels first.to_is) last first.leads on.0 on.1;
    }

path_equal : (outer : Scope) (lists : List ScopeLevels) (start other_start to other_to : Id) → start ≡ other_start
    → to ≡ other_to → IsTruePath outer lists start to → IsTruePath outer lists other_start other_to
path_equal outer lists start other_start to other_to starts ends path = rw (sym starts, sym ends) path

pub true_path : (outer : Scope) (lists : List ScopeLevels) (links : List Link) (start to : Id)
    → ((link : Link) → IsIn link links → IsTrueLink outer lists link)
    → Leads links start to → IsTruePath outer lists start to
true_path outer lists links _ _ are (by_link start to link is starts ends) = path_equal outer lists link.start start
    link.to to starts ends (path_of_link outer lists link (are link is))
true_path outer lists links _ _ are (and_on start middle to link before is starts ends) =
    path_on outer lists start middle to (true_path outer lists links start middle are before)
    (path_equal outer lists link.start middle link.to to starts ends (path_of_link outer lists link (are link is)))

-- the faults with those of names that lead back to themselves
cycle_keeps : (b : Bool) (link : Link) (one : Fault) (faults : List Fault) → IsIn one faults
    → IsIn one (reported_cycle b link faults)
cycle_keeps true link one faults is = in_front one faults (unguarded link ∷ []) is
cycle_keeps false link one faults is = is

cycles_keep : (links rest : List Link) (one : Fault) (faults : List Fault) → IsIn one faults
    → IsIn one (cycles_reported links rest faults)
cycles_keep links [] one faults is = is
cycles_keep links (link ∷ rest) one faults is = cycles_keep links rest one
    (reported_cycle (is_cyclic links link.to) link faults) (cycle_keeps (is_cyclic links link.to) link one faults is)

cycle_has : (b : Bool) (link : Link) (faults : List Fault) → b ≡ true → IsIn (unguarded link) (reported_cycle b link faults)
cycle_has true link faults is = in_last (unguarded link) faults
cycle_has false link faults is = absurd cc

cycles_have : (links rest : List Link) (link : Link) (faults : List Fault) → IsIn link rest
    → is_cyclic links link.to ≡ true → IsIn (unguarded link) (cycles_reported links rest faults)
cycles_have links [] link faults is cyclic = elim is [ ]
cycles_have links (first ∷ rest) link faults (inl equal) cyclic =
    rw equal (cycles_keep links rest (unguarded first) (reported_cycle (is_cyclic links first.to) first faults)
    (cycle_has (is_cyclic links first.to) first faults (rw equal at cyclic)))
cycles_have links (first ∷ rest) link faults (inr on) cyclic = cycles_have links rest link
    (reported_cycle (is_cyclic links first.to) first faults) on cyclic

pub record IsCycle (links rest : List Link) (one : Fault) : Type 0 where
  pub link : Link
  pub is_in : IsIn link rest
  pub cyclic : is_cyclic links link.to ≡ true
  pub equal : one ≡ unguarded link

in_cycle : (b : Bool) (link : Link) (one : Fault) (faults : List Fault) → IsIn one (reported_cycle b link faults)
    → IsIn one faults ⊎ ((b ≡ true) × (one ≡ unguarded link))
in_cycle true link one faults is = by (in_more one (unguarded link) faults is)
  where
    by : IsIn one faults ⊎ (one ≡ unguarded link) → IsIn one faults ⊎ ((true ≡ true) × (one ≡ unguarded link))
    by (inl old) = inl old
    by (inr new) = inr (refl, new)
in_cycle false link one faults is = inl is

in_cycles : (links rest : List Link) (one : Fault) (faults : List Fault) → IsIn one (cycles_reported links rest faults)
    → IsIn one faults ⊎ IsCycle links rest one
in_cycles links [] one faults is = inl is
in_cycles links (link ∷ rest) one faults is = by
    (in_cycles links rest one (reported_cycle (is_cyclic links link.to) link faults) is)
  where
    at : IsIn one faults ⊎ ((is_cyclic links link.to ≡ true) × (one ≡ unguarded link))
        → IsIn one faults ⊎ IsCycle links (link ∷ rest) one
    at (inl old) = inl old
    at (inr new) = inr (record { link = link; is_in = inl refl; cyclic = new.0; equal = new.1 })

    by : IsIn one (reported_cycle (is_cyclic links link.to) link faults) ⊎ IsCycle links rest one
        → IsIn one faults ⊎ IsCycle links (link ∷ rest) one
    by (inl old) = at (in_cycle (is_cyclic links link.to) link one faults old)
    by (inr new) = inr (record { link = new.link; is_in = inr new.is_in; cyclic = new.cyclic; equal = new.equal })

-- a walk over a whole, and what is known of it
pub record IsWalk (outer : Scope) (least : ℕ) (IsWhole : Fault → Type 0) (t : State ScopeLevels) : Type 0 where
  pub sound : IsSound outer least IsWhole t
  pub complete : (one : Fault) → IsWhole one → Outcome outer least t one
  pub visited : (n : ℕ) (levels : ScopeLevels) → nth t.lists n ≡ Some levels
      → (least ≤ n) ⊎ (length outer < length (scope_of levels)) → ListVisited zero n levels t
  pub late : (n : ℕ) (levels : ScopeLevels) → nth t.lists n ≡ Some levels → length outer < length (scope_of levels)
      → least ≤ n

-- a name that leads back to itself by links is a fault
loop_equal : (outer : Scope) (name : Name) (is other_is : Tree) (levels other_levels : ScopeLevels) → is ≡ other_is
    → levels ≡ other_levels
    → LeadsTo outer (scope_of levels) (kind_of is) (declared_at name other_levels other_is)
    → LeadsTo outer (scope_of levels) (kind_of is) (declared_at name levels is)
loop_equal outer name is other_is levels other_levels same_is same_levels leads = rw (sym same_is, sym same_levels) at
    leads

cycle_sound : (outer : Scope) (least : ℕ) (IsWhole : Fault → Type 0) (t : State ScopeLevels) → IsWalk outer least IsWhole t
    → (one : Fault) → IsCycle t.links t.links one → IsWhole one
cycle_sound outer least IsWhole t walk one cycle =
    let link = cycle.link in
    let true_link = walk.sound.links link cycle.is_in in
    let path = true_path outer t.lists t.links link.to link.to walk.sound.links
    (cyclic_leads t.links link.to cycle.cyclic) in
    let ends = one_node t.lists link.to
    path.start_at path.to_at path.start_is path.to_is path.start_levels path.to_levels
    path.start_node path.to_node in
    let here = one_node t.lists link.to path.start_at link.at path.start_is true_link.to_is path.start_levels
    true_link.to_levels path.start_node true_link.to_node in
    let leads = loop_equal outer link.to.name path.start_is path.to_is path.start_levels path.to_levels ends.tree_is
    ends.levels_are path.leads in
    let first : IsFirst link.to.name link.at path.start_is (innermost path.start_levels) = rw here.at_is at
    path.start_node.first in
    let late = walk.late link.to.list path.start_levels path.start_node.listed path.inside in
    rw cycle.equal (walk.sound.lists link.to.list path.start_levels late path.start_node.listed (unguarded link)
    (fault.unguarded outer (scope_of path.start_levels) (innermost path.start_levels) link.to.name link.at path.start_is
    first leads))

-- what a loop stands for is reached again from each that stands for it
stands_scope : (lists : List ScopeLevels) (id : Id) (name : Declared) (stands : Stands lists id name)
    → name.scope ≡ scope_of stands.levels
stands_scope lists id name stands = ap (λ one. one.scope) stands.declared

kind_equal : (t : State ScopeLevels) (id : Id) (levels : ScopeLevels) (one other : Declared) → one ≡ other
    → VisitedKind zero (Some id) levels (kind_of other.tree) t → VisitedKind zero (Some id) levels (kind_of one.tree) t
kind_equal t id levels one other equal visited = rw equal visited

go_on : (outer : Scope) (least : ℕ) (IsWhole : Fault → Type 0) (t : State ScopeLevels) → IsWalk outer least IsWhole t
    → (name : Declared) → LeadsTo outer name.scope (kind_of name.tree) name
    → (id : Id) (stands : Stands t.lists id name) → (least ≤ id.list) ⊎ (length outer < length (scope_of stands.levels))
    → (next : Id) × Stands t.lists next name × Leads t.links id next
go_on outer least IsWhole t walk name leads id stands known =
    let all : AllVisited outer t = λ n levels listed inside. walk.visited n levels listed (inr inside) in
    let list = walk.visited id.list stands.levels stands.node.listed known in
    let visited = kind_visited zero (Some id) stands.levels stands.is t
    (visits_first zero stands.levels id.list id.name stands.at stands.is (innermost stands.levels) [] list.before t
    stands.node.first (λ nothing. elim nothing [ ]) list.fits list.late list.grows) in
    leads_path outer name.scope (kind_of name.tree) name stands.levels id t leads (stands_scope t.lists id name stands)
    all
    (kind_equal t id stands.levels name (declared_at id.name stands.levels stands.is) stands.declared visited)

-- the places of what stands for one declared name are one
abbrev scope_head : Scope → Declarations
scope_head [] = NoDeclaration
scope_head (first ∷ rest) = first

head_is : (levels : ScopeLevels) → scope_head (scope_of levels) ≡ innermost levels
head_is [] = refl
head_is (level ∷ outer) = refl

same_at : (name other : Name) (at other_at : ℕ) (is other_is : Tree) (levels other_levels : ScopeLevels)
    → declared_at name levels is ≡ declared_at other other_levels other_is
    → IsFirst name at is (innermost levels) → IsFirst other other_at other_is (innermost other_levels) → at ≡ other_at
same_at name other at other_at is other_is levels other_levels equal first other_first =
    let names : name ≡ other = ap (λ one. one.name) equal in
    let scopes : scope_of levels ≡ scope_of other_levels = ap (λ one. one.scope) equal in
    let lists : innermost levels ≡ innermost other_levels = sym (head_is levels) ∙ ap scope_head scopes ∙ head_is
    other_levels in
    let one_place = first_place name at is (innermost levels) first in
    let other_place = first_place other other_at other_is (innermost other_levels) other_first in
    cc

fault_equal : (one : Fault) (link : Link) → one.fault ≡ Unguarded → one.name ≡ link.to.name → one.at ≡ link.at
    → unguarded link ≡ one
fault_equal one link kind name at = by one.fault one.name one.at kind name at
  where
    by : (kind : _) (name : Name) (at : ℕ) → kind ≡ Unguarded → name ≡ link.to.name → at ≡ link.at
        → unguarded link ≡ record { fault = kind; name = name; at = at }
    by kind name at is_kind is_name is_at = rw (is_kind, is_name, is_at) refl

inside_equal : (outer : Scope) (name : Declared) (levels other : ScopeLevels) → name.scope ≡ scope_of levels
    → name.scope ≡ scope_of other → length outer < length (scope_of levels) → length outer < length (scope_of other)
inside_equal outer name levels other equal equal_too inside = rw (sym equal_too, equal) inside

loop_reported : (outer : Scope) (least : ℕ) (IsWhole : Fault → Type 0) (t : State ScopeLevels) → IsWalk outer least IsWhole t
    → (one : Fault) → Loop outer least t.lists one
    → IsIn one (cycles_reported t.links t.links t.faults)
loop_reported outer least IsWhole t walk one loop =
    let name = declared_at one.name loop.levels loop.is in
    let id : Id = record { list = loop.list; name = one.name } in
    let stands : Stands t.lists id name = record {
      at = one.at;
      is = loop.is;
      levels = loop.levels;
      node = loop.node;
      declared = refl;
    } in
    let once = go_on outer least IsWhole t walk name loop.leads id stands (inl loop.late) in
    let path = true_path outer t.lists t.links id once.0 walk.sound.links once.2 in
    let same_node = one_node t.lists id path.start_at one.at path.start_is loop.is path.start_levels loop.levels
    path.start_node loop.node in
    let inside : length outer < length (scope_of loop.levels) = rw same_node.levels_are at path.inside in
    let back = returns t.links (λ other. Stands t.lists other name)
    (λ other other_stands. go_on outer least IsWhole t walk name loop.leads other other_stands
    (inr (inside_equal outer name loop.levels other_stands.levels refl (stands_scope t.lists other name other_stands)
    inside))) id stands in
    let last = last_link t.links back.id back.id back.returns in
    let true_link = walk.sound.links last.0 last.1 in
    loop_is one t loop.levels loop.is loop.node.first loop.unguarded back.id back.is_such back.returns last.0 last.1
    last.2 true_link.to_is true_link.to_levels true_link.to_node
  where
    loop_is : (one : Fault) (t : State ScopeLevels) (levels : ScopeLevels) (is : Tree)
        → IsFirst one.name one.at is (innermost levels) → one.fault ≡ Unguarded → (id : Id)
        → Stands t.lists id (declared_at one.name levels is)
        → Leads t.links id id → (link : Link) → IsIn link t.links → link.to ≡ id → (to_is : Tree) (to_levels : ScopeLevels)
        → IsNode t.lists link.to link.at to_is to_levels
        → IsIn one (cycles_reported t.links t.links t.faults)
    loop_is one t levels is first kind id stands leads link is_in to to_is to_levels to_node =
        let node : IsNode t.lists id link.at to_is to_levels = rw to at to_node in
        let same_node = one_node t.lists id link.at stands.at to_is stands.is to_levels stands.levels node
        stands.node in
        let at_is : one.at ≡ stands.at = same_at one.name id.name one.at stands.at is stands.is levels stands.levels
        stands.declared first stands.node.first in
        let name_is : one.name ≡ id.name = ap (λ each. each.name) stands.declared in
        let to_name : link.to.name ≡ id.name = ap (λ each. each.name) to in
        rw (fault_equal one link kind (name_is ∙ sym to_name) (at_is ∙ sym same_node.at_is)) at
        (cycles_have t.links t.links link t.faults is_in (rw to (leads_cyclic t.links id leads)))

-- the faults that are reported are those of the whole
pub all_sound : (outer : Scope) (least : ℕ) (IsWhole : Fault → Type 0) (t : State ScopeLevels) → IsWalk outer least IsWhole t
    → (one : Fault) → IsIn one (cycles_reported t.links t.links t.faults) → IsWhole one
all_sound outer least IsWhole t walk one is = by (in_cycles t.links t.links one t.faults is)
  where
    by : IsIn one t.faults ⊎ IsCycle t.links t.links one → IsWhole one
    by (inl reported) = walk.sound.faults one reported
    by (inr cycle) = cycle_sound outer least IsWhole t walk one cycle

pub all_complete : (outer : Scope) (least : ℕ) (IsWhole : Fault → Type 0) (t : State ScopeLevels)
    → IsWalk outer least IsWhole t → (one : Fault) → IsWhole one → IsIn one (cycles_reported t.links t.links t.faults)
all_complete outer least IsWhole t walk one is = by (walk.complete one is)
  where
    by : Outcome outer least t one → IsIn one (cycles_reported t.links t.links t.faults)
    by (inl reported) = cycles_keep t.links t.links one t.faults reported
    by (inr loop) = loop_reported outer least IsWhole t walk one loop
