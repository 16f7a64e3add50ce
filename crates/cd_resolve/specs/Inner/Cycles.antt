-- The declared names that lead back to themselves by links, and the least of all faults.
use Rattle.std.specs.Prelude.{ℕ, zero, suc, ◌==◌, Bool, true, false, not, ◌&&◌, List}
use Rattle.std.specs.Prelude.{[], ◌∷◌, ◌++◌, length, Option, Some, None, bytes_eq, slice_get}
use Rattle.std.specs.List.{list_any}
use Rattle.cd_resolve.specs.declared.fault.NameFault.TheVariants.{Unguarded}
use Rattle.cd_resolve.specs.Faults.{Fault}
use Rattle.cd_resolve.specs.Inner.Finding.{Id, Link}

abbrev pub same_id : Id → Id → Bool
same_id one other = one.list == other.list && bytes_eq one.name other.name

abbrev pub is_held : List Id → Id → Bool
is_held ids id = list_any (same_id id) ids

-- those that a declared name leads to by one of these links, each once, after those that are seen
abbrev pub add_if : Bool → Id → List Id → List Id
add_if true id seen = seen ++ id ∷ []
add_if false id seen = seen

abbrev pub with_next : List Link → Id → List Id → List Id
with_next [] id seen = seen
with_next (link ∷ rest) id seen = with_next rest id
    (add_if (same_id link.start id && not (is_held seen link.to)) link.to seen)

abbrev pub with_next_of : List Link → Option Id → List Id → List Id
with_next_of links None seen = seen
with_next_of links (Some id) seen = with_next links id seen

-- what is seen once those that the first so many lead to are added
abbrev pub reached_after : ℕ → List Link → Id → List Id
reached_after zero links id = with_next links id []
reached_after (suc count) links id =
    with_next_of links (slice_get (reached_after count links id) count)
    (reached_after count links id)

-- no more are seen than there are links
abbrev pub reached : List Link → Id → List Id
reached links id = reached_after (length links) links id

unfoldable pub is_cyclic : List Link → Id → Bool
is_cyclic links id = is_held (reached links id) id

-- the faults, with those of names that lead back to themselves
abbrev pub unguarded : Link → Fault
unguarded link = record { fault = Unguarded; name = link.to.name; at = link.at }

abbrev pub reported_cycle : Bool → Link → List Fault → List Fault
reported_cycle true link faults = faults ++ unguarded link ∷ []
reported_cycle false link faults = faults

abbrev pub cycles_reported : List Link → List Link → List Fault → List Fault
cycles_reported links [] faults = faults
cycles_reported links (link ∷ rest) faults =
    cycles_reported links rest (reported_cycle (is_cyclic links link.to) link faults)
