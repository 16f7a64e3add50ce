-- How sets of node numbers compare: number by number, and a set that ends first comes first.
use Rattle.std.specs.Prelude.{◌≡◌, Bool, List, Some, nat_eq, refl}
use Rattle.std.specs.declared.cmp.Ordering.{Ordering}
use Rattle.std.specs.Ordering.{nat_cmp, eq_by_cmp}
use Rattle.std.specs.Cmp.{IsEquivalence, IsPartialOrder, IsTotalOrder, on_equiv, on_total}
use Rattle.std.specs.Cmp.{partial_order_from_agreeing_total, nat_eq_equiv, nat_cmp_total}
use Rattle.std.specs.Cmp.{unsigned_ties}
use Rattle.std.specs.Cmp.Lexicographic.{pointwise, slice_cmp, lists_equiv, lists_total, lists_ties}
use Rattle.std.specs.Hash as fed
use Rattle.std.specs.Hash.{HashWrites, Alike, same_Alike, on_Alike, items_Alike}
use Rattle.std.proofs.lemmas.Bool.Decides.{Decides-eqb}
use Rattle.cd_sets.specs.declared.node_id.NodeId.{NodeId}

abbrev pub same_id : NodeId → NodeId → Bool
same_id id other = nat_eq id.0 other.0

abbrev pub id_cmp : NodeId → NodeId → Ordering
id_cmp id other = nat_cmp id.0 other.0

pub sets_equiv : IsEquivalence (pointwise same_id)
sets_equiv = lists_equiv (on_equiv (λ id. id.0) nat_eq_equiv)

pub sets_total : IsTotalOrder (slice_cmp id_cmp)
sets_total = lists_total (on_total (λ id. id.0) nat_cmp_total)

pub sets_ties : (set other : List NodeId)
    → pointwise same_id set other ≡ eq_by_cmp (slice_cmp id_cmp) set other
sets_ties = lists_ties id_cmp (λ id other. unsigned_ties id.0 other.0)

pub sets_partial : IsPartialOrder (pointwise same_id)
    (λ set other. Some (slice_cmp id_cmp set other))
sets_partial = partial_order_from_agreeing_total (slice_cmp id_cmp) sets_total
    (λ set other. refl) sets_ties

-- what a number gives a hasher
abbrev pub id_input : NodeId → HashWrites
id_input id = fed.usize id.0

pub sets_alike : Alike (pointwise same_id) (fed.slice id_input)
sets_alike = items_Alike (on_Alike (λ id. id.0) (same_Alike fed.usize Decides-eqb))
