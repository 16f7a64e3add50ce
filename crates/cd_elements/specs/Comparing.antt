-- How the fields of records and the pairs of functions compare, and what they give a hasher.
use Rattle.std.specs.Prelude.{◌≡◌, Bool, true, ◌&&◌, ◌++◌, Option, Some, None, bytes_eq, nat_eq}
use Rattle.std.proofs.Common.{refl, sym, ap, true≢false}
use Rattle.std.specs.Option.{option_eq}
use Rattle.std.specs.Cmp.{IsEquivalence, on_equiv, and_equiv, nat_eq_equiv, unsigned_Decides}
use Rattle.std.specs.Cmp.Lexicographic.{pointwise, lists_equiv, options_equiv}
use Rattle.std.specs.Hash as fed
use Rattle.std.specs.Hash.{HashWrites, Alike, same_Alike, on_Alike, and-Alike, items_Alike}
use Rattle.cd_syntax.specs.Name.{Name}
use Rattle.cd_syntax.specs.ComparingNames.{name_input, names_equiv, names_alike}
use Rattle.cd_elements.specs.declared.shape.ElementId.{ElementId}

-- two numbers, two fields and two pairs are equal where their parts are
abbrev pub same_id : ElementId → ElementId → Bool
same_id id other = nat_eq id.0 other.0

abbrev pub same_part : Name × ElementId → Name × ElementId → Bool
same_part part other = bytes_eq part.0 other.0 && same_id part.1 other.1

abbrev pub same_pair : ElementId × Option ElementId → ElementId × Option ElementId → Bool
same_pair pair other = same_id pair.0 other.0 && option_eq same_id pair.1 other.1

-- what each gives a hasher
abbrev pub id_input : ElementId → HashWrites
id_input id = fed.usize id.0

abbrev pub part_input : Name × ElementId → HashWrites
part_input part = name_input part.0 ++ id_input part.1

abbrev pub pair_input : ElementId × Option ElementId → HashWrites
pair_input pair = id_input pair.0 ++ fed.option id_input pair.1

-- the comparisons are equivalences
ids_equiv : IsEquivalence same_id
ids_equiv = on_equiv (λ id. id.0) nat_eq_equiv

pub parts_equiv : IsEquivalence (pointwise same_part)
parts_equiv = lists_equiv (and_equiv (on_equiv (λ part. part.0) names_equiv)
    (on_equiv (λ part. part.1) ids_equiv))

pub pairs_equiv : IsEquivalence (pointwise same_pair)
pairs_equiv = lists_equiv (and_equiv (on_equiv (λ pair. pair.0) ids_equiv)
    (on_equiv (λ pair. pair.1) (options_equiv ids_equiv)))

-- what is equal gives a hasher the same
ids_alike : Alike same_id id_input
ids_alike = on_Alike (λ id. id.0) (same_Alike fed.usize unsigned_Decides)

results_alike : Alike (option_eq same_id) (fed.option id_input)
results_alike = record { fed = by_case }
  where
    by_case : (one other : Option ElementId) → option_eq same_id one other ≡ true
        → fed.option id_input one ≡ fed.option id_input other
    by_case None None same = refl
    by_case None (Some id) same = absurd (true≢false (sym same))
    by_case (Some id) None same = absurd (true≢false (sym same))
    by_case (Some id) (Some other) same =
        ap (λ input. fed.option (λ id. input) (Some id)) (ids_alike.fed id other same)

pub parts_alike : Alike (pointwise same_part) (fed.slice part_input)
parts_alike = items_Alike (and-Alike (on_Alike (λ part. part.0) names_alike)
    (on_Alike (λ part. part.1) ids_alike))

pub pairs_alike : Alike (pointwise same_pair) (fed.slice pair_input)
pairs_alike = items_Alike (and-Alike (on_Alike (λ pair. pair.0) ids_alike)
    (on_Alike (λ pair. pair.1) results_alike))
