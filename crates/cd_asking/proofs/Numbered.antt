-- The number of a set among sets.
use Rattle.std.proofs.Common.{◌≡◌, ℕ, Bool, true, false, List, [], ◌∷◌, ◌++◌, Some, map, get_or, slice_get, position, refl, sym, ap, ◌∙◌, subst, inl, inr}
use Rattle.std.specs.Prelude.{Result, Ok, Err, IfOk, OnErr, unwrap_or, if◌then◌else◌}
use Rattle.std.specs.Option.{option_map}
use Rattle.std.specs.List.{list_any}
use Rattle.std.specs.Cmp.Lexicographic.{pointwise}
use Rattle.std.proofs.lemmas.List.{map-append}
use Rattle.std.proofs.lemmas.List.Quantifiers.{position-Some}
use Rattle.std.proofs.lemmas.Option.{slice_get-get_or, slice_get-map, unwrap_or-slice_get}
use Rattle.indexmap.specs.IndexSet.{insert_key}
use Rattle.cd_sets.specs.declared.node_id.NodeId.{NodeId}
use Rattle.cd_sets.specs.Comparing.{same_id}
use Rattle.cd_sets.proofs.Same.{sets_decide}
use Rattle.cd_asking.specs.declared.node_sets.SetId.{SetId}
use Rattle.cd_asking.specs.Inner.Asked.{set_at, AddsOnly}

-- what has a number is the set of the number
pub numbered : {E : Type 0} (sets : List (List NodeId)) (done : Result SetId E) (ids : List NodeId) (number : ℕ)
    → IfOk done (λ id. id.0 ≡ number) → unwrap_or (slice_get sets number) [] ≡ ids → IfOk done (λ id. set_at sets id ≡ ids)
numbered sets (Ok id) ids number same is = sym (unwrap_or-slice_get sets id.0 []) ∙ ap (λ number. unwrap_or (slice_get sets number) []) same ∙ is
numbered sets (Err error) ids number same is = tt

-- sets are kept as values of some type, which have items
module _ {T : Type 0} (items : T → List NodeId) where
  at_number : (sets : List T) (number : ℕ) (set : T) → slice_get sets number ≡ Some set → unwrap_or (slice_get (map items sets) number) [] ≡ items set
  at_number sets number set is = ap (λ found. unwrap_or found []) (slice_get-map items sets number ∙ ap (option_map items) is)

  pub found_at : (sets : List T) (ids : List NodeId) (number : ℕ) → Some number ≡ position (λ other. pointwise same_id ids (items other)) sets
      → unwrap_or (slice_get (map items sets) number) [] ≡ ids
  found_at [] ids number is = absurd (cc is)
  found_at (first ∷ rest) ids number is =
      let sets : List T = first ∷ rest in
      let found = position-Some (λ other. pointwise same_id ids (items other)) sets number first (sym is) in
      at_number sets number (get_or sets number first) (slice_get-get_or sets number first found.0)
      ∙ sym ((sets_decide ids (items (get_or sets number first))).0 found.1)

  pub stored_at : (sets : List T) (owned : T) (ids : List NodeId) (number : ℕ) → items owned ≡ ids
      → (set : T) × (slice_get sets number ≡ Some set) × (pointwise same_id (items owned) (items set) ≡ true)
      → unwrap_or (slice_get (map items sets) number) [] ≡ ids
  stored_at sets owned ids number same stored =
      at_number sets number stored.0 stored.1 ∙ sym ((sets_decide (items owned) (items stored.0)).0 stored.2) ∙ same

  -- this set alone is added, and none where memory runs out
  pub set_added : {R E : Type 0} (done : Result R E) (sets after : List T) (set : T)
      → IfOk done (λ number. after ≡ insert_key (λ one other. pointwise same_id (items one) (items other)) sets set) → OnErr done (after ≡ sets)
      → AddsOnly (items set) (map items sets) (map items after)
  set_added (Ok number) sets after set put kept =
      subst (λ (all : List T). AddsOnly (items set) (map items sets) (map items all)) (sym put)
      (by_test (list_any (λ other. pointwise same_id (items set) (items other)) sets))
    where
      by_test : (there : Bool) → AddsOnly (items set) (map items sets) (map items (if there then sets else sets ++ set ∷ []))
      by_test true = inl refl
      by_test false = inr (map-append items sets (set ∷ []))
  set_added (Err error) sets after set put kept = inl (ap (map items) kept)
