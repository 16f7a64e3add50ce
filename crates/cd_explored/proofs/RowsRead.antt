-- The row of a place, which is looked up.
use Rattle.std.proofs.Common.{◌≡◌, ◌<◌, ◌≤◌, Bor, ℕ, true, List, Option, Some, None, map, length, nat_lt, refl, sym, ap}
use Rattle.std.proofs.Common.{subst, ◌∙◌}
use Rattle.std.specs.Prelude.{slice_index_or}
use Rattle.std.specs.List.{slice_get}
use Rattle.std.specs.Option.{option_map, option_copied}
use Rattle.std.specs.Slice.{IsItemAt}
use Rattle.std.specs.declared.alloc.Global.{Global}
use Rattle.std.specs.declared.vec.Vec.{Vec}
use Rattle.std.proofs.lemmas.Bool.{ltb-true}
use Rattle.std.proofs.lemmas.List.Elements.{All-weaker}
use Rattle.std.proofs.lemmas.Option.{none-some, same_Some, slice_get_read, slice_get_past, slice_get-map}
use Rattle.std.proofs.lemmas.Option.{slice_get-get_or}
use Rattle.cd_explored.specs.declared.step.Step.{Step}
use Rattle.cd_explored.specs.Inner.Reached.{Rows, rows_of, Adds, IsLedBy, IsLedTo}

-- what a look at a number finds
pub looked_up : {X : Type 0} (xs : List X) (k : ℕ) (found : Option (Bor X)) → IsItemAt xs k found
    → option_copied found ≡ slice_get xs k
looked_up xs k None is = sym (slice_get_past xs k is.3)
looked_up xs k (Some x) is = ap Some is.1 ∙ sym (slice_get-get_or xs k x.now is.3.0)

pub looked_past : {X : Type 0} (xs : List X) (k : ℕ) (found : Option (Bor X)) → IsItemAt xs k found
    → option_copied found ≡ None → length xs ≤ k
looked_past xs k None is none = is.3
looked_past xs k (Some x) is none = absurd (none-some x.now (sym none))

module _ {X Y : Type 0} (view : X → Y) where
  pub view_there : (xs : List X) (k : ℕ) (x : X) → true ≡ nat_lt k (length xs) → x ≡ slice_index_or xs k x
      → slice_get (map view xs) k ≡ Some (view x)
  view_there xs k x within is = slice_get-map view xs k
      ∙ ap (option_map view) (slice_get_read xs (length xs) k x refl (ltb-true k (length xs) (sym within)) is)

  -- by the order of numbers
  pub view_at : (xs : List X) (k : ℕ) (x : X) → k < length xs → x ≡ slice_index_or xs k x
      → slice_get (map view xs) k ≡ Some (view x)
  view_at xs k x within is = slice_get-map view xs k
      ∙ ap (option_map view) (slice_get_read xs (length xs) k x refl within is)

  pub view_past : (xs : List X) (k : ℕ) → length xs ≤ k → slice_get (map view xs) k ≡ None
  view_past xs k past = slice_get-map view xs k ∙ ap (option_map view) (slice_get_past xs k past)

pub row_there : (steps : List (Vec Step Global)) (number : ℕ) (row : Vec Step Global)
    → true ≡ nat_lt number (length steps) → row ≡ slice_index_or steps number row
    → slice_get (rows_of steps) number ≡ Some row.items
row_there = view_there (λ row. row.items)

pub row_past : (steps : List (Vec Step Global)) (number : ℕ) → length steps ≤ number
    → slice_get (rows_of steps) number ≡ None
row_past = view_past (λ row. row.items)

module _ (rows : Rows) (variable number : ℕ) where
  pub adds_at : (row : List Step) (old new : List ℕ) → slice_get rows number ≡ Some row
      → Adds (IsLedBy variable row) old new → Adds (IsLedTo rows variable number) old new
  adds_at row old new there (more, are, each) = (
    more,
    are,
    All-weaker (IsLedBy variable row) (IsLedTo rows variable number)
        (λ next led. (row, there, led)) more each,
  )

  pub led_at : (row : List Step) (next : ℕ) → slice_get rows number ≡ Some row
      → IsLedTo rows variable number next → IsLedBy variable row next
  led_at row next there (other, here, led) =
      subst (λ (steps : List Step). IsLedBy variable steps next)
      (same_Some other row (sym here ∙ there)) led

  pub led_nowhere : (next : ℕ) → slice_get rows number ≡ None → IsLedTo rows variable number next → ⊥
  led_nowhere next none (row, there, led) = none-some row (sym none ∙ there)
