-- What is at a label is in the cell of some types exactly when it is as the wanted ones say, and as
-- the refused ones do not.
use Rattle.std.proofs.Common.{◌≡◌, Bool, true, false, not, ◌&&◌, List, [], ◌∷◌, map, Option, Some, None, refl, ap}
use Rattle.std.specs.List.{list_all}
use Rattle.cd_model.specs.AllOf.{AllOf}
use Rattle.cd_model.specs.Formula.{Field}
use Rattle.cd_model.specs.Membership.{Answers, asked}
use Rattle.cd_rules.specs.Needs.{question}
use Rattle.cd_rules.specs.Rows.{Cell}
use Rattle.cd_rules.specs.InRow.{IsInCell}
use Rattle.cd_rules.proofs.Asking.{each_of_map, asked_of_each}
use Rattle.cd_rules.proofs.Answered.{map_of_each, each_of_asked}
use Rattle.cd_model.proofs.Ones.{each_weaker}

-- whether what is at a label is as a field says: nothing where the field may be absent, or a value in its node
abbrev pub Says : {X : Type 0} → (X → Answers) → Option X → Field → Bool → Type 0
Says answers None field answer = field.optional ≡ answer
Says answers (Some is) field answer = answers is field.type answer

-- a test that each of a list passes, and back
pub all_pass : {X : Type 0} (test : X → Bool) (xs : List X) → AllOf (λ x. test x ≡ true) xs → list_all test xs ≡ true
all_pass test [] each = refl
all_pass test (x ∷ xs) each = rw each.0 (all_pass test xs each.1)

pub both_hold : (one other : Bool) → one && other ≡ true → (one ≡ true) × (other ≡ true)
both_hold true other is = (refl, is)
both_hold false other is = absurd cc

pub each_passes : {X : Type 0} (test : X → Bool) (xs : List X) → list_all test xs ≡ true → AllOf (λ x. test x ≡ true) xs
each_passes test [] all = tt
each_passes test (x ∷ xs) all =
    let both = both_hold (test x) (list_all test xs) all in (both.0, each_passes test xs both.1)

-- what holds where its opposite fails
fails : (test : Bool) → not test ≡ true → test ≡ false
fails true is = absurd cc
fails false is = refl

module _ {X T : Type 0} (answers : X → Answers) (field : T → Field) (wanted refused : List T) where
  -- the cell of types that say so of a label
  abbrev pub cell_of : Cell
  cell_of = record {
    absent = list_all (λ type. (field type).optional) wanted && list_all (λ type. not (field type).optional) refused;
    value = question (map (λ type. (field type).type) wanted) (map (λ type. (field type).type) refused);
  }

  -- a value that is as the types say is in the question of the cell, and back
  pub value_in : (is : X) → AllOf (λ type. Says answers (Some is) (field type) true) wanted
      → AllOf (λ type. Says answers (Some is) (field type) false) refused → asked (answers is) cell_of.value true
  value_in is inside outside =
      asked_of_each (answers is) (map (λ type. (field type).type) wanted) (map (λ type. (field type).type) refused)
      (each_of_map (λ type. (field type).type) (λ id. answers is id true) wanted inside)
      (each_of_map (λ type. (field type).type) (λ id. answers is id false) refused outside)

  pub value_says : (is : X) → asked (answers is) cell_of.value true
      → AllOf (λ type. Says answers (Some is) (field type) true) wanted
      × AllOf (λ type. Says answers (Some is) (field type) false) refused
  value_says is asking =
      let both = each_of_asked (answers is) (map (λ type. (field type).type) wanted)
      (map (λ type. (field type).type) refused) asking in (
        map_of_each (λ type. (field type).type) (λ id. answers is id true) wanted both.0,
        map_of_each (λ type. (field type).type) (λ id. answers is id false) refused both.1,
      )

  -- what is there is in the cell
  pub into_cell : (what : Option X) → AllOf (λ type. Says answers what (field type) true) wanted
      → AllOf (λ type. Says answers what (field type) false) refused → IsInCell answers what cell_of
  into_cell None inside outside =
      let wanted_free = all_pass (λ type. (field type).optional) wanted inside in
      let refused_free = all_pass (λ type. not (field type).optional) refused
      (each_weaker (λ type. (field type).optional ≡ false) (λ type. not (field type).optional ≡ true)
      (λ type is. ap not is) refused outside) in
      rw wanted_free refused_free
  into_cell (Some is) inside outside = value_in is inside outside

  -- and what is in the cell is as the types say
  pub out_of_cell : (what : Option X) → IsInCell answers what cell_of
      → AllOf (λ type. Says answers what (field type) true) wanted
      × AllOf (λ type. Says answers what (field type) false) refused
  out_of_cell None may =
      let both = both_hold (list_all (λ type. (field type).optional) wanted)
      (list_all (λ type. not (field type).optional) refused) may in (
        each_passes (λ type. (field type).optional) wanted both.0,
        each_weaker (λ type. not (field type).optional ≡ true) (λ type. (field type).optional ≡ false)
            (λ type is. fails (field type).optional is) refused
            (each_passes (λ type. not (field type).optional) refused both.1),
      )
  out_of_cell (Some is) asking = value_says is asking
