-- What is in a box, outside a row, and in a clause, where it is known what is in a cell and what
-- each part of a row answers.
use Rattle.std.specs.Prelude.{◌⊎◌, Bool, false, List, [], ◌∷◌}
use Rattle.cd_model.specs.AllOf.{AllOf, AnyOf}
use Rattle.cd_products.specs.Boxes.{Clause}

module _ (X C R : Type 0) (inside : X → C → Type 0) (has : X → R → Bool → Type 0) where
  abbrev pub InBox : List X → List C → Type 0
  InBox [] [] = Unit {0}
  InBox (x ∷ xs) (c ∷ cells) = inside x c × InBox xs cells
  InBox _ _ = ⊥

  abbrev pub OutsideRow : List X → List R → Type 0
  OutsideRow (x ∷ xs) (r ∷ row) = has x r false ⊎ OutsideRow xs row
  OutsideRow _ _ = ⊥

  abbrev pub InClause : List X → Clause C R → Type 0
  InClause xs clause = InBox xs clause.box × AllOf (OutsideRow xs) clause.refused

  abbrev pub InOneAtMost : List X → List (List C) → Type 0
  InOneAtMost xs [] = Unit {0}
  InOneAtMost xs (box ∷ boxes) =
      (InBox xs box → AnyOf (InBox xs) boxes → ⊥) × InOneAtMost xs boxes
