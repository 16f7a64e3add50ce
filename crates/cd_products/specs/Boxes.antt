-- Boxes: rows of cells, as pairs, XML things and records have them. What is in a box and outside
-- each of some refused rows is in disjoint boxes, of which only the inhabited ones are kept.
use Rattle.std.specs.Prelude.{Bool, true, false, List, [], ◌∷◌, ◌++◌, map}

-- a box, and rows that are refused
pub record Clause (C R : Type 0) : Type 0 where
  pub box : List C
  pub refused : List (List R)

module _ (C R : Type 0) (within without : R → C → C) where
  -- A box less one row: outside the row in the first cell, or within it there and outside it
  -- further on
  abbrev pub less : List R → List C → List (List C)
  less [] cells = []
  less (r ∷ row) [] = []
  less (r ∷ row) (c ∷ cells) =
      (without r c ∷ cells) ∷ map (λ box. within r c ∷ box) (less row cells)

  -- where a test says which boxes are inhabited
  module _ (inhabited : List C → Bool) where
    abbrev pub keep_if : Bool → List C → List (List C) → List (List C)
    keep_if true box boxes = box ∷ boxes
    keep_if false box boxes = boxes

    -- the inhabited ones
    abbrev pub keep : List (List C) → List (List C)
    keep [] = []
    keep (box ∷ boxes) = keep_if (inhabited box) box (keep boxes)

    -- boxes less one row, and less each of these
    abbrev pub refuse : List R → List (List C) → List (List C)
    refuse row [] = []
    refuse row (box ∷ boxes) = keep (less row box) ++ refuse row boxes

    abbrev pub refuse_all : List (List R) → List (List C) → List (List C)
    refuse_all [] boxes = boxes
    refuse_all (row ∷ refused) boxes = refuse_all refused (refuse row boxes)

    abbrev pub pieces_of : Clause C R → List (List C)
    pieces_of clause = refuse_all clause.refused (keep (clause.box ∷ []))

    abbrev pub pieces : List (Clause C R) → List (List C)
    pieces [] = []
    pieces (clause ∷ clauses) = pieces_of clause ++ pieces clauses
