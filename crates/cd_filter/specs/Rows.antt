-- Rows of a question of records: a question for each field that a record node asks to be present.
use Rattle.std.specs.Prelude.{◌≡◌, true, List, [], ◌∷◌, Some}
use Rattle.cd_sets.specs.declared.node_id.NodeId.{NodeId}
use Rattle.cd_sets.specs.declared.question.Question.{Question}
use Rattle.cd_syntax.specs.Name.{Name}
use Rattle.cd_model.specs.AllOf.{AllOf, AnyOf}
use Rattle.cd_model.specs.Formula.{asked}
use Rattle.cd_model.specs.Thing.{Thing, Fields, Record}
use Rattle.cd_model.specs.Types.{Answers}
use Rattle.cd_matching.specs.Kernel.{KernelField, Present, Optional}
use Rattle.cd_matching.specs.Take.{at_label}

-- what has to be present is
abbrev pub ArePresent : Fields → List (Name × KernelField NodeId) → Type 0
ArePresent fields [] = Unit {0}
ArePresent fields ((label, Present number) ∷ named) =
    ((d : Thing) × (at_label fields label ≡ Some d)) × ArePresent fields named
ArePresent fields ((label, Optional type) ∷ named) = ArePresent fields named

module _ (answers : Thing → Answers NodeId) where
  abbrev pub InRow : Fields → List (Name × KernelField NodeId) → List Question → Type 0
  InRow fields [] row = Unit {0}
  InRow fields ((label, Present number) ∷ named) [] = ⊥
  InRow fields ((label, Present number) ∷ named) (cell ∷ row) =
      ((d : Thing) × (at_label fields label ≡ Some d) × asked (answers d) cell true)
      × InRow fields named row
  InRow fields ((label, Optional type) ∷ named) row = InRow fields named row

  -- of the things of a sort
  module _ (Sort : Thing → Type 0) where
    -- a record of the question has this thing at the label
    abbrev pub IsPicked : Question → Name → Thing → Type 0
    IsPicked question label d = (fields : Fields) × Sort (Record fields)
        × asked (answers (Record fields)) question true × (at_label fields label ≡ Some d)

    -- each thing of a cell is picked
    abbrev pub Picks : Question → List (Name × KernelField NodeId) → List Question → Type 0
    Picks question [] row = Unit {0}
    Picks question ((label, Present number) ∷ named) [] = Unit {0}
    Picks question ((label, Present number) ∷ named) (cell ∷ row) =
        ((d : Thing) → Sort d → asked (answers d) cell true → IsPicked question label d)
        × Picks question named row
    Picks question ((label, Optional type) ∷ named) row = Picks question named row

    -- the records of the question in which the fields are present are in rows
    abbrev pub CoverRows : Question → List (Name × KernelField NodeId) → List (List Question)
        → Type 0
    CoverRows question named rows = (fields : Fields) → Sort (Record fields)
        → asked (answers (Record fields)) question true → ArePresent fields named
        → AnyOf (InRow fields named) rows

    pub record AreRows (question : Question) (named : List (Name × KernelField NodeId))
        (rows : List (List Question)) : Type 0 where
      pub covers : CoverRows question named rows
      pub picks : AllOf (Picks question named) rows
