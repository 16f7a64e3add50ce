-- Types of two presentations that stand for each other.
use Rattle.std.specs.Prelude.{◌≡◌, ℕ, ℤ, Bool, ◌↔◌, List, Option, Some, None}
use Rattle.cd_syntax.specs.Name.{Name}
use Rattle.cd_syntax.specs.declared.type_tree.Post.{Post}
use Rattle.cd_model.specs.Thing.{Thing}
use Rattle.cd_model.specs.Types.{FieldOf, field_of, Regular, NoItem, Item, Seq, Alt, Repeat}
use Rattle.cd_model.specs.Types.{Regulars, NoRegular, ARegular, Head, Integers, Characters, Atoms}
use Rattle.cd_model.specs.Types.{Products, Xmls, Records, Arrows, Sequences, Answers, Reader}
use Rattle.cd_model.specs.Types.{Presentation, Mapping, reader, answers}

-- which types stand for which
abbrev pub Standing : Type 0 → Type 0 → Type 1
Standing X Y = X → Y → Type 0

pub record FieldsStand {X Y : Type 0} (Stands : Standing X Y) (one : FieldOf X)
    (other : FieldOf Y) : Type 0 where
  pub optional : one.optional ≡ other.optional
  pub type : Stands one.type other.type

-- regular expressions of the same form, whose items stand for each other
mutual
  pub data RegularsStand {X Y : Type 0} (Stands : Standing X Y) : Regular X → Regular Y
      → Type 0 where
    no_item : RegularsStand Stands NoItem NoItem
    an_item : (x : X) (y : Y) → Stands x y → RegularsStand Stands (Item x) (Item y)
    in_turn : (one : Regulars X) (other : Regulars Y) → RowsStand Stands one other
        → RegularsStand Stands (Seq one) (Seq other)
    one_of : (one : Regulars X) (other : Regulars Y) → RowsStand Stands one other
        → RegularsStand Stands (Alt one) (Alt other)
    repeat : (one : Regular X) (other : Regular Y) (post : Post) → RegularsStand Stands one other
        → RegularsStand Stands (Repeat one post) (Repeat other post)

  pub data RowsStand {X Y : Type 0} (Stands : Standing X Y) : Regulars X → Regulars Y → Type 0 where
    no_more : RowsStand Stands NoRegular NoRegular
    one_more : (one : Regular X) (other : Regular Y) (rest : Regulars X) (others : Regulars Y)
        → RegularsStand Stands one other
        → RowsStand Stands rest others
        → RowsStand Stands (ARegular one rest) (ARegular other others)

-- heads of the same sets, and of parts that stand for each other; record types are compared label
-- by label
pub data HeadsStand {X Y : Type 0} (Stands : Standing X Y) : Head X → Head Y → Type 0 where
  integers : (one other : ℤ → Bool) → ((n : ℤ) → one n ≡ other n)
      → HeadsStand Stands (Integers one) (Integers other)
  characters : (one other : ℕ → Bool) → ((c : ℕ) → one c ≡ other c)
      → HeadsStand Stands (Characters one) (Characters other)
  atoms : (one other : Name → Bool) → ((name : Name) → one name ≡ other name)
      → HeadsStand Stands (Atoms one) (Atoms other)
  products : (a b : X) (c d : Y) → Stands a c → Stands b d
      → HeadsStand Stands (Products a b) (Products c d)
  xmls : (a b c : X) (d e f : Y) → Stands a d → Stands b e → Stands c f
      → HeadsStand Stands (Xmls a b c) (Xmls d e f)
  records : (named : List (Name × FieldOf X)) (rest : X) (named' : List (Name × FieldOf Y))
      (rest' : Y)
      → ((label : Name) → FieldsStand Stands (field_of named rest label)
      (field_of named' rest' label))
      → HeadsStand Stands (Records named rest) (Records named' rest')
  arrows : (a b : X) (c d : Y) → Stands a c → Stands b d
      → HeadsStand Stands (Arrows a b) (Arrows c d)
  sequences : (one : Regular X) (other : Regular Y) → RegularsStand Stands one other
      → HeadsStand Stands (Sequences one) (Sequences other)

pub data HeadsIfAny {X Y : Type 0} (Stands : Standing X Y) : Option (Head X) → Option (Head Y)
    → Type 0 where
  neither : HeadsIfAny Stands None None
  both : (one : Head X) (other : Head Y) → HeadsStand Stands one other
      → HeadsIfAny Stands (Some one) (Some other)

-- two readers of heads that are alike
abbrev pub ReadAlike : {X Y : Type 0} → Standing X Y → Reader X → Reader Y → Type 0
ReadAlike {X} {Y} Stands one other = (first : Head X) (second : Head Y)
    → HeadsStand Stands first second → (answer : Bool)
    → one first answer ↔ other second answer

-- and what answers types alike
abbrev pub AnswerAlike : {X Y : Type 0} → Standing X Y → Answers X → Answers Y → Type 0
AnswerAlike {X} {Y} Stands one other = (x : X) (y : Y) → Stands x y → (answer : Bool) → one x answer
    ↔ other y answer

abbrev pub MapAlike : {X Y : Type 0} → Standing X Y → Mapping X → Mapping Y → Type 0
MapAlike {X} {Y} Stands one other = (a b : X) (c d : Y) → Stands a c → Stands b d → (answer : Bool)
    → one a b answer ↔ other c d answer

-- A thing of this sort that reads heads alike answers types alike. It is asked of readers of the
-- same thing alone, for a presentation may have a head of the one stand for a connective of the
-- other
abbrev pub PresentAlike : {X Y : Type 0} → (Thing → Type 0) → Standing X Y
    → (at : Presentation X) (for : Presentation Y) → (ℕ → Mapping X) → (ℕ → Mapping Y) → Type 0
PresentAlike Of Stands at for closed closing = (is : Thing) → Of is
    → ReadAlike Stands (reader at closed is) (reader for closing is)
    → AnswerAlike Stands (answers at closed is) (answers for closing is)
