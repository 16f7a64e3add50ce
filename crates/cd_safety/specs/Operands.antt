-- Values of operands, each good and in its type, and what is made of them so far.
use Rattle.std.specs.Prelude.{◌≡◌, ℕ, List, [], ◌∷◌}
use Rattle.cd_model.specs.Interfaces.{Interfaces}
use Rattle.cd_model.specs.Thing as thing
use Rattle.cd_model.specs.Thing.{Thing}
use Rattle.cd_matching.specs.Sequences.{sequence_of}
use Rattle.cd_program.specs.Expr.{Items, Fields, AField}
use Rattle.cd_typing.specs.Typ.{Typ}
use Rattle.cd_typing.specs.Results.{tuple_after, Make}
use Rattle.cd_evaluation.specs.Lists.{before}
use Rattle.cd_evaluation.specs.RecordFields.{put}
use Rattle.cd_safety.specs.Sound.{IsGood}
use Rattle.cd_safety.specs.ValueIn.{ValueIn}

-- fields of an expression, with these values, put one by one
abbrev pub put_all : Fields → List Thing → (done : thing.Fields) → thing.Fields
put_all (AField label at e rest) (v ∷ vs) done = put_all rest vs (put label v done)
put_all fields vs done = done

module _ (fact : ℕ → thing.Fields → Type 0) (interfaces : Interfaces) where
  abbrev pub GoodIn : Typ → Thing → Type 0
  GoodIn t v = IsGood fact interfaces v × ValueIn interfaces t v

  -- one in each type
  abbrev pub AreGoodIn : List Typ → List Thing → Type 0
  AreGoodIn [] [] = Unit {0}
  AreGoodIn (t ∷ types) (v ∷ vs) = GoodIn t v × AreGoodIn types vs
  AreGoodIn types vs = ⊥

  -- a tuple of values in these types
  abbrev pub IsTupleIn : List Typ → Thing → Type 0
  IsTupleIn types v = (first : Thing) × (vs : List Thing) × AreGoodIn types (first ∷ vs)
      × (v ≡ tuple_after first vs)

  -- whatever the items that are left make, the whole sequence is good and in the type
  abbrev pub ItemsLead : Items → List Typ → Typ → (done : List Thing) → Type 0
  ItemsLead all parts t done = (vs made : List Thing) → AreGoodIn parts vs → Make all vs made
      → GoodIn t (sequence_of (before done made))

  -- whatever the fields that are left are, the whole record is good and in the type
  abbrev pub FieldsLead : Fields → List Typ → Typ → (done : thing.Fields) → Type 0
  FieldsLead fields parts t done = (vs : List Thing) → AreGoodIn parts vs
      → GoodIn t (thing.Record (put_all fields vs done))
