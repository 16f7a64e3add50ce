-- Sorts of things that are known by their parts, as elements and good values are. What operators
-- make of things of such a sort is of it.
use Rattle.std.specs.Prelude.{ℤ, ℕ, None, ◌↔◌}
use Rattle.std.specs.Char.{IsScalar}
use Rattle.cd_syntax.specs.Integer.{IsInteger}
use Rattle.cd_syntax.specs.Name.{Name, IsLabel}
use Rattle.cd_model.specs.Thing.{Thing, Integer, Character, Atom, Pair, Xml, Record}
use Rattle.cd_model.specs.Thing.{Fields, NoField, Field, LabelsRise}
use Rattle.cd_evaluation.specs.Runs.{Outcome, Done, Raised}

pub record IsByParts (Of : Thing → Type 0) (OfFields : Fields → Type 0) : Type 0 where
  pub integer : (n : ℤ) → Of (Integer n) ↔ IsInteger n
  pub character : (c : ℕ) → IsScalar c → Of (Character c)
  pub atom : (name : Name) → IsLabel name → Of (Atom name)
  pub pair : (first second : Thing) → Of (Pair first second) ↔ (Of first × Of second)
  pub xml : (name : Name) (fields : Fields) (content : Thing) → Of (Atom name)
      → Of (Record fields) → Of content → Of (Xml (Atom name) (Record fields) content)
  pub fields : (fields : Fields)
      → Of (Record fields) ↔ (LabelsRise None fields × OfFields fields)
  pub no_field : OfFields NoField
  pub field : (label : Name) (v : Thing) (rest : Fields)
      → OfFields (Field label v rest) ↔ (IsLabel label × Of v × OfFields rest)

-- what comes out is of the sort
abbrev pub OutcomeOf : (Thing → Type 0) → Outcome → Type 0
OutcomeOf Of (Done v) = Of v
OutcomeOf Of (Raised v) = Of v
OutcomeOf Of outcome = Unit {0}
