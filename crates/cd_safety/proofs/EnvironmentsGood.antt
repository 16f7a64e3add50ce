-- Good values in environments, and closures of good values.
use Rattle.std.proofs.Common.{◌≡◌, ℕ, Option, Some, None, subst}
use Rattle.cd_syntax.specs.Name.{Name}
use Rattle.cd_model.specs.Interfaces.{Interfaces}
use Rattle.cd_model.specs.Thing.{Thing, Pair, Xml, Record, Function, Closure, Fields, NoField, Field, EachOfFields}
use Rattle.cd_rules.specs.InRow.{thing_at}
use Rattle.cd_evaluation.specs.Environment.{with_all, with_name}
use Rattle.cd_program.specs.WellMade.{IsWellMadeName}
use Rattle.cd_safety.specs.OfInterface.{HasArrows, HaveArrows}
use Rattle.cd_safety.specs.Sound.{IsSound, AreSound, IsGood, AreGood}
use Rattle.cd_safety.proofs.RecordsGood.{OneOf, at_of}
use Rattle.cd_safety.proofs.SortsByParts.{good_by_parts}

module _ (fact : ℕ → Fields → Type 0) (interfaces : Interfaces) where
  -- the value of a name
  pub named_good : (env : Fields) → AreGood fact interfaces env → (name : Name) (v : Thing) → thing_at env name ≡ Some v
      → IsGood fact interfaces v
  named_good env are name v found = subst
      (OneOf (IsGood fact interfaces) (AreGood fact interfaces) (good_by_parts fact interfaces)) found
      (at_of (IsGood fact interfaces) (AreGood fact interfaces) (good_by_parts fact interfaces) env are name)

  pub all_good : (own env : Fields) → AreGood fact interfaces own → AreGood fact interfaces env → AreGood fact interfaces (with_all own env)
  all_good NoField env are those = those
  all_good (Field label v rest) env are those =
      let parts = ((good_by_parts fact interfaces).field label v rest).0 are in
      ((good_by_parts fact interfaces).field label v (with_all rest env)).1 (parts.0, parts.1, all_good rest env parts.2 those)

  pub name_good : (name : Option Name) (v : Thing) (env : Fields) → IsWellMadeName name → IsGood fact interfaces v
      → AreGood fact interfaces env → AreGood fact interfaces (with_name name v env)
  name_good None v env is_label good are = are
  name_good (Some name) v env is_label good are = ((good_by_parts fact interfaces).field name v env).1 (is_label, good, are)

  pub closure_good : (function : ℕ) (env : Fields) → HasArrows interfaces function → fact function env → AreGood fact interfaces env
      → IsGood fact interfaces (Closure function env)
  closure_good function env arrows is are = record {
    typed = record { is_value = are.are_values; have_arrows = arrows };
    sound = (is, are.sound);
  }

  -- where the fact of a closure says that its arrows are types, the environment of a good closure is good
  module _ (arrows_of : (function : ℕ) (env : Fields) → fact function env → HasArrows interfaces function) where
    mutual
      sound_have : (v : Thing) → IsSound fact v → HaveArrows interfaces v
      sound_have (Pair first second) sound = (sound_have first sound.0, sound_have second sound.1)
      sound_have (Xml tag attributes content) sound =
          (sound_have tag sound.0, sound_have attributes sound.1, sound_have content sound.2)
      sound_have (Record fields) sound = fields_have fields sound
      sound_have (Function pairs) sound = absurd sound
      sound_have (Closure function env) sound = arrows_of function env sound.0
      sound_have _ sound = tt

      fields_have : (fields : Fields) → AreSound fact fields → EachOfFields (HasArrows interfaces) fields
      fields_have NoField sound = tt
      fields_have (Field label v rest) sound = (sound_have v sound.0, fields_have rest sound.1)

    pub environment_good : (function : ℕ) (env : Fields) → IsGood fact interfaces (Closure function env) → AreGood fact interfaces env
    environment_good function env good = record {
      are_values = good.typed.is_value;
      have_arrows = fields_have env good.sound.1;
      sound = good.sound.1;
    }
