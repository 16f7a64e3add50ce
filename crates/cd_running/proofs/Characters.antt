-- The characters of a text are of Unicode.
use Rattle.std.proofs.Common.{◌≡◌, ℕ, true, List, [], ◌∷◌}
use Rattle.std.specs.Char.{IsScalar}
use Rattle.std.specs.Str.{chars, IsUtf8}
use Rattle.std.proofs.Math.Utf8.{scalar, scalars}
use Rattle.std.proofs.lemmas.Bool.{and_parts}
use Rattle.std.proofs.lemmas.Str.{scalars-chars}
use Rattle.cd_model.specs.AllOf.{AllOf}

each_scalar : (text : List ℕ) → scalars text ≡ true → AllOf IsScalar text
each_scalar [] are = tt
each_scalar (c ∷ text) are =
    let both = and_parts (scalar c) (scalars text) are in
    (both.0, each_scalar text both.1)

pub characters_scalar : (text : List ℕ) → IsUtf8 text → AllOf IsScalar (chars text)
characters_scalar text utf8 = each_scalar (chars text) (scalars-chars text utf8)
