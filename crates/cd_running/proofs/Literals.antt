-- The bytes of ASCII texts are their characters.
use Rattle.std.proofs.Common.{◌≡◌, refl}
use Rattle.std.specs.Prelude.{codes}
use Rattle.std.specs.Str.{chars}

pub main_characters : chars (codes "main") ≡ codes "main"
unfolding chars
main_characters = refl
