-- The bytes of ASCII texts are their characters.
use Rattle.std.proofs.Common.{◌≡◌, refl}
use Rattle.std.specs.Prelude.{codes}
use Rattle.std.specs.Str.{chars}

pub nil_characters : chars (codes "nil") ≡ codes "nil"
unfolding chars
nil_characters = refl

-- what is written of a closure
pub closure_characters : chars (codes "<fun>") ≡ codes "<fun>"
unfolding chars
closure_characters = refl
