-- The bytes of ASCII texts are their characters.
use Rattle.std.proofs.Common.{◌≡◌, refl}
use Rattle.std.specs.Prelude.{codes}
use Rattle.std.specs.Str.{chars}

pub true_characters : chars (codes "true") ≡ codes "true"
unfolding chars
true_characters = refl

pub false_characters : chars (codes "false") ≡ codes "false"
unfolding chars
false_characters = refl

pub nil_characters : chars (codes "nil") ≡ codes "nil"
unfolding chars
nil_characters = refl

pub invalid_characters : chars (codes "Invalid_int") ≡ codes "Invalid_int"
unfolding chars
invalid_characters = refl
