-- Where tokens stand.
use Rattle.std.proofs.Common.{◌≡◌, refl, ℕ, zero, suc, List, [], ◌∷◌}
use Rattle.std.specs.Prelude.{Some, None, slice_get}
use Rattle.cd_syntax.specs.declared.tokens.Token.{Token}
use Rattle.cd_syntax.specs.SyntaxFaults.{place_of}

pub place_there : (tokens : List Token) (end index : ℕ) (token : Token) → slice_get tokens index ≡ Some token → place_of tokens end index ≡ token.span.from
place_there [] end index token found = absurd cc
place_there (one ∷ tokens) end zero token found = cc
place_there (one ∷ tokens) end (suc index) token found = place_there tokens end index token found

pub place_past : (tokens : List Token) (end index : ℕ) → slice_get tokens index ≡ None → place_of tokens end index ≡ end
place_past [] end index none = refl
place_past (one ∷ tokens) end zero none = absurd cc
place_past (one ∷ tokens) end (suc index) none = place_past tokens end index none
