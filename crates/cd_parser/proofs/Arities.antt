-- Of more or fewer parts than a rule wants, nothing of use is made.
use Rattle.std.proofs.Common.{◌≡◌, refl, List, [], ◌∷◌, length}
use Rattle.std.specs.Prelude.{◌≢◌}
use Rattle.cd_syntax.specs.declared.tokens.Span.{Span}
use Rattle.cd_grammar.specs.declared.make.Make.TheVariants as make
use Rattle.cd_grammar.specs.declared.make.One.{One}
use Rattle.cd_grammar.specs.declared.make.Two.{Two}
use Rattle.cd_grammar.specs.declared.make.Three.{Three}
use Rattle.cd_grammar.specs.declared.make.Four.{Four}
use Rattle.cd_grammar.specs.declared.make.Five.{Five}
use Rattle.cd_grammar.specs.declared.make.Six.{Six}
use Rattle.cd_grammar.specs.Parts.{Part, Junk}
use Rattle.cd_grammar.specs.Makes.{made}

pub not_one : (m : One) (here : Span) (all : List Part) → length all ≢ 1 → made (make.One m) here all ≡ Junk
not_one m here [] other = refl
not_one m here (a ∷ []) other = absurd (other refl)
not_one m here (a ∷ b ∷ rest) other = refl

pub not_two : (m : Two) (here : Span) (all : List Part) → length all ≢ 2 → made (make.Two m) here all ≡ Junk
not_two m here [] other = refl
not_two m here (a ∷ []) other = refl
not_two m here (a ∷ b ∷ []) other = absurd (other refl)
not_two m here (a ∷ b ∷ c ∷ rest) other = refl

pub not_three : (m : Three) (here : Span) (all : List Part) → length all ≢ 3 → made (make.Three m) here all ≡ Junk
not_three m here [] other = refl
not_three m here (a ∷ []) other = refl
not_three m here (a ∷ b ∷ []) other = refl
not_three m here (a ∷ b ∷ c ∷ []) other = absurd (other refl)
not_three m here (a ∷ b ∷ c ∷ d ∷ rest) other = refl

pub not_four : (m : Four) (here : Span) (all : List Part) → length all ≢ 4 → made (make.Four m) here all ≡ Junk
not_four m here [] other = refl
not_four m here (a ∷ []) other = refl
not_four m here (a ∷ b ∷ []) other = refl
not_four m here (a ∷ b ∷ c ∷ []) other = refl
not_four m here (a ∷ b ∷ c ∷ d ∷ []) other = absurd (other refl)
not_four m here (a ∷ b ∷ c ∷ d ∷ e ∷ rest) other = refl

pub not_five : (m : Five) (here : Span) (all : List Part) → length all ≢ 5 → made (make.Five m) here all ≡ Junk
not_five m here [] other = refl
not_five m here (a ∷ []) other = refl
not_five m here (a ∷ b ∷ []) other = refl
not_five m here (a ∷ b ∷ c ∷ []) other = refl
not_five m here (a ∷ b ∷ c ∷ d ∷ []) other = refl
not_five m here (a ∷ b ∷ c ∷ d ∷ e ∷ []) other = absurd (other refl)
not_five m here (a ∷ b ∷ c ∷ d ∷ e ∷ f ∷ rest) other = refl

pub not_six : (m : Six) (here : Span) (all : List Part) → length all ≢ 6 → made (make.Six m) here all ≡ Junk
not_six m here [] other = refl
not_six m here (a ∷ []) other = refl
not_six m here (a ∷ b ∷ []) other = refl
not_six m here (a ∷ b ∷ c ∷ []) other = refl
not_six m here (a ∷ b ∷ c ∷ d ∷ []) other = refl
not_six m here (a ∷ b ∷ c ∷ d ∷ e ∷ []) other = refl
not_six m here (a ∷ b ∷ c ∷ d ∷ e ∷ f ∷ []) other = absurd (other refl)
not_six m here (a ∷ b ∷ c ∷ d ∷ e ∷ f ∷ g ∷ rest) other = refl
