-- Words give one command at most.
use Rattle.std.proofs.Common.{◌≡◌, List, [], ◌∷◌, refl, sym, ap, ◌∙◌}
use Rattle.std.specs.Prelude.{if◌then◌else◌, codes}
use Rattle.std.specs.Str.{bytes_eq}
use Rattle.cd_syntax.specs.Digits.{decimal_value}
use Rattle.cd_replies.specs.Bytes.{Bytes}
use Rattle.cd_driver.specs.Command.{Command, Sub, SubTypes, Member, Check, Run, RunSteps, Work, ParseAs}

-- the command that words give, where they give one
abbrev given_by : List Bytes → Command
given_by (name ∷ a ∷ []) = if bytes_eq name (codes "check") then Check a else Work (decimal_value a)
given_by (name ∷ a ∷ b ∷ []) = if bytes_eq name (codes "sub") then Sub a b else Run a b
given_by (name ∷ a ∷ b ∷ c ∷ []) = Member a b c
given_by (name ∷ a ∷ b ∷ c ∷ d ∷ []) = if bytes_eq name (codes "sub") then SubTypes b c d else RunSteps (decimal_value b) c d
given_by words = Check []

is_given : (words : List Bytes) (command : Command) → ParseAs words command → given_by words ≡ command
is_given words (RunSteps units file document) is = rw is.1 (ap (λ number. RunSteps number file document) (sym is.2.value))
is_given words (Work size) is = rw is.1 (ap Work (sym is.2.numeral.value))
is_given words command is = rw is refl

pub one_command : (words : List Bytes) (first second : Command) → ParseAs words first → ParseAs words second → second ≡ first
one_command words first second parse parse' = sym (is_given words second parse') ∙ is_given words first parse
