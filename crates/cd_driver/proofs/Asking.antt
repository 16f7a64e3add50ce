-- Words, the commands that they give, and numbers in decimal digits.
use Rattle.std.proofs.Common.{◌≡◌, ℕ, ◌+◌, ◌*◌, ◌-◌, ◌<◌, ◌≤◌, true, List, [], ◌∷◌, length, get_or, Result, Ok, refl, sym, subst, ◌∙◌, inl, inr, arith, rules}
use Rattle.std.specs.Prelude.{fold, codes, String, string_bytes}
use Rattle.std.specs.Global.{Global}
use Rattle.std.specs.Char.{is_ascii_digit}
use Rattle.std.specs.List.{list_all}
use Rattle.std.specs.Str.Parse.{ParsesUnsigned}
use Rattle.std.proofs.lemmas.Str.Parse.{IsNumeralModel, numerals_by_fold, digits_value_short, parse_gives}
use Rattle.cd_syntax.specs.Digits.{AreDigits, decimal_value}
use Rattle.cd_replies.specs.Bytes.{Bytes}
use Rattle.cd_running.specs.RunAnswer.{UNITS}
use Rattle.cd_driver.specs.Command.{texts, ParseAs, ParseAsRun, Check, Work, Member, SubTypes, IsSize}
use Rattle.cd_driver.specs.Inner.Request.{WritesSize}

digits_model : IsNumeralModel (λ digits. list_all is_ascii_digit digits ≡ true) decimal_value
digits_model = numerals_by_fold _ (search rules) (λ n digits. fold (λ m c. m * 10 + (c - 48)) n digits) (search rules)

not_empty : (word : List ℕ) → (word ≡ [] → ⊥) → 0 < length word
not_empty [] some = absurd (some refl)
not_empty (c ∷ cs) some = omega arith

-- `parse` gives the number that up to 6 digits write
pub parse_number : {E : Type 0} (word : List ℕ) (r : Result ℕ E) → ParsesUnsigned 32 10 word r → AreDigits word → length word ≤ 6 → r ≡ Ok (decimal_value word)
parse_number word r parses are short =
    let small = digits_value_short digits_model word 6 are.0 short in
    parse_gives digits_model 32 word r parses are.0 (not_empty word are.1) (omega (arith, small))

-- and that which up to 18 digits write
pub parse_units : {E : Type 0} (word : List ℕ) (r : Result ℕ E) → ParsesUnsigned 64 10 word r → AreDigits word → length word ≤ 18 → r ≡ Ok (decimal_value word)
parse_units word r parses are short =
    let small = digits_value_short digits_model word 18 are.0 short in
    parse_gives digits_model 64 word r parses are.0 (not_empty word are.1) (omega (arith, small))

-- words that give a command
pub asks_sub_types : (name option a b c : Bytes) → name ≡ codes "sub" → option ≡ codes "--types"
    → ParseAs (name ∷ option ∷ a ∷ b ∷ c ∷ []) (SubTypes a b c)
asks_sub_types name option a b c is types = rw (is, types) refl

pub asks_member : (name a b c : Bytes) → name ≡ codes "member" → ParseAs (name ∷ a ∷ b ∷ c ∷ []) (Member a b c)
asks_member name a b c is = rw is refl

pub asks_check : (name a : Bytes) → name ≡ codes "check" → ParseAs (name ∷ a ∷ []) (Check a)
asks_check name a is = rw is refl

pub asks_run : (name a b : Bytes) → name ≡ codes "run" → ParseAsRun (name ∷ a ∷ b ∷ []) UNITS a b
asks_run name a b is = inl (rw is refl, refl)

pub asks_run_steps : (name option a b c : Bytes) (units : ℕ) → name ≡ codes "run" → option ≡ codes "--steps" → AreDigits a → length a ≤ 18
    → units ≡ decimal_value a → ParseAsRun (name ∷ option ∷ a ∷ b ∷ c ∷ []) units b c
asks_run_steps name option a b c units is steps digits short value =
    inr (a, rw (is, steps) refl, record { digits = digits; short = short; value = value })

pub asks_work : (name a : Bytes) (size : ℕ) → name ≡ codes "work" → WritesSize a → size ≡ decimal_value a → ParseAs (name ∷ a ∷ []) (Work size)
asks_work name a size is writes value = (a, rw is refl, subst (IsSize a) (writes.1.numeral.value ∙ sym value) writes.1)

-- the texts of four words, and of five
pub texts_four : (words : List (String Global)) (a b c d : String Global) (p q r s : Bytes) → 4 ≤ length words → length words < 5
    → a ≡ get_or words 0 a → b ≡ get_or words 1 b → c ≡ get_or words 2 c → d ≡ get_or words 3 d
    → p ≡ string_bytes a → q ≡ string_bytes b → r ≡ string_bytes c → s ≡ string_bytes d
    → texts words ≡ p ∷ q ∷ r ∷ s ∷ []
texts_four [] a b c d p q r s low high = absurd (omega arith)
texts_four (w ∷ []) a b c d p q r s low high = absurd (omega arith)
texts_four (w ∷ x ∷ []) a b c d p q r s low high = absurd (omega arith)
texts_four (w ∷ x ∷ y ∷ []) a b c d p q r s low high = absurd (omega arith)
texts_four (w ∷ x ∷ y ∷ z ∷ []) a b c d p q r s low high = λ i j k l m n o t. cc
texts_four (w ∷ x ∷ y ∷ z ∷ v ∷ words) a b c d p q r s low high = absurd (omega arith)

pub texts_five : (words : List (String Global)) (a b c d e : String Global) (p q r s t : Bytes) → 5 ≤ length words → length words < 6
    → a ≡ get_or words 0 a → b ≡ get_or words 1 b → c ≡ get_or words 2 c → d ≡ get_or words 3 d → e ≡ get_or words 4 e
    → p ≡ string_bytes a → q ≡ string_bytes b → r ≡ string_bytes c → s ≡ string_bytes d → t ≡ string_bytes e
    → texts words ≡ p ∷ q ∷ r ∷ s ∷ t ∷ []
texts_five [] a b c d e p q r s t low high = absurd (omega arith)
texts_five (v ∷ words) a b c d e p q r s t low high = λ i j k l m n o u f g.
    let rest = texts_four words b c d e q r s t (omega arith) (omega arith) j k l m o u f g in
    cc
