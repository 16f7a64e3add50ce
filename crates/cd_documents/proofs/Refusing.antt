-- The machine refuses each fault.
use Rattle.std.proofs.Common.{◌≡◌, ◌∙◌, sym, ap, refl, ℕ, zero, suc, ◌<◌, Bool, true, false, not, List, [], ◌∷◌, ◌++◌, ◌⊎◌, inl, inr, length, Option, Some, None, Result, Ok, Err, arith}
use Rattle.std.proofs.lemmas.Bool.Decides.{nat_tests}
use Rattle.std.specs.Prelude.{nat_lt, ◌&&◌, if◌then◌else◌, take}
use Rattle.cd_syntax.specs.declared.tokens.Token.{Token}
use Rattle.cd_syntax.specs.SyntaxFaults.{BeginSome, place_of, IsWrong, IsUnfinished, IsSyntaxFault, at_token, at_end}
use Rattle.cd_model.specs.Thing.{Thing}
use Rattle.cd_documents.specs.Terminal.{terminal, opens, opens_at}
use Rattle.cd_documents.specs.Machine.{State, start, Fault, Syntax, TooDeep, after_terminal, or_wrong, step, and_then, reach, ended, value_at, run}
use Rattle.cd_documents.specs.DocumentFaults.{ADocument, IsOneTooMany, IsTooDeepDocument, at_bracket, IsWrongDocument}
use Rattle.cd_documents.proofs.Completing.{going, reads}
use Rattle.cd_documents.proofs.Sounding.{derived}
use Rattle.cd_documents.proofs.StepsKept.{step_kept}
use Rattle.cd_documents.proofs.Faulting.{reach_append, goes_on, begun, reaches, as_many, wrong_token, unfinished, too_deep, wrong_place}

-- a token among others
abbrev IsThere : List Token → ℕ → ℕ → Type 0
IsThere tokens end index = (one : Token) × (rest : List Token) × (tokens ≡ take index tokens ++ one ∷ rest) × (take (suc index) tokens ≡ take index tokens ++ one ∷ [])
    × (place_of tokens end index ≡ one.span.from) × (opens_at tokens index ≡ opens (terminal one.kind))

later_there : (first : Token) (tokens : List Token) (end index : ℕ) → IsThere tokens end index → IsThere (first ∷ tokens) end (suc index)
later_there first tokens end index (one, rest, is, with_it, place, opening) =
    (one, rest, ap (λ all. first ∷ all) is, ap (λ all. first ∷ all) with_it, place, opening)

there : (tokens : List Token) (end index : ℕ) → index < length tokens → IsThere tokens end index
there [] end index lt = absurd (omega (arith, lt))
there (one ∷ tokens) end zero lt = (one, tokens, refl, refl, refl, refl)
there (first ∷ tokens) end (suc index) lt = later_there first tokens end index (there tokens end index (omega (arith, lt)))

opening_within : (tokens : List Token) (index : ℕ) → opens_at tokens index ≡ true → index < length tokens
opening_within [] index is = absurd (cc is)
opening_within (one ∷ tokens) zero is = omega arith
opening_within (one ∷ tokens) (suc index) is = let lt = opening_within tokens index is in omega (arith, lt)

-- tokens that begin a document lead to a state
has_state : (made : Result State Fault) (most : ℕ) (more : List Token) (value : Thing) → going most more made ≡ Ok (Some value) → (last : State) × (made ≡ Ok last)
has_state (Ok last) most more value h = (last, refl)
has_state (Err fault) most more value h = absurd (cc h)

leads : (most : ℕ) (tokens : List Token) → BeginSome ADocument most tokens → (last : State) × (reach most start tokens ≡ Ok last)
leads most tokens (more, (value, document)) =
    has_state (reach most start tokens) most more value (sym (ap ended (reach_append most more tokens start)) ∙ reads most (tokens ++ more) value document)

run_there : (most : ℕ) (tokens : List Token) (end index : ℕ) (at : IsThere tokens end index) (last : State) (made : Result State Fault) → reach most start (take index tokens) ≡ Ok last
    → step most last at.0 ≡ made → run most start tokens ≡ going most at.1 made
run_there most tokens end index at last made is steps =
    ap (run most start) at.2 ∙ goes_on most (at.0 ∷ at.1) (take index tokens) start last is ∙ ap (going most at.1) steps

full_bracket : (b : Bool) (less : Bool) (n most from : ℕ) (made : Result State Fault) → b ≡ true → nat_lt n most ≡ less → n ≡ most
    → (if b && not less then Err (TooDeep from) else made) ≡ Err (TooDeep from)
full_bracket true false n most from made opening is same = refl
full_bracket true true n most from made opening is same = absurd (grind (arith, nat_tests))
full_bracket false less n most from made opening is same = absurd (cc opening)

deep_at : (most : ℕ) (tokens : List Token) (end index : ℕ) → IsOneTooMany most tokens index → run most start tokens ≡ Err (TooDeep (place_of tokens end index))
deep_at most tokens end index fault =
    let at = there tokens end index (opening_within tokens index fault.opens) in
    let found = leads most (take index tokens) fault.before in
    let last = found.0 in
    let good = reaches most (take index tokens) start last tt (omega arith) found.1 in
    let full : length last.trees ≡ most = sym (as_many last.trees) ∙ ap length good.2 ∙ fault.full in
    run_there most tokens end index at last (Err (TooDeep at.0.span.from)) found.1
    (full_bracket (opens (terminal at.0.kind)) (nat_lt (length last.trees) most) (length last.trees) most at.0.span.from
    (or_wrong at.0.span.from (after_terminal last.expecting last.trees (terminal at.0.kind))) (sym at.5 ∙ fault.opens) refl full)
    ∙ ap (λ from. Err (TooDeep from)) (sym at.4)

pub deep_refused : (most : ℕ) (tokens : List Token) (end place : ℕ) → IsTooDeepDocument most tokens end place → run most start tokens ≡ Err (TooDeep place)
deep_refused most tokens end _ (at_bracket index fault) = deep_at most tokens end index fault

deep_by : (b : Bool) (from other : ℕ) (made : Option State) → (if b then Err (TooDeep from) else or_wrong from made) ≡ Err (TooDeep other) → from ≡ other
deep_by true from other made h = cc h
deep_by false from other (Some next) h = absurd (cc h)
deep_by false from other None h = absurd (cc h)

deep_place : (most : ℕ) (last : State) (one : Token) (from : ℕ) → step most last one ≡ Err (TooDeep from) → one.span.from ≡ from
deep_place most last one from h =
    deep_by (opens (terminal one.kind) && not (nat_lt (length last.trees) most)) one.span.from from (after_terminal last.expecting last.trees (terminal one.kind)) h

-- how a run ends at a fault of syntax
abbrev IsRefused : ℕ → List Token → (end place : ℕ) → Type 0
IsRefused most tokens end place = (run most start tokens ≡ Err (Syntax place)) ⊎ ((run most start tokens ≡ Ok None) × (place ≡ end))

refused_by : (made : Result State Fault) (most : ℕ) (tokens : List Token) (end index : ℕ) → (at : IsThere tokens end index) → (last : State)
    → reach most start (take index tokens) ≡ Ok last → step most last at.0 ≡ made → IsWrong ADocument most tokens index
    → (IsTooDeepDocument most tokens end (place_of tokens end index) → ⊥) → IsRefused most tokens end (place_of tokens end index)
refused_by (Ok next) most tokens end index at last is steps fault shallow =
    let good = reaches most (take index tokens) start last tt (omega arith) is in
    let keeps = step_kept most last at.0 next good.0 good.1 steps in
    let reached : reach most start (take (suc index) tokens) ≡ Ok next =
    ap (reach most start) at.3 ∙ reach_append most (at.0 ∷ []) (take index tokens) start
    ∙ ap (λ made. and_then made (λ next. reach most next (at.0 ∷ []))) is ∙ ap (λ made. and_then made (λ next. reach most next [])) steps in
    let begins = begun most (take (suc index) tokens) next reached keeps.0 in
    absurd (fault.wrong most begins.0 begins.1)
refused_by (Err (Syntax from)) most tokens end index at last is steps fault shallow =
    inl (run_there most tokens end index at last (Err (Syntax from)) is steps
    ∙ ap (λ from. Err (Syntax from)) (sym (wrong_place most last at.0 from steps) ∙ sym at.4))
refused_by (Err (TooDeep from)) most tokens end index at last is steps fault shallow =
    absurd (shallow (too_deep most tokens end (place_of tokens end index)
    (run_there most tokens end index at last (Err (TooDeep from)) is steps
    ∙ ap (λ from. Err (TooDeep from)) (sym (deep_place most last at.0 from steps) ∙ sym at.4))))

ended_by : (found : Option Thing) (most : ℕ) (tokens : List Token) (end : ℕ) → run most start tokens ≡ Ok found → IsUnfinished ADocument most tokens → IsRefused most tokens end end
ended_by (Some value) most tokens end is fault = absurd (fault.unfinished most (value, derived most tokens value is))
ended_by None most tokens end is fault = inr (is, refl)

refused : (most : ℕ) (tokens : List Token) (end place : ℕ) → IsSyntaxFault ADocument most tokens end place → (IsTooDeepDocument most tokens end place → ⊥) → IsRefused most tokens end place
refused most tokens end _ (at_token index fault) shallow =
    let at = there tokens end index fault.within in
    let found = leads most (take index tokens) fault.before in
    refused_by (step most found.0 at.0) most tokens end index at found.0 found.1 refl fault shallow
refused most tokens end _ (at_end fault) shallow =
    let found = leads most tokens fault.begun in
    ended_by (value_at found.0.expecting) most tokens end (ap ended found.1) fault

pub wrong_refused : (most : ℕ) (tokens : List Token) (end place : ℕ) → IsWrongDocument most tokens end place → IsRefused most tokens end place
wrong_refused most tokens end place fault = refused most tokens end place fault.syntax fault.shallow

pub wrong_document : (most : ℕ) (tokens : List Token) (end from : ℕ) → run most start tokens ≡ Err (Syntax from) → IsWrongDocument most tokens end from
wrong_document most tokens end from h = record {
  syntax = wrong_token most tokens end from h;
  shallow = λ deep. cc (sym h ∙ deep_refused most tokens end from deep);
}

pub unfinished_document : (most : ℕ) (tokens : List Token) (end : ℕ) → run most start tokens ≡ Ok None → IsWrongDocument most tokens end end
unfinished_document most tokens end h = record {
  syntax = unfinished most tokens end h;
  shallow = λ deep. cc (sym h ∙ deep_refused most tokens end end deep);
}
