-- A text lexes to one list of tokens at most, or has one first fault, and not both.
use Rattle.std.proofs.Common.{◌≡◌, ℕ, ◌+◌, Bool, false, List, [], ◌∷◌, ◌++◌, refl, inl, inr}
use Rattle.cd_syntax.specs.declared.tokens.Token.{Token}
use Rattle.cd_syntax.specs.declared.fault.TextFault.{TextFault}
use Rattle.cd_syntax.specs.Tokens.{Lexes, bytes, joins, token_at}
use Rattle.cd_syntax.specs.Tokens as tokens
use Rattle.cd_syntax.specs.Faults.{HasFirstFault}
use Rattle.cd_syntax.specs.Faults as faults
use Rattle.cd_lex.proofs.OneWay.{Reads, stop, more, once}
use Rattle.cd_lex.proofs.PrefixesAreOne.{State, Result, PrefixStep, prefix_once, dropped_prefix, token_prefix, fault_prefix}

-- tokens before what is read
abbrev push : List Token → Result → Result
push before (inl after) = inl (before ++ after)
push before (inr fault) = inr fault

abbrev ReadsText : State → Result → Type 0
ReadsText = Reads State Result (List Token) PrefixStep push

one_result : (state : State) (a b : Result) → ReadsText state a → ReadsText state b → a ≡ b
one_result = once State Result (List Token) PrefixStep push prefix_once

-- what lexes is read
spells_read : (joined : Bool) (at : ℕ) (text : List ℕ) (list : List Token) → Lexes joined at text list → ReadsText (joined, at, text) (inl list)
spells_read _ _ _ _ (tokens.nothing joined at) = stop (joined, at, []) (inl []) refl
spells_read _ _ _ _ (tokens.dropped joined at written text list drops on) =
    more (joined, at, written ++ text) (false, at + bytes written, text) [] (inl list) (dropped_prefix joined at written text drops)
    (spells_read false (at + bytes written) text list on)
spells_read _ _ _ _ (tokens.token joined at written text kind list writes on) =
    more (joined, at, written ++ text) (joins kind, at + bytes written, text) (token_at at written kind ∷ []) (inl list) (token_prefix joined at written text kind writes)
    (spells_read (joins kind) (at + bytes written) text list on)

-- and so is the first fault
fails_read : (joined : Bool) (at : ℕ) (text : List ℕ) (fault : TextFault) → HasFirstFault joined at text fault → ReadsText (joined, at, text) (inr fault)
fails_read _ _ _ _ (faults.here joined at text fault breaks) = stop (joined, at, text) (inr fault) (fault_prefix joined at text fault breaks)
fails_read _ _ _ _ (faults.after_dropped joined at written text fault drops on) =
    more (joined, at, written ++ text) (false, at + bytes written, text) [] (inr fault) (dropped_prefix joined at written text drops)
    (fails_read false (at + bytes written) text fault on)
fails_read _ _ _ _ (faults.after_token joined at written text kind fault writes on) =
    more (joined, at, written ++ text) (joins kind, at + bytes written, text) (token_at at written kind ∷ []) (inr fault) (token_prefix joined at written text kind writes)
    (fails_read (joins kind) (at + bytes written) text fault on)

pub one_list : (text : List ℕ) (first second : List Token) → Lexes false 0 text first → Lexes false 0 text second → first ≡ second
one_list text first second one two =
    let same : inl first ≡ inl second = one_result (false, 0, text) (inl first) (inl second) (spells_read false 0 text first one) (spells_read false 0 text second two) in
    cc

pub one_fault : (text : List ℕ) (first second : TextFault) → HasFirstFault false 0 text first → HasFirstFault false 0 text second → first ≡ second
one_fault text first second one two =
    let same : inr first ≡ inr second = one_result (false, 0, text) (inr first) (inr second) (fails_read false 0 text first one) (fails_read false 0 text second two) in
    cc

pub not_both : (text : List ℕ) (list : List Token) (fault : TextFault) → Lexes false 0 text list → HasFirstFault false 0 text fault → ⊥
not_both text list fault one two =
    let same : inl list ≡ inr fault = one_result (false, 0, text) (inl list) (inr fault) (spells_read false 0 text list one) (fails_read false 0 text fault two) in
    absurd cc
