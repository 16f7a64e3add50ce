-- What a computed run of the automaton says of the tokens of a text.
use Rattle.std.proofs.Common.{◌≡◌, ◌∙◌, sym, ap, subst, refl, ℕ, zero, suc, List, ◌∷◌, map, drop, length, Option, Some, None, true, arith, ltb-true}
use Rattle.std.specs.Prelude.{◌≤◌, nat_lt}
use Rattle.std.proofs.Math.Seq.{drop-append_seam}
use Rattle.cd_syntax.specs.declared.tokens.Token.{Token}
use Rattle.cd_syntax.specs.SyntaxFaults.{IsWrong, IsUnfinished}
use Rattle.cd_lr.specs.Automaton.{Automaton, Config, Next, On, Done, Wrong, TooDeep as NoRoom, step, begin, Reaches, here, on}
use Rattle.cd_lr.specs.Reading.{Read as Made, Syntax, TooDeep, IsAnswer}
use Rattle.cd_lr.specs.Running.{run}
use Rattle.cd_lr.specs.Tables.{machine}
use Rattle.cd_lr.specs.TableGrammar.{Core, Sure, First, ranks}
use Rattle.cd_lr.proofs.Run.{Stops, by_run}
use Rattle.cd_lr.proofs.Sound.{stood, sound}
use Rattle.cd_lr.proofs.Answers.{at_wrong, at_too_deep}
use Rattle.cd_lr.proofs.Exactly.{exactly}
use Rattle.cd_grammar.specs.declared.goal.Goal.{Goal}
use Rattle.cd_grammar.specs.Tables.{tables}
use Rattle.cd_grammar.specs.Parts.{Part}
use Rattle.cd_grammar.specs.Language.{Entry, To, Read, Placed, cduce_grammar, Writes}
use Rattle.cd_grammar.proofs.Exact.{safe, full}
use Rattle.cd_grammar.proofs.TokenFaults.{form, is_wrong, is_unfinished}
use Rattle.cd_grammar.proofs.WrittenDeeper.{written_deeper}

abbrev reader : Automaton
reader = machine tables

abbrev entries : Goal → List Token → List Entry
entries goal tokens = To goal ∷ map Read tokens

abbrev start : Goal → (most : ℕ) → List Token → Config Entry Placed
start goal most tokens = begin cduce_grammar reader most (entries goal tokens)

-- how a run of so many steps at most ends
abbrev pub ending : Goal → (most steps : ℕ) → List Token → Next Entry Placed
ending goal most steps tokens = run cduce_grammar reader most steps (start goal most tokens)

-- the part that it makes
abbrev pub made : Next Entry Placed → Option Part
made (Done is) = Some is.1
made _ = None

-- what it comes to before its last step
abbrev further : Next Entry Placed → Config Entry Placed → (Config Entry Placed → Config Entry Placed)
    → Config Entry Placed
further (On d) c more = more d
further _ c more = c

abbrev last : (most : ℕ) → ℕ → Config Entry Placed → Config Entry Placed
last most zero c = c
last most (suc n) c = further (step cduce_grammar reader most c) c (λ d. last most n d)

comes_to : (most n : ℕ) (c : Config Entry Placed) → Reaches cduce_grammar reader most c (last most n c)
comes_to most zero c = here c
comes_to most (suc n) c = by (step cduce_grammar reader most c) refl (λ d. comes_to most n d)
  where
    by : (next : Next Entry Placed) → step cduce_grammar reader most c ≡ next
        → ((d : Config Entry Placed) → Reaches cduce_grammar reader most d (last most n d))
        → Reaches cduce_grammar reader most c (further next c (λ d. last most n d))
    by (On d) is more = on c d (last most n d) is (more d)
    by (Done v) is more = here c
    by Wrong is more = here c
    by NoRoom is more = here c

-- what is made is written
pub written : (goal : Goal) (most steps : ℕ) (tokens : List Token) (part : Part)
    → made (ending goal most steps tokens) ≡ Some part → Writes goal most tokens part
written goal most steps tokens part is = by (ending goal most steps tokens) refl is
  where
    told : (found : Placed) → Stops cduce_grammar reader most (start goal most tokens) (Done found)
        → Writes goal most tokens found.1
    told found (c, comes, ends) = (
      found.0,
      sound cduce_grammar reader (Core tables) (ranks tables) safe most (entries goal tokens) c found comes ends,
    )

    by : (next : Next Entry Placed) → ending goal most steps tokens ≡ next → made next ≡ Some part
        → Writes goal most tokens part
    by (Done found) was so =
        let same : found.1 ≡ part = cc in
        subst (Writes goal most tokens) same
        (told found (by_run cduce_grammar reader most steps (start goal most tokens) (Done found) tt was))
    by (On c) was so = absurd cc
    by Wrong was so = absurd cc
    by NoRoom was so = absurd cc

-- more steps than any text takes in examples
abbrev pub steps : ℕ
steps = 1000

-- the entries that are left where the run stops, and the last step
abbrev left_and_next : (most : ℕ) → Config Entry Placed → List Entry × Next Entry Placed
left_and_next most c = (c.rest, step cduce_grammar reader most c)

abbrev pub stop : Goal → (most : ℕ) → List Token → List Entry × Next Entry Placed
stop goal most tokens = left_and_next most (last most steps (start goal most tokens))

apart : (index : ℕ) (part : Placed) → TooDeep index ≡ Made part → ⊥
apart index part same = cc

module _ (goal : Goal) (most : ℕ) (tokens : List Token) where
  -- where there is no room nothing is written, and at smaller depths too
  too_deep : ending goal most steps tokens ≡ NoRoom → (part : Part) → Writes goal most tokens part → ⊥
  too_deep is part (place, writes) =
      by (by_run cduce_grammar reader most steps (start goal most tokens) NoRoom tt is)
    where
      by : Stops cduce_grammar reader most (start goal most tokens) NoRoom → ⊥
      by (c, comes, ends) =
          let right = stood cduce_grammar reader (Core tables) (ranks tables) safe most (entries goal tokens) c comes in
          let index = length right.read in
          let rest = sym (ap (drop (length right.read)) right.all ∙ drop-append_seam right.read c.rest) in
          let answer =
          at_too_deep cduce_grammar reader (Core tables) (Sure tables) (First tables) (ranks tables) safe full most
          (entries goal tokens) c index comes ends rest in
          apart index (place, part)
          (exactly cduce_grammar reader (Sure tables) (First tables) full most (entries goal tokens) (place, part)
          (TooDeep index) writes answer)

  pub not_written : ending goal most steps tokens ≡ NoRoom → (less : ℕ) (part : Part) → less ≤ most
      → Writes goal less tokens part → ⊥
  not_written is less part small writes = too_deep is part (written_deeper goal less most tokens part small writes)

  -- a run that stops at an entry answers so
  abbrev StopsAt : (index : ℕ) → Type 0
  StopsAt index = stop goal most tokens ≡ (drop index (entries goal tokens), Wrong)

  refused : (index : ℕ) → StopsAt index → IsAnswer cduce_grammar most (entries goal tokens) (Syntax index)
  refused index is =
      at_wrong cduce_grammar reader (Core tables) (Sure tables) (First tables) (ranks tables) safe full most
      (entries goal tokens) (last most steps (start goal most tokens)) index
      (comes_to most steps (start goal most tokens)) (ap (λ both. both.1) is) (ap (λ both. both.0) is)

  module _ {Written : Type 0} (of : Written → Part) where
    -- the token at which the run stops is the first one that cannot come
    pub wrong_at : (index : ℕ) → nat_lt index (length tokens) ≡ true → StopsAt (suc index)
        → IsWrong (form of goal) most tokens index
    wrong_at index small is =
        is_wrong of goal most tokens index (refused (suc index) is) (ltb-true index (length tokens) small)

    -- where it stops at the end the text is begun
    pub begun_only : StopsAt (suc (length tokens)) → IsUnfinished (form of goal) most tokens
    begun_only is = is_unfinished of goal most tokens (length tokens) (refused (suc (length tokens)) is) (omega arith)
