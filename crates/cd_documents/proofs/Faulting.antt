-- Where the machine stops, the tokens stop being a document.
use Rattle.std.proofs.Common.{◌≡◌, ◌∙◌, sym, ap, refl, subst, ℕ, suc, ◌+◌, ◌<◌, ◌≤◌, Bool, true, false, not, List, [], ◌∷◌, ◌++◌, length, append_assoc, append-nil, Option, Some, None, Result, Ok, Err, arith}
use Rattle.std.proofs.lemmas.Bool.Decides.{nat_tests}
use Rattle.std.specs.Prelude.{nat_lt, ◌&&◌, if◌then◌else◌, take}
use Rattle.cd_syntax.specs.declared.tokens.Token.{Token}
use Rattle.cd_syntax.specs.SyntaxFaults.{BeginSome, place_of, IsSyntaxFault, at_token, at_end}
use Rattle.cd_model.specs.Thing.{Thing}
use Rattle.cd_documents.specs.Document.{IsDocument}
use Rattle.cd_documents.specs.Terminal.{terminal, opens, Bracket, open_from, open_after, opens_at}
use Rattle.cd_documents.specs.Machine.{OpenTree, State, start, Fault, Syntax, TooDeep, after_terminal, or_wrong, step, and_then, reach, ended, value_at, run, Fits}
use Rattle.cd_documents.specs.DocumentFaults.{ADocument, IsTooDeepDocument, at_bracket}
use Rattle.cd_documents.proofs.Completing.{going, comes}
use Rattle.cd_documents.proofs.Sounding.{derived}
use Rattle.cd_documents.proofs.Ending.{each_ends}
use Rattle.cd_documents.proofs.StepsKept.{brackets, step_kept, IsShallow, shallow}

-- a state as it has to be after tokens, from another one
abbrev IsGood : ℕ → List Bracket → List Token → State → Type 0
IsGood most before tokens last = Fits last.expecting last.trees × (length last.trees ≤ most) × (brackets last.trees ≡ open_from before tokens)

-- where a run stops: the tokens before, the token, those after it, and the state
abbrev Stop : ℕ → State → List Token → Fault → Type 0
Stop most now tokens fault = (before : List Token) × (one : Token) × (rest : List Token) × (last : State) × (tokens ≡ before ++ one ∷ rest)
    × (reach most now before ≡ Ok last) × (step most last one ≡ Err fault) × IsGood most (brackets now.trees) before last

abbrev refused : Fault → Result (Option Thing) Fault
refused fault = Err fault

same_fault : (one other : Fault) → refused one ≡ refused other → one ≡ other
same_fault one other h = cc h

module _ (most : ℕ) where
  abbrev StopsOn : List Token → Type 0
  StopsOn tokens = (now : State) (fault : Fault) → Fits now.expecting now.trees → length now.trees ≤ most → run most now tokens ≡ Err fault → Stop most now tokens fault

  stops_by : (made : Result State Fault) (one : Token) (tokens : List Token) → StopsOn tokens → (now : State) (fault : Fault) → Fits now.expecting now.trees → length now.trees ≤ most
      → step most now one ≡ made → going most tokens made ≡ Err fault → Stop most now (one ∷ tokens) fault
  stops_by (Ok next) one tokens on now fault fits le is h =
      let keeps = step_kept most now one next fits le is in
      let found = on next fault keeps.0 keeps.2 h in (
        one ∷ found.0,
        found.1,
        found.2,
        found.3,
        ap (λ all. one ∷ all) found.4,
        ap (λ made. and_then made (λ next. reach most next found.0)) is ∙ found.5,
        found.6,
        (found.7.0, found.7.1, found.7.2 ∙ ap (λ open_brackets. open_from open_brackets found.0) keeps.1),
      )
  stops_by (Err other) one tokens on now fault fits le is h =
      ([], one, tokens, now, refl, refl, is ∙ ap (λ fault. Err fault) (same_fault other fault h), (fits, le, refl))

  stops : (tokens : List Token) → StopsOn tokens
  stops [] now fault fits le h = absurd (cc h)
  stops (one ∷ tokens) now fault fits le h = stops_by (step most now one) one tokens (stops tokens) now fault fits le refl h

  abbrev ReachesOn : List Token → Type 0
  ReachesOn tokens = (now last : State) → Fits now.expecting now.trees → length now.trees ≤ most → reach most now tokens ≡ Ok last
      → IsGood most (brackets now.trees) tokens last

  reaches_by : (made : Result State Fault) (one : Token) (tokens : List Token) → ReachesOn tokens → (now last : State) → Fits now.expecting now.trees → length now.trees ≤ most
      → step most now one ≡ made → and_then made (λ next. reach most next tokens) ≡ Ok last → IsGood most (brackets now.trees) (one ∷ tokens) last
  reaches_by (Ok next) one tokens on now last fits le is h =
      let keeps = step_kept most now one next fits le is in
      let found = on next last keeps.0 keeps.2 h in
      (found.0, found.1, found.2 ∙ ap (λ open_brackets. open_from open_brackets tokens) keeps.1)
  reaches_by (Err fault) one tokens on now last fits le is h = absurd (cc h)

  abbrev reached : State → Result State Fault
  reached last = Ok last

  same_state : (one other : State) → reached one ≡ reached other → one ≡ other
  same_state one other h = cc h

  pub reaches : (tokens : List Token) → ReachesOn tokens
  reaches [] now last fits le h = subst (IsGood most (brackets now.trees) []) (same_state now last h) (fits, le, refl)
  reaches (one ∷ tokens) now last fits le h = reaches_by (step most now one) one tokens (reaches tokens) now last fits le refl h

-- a run goes on from where tokens lead
module _ (most : ℕ) (more : List Token) where
  joined : (made : Result State Fault) (before : List Token)
      → ((now : State) → reach most now (before ++ more) ≡ and_then (reach most now before) (λ next. reach most next more))
      → and_then made (λ next. reach most next (before ++ more)) ≡ and_then (and_then made (λ next. reach most next before)) (λ next. reach most next more)
  joined (Ok next) before on = on next
  joined (Err fault) before on = refl

  pub reach_append : (before : List Token) (now : State) → reach most now (before ++ more) ≡ and_then (reach most now before) (λ next. reach most next more)
  reach_append [] now = refl
  reach_append (one ∷ before) now = joined (step most now one) before (reach_append before)

  pub goes_on : (before : List Token) (now last : State) → reach most now before ≡ Ok last → run most now (before ++ more) ≡ run most last more
  goes_on before now last is =
      ap ended (reach_append before now) ∙ ap (λ made. ended (and_then made (λ next. reach most next more))) is

-- with more brackets allowed the machine goes the same way
module _ (most greater : ℕ) (le : most ≤ greater) where
  still_less : (b : Bool) (n : ℕ) → nat_lt n most ≡ b → not b ≡ false → nat_lt n greater ≡ true
  still_less true n is h = grind (arith, nat_tests)
  still_less false n is h = absurd (cc h)

  still : (b : Bool) (n : ℕ) → (b && not (nat_lt n most)) ≡ false → (b && not (nat_lt n greater)) ≡ false
  still false n h = refl
  still true n h = ap not (still_less (nat_lt n most) n refl h)

  step_deeper : (now : State) (one : Token) (made : Result State Fault) → IsShallow made → step most now one ≡ made → step greater now one ≡ made
  step_deeper now one made is h =
      let from = one.span.from in
      let other = or_wrong from (after_terminal now.expecting now.trees (terminal one.kind)) in
      let found = shallow (opens (terminal one.kind) && not (nat_lt (length now.trees) most)) from other made is h in
      ap (λ (b : Bool). if b then Err (TooDeep from) else other) (still (opens (terminal one.kind)) (length now.trees) found.0) ∙ found.1

  deeper_by : (made : Result State Fault) (one : Token) (tokens : List Token) → ((now last : State) → reach most now tokens ≡ Ok last → reach greater now tokens ≡ Ok last)
      → (now last : State) → step most now one ≡ made → and_then made (λ next. reach most next tokens) ≡ Ok last → reach greater now (one ∷ tokens) ≡ Ok last
  deeper_by (Ok next) one tokens on now last is h =
      ap (λ made. and_then made (λ next. reach greater next tokens)) (step_deeper now one (Ok next) tt is) ∙ on next last h
  deeper_by (Err fault) one tokens on now last is h = absurd (cc h)

  reach_deeper : (tokens : List Token) (now last : State) → reach most now tokens ≡ Ok last → reach greater now tokens ≡ Ok last
  reach_deeper [] now last h = h
  reach_deeper (one ∷ tokens) now last h = deeper_by (step most now one) one tokens (reach_deeper tokens) now last refl h

-- what stands before a token, and with it
before_it : (before : List Token) (one : Token) (rest : List Token) → take (length before) (before ++ one ∷ rest) ≡ before
before_it [] one rest = refl
before_it (first ∷ before) one rest = ap (λ all. first ∷ all) (before_it before one rest)

with_it : (before : List Token) (one : Token) (rest : List Token) → take (suc (length before)) (before ++ one ∷ rest) ≡ before ++ one ∷ []
with_it [] one rest = refl
with_it (first ∷ before) one rest = ap (λ all. first ∷ all) (with_it before one rest)

place_there : (before : List Token) (one : Token) (rest : List Token) (end : ℕ) → place_of (before ++ one ∷ rest) end (length before) ≡ one.span.from
place_there [] one rest end = refl
place_there (first ∷ before) one rest end = place_there before one rest end

within_them : (before : List Token) (one : Token) (rest : List Token) → length before < length (before ++ one ∷ rest)
within_them [] one rest = omega arith
within_them (first ∷ before) one rest = let lt = within_them before one rest in omega (arith, lt)

opens_there : (before : List Token) (one : Token) (rest : List Token) → opens_at (before ++ one ∷ rest) (length before) ≡ opens (terminal one.kind)
opens_there [] one rest = refl
opens_there (first ∷ before) one rest = opens_there before one rest

pub begun : (most : ℕ) (before : List Token) (last : State) → reach most start before ≡ Ok last → Fits last.expecting last.trees → BeginSome ADocument most before
begun most before last is fits =
    let rest = each_ends most last.expecting last.trees fits in
    (rest.0, (rest.1, derived most (before ++ rest.0) rest.1 (goes_on most rest.0 before start last is ∙ rest.2)))

read_deeper : (depth most : ℕ) (tokens : List Token) (value : Thing) → IsDocument depth tokens value → run (depth + most) start tokens ≡ Ok (Some value)
read_deeper depth most tokens value is =
    ap (run (depth + most) start) (sym (append-nil tokens)) ∙ comes depth tokens value is (depth + most) [] [] (omega arith)

-- no document begins with a token at which the machine is stuck
stuck : (most : ℕ) (before : List Token) (one : Token) (last : State) (from : ℕ) → reach most start before ≡ Ok last → step most last one ≡ Err (Syntax from)
    → (depth : ℕ) (more : List Token) → ADocument.Writes depth ((before ++ one ∷ []) ++ more) → ⊥
stuck most before one last from is wrong depth more (value, document) =
    let le : most ≤ depth + most = omega arith in
    let reads : run (depth + most) start (before ++ one ∷ more) ≡ Ok (Some value) =
    read_deeper depth most (before ++ one ∷ more) value (subst (λ tokens. IsDocument depth tokens value) (append_assoc before (one ∷ []) more) document) in
    let stops : run (depth + most) start (before ++ one ∷ more) ≡ Err (Syntax from) =
    goes_on (depth + most) (one ∷ more) before start last (reach_deeper most (depth + most) le before start last is)
    ∙ ap (going (depth + most) more) (step_deeper most (depth + most) le last one (Err (Syntax from)) tt wrong) in
    cc (sym reads ∙ stops)

syntax_place : (from other : ℕ) (made : Option State) → or_wrong from made ≡ Err (Syntax other) → from ≡ other
syntax_place from other (Some next) h = absurd (cc h)
syntax_place from other None h = cc h

pub wrong_place : (most : ℕ) (last : State) (one : Token) (from : ℕ) → step most last one ≡ Err (Syntax from) → one.span.from ≡ from
wrong_place most last one from h =
    let made = after_terminal last.expecting last.trees (terminal one.kind) in
    let found = shallow (opens (terminal one.kind) && not (nat_lt (length last.trees) most)) one.span.from (or_wrong one.span.from made) (Err (Syntax from)) tt h in
    syntax_place one.span.from from made found.1

wrong_at : (most : ℕ) (before : List Token) (one : Token) (rest : List Token) (end : ℕ) (last : State) (from : ℕ) → reach most start before ≡ Ok last
    → step most last one ≡ Err (Syntax from) → Fits last.expecting last.trees → IsSyntaxFault ADocument most (before ++ one ∷ rest) end from
wrong_at most before one rest end last from is wrong fits =
    subst (IsSyntaxFault ADocument most (before ++ one ∷ rest) end) (place_there before one rest end ∙ wrong_place most last one from wrong)
    (at_token (length before) (record {
      within = within_them before one rest;
      before = subst (BeginSome ADocument most) (sym (before_it before one rest)) (begun most before last is fits);
      wrong = λ depth more document. stuck most before one last from is wrong depth more
          (subst (λ tokens. ADocument.Writes depth (tokens ++ more)) (with_it before one rest) document);
    }))

pub wrong_token : (most : ℕ) (tokens : List Token) (end from : ℕ) → run most start tokens ≡ Err (Syntax from) → IsSyntaxFault ADocument most tokens end from
wrong_token most tokens end from h =
    let found = stops most tokens start (Syntax from) tt (omega arith) h in
    subst (λ all. IsSyntaxFault ADocument most all end from) (sym found.4)
    (wrong_at most found.0 found.1 found.2 end found.3 from found.5 found.6 found.7.0)

not_ended : (most : ℕ) (tokens : List Token) (end : ℕ) (last : State) → reach most start tokens ≡ Ok last → value_at last.expecting ≡ None → IsSyntaxFault ADocument most tokens end end
not_ended most tokens end last is none =
    let good = reaches most tokens start last tt (omega arith) is in
    at_end (record {
      begun = begun most tokens last is good.0;
      unfinished = λ depth document.
          let le : most ≤ depth + most = omega arith in
          let reads : run (depth + most) start tokens ≡ Ok (Some document.0) = read_deeper depth most tokens document.0 document.1 in
          let stops : run (depth + most) start tokens ≡ Ok None =
          ap ended (reach_deeper most (depth + most) le tokens start last is) ∙ ap (λ value. Ok value) none in
          cc (sym reads ∙ stops);
    })

no_value : (made : Result State Fault) → ended made ≡ Ok None → (last : State) × (made ≡ Ok last) × (value_at last.expecting ≡ None)
no_value (Ok last) h = (last, refl, cc h)
no_value (Err fault) h = absurd (cc h)

pub unfinished : (most : ℕ) (tokens : List Token) (end : ℕ) → run most start tokens ≡ Ok None → IsSyntaxFault ADocument most tokens end end
unfinished most tokens end h = let found = no_value (reach most start tokens) h in not_ended most tokens end found.0 found.1 found.2

full_by : (b less : Bool) (n most : ℕ) (from other : ℕ) (made : Option State) → nat_lt n most ≡ less → n ≤ most
    → (if b && not less then Err (TooDeep from) else or_wrong from made) ≡ Err (TooDeep other) → (b ≡ true) × (n ≡ most) × (from ≡ other)
full_by true false n most from other made is le h = (refl, grind (arith, nat_tests), cc h)
full_by true true n most from other (Some next) is le h = absurd (cc h)
full_by true true n most from other None is le h = absurd (cc h)
full_by false less n most from other (Some next) is le h = absurd (cc h)
full_by false less n most from other None is le h = absurd (cc h)

pub as_many : (trees : List OpenTree) → length (brackets trees) ≡ length trees
as_many [] = refl
as_many (tree ∷ trees) = ap suc (as_many trees)

deep_at : (most : ℕ) (before : List Token) (one : Token) (rest : List Token) (end : ℕ) (last : State) (from : ℕ) → reach most start before ≡ Ok last
    → step most last one ≡ Err (TooDeep from) → IsGood most [] before last → IsTooDeepDocument most (before ++ one ∷ rest) end from
deep_at most before one rest end last from is deep good =
    let full = full_by (opens (terminal one.kind)) (nat_lt (length last.trees) most) (length last.trees) most one.span.from from
    (after_terminal last.expecting last.trees (terminal one.kind)) refl good.1 deep in
    subst (IsTooDeepDocument most (before ++ one ∷ rest) end) (place_there before one rest end ∙ full.2)
    (at_bracket (length before) (record {
      opens = opens_there before one rest ∙ full.0;
      before = subst (BeginSome ADocument most) (sym (before_it before one rest)) (begun most before last is good.0);
      full = ap (λ tokens. length (open_after tokens)) (before_it before one rest) ∙ sym (ap length good.2) ∙ as_many last.trees ∙ full.1;
    }))

pub too_deep : (most : ℕ) (tokens : List Token) (end from : ℕ) → run most start tokens ≡ Err (TooDeep from) → IsTooDeepDocument most tokens end from
too_deep most tokens end from h =
    let found = stops most tokens start (TooDeep from) tt (omega arith) h in
    subst (λ all. IsTooDeepDocument most all end from) (sym found.4)
    (deep_at most found.0 found.1 found.2 end found.3 from found.5 found.6 found.7)

pub open_brackets : (most : ℕ) (tokens : List Token) (last : State) → reach most start tokens ≡ Ok last → brackets last.trees ≡ open_after tokens
open_brackets most tokens last h = (reaches most tokens start last tt (omega arith) h).2
