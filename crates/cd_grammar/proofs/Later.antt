-- Tokens that may come have the terminals and values of tokens of a text, and stand at any depth. So a text and its
-- beginnings are forms.
use Rattle.std.proofs.Common.{◌≡◌, ◌∙◌, sym, ap, subst, refl, ℕ, List, [], ◌∷◌, ◌++◌, map, arith, append_assoc, append-nil}
use Rattle.std.proofs.lemmas.List.{map-append}
use Rattle.cd_syntax.specs.declared.tokens.Token.{Token}
use Rattle.cd_lr.specs.Grammar.{Whole, AreFree}
use Rattle.cd_lr.specs.Goals.{ArePlain}
use Rattle.cd_lr.proofs.Freed.{Pairwise, none, more, joined, Alike, Freer, freed, deep}
use Rattle.cd_lr.proofs.GoalsFirst.{goal_first}
use Rattle.cd_grammar.specs.declared.goal.Goal.{Goal}
use Rattle.cd_grammar.specs.declared.goal.Goal.TheVariants as goal
use Rattle.cd_grammar.specs.Tables.{tables}
use Rattle.cd_grammar.specs.Language.{Entry, To, Read, Later, Placed, kind_of, value_of, is_free, build, cduce_grammar, Begins}
use Rattle.cd_grammar.proofs.Fits.{goals_do}

-- entries that are related to themselves, and tokens whose entries are related
themselves : (Is : Entry → Entry → Type 0) → ((e : Entry) → Is e e) → (es : List Entry) → Pairwise Is es es
themselves Is itself [] = none
themselves Is itself (e ∷ es) = more e e es es (itself e) (themselves Is itself es)

each_token : (Is : Entry → Entry → Type 0) (first second : Token → Entry)
    → ((one : Token) → Is (first one) (second one)) → (tokens : List Token)
    → Pairwise Is (map first tokens) (map second tokens)
each_token Is first second are [] = none
each_token Is first second are (one ∷ tokens) =
    more (first one) (second one) (map first tokens) (map second tokens) (are one)
    (each_token Is first second are tokens)

-- an entry is as free as itself, and a token that may come is as free as that of the text
alike : (e : Entry) → Alike cduce_grammar e e
alike e = record { kind = refl; value = refl }

freer : (e : Entry) → Freer cduce_grammar e e
freer e = record { alike = alike e; free = λ is. is }

may_come : (tokens : List Token) → Pairwise (Freer cduce_grammar) (map Read tokens) (map Later tokens)
may_come = each_token (Freer cduce_grammar) Read Later
    (λ one. record { alike = record { kind = refl; value = refl }; free = λ is. refl })

came : (tokens : List Token) → Pairwise (Alike cduce_grammar) (map Later tokens) (map Read tokens)
came = each_token (Alike cduce_grammar) Later Read (λ one. record { kind = refl; value = refl })

-- what begins with tokens begins with fewer of them
pub shorter : (goal : Goal) (depth : ℕ) (tokens later : List Token) → Begins goal depth (tokens ++ later)
    → Begins goal depth tokens
shorter goal depth tokens later (rest, part, whole) = (
  later ++ rest,
  part,
  freed cduce_grammar depth _ (To goal ∷ map Read (tokens ++ later) ++ map Later rest)
      (To goal ∷ map Read tokens ++ map Later (later ++ rest)) part whole
      (more (To goal) (To goal) _ _ (freer (To goal)) all),
)
  where
    AreFreer : List Entry → List Entry → Type 0
    AreFreer = Pairwise (Freer cduce_grammar)

    parts : AreFreer (map Read tokens ++ (map Read later ++ map Later rest))
        (map Read tokens ++ (map Later later ++ map Later rest))
    parts =
        joined (Freer cduce_grammar) (map Read tokens) (map Read tokens) (map Read later ++ map Later rest)
        (map Later later ++ map Later rest) (themselves (Freer cduce_grammar) freer (map Read tokens))
        (joined (Freer cduce_grammar) (map Read later) (map Later later) (map Later rest) (map Later rest)
        (may_come later) (themselves (Freer cduce_grammar) freer (map Later rest)))

    same : map Read (tokens ++ later) ++ map Later rest ≡ map Read tokens ++ (map Read later ++ map Later rest)
    same =
        ap (λ all. all ++ map Later rest) (map-append Read tokens later)
        ∙ append_assoc (map Read tokens) (map Read later) (map Later rest)

    all : AreFreer (map Read (tokens ++ later) ++ map Later rest) (map Read tokens ++ map Later (later ++ rest))
    all =
        subst (λ first. AreFreer first (map Read tokens ++ map Later (later ++ rest))) (sym same)
        (subst (λ second. AreFreer (map Read tokens ++ (map Read later ++ map Later rest)) (map Read tokens ++ second))
        (sym (map-append Later later rest)) parts)

-- what is written begins so
pub begun : (goal : Goal) (depth : ℕ) (tokens : List Token) (part : Placed)
    → Whole cduce_grammar depth (To goal ∷ map Read tokens) part → Begins goal depth tokens
begun goal depth tokens part whole =
    ([], part, subst (λ all. Whole cduce_grammar depth (To goal ∷ all) part) (sym (append-nil (map Read tokens))) whole)

-- what begins is written, with the tokens that come, at some depth
pub goes_on : (goal : Goal) (depth : ℕ) (tokens : List Token) → Begins goal depth tokens
    → (deeper : ℕ) × (later : List Token) × (part : Placed)
    × Whole cduce_grammar deeper (To goal ∷ map Read (tokens ++ later)) part
goes_on goal depth tokens (later, part, whole) =
    let found =
    deep cduce_grammar depth _ (To goal ∷ map Read tokens ++ map Later later)
    (To goal ∷ map Read tokens ++ map Read later) part whole
    (more (To goal) (To goal) _ _ (alike (To goal))
    (joined (Alike cduce_grammar) (map Read tokens) (map Read tokens) (map Later later) (map Read later)
    (themselves (Alike cduce_grammar) alike (map Read tokens)) (came later))) in (
      found.least,
      later,
      part,
      subst (λ all. Whole cduce_grammar found.least (To goal ∷ all) part) (sym (map-append Read tokens later))
          (found.derives found.least (omega arith)),
    )

-- entries that are free and no goals may come
pub are_later : (entries : List Entry) → AreFree cduce_grammar entries → ArePlain kind_of 73 entries
    → (tokens : List Token) × (entries ≡ map Later tokens)
are_later [] free plain = ([], refl)
are_later (To goal.TypeText ∷ entries) free plain = absurd (let small = plain.0 in omega (arith, small))
are_later (To goal.TypeFile ∷ entries) free plain = absurd (let small = plain.0 in omega (arith, small))
are_later (To goal.ProgramText ∷ entries) free plain = absurd (let small = plain.0 in omega (arith, small))
are_later (Read one ∷ entries) free plain = absurd (let is = free.0 in cc)
are_later (Later one ∷ entries) free plain =
    let rest = are_later entries free.1 plain.1 in
    (one ∷ rest.0, ap (λ all. Later one ∷ all) rest.1)

plain_after : (first later : List Entry) → ArePlain kind_of 73 (first ++ later) → ArePlain kind_of 73 later
plain_after [] later plain = plain
plain_after (one ∷ first) later plain = plain_after first later plain.1

-- what begins by free entries begins by tokens that may come
pub by_tokens : (goal : Goal) (depth : ℕ) (tokens : List Token) (entries : List Entry) (part : Placed)
    → AreFree cduce_grammar entries → Whole cduce_grammar depth (To goal ∷ map Read tokens ++ entries) part
    → Begins goal depth tokens
by_tokens goal depth tokens entries part free whole =
    let (first, rest, same, is_goal, plain) =
    goal_first tables 73 1 goals_do kind_of value_of is_free build depth (To goal ∷ map Read tokens ++ entries) part
    whole in
    let after : map Read tokens ++ entries ≡ rest = cc in
    let all_plain = subst (ArePlain kind_of 73) (sym after) plain in
    let found = are_later entries free (plain_after (map Read tokens) entries all_plain) in (
      found.0,
      part,
      subst (λ all. Whole cduce_grammar depth (To goal ∷ map Read tokens ++ all) part) found.1 whole,
    )
