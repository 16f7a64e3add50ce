-- What derives from a symbol begins within its tokens, and the places that it holds stand there, each once, where its
-- tokens stand in order.
use Rattle.std.proofs.Common.{arith, ◌≡◌, refl, ℕ, ◌<◌, ◌≤◌, Bool, true, false}
use Rattle.std.proofs.Common.{List, [], ◌∷◌, ◌++◌, Option, Some, None, slice_get}
use Rattle.cd_program.specs.Expr.{Expr, FunctionTree}
use Rattle.cd_lr.specs.Grammar.{Symbol, Nonterminal, Derives, one, made, Row, nothing, next, within}
use Rattle.cd_lr.specs.Tables.{rule, every, right, right_of}
use Rattle.cd_lr.proofs.Bools.{every_find, given_find}
use Rattle.cd_grammar.specs.Bnf.{Line}
use Rattle.cd_grammar.specs.Parts.{Part}
use Rattle.cd_grammar.specs.Rules.{lines}
use Rattle.cd_grammar.specs.Language.{Entry, To, Read, Later, Placed, value_of, place_of, made_by, build, cduce_grammar}
use Rattle.cd_grammar.specs.Tables.{tables}
use Rattle.cd_placed.proofs.Once.{Stands, ordered, joined, no_places, one_place}
use Rattle.cd_placed.proofs.HeldPlaces.{IsWalk, held, all_held}
use Rattle.cd_placed.proofs.KeptPlaces.{Keeps, plain, no_place}
use Rattle.cd_placed.proofs.KeptByMakes.{made_keeps}
use Rattle.cd_grammar.proofs.Rules.{parts_of}

-- tokens of a text stand one after the other between two places, and each has a character
abbrev pub StandInOrder : (from : ℕ) → List Entry → (to : ℕ) → Type 0
StandInOrder from [] to = from ≤ to
StandInOrder from (To goal ∷ rest) to = ⊥
StandInOrder from (Read token ∷ rest) to =
    (from ≤ token.span.from) × (token.span.from < token.span.to) × StandInOrder token.span.to rest to
StandInOrder from (Later token ∷ rest) to = ⊥

pub divided : (from to : ℕ) (first second : List Entry) → StandInOrder from (first ++ second) to
    → (middle : ℕ) × StandInOrder from first middle × StandInOrder middle second to
divided from to [] second stand = (from, omega arith, stand)
divided from to (To goal ∷ rest) second stand = absurd stand
divided from to (Read token ∷ rest) second stand =
    let (middle, before, after) = divided token.span.to to rest second stand.2 in
    (middle, (stand.0, stand.1, before), after)
divided from to (Later token ∷ rest) second stand = absurd stand

pub in_order : (from to : ℕ) (entries : List Entry) → StandInOrder from entries to → from ≤ to
in_order from to [] stand = stand
in_order from to (To goal ∷ rest) stand = absurd stand
in_order from to (Read token ∷ rest) stand =
    omega (arith, stand.0, stand.1, in_order token.span.to to rest stand.2)
in_order from to (Later token ∷ rest) stand = absurd stand

-- no right side of a rule is empty
abbrev pub has_some : {A : Type 0} → List A → Bool
has_some [] = false
has_some (a ∷ rest) = true

some_right : every (λ n r. has_some (right_of r)) tables.rules ≡ true
some_right = refl

has_right : (p : ℕ) → has_some (right tables p) ≡ true
has_right p =
    given_find (λ r. has_some (right_of r) ≡ true) tables.rules p (rule tables.whole (Nonterminal tables.start ∷ []))
    refl (λ r is. every_find (λ n r. has_some (right_of r)) tables.rules p r some_right is)

module _ (E : Expr → List ℕ) (F : FunctionTree → List ℕ) (walk : IsWalk E F) where
  abbrev H : Part → List ℕ
  H = held E F

  -- a part begins between two places, and what it holds is there
  abbrev pub IsWithin : (from : ℕ) → Placed → (to : ℕ) → Type 0
  IsWithin from v to = (from ≤ v.0.from) × (v.0.from < to) × Stands from (H v.1) to

  abbrev pub AreWithin : (from : ℕ) → List Placed → (to : ℕ) → Type 0
  AreWithin from [] to = from ≤ to
  AreWithin from (v ∷ vs) to = (middle : ℕ) × IsWithin from v middle × AreWithin middle vs to

  pub all_stand : (from to : ℕ) (vs : List Placed) → AreWithin from vs to
      → Stands from (all_held E F (parts_of vs)) to
  all_stand from to [] are = no_places from to are
  all_stand from to (v ∷ vs) (middle, is, are) =
      joined from middle to (H v.1) (all_held E F (parts_of vs)) is.2 (all_stand middle to vs are)

  -- what a rule makes
  pub rule_keeps : (p : ℕ) (vs : List Placed)
      → Keeps (place_of vs).from (all_held E F (parts_of vs)) (H (build p vs).1)
  rule_keeps p vs = by (slice_get lines p)
    where
      by : (found : Option Line)
          → Keeps (place_of vs).from (all_held E F (parts_of vs)) (H (made_by found (place_of vs) (parts_of vs)))
      by None = plain _ _ _ (no_place _)
      by (Some line) = made_keeps E F walk line.make (place_of vs) (parts_of vs)

  rule_within : (p from to : ℕ) (vs : List Placed) → has_some vs ≡ true → AreWithin from vs to
      → IsWithin from (build p vs) to
  rule_within p from to [] never are = cc
  rule_within p from to (v ∷ vs) some (middle, is, are) =
      let low = is.0 in
      let high : v.0.from < to =
      omega (arith, is.1, ordered middle to (all_held E F (parts_of vs)) (all_stand middle to vs are)) in
      (low, high, (rule_keeps p (v ∷ vs)).stand from to low high (all_stand from to (v ∷ vs) (middle, is, are)))

  mutual
    pub derived_within : (depth : ℕ) (x : Symbol) (entries : List Entry) (v : Placed)
        → Derives cduce_grammar depth x entries v → (from to : ℕ) → StandInOrder from entries to → IsWithin from v to
    derived_within _ _ _ _ (one depth opens entry room) from to stand = entry_within entry from to stand
      where
        entry_within : (entry : Entry) (from to : ℕ) → StandInOrder from (entry ∷ []) to
            → IsWithin from (value_of entry) to
        entry_within (To goal) from to stand = absurd stand
        entry_within (Read token) from to stand =
            let high : token.span.from < to = omega (arith, stand.1, stand.2) in
            (stand.0, high, one_place from token.span.from to stand.0 high)
        entry_within (Later token) from to stand = absurd stand
    derived_within _ _ _ _ (made depth p entries values row_is) from to stand =
        let are = row_within depth (right tables p) entries values row_is from to stand in
        rule_within p from to values (are.0 (has_right p)) are.1

    pub row_within : (depth : ℕ) (xs : List Symbol) (entries : List Entry) (values : List Placed)
        → Row cduce_grammar depth xs entries values → (from to : ℕ) → StandInOrder from entries to
        → (has_some xs ≡ true → has_some values ≡ true) × AreWithin from values to
    row_within _ _ _ _ (nothing depth) from to stand = (λ some. some, stand)
    row_within _ _ _ _ (next depth x rest a b v vs derives row_is) from to stand =
        let (middle, before, after) = divided from to a b stand in
        let is = derived_within depth x a v derives from middle before in
        let are = row_within (within cduce_grammar depth x) rest b vs row_is middle to after in
        (λ some. refl, (middle, is, are.1))
