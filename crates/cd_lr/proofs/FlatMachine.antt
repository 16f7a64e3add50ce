-- The machine over lists does what that of the tables does.
use Rattle.std.proofs.Common.{◌≡◌, ◌∙◌, ap, refl, ℕ, zero, suc, ◌+◌, ◌*◌, List, [], ◌∷◌, length}
use Rattle.std.proofs.Common.{Bool, true, eqb-true, ltb-true}
use Rattle.std.specs.Prelude.{◌<◌, nat_lt}
use Rattle.cd_lr.specs.Grammar.{Grammar}
use Rattle.cd_lr.specs.Automaton.{Reduce, look}
use Rattle.cd_lr.specs.Tables.{Tables, at, action_in, row_at, left, machine}
use Rattle.cd_lr.specs.TableGrammar.{grammar}
use Rattle.cd_lr.specs.Flat.{decode, entry, blanks, size, reduces_below, FlatTables, flat_machine, flat_grammar, IsFlat}
use Rattle.cd_lr.proofs.Bools.{every_given}
use Rattle.cd_lr.proofs.Actions.{reduce_found}
use Rattle.cd_lr.proofs.FlatTables.{action_entry, goto_entry, left_entry, length_entry}
use Rattle.cd_lr.proofs.Agree.{Agree}

pub blanks_length : (n : ℕ) → length (blanks n) ≡ n
blanks_length zero = refl
blanks_length (suc n) = ap suc (blanks_length n)

module _ (t : Tables) (f : FlatTables) (flat : IsFlat t f) where
  -- a rule that is read is one of the tables
  read_below : (s k p : ℕ) → action_in t (row_at t s) k ≡ Reduce p → p < size t.rules
  read_below s k p is =
      let below = every_given (reduces_below (size t.rules)) t.states s (at [] [] [] [] []) flat.rules_below refl in
      ltb-true p (size t.rules) (reduce_found t (row_at t s) (λ one. nat_lt one.0 (size t.rules)) k p below is).3

  module _ {Token Value : Type 0} (kind : Token → ℕ) (value : Token → Value) (free : Token → Bool)
      (build : ℕ → List Value → Value) where
    abbrev g : Grammar Token Value
    g = flat_grammar f kind value free build

    abbrev h : Grammar Token Value
    h = grammar t kind value free build

    pub agrees : ((token : Token) → kind token < f.terminals) → nat_lt f.finish f.terminals ≡ true
        → Agree g h (flat_machine f) (machine t)
    agrees kinds ends =
        record {
          values = λ token. refl;
          frees = λ token. refl;
          actions = actions;
          lengths = λ s k p is. blanks_length (entry f.lengths p) ∙ length_entry t f flat p (read_below s k p is);
          gotos = λ s k p at is.
              let side = left_entry t f flat p (read_below s k p is) in
              ap (λ n. entry f.gotos (at * f.nonterminals + n)) side.0 ∙ goto_entry t f flat at (left t p) side.1;
          builds = λ s k p values is. refl;
        }
      where
        actions : (s most : ℕ) (rest : List Token)
            → decode (entry f.actions (s * f.terminals + look g (flat_machine f) most rest))
            ≡ action_in t (row_at t s) (look h (machine t) most rest)
        actions s most [] =
            action_entry t f flat s f.finish (ltb-true f.finish f.terminals ends)
            ∙ ap (action_in t (row_at t s)) (eqb-true f.finish t.finish flat.finish)
        actions s most (token ∷ rest) = action_entry t f flat s (kind token) (kinds token)
