-- The grammar and the LR items that tables stand for.
use Rattle.std.specs.Prelude.{◌≡◌, ℕ, List, Bool, true, length}
use Rattle.cd_lr.specs.Grammar.{Symbol, Grammar}
use Rattle.cd_lr.specs.Valid.{both, Items, Firsts}
use Rattle.cd_lr.specs.Tables.{Tables, left, right, row_at, among}
use Rattle.cd_lr.specs.Validator.{core, sure, first_set, rank_at}

-- the grammar of tables, with the terminals and values of tokens and what the rules build
abbrev pub grammar : {Token Value : Type 0} → Tables → (kind : Token → ℕ) → (value : Token → Value)
    → (free : Token → Bool) → (build : ℕ → List Value → Value) → Grammar Token Value
grammar t kind value free build = record {
  kind = kind;
  value = value;
  free = free;
  start = t.start;
  left = left t;
  right = right t;
  build = build;
}

module _ (t : Tables) where
  -- the items of states, with any lookahead
  abbrev pub Core : Items
  Core s p before after a =
      (right t p ≡ both before after) × (core t (row_at t s) p (length before) ≡ true)

  -- the items of states, with their lookaheads
  abbrev pub Sure : Items
  Sure s p before after a =
      (right t p ≡ both before after) × (sure t (row_at t s) p (length before) a ≡ true)

  -- what a symbol may begin with, by the sets of the tables
  abbrev pub First : Firsts
  First x a = among a (first_set t x) ≡ true

  -- the rank of an item
  abbrev pub ranks : (s p : ℕ) → List Symbol → ℕ
  ranks s p before = rank_at t (row_at t s) p (length before)
