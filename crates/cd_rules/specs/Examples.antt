-- Small cases of the rules, for the laws that compute them.
use Rattle.std.specs.Prelude.{ℕ, true, false, List, [], ◌∷◌, ◌++◌, map, codes}
use Rattle.cd_sets.specs.declared.question.Question.{Question}
use Rattle.cd_model.specs.BuiltIns.{built_ins, node, INT}
use Rattle.cd_model.specs.Formula.{Graph, Formula, Ints, Chars, Pair as PairOf, And, Not, NoFormula}
use Rattle.cd_model.specs.Formula.{AFormula}
use Rattle.cd_rules.specs.Clauses.{Pair, RecordType}
use Rattle.cd_rules.specs.Rows.{Row}

-- the question of nodes with these numbers
abbrev pub asks : (pos neg : List ℕ) → Question
asks pos neg = record { pos = map node pos; neg = map node neg }

abbrev pub both : ℕ → ℕ → Pair
both first second = (node first, node second)

-- no integer, no character, and what is not in both
abbrev pub integers : Formula
integers = Ints []

abbrev pub characters : Formula
characters = Chars []

abbrev pub not_both : Formula
not_both = Not (And (AFormula integers (AFormula characters NoFormula)))

-- a field `a` in this node, which has to be there, and other fields in that one
abbrev pub with_a : ℕ → ℕ → RecordType
with_a value rest = record {
  named = (codes "a", record { optional = false; type = node value }) ∷ [];
  rest = node rest;
}

-- a row with one cell, at `a`, where something has to stand
abbrev pub row_at_a : (value every : Question) → List Question → Row
row_at_a value every some = record {
  cells = (codes "a", record { absent = false; value = value }) ∷ [];
  every = every;
  some = some;
}

-- the same, where nothing may stand
abbrev pub row_without_a : (value every : Question) → List Question → Row
row_without_a value every some = record {
  cells = (codes "a", record { absent = true; value = value }) ∷ [];
  every = every;
  some = some;
}

-- a graph whose last node, 14, is that of the pairs of an integer and a pair of this node, without
-- end
abbrev pub endless : Graph
endless = built_ins ++ PairOf INT (node 14) ∷ []
