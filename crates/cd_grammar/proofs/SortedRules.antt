-- Each rule of the grammar gives a part of the sort that its left side stands for: a test of all rules.
use Rattle.std.proofs.Common.{◌≡◌, sym, subst, refl, ℕ, Bool, true, false, List, map}
use Rattle.std.proofs.Common.{Option, Some, None, slice_get, inl, inr}
use Rattle.std.specs.Prelude.{◌⊎◌}
use Rattle.cd_lr.specs.Grammar.{Nonterminal}
use Rattle.cd_lr.specs.Tables.{Rule, every, rule_at, left, right, left_of, right_of}
use Rattle.cd_grammar.specs.declared.make.Make.{Make}
use Rattle.cd_grammar.specs.Bnf.{Line}
use Rattle.cd_grammar.specs.Rules.{lines}
use Rattle.cd_grammar.specs.Language.{Placed, place_of, made_by, build}
use Rattle.cd_grammar.specs.Tables.{tables}
use Rattle.cd_grammar.proofs.Rules.{parts_of, of_rule}
use Rattle.cd_grammar.proofs.Sorts.{Sort, OfTree, OfTrees, OfSigns, OfFields, OfNames, OfRegular, OfRegulars, sort_of}
use Rattle.cd_grammar.proofs.SortsOfMakes.{sorts_of}
use Rattle.cd_grammar.proofs.SortsInSorts.{IsIn, is_in, AreIn, are_in, both_found, in_fits, in_fit}
use Rattle.cd_grammar.proofs.SortedParts.{Facts, AreKept, Fits, AreFit, one_part}
use Rattle.cd_grammar.proofs.SortedMakes.{made_fits}

-- what is there
abbrev is_there : {A : Type 0} → Option A → Bool
is_there None = false
is_there (Some a) = true

what_is_there : {A : Type 0} (option : Option A) → is_there option ≡ true → A
what_is_there None never = cc
what_is_there (Some a) so = a

-- of patterns
abbrev pattern_of : Sort → Bool
pattern_of (OfTree p) = p
pattern_of (OfTrees p) = p
pattern_of (OfSigns p) = p
pattern_of (OfFields p) = p
pattern_of (OfNames p) = p
pattern_of (OfRegular p) = p
pattern_of (OfRegulars p) = p
pattern_of _ = false

-- what makes so is given what it takes, and gives what the left side stands for
abbrev IsSorted : Make → (given : List Sort) (left : Sort) → Type 0
IsSorted m given left =
    let s = sorts_of (pattern_of left) left m in AreIn given s.0 × IsIn s.1 left

abbrev is_sorted : (m : Make) (given : List Sort) (left : Sort) → Option (IsSorted m given left)
is_sorted m given left =
    let s = sorts_of (pattern_of left) left m in both_found (are_in given s.0) (is_in s.1 left)

abbrev line_is_sorted : Option Line → (given : List Sort) (left : Sort) → Bool
line_is_sorted None given left = false
line_is_sorted (Some line) given left = is_there (is_sorted line.make given left)

abbrev rule_is_sorted : ℕ → Rule → Bool
rule_is_sorted n r =
    line_is_sorted (slice_get lines n) (map sort_of (right_of r)) (sort_of (Nonterminal (left_of r)))

are_sorted : every rule_is_sorted tables.rules ≡ true
are_sorted = refl

module _ (facts : Facts) (kept : AreKept facts) where
  pub rule_fits : (p : ℕ) (values : List Placed) → AreFit facts (map sort_of (right tables p)) (parts_of values)
      → Fits facts (sort_of (Nonterminal (left tables p))) (build p values).1
  rule_fits p values are = by (of_rule rule_is_sorted are_sorted p)
    where
      line_fits : (line : Option Line) (given : List Sort) (sort : Sort) → line_is_sorted line given sort ≡ true
          → AreFit facts given (parts_of values) → Fits facts sort (made_by line (place_of values) (parts_of values))
      line_fits None given sort never fit = cc
      line_fits (Some line) given sort so fit =
          let m = line.make in
          let pattern = pattern_of sort in
          let s = sorts_of pattern sort m in
          let is = what_is_there (is_sorted m given sort) so in
          let taken = in_fit facts given s.0 (parts_of values) is.0 fit in
          in_fits facts s.1 sort _ is.1 (made_fits facts kept pattern sort m (place_of values) (parts_of values) taken)

      by : (rule_is_sorted p (rule_at tables p) ≡ true) ⊎ (left tables p ≡ tables.whole)
          → Fits facts (sort_of (Nonterminal (left tables p))) (build p values).1
      by (inl so) =
          line_fits (slice_get lines p) (map sort_of (right tables p)) (sort_of (Nonterminal (left tables p))) so are
      by (inr whole) = subst (λ n. Fits facts (sort_of (Nonterminal n)) (build p values).1) (sym whole) (one_part _)
