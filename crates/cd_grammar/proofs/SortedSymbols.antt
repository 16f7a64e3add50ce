-- What derives from a symbol of the grammar is of the sort that it stands for.
use Rattle.std.proofs.Common.{ℕ, List, [], ◌∷◌, ◌++◌, map}
use Rattle.std.specs.List.{AllByRecursion as AllOf}
use Rattle.cd_lr.specs.Grammar.{Symbol, Derives, one, made, Row, nothing, next, within}
use Rattle.cd_lr.specs.Tables.{right}
use Rattle.cd_grammar.specs.Language.{Entry, Placed, cduce_grammar}
use Rattle.cd_grammar.specs.Tables.{tables}
use Rattle.cd_grammar.proofs.Sorts.{sort_of}
use Rattle.cd_grammar.proofs.SortedParts.{Facts, AreKept, Fits, AreFit, none, and}
use Rattle.cd_grammar.proofs.SortedRules.{rule_fits}
use Rattle.cd_grammar.proofs.SortedTokens.{IsProper, entry_fits}

parted : {A : Type 0} (fact : A → Type 0) (all more : List A) → AllOf fact (all ++ more) → AllOf fact all × AllOf fact more
parted fact [] more are = (tt, are)
parted fact (first ∷ rest) more are = let parts = parted fact rest more are.1 in ((are.0, parts.0), parts.1)

module _ (facts : Facts) (kept : AreKept facts) where
  mutual
    pub derived_fits : (depth : ℕ) (x : Symbol) (entries : List Entry) (v : Placed)
        → Derives cduce_grammar depth x entries v → AllOf (IsProper facts.of_label) entries → Fits facts (sort_of x) v.1
    derived_fits _ _ _ _ (one depth opens entry room) are = entry_fits facts entry are.0
    derived_fits _ _ _ _ (made depth p entries values row_is) are =
        rule_fits facts kept p values (row_fits depth (right tables p) entries values row_is are)

    pub row_fits : (depth : ℕ) (xs : List Symbol) (entries : List Entry) (values : List Placed)
        → Row cduce_grammar depth xs entries values → AllOf (IsProper facts.of_label) entries
        → AreFit facts (map sort_of xs) (map (λ part. part.1) values)
    row_fits _ _ _ _ (nothing depth) are = none
    row_fits _ _ _ _ (next depth x rest a b v vs derives row_is) are =
        let parts = parted (IsProper facts.of_label) a b are in
        and (derived_fits depth x a v derives parts.0)
        (row_fits (within cduce_grammar depth x) rest b vs row_is parts.1)
