-- What is made of nodes that were made has an origin, and so have the names of a list whose trees are equated.
use Rattle.std.proofs.Common.{◌≡◌, ℕ, zero, suc, ◌+◌, ◌-◌, ◌<◌, ◌≤◌, ◌⊎◌, inl, inr, true, false, List, [], ◌∷◌, ◌++◌}
use Rattle.std.proofs.Common.{map, length, Option, Some, None, refl, ap, subst, ◌∙◌, arith}
use Rattle.std.specs.List.{slice_get}
use Rattle.std.proofs.lemmas.List.{length-append, length-map}
use Rattle.std.proofs.lemmas.Bool.{cases_lt}
use Rattle.cd_sets.specs.declared.node_id.NodeId.{NodeId}
use Rattle.cd_syntax.specs.Name.{Name}
use Rattle.cd_syntax.specs.TypeTree.{Kind, Declarations, NoDeclaration, ADeclaration}
use Rattle.cd_model.specs.AllOf.{AllOf}
use Rattle.cd_model.specs.BuiltIns.{node}
use Rattle.cd_model.specs.Formula.{Formula, Pair}
use Rattle.cd_model.specs.Scope.{Scope, Declared, names_in, names_declared, names_over}
use Rattle.cd_model.proofs.Covered.{Covered, each_parts, covered_tree}
use Rattle.cd_model.proofs.ByNumber.{got_after}
use Rattle.cd_shared.specs.Equation.{Equation, Equations, Is, Same}
use Rattle.cd_resolve.specs.Inner.ScopeLevels.{ScopeLevels, scope_of, number_in}
use Rattle.cd_resolve.specs.Inner.Leaves.{characters, Joint, joined}
use Rattle.cd_resolve.specs.Inner.Members.{Sign}
use Rattle.cd_resolve.specs.Inner.Equates.{IsAt, Equates, EquatesKind, AreEquated, AllEquated}
use Rattle.cd_resolve.specs.Inner.Walk.{entered, pushed, leaf, walked_text, chained, united, met, level_after}
use Rattle.cd_resolve.proofs.Origins.{HasOrigin}
use Rattle.cd_resolve.proofs.Origins as origin
use Rattle.cd_resolve.proofs.GrowingLists.{get_next}
use Rattle.cd_resolve.proofs.Growing.{Grows, grows_then, appends_grows, entered_length, pushed_appends, leaf_appends}

-- what holds of each number of some equations, and of the next one, holds of each where there is one more
one_pushed : (Holds : ℕ → Type 0) (s : Equations) (equation : Equation) → ((n : ℕ) → n < length s → Holds n)
    → Holds (length s) → (n : ℕ) → n < length (s ++ Some equation ∷ []) → Holds n
one_pushed Holds s equation each is n within =
    let long = length-append s (Some equation ∷ []) in by_cases (cases_lt n (length s)) (omega arith)
  where
    by_cases : (n < length s) ⊎ (length s ≤ n) → n < length s + 1 → Holds n
    by_cases (inl before) within = each n before
    by_cases (inr past) within = subst Holds (omega arith) is

-- what stands among formulas is one
formula_is : (formulas : List Formula) (n : ℕ) → n < length formulas
    → (formula : Formula)
    × (slice_get (map (λ (formula : Formula). Some (Is formula)) formulas) n ≡ Some (Some (Is formula)))
formula_is [] n within = absurd (omega arith)
formula_is (formula ∷ rest) zero within = (formula, refl)
formula_is (formula ∷ rest) (suc n) within = formula_is rest n (omega arith)

module _ (first : ℕ) (names : List (Name × NodeId)) (base : Scope) (Fact : Declared → Type 0) (final : Equations) where
  abbrev pub Origin : ℕ → Type 0
  Origin number = HasOrigin first final names base Fact number

  -- each of these equations has an origin
  abbrev pub HaveOrigins : Equations → Type 0
  HaveOrigins s = (n : ℕ) → n < length s → Origin n

  -- so has a formula that is made
  pub pushed_have : (formula : Formula) (s : Equations) → Grows (pushed first (Is formula) s).1 final → HaveOrigins s
      → HaveOrigins (pushed first (Is formula) s).1
  pushed_have formula s grows have = one_pushed Origin s (Is formula) have
      (origin.formula (length s) formula (grows.still (length s) (Is formula) (get_next (Some (Is formula)) s [])))

  pub leaf_have : (formula : Option Formula) (s : Equations) → Grows (leaf first formula s).1 final → HaveOrigins s
      → HaveOrigins (leaf first formula s).1
  leaf_have (Some formula) s grows have = pushed_have formula s grows have
  leaf_have None s grows have = have

  pub text_have : (text : List ℕ) (s : Equations) → Grows (walked_text first text s).1 final → HaveOrigins s
      → HaveOrigins (walked_text first text s).1
  text_have [] s grows have = have
  text_have (c ∷ text) s grows have =
      let rest = walked_text first text s in
      let one = leaf first (characters c c) rest.1 in
      let formula : Formula = Pair one.0 rest.0 in
      let ends = grows_then one.1 _ final (appends_grows one.1 _ (pushed_appends first (Is formula) one.1)) grows in
      let on = grows_then rest.1 one.1 final
      (appends_grows rest.1 one.1 (leaf_appends first (characters c c) rest.1)) ends in
      pushed_have formula one.1 grows (leaf_have (characters c c) rest.1 ends (text_have text s on have))

  pub chained_have : (joint : Joint) (ids : List NodeId) (s : Equations) → Grows (chained first joint ids s).1 final
      → HaveOrigins s → HaveOrigins (chained first joint ids s).1
  chained_have joint [] s grows have = have
  chained_have joint (one ∷ []) s grows have = have
  chained_have joint (one ∷ next ∷ rest) s grows have =
      let later = chained first joint (next ∷ rest) s in
      let formula = joined joint one later.0 in
      let on = grows_then later.1 _ final (appends_grows later.1 _ (pushed_appends first (Is formula) later.1)) grows in
      pushed_have formula later.1 grows (chained_have joint (next ∷ rest) s on have)

  -- a connective, if one is made
  pub united_have : (ids : List NodeId) (s : Equations)
      → ((n : ℕ) → (united first ids s).0 ≡ node (first + n) → Origin n) → HaveOrigins s
      → HaveOrigins (united first ids s).1
  united_have [] s made have = have
  united_have (one ∷ []) s made have = have
  united_have (one ∷ other ∷ rest) s made have = one_pushed Origin s _ have (made (length s) refl)

  pub met_have : (signs : List Sign) (s : Equations)
      → ((n : ℕ) → (met first signs s).0 ≡ node (first + n) → Origin n) → HaveOrigins s
      → HaveOrigins (met first signs s).1
  met_have [] s made have = have
  met_have ((true, one) ∷ []) s made have = have
  met_have ((false, one) ∷ []) s made have = one_pushed Origin s _ have (made (length s) refl)
  met_have ((true, one) ∷ other ∷ rest) s made have = one_pushed Origin s _ have (made (length s) refl)
  met_have ((false, one) ∷ other ∷ rest) s made have = one_pushed Origin s _ have (made (length s) refl)

  pub connective_has : (levels : ScopeLevels) (kind : Kind) (id : NodeId) → AllEquated first final names levels
      → EquatesKind first final names levels kind id → Covered Fact (scope_of base levels) kind
      → (n : ℕ) → id ≡ node (first + n) → Origin n
  connective_has levels kind id all equates covered n there = origin.part n levels kind all
      (subst (λ (id : NodeId). EquatesKind first final names levels kind id) there equates) covered

  -- the formulas of states
  pub states_have : (formulas : List Formula) (s : Equations)
      → Grows (s ++ map (λ (formula : Formula). Some (Is formula)) formulas) final → HaveOrigins s
      → HaveOrigins (s ++ map (λ (formula : Formula). Some (Is formula)) formulas)
  states_have formulas s grows have n within =
      let long = length-append s (map (λ (formula : Formula). Some (Is formula)) formulas) in
      let many = length-map formulas (λ (formula : Formula). Some (Is formula)) in
      by_cases (cases_lt n (length s)) (omega arith)
    where
      by_cases : (n < length s) ⊎ (length s ≤ n) → n < length s + length formulas → Origin n
      by_cases (inl before) within = have n before
      by_cases (inr past) within =
          let place : length s + (n - length s) ≡ n = omega arith in
          let is = formula_is formulas (n - length s) (omega arith) in
          let there = got_after s (map (λ (formula : Formula). Some (Is formula)) formulas) (n - length s) ∙ is.1 in
          let known = grows.still (length s + (n - length s)) (Is is.0) there in
          subst Origin place (origin.formula (length s + (n - length s)) is.0 known)

  -- the names of a list whose trees are equated
  names_have : (levels : ScopeLevels) (number : ℕ) (declarations : Declarations) → AllEquated first final names levels
      → AllOf Fact (names_declared (scope_of base levels) declarations) → AllOf Fact (names_over (scope_of base levels))
      → AreEquated first final names levels (first + number) declarations
      → (n : ℕ) → number ≤ n → n < number + number_in declarations → Origin n
  names_have levels number NoDeclaration all within over equated n from to = absurd (omega arith)
  names_have levels number (ADeclaration name at is rest) all within over equated n from to =
      let scope = scope_of base levels in
      let parts = each_parts Fact (names_in scope is) (names_declared scope rest) within.1 in
      let next : first + number + 1 ≡ first + (number + 1) = omega arith in
      by_cases (cases_lt number n) (λ past. names_have levels (number + 1) rest all parts.1 over
      (subst (λ (number : ℕ). AreEquated first final names levels number rest) next equated.1) n
      (omega arith) (omega arith)) (λ same. named_at parts.0 equated.0.0 equated.0.1 equated.0.2 same)
    where
      named_at : AllOf Fact (names_in (scope_of base levels) is) → (root : NodeId)
          → IsAt first final (node (first + number)) (Same root) → Equates first final names levels is root
          → n ≡ number → Origin n
      named_at within root there equates same =
          let equal = ap (λ (id : NodeId). id.0) there.there in
          let place : there.number ≡ n = omega arith in
          origin.name n root levels is (subst (λ (n : ℕ). slice_get final n ≡ Some (Some (Same root))) place there.is)
          all equates (covered_tree Fact (scope_of base levels) is within over)

      by_cases : (number < n) ⊎ (n ≤ number) → (number < n → Origin n) → (n ≡ number → Origin n) → Origin n
      by_cases (inl past) later same = later past
      by_cases (inr here) later same = same (omega arith)

  -- and so those of a list that is entered
  pub entered_have : (levels : ScopeLevels) (declarations : Declarations) (s : Equations)
      → AllEquated first final names (level_after first declarations s ∷ levels)
      → AllOf Fact (names_declared (declarations ∷ scope_of base levels) declarations)
      → AllOf Fact (names_over (declarations ∷ scope_of base levels)) → HaveOrigins s
      → HaveOrigins (entered declarations s)
  entered_have levels declarations s all within over have n to =
      let long = entered_length declarations s in by_cases (cases_lt n (length s)) (omega arith)
    where
      by_cases : (n < length s) ⊎ (length s ≤ n) → n < length s + number_in declarations → Origin n
      by_cases (inl before) to = have n before
      by_cases (inr past) to =
          names_have (level_after first declarations s ∷ levels) (length s) declarations all within over all.0 n past to
