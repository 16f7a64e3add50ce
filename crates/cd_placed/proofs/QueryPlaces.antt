-- A select has the places of its parts, each as often as they do, and a path those of its first part and of its steps.
use Rattle.std.proofs.Common.{arith, ℕ, ◌+◌, ◌≤◌, List, [], ◌∷◌, ◌++◌, Option, Some, None}
use Rattle.std.specs.Prelude.{flat_map}
use Rattle.cd_syntax.specs.Name.{Name}
use Rattle.cd_syntax.specs.declared.tokens.Span.{Span}
use Rattle.cd_syntax.specs.TypeTree.{Tree}
use Rattle.cd_program.specs.declared.operator.Form.TheVariants as form
use Rattle.cd_program.specs.Expr.{Expr, expr, Transform, One, Tail, Select, FunctionTree}
use Rattle.cd_query.specs.Core.{Source, one_branch, single, nothing, given, select, named, child, attribute}
use Rattle.cd_query.specs.Core.{element_pattern, child_pattern, attribute_pattern, content_name, child_name, Step}
use Rattle.cd_query.specs.Core.{ToField, ToChild, ToAttribute, closed, up_to, path}
use Rattle.cd_placed.specs.Patterns.{start_of}
use Rattle.cd_placed.proofs.Once.{times, times_none, times_both, Follows, first as first_of, of_one_more}
use Rattle.cd_placed.proofs.HeldPlaces.{IsWalk, of_step, of_tail, of_source, of_condition, in_sources}

module _ (E : Expr → List ℕ) (F : FunctionTree → List ℕ) (walk : IsWalk E F) where
  -- `[e]`, `[]`, a variable, and a form with one branch
  single_counts : (here : Span) (e : Expr) (p : ℕ) → times p (E (single here e)) ≤ times p (E e)
  single_counts here e p =
      let one = (walk.sequence here (One e ∷ [])).counts p in
      let parts = times_both p (E e) [] in
      let none = times_none p in
      omega (arith, one, parts, none)

  nothing_counts : (here : Span) (p : ℕ) → times p (E (nothing here)) ≤ 0
  nothing_counts here p =
      let one = (walk.sequence here []).counts p in let none = times_none p in omega (arith, one, none)

  named_counts : (here : Span) (name : Name) (p : ℕ) → times p (E (named here name)) ≤ 0
  named_counts here name p =
      let one = (walk.variable here name).counts p in let none = times_none p in omega (arith, one, none)

  branch_counts : (here : Span) (value : Expr) (pattern : Tree) (body : Expr) (p : ℕ)
      → times p (E (expr here (Transform value (one_branch pattern body))))
      ≤ times p (E value) + (times p (start_of pattern ∷ []) + times p (E body))
  branch_counts here value pattern body p =
      let one = (walk.matching form.Transform here value (record { pattern = pattern; body = body } ∷ [])).counts p in
      let all = times_both p (E value) ((start_of pattern ∷ E body) ++ []) in
      let ended = times_both p (start_of pattern ∷ E body) [] in
      let inner = times_both p (start_of pattern ∷ []) (E body) in
      let none = times_none p in
      omega (arith, one, all, ended, inner, none)

  given_counts : (here : Span) (condition : Option Expr) (e : Expr) (p : ℕ)
      → times p (E (given here condition e)) ≤ times p (of_condition E condition) + times p (E e)
  given_counts here None e p = let one = single_counts here e p in let none = times_none p in omega (arith, one, none)
  given_counts here (Some c) e p =
      let one = (walk.if_else here c (single here e) (nothing here)).counts p in
      let all = times_both p (E c) (E (single here e) ++ E (nothing here)) in
      let sides = times_both p (E (single here e)) (E (nothing here)) in
      let some = single_counts here e p in
      let none = nothing_counts here p in
      omega (arith, one, all, sides, some, none)

  select_counts : (here : Span) (sources : List Source) (condition : Option Expr) (e : Expr) (p : ℕ)
      → times p (E (select here sources condition e))
      ≤ times p (flat_map (of_source E) sources) + (times p (of_condition E condition) + times p (E e))
  select_counts here [] condition e p =
      let one = given_counts here condition e p in let none = times_none p in omega (arith, one, none)
  select_counts here (source ∷ more) condition e p =
      let rest = select_counts here more condition e p in
      let one = branch_counts here source.value source.pattern (select here more condition e) p in
      let all = times_both p (of_source E source) (flat_map (of_source E) more) in
      let own = times_both p (start_of source.pattern ∷ []) (E source.value) in
      omega (arith, rest, one, all, own)

  -- in the order of the text the head comes first, then the sources, then the condition
  pub select_follows : (here : Span) (sources : List Source) (condition : Option Expr) (e : Expr)
      → Follows (E (select here sources condition e)) (E e ++ in_sources E (sources, condition))
  select_follows here sources condition e = record {
    counts = λ p.
        let one = select_counts here sources condition e p in
        let all = times_both p (E e) (in_sources E (sources, condition)) in
        let parts = times_both p (flat_map (of_source E) sources) (of_condition E condition) in
        omega (arith, one, all, parts);
  }

  child_follows : (here sign word : Span) (e : Expr) (label : Name)
      → Follows (E (child here sign word e label)) (E e ++ (sign.from ∷ word.from ∷ []))
  child_follows here sign word e label = record {
    counts = λ p.
        let content = named here content_name in
        let body = single here (named here child_name) in
        let items = expr here (Transform content (one_branch (child_pattern word label) body)) in
        let inner = single_counts here (named here child_name) p in
        let name = named_counts here child_name p in
        let other = named_counts here content_name p in
        let two = branch_counts here content (child_pattern word label) body p in
        let one = branch_counts here e (element_pattern sign) items p in
        let all = times_both p (E e) (sign.from ∷ word.from ∷ []) in
        let places = times_both p (sign.from ∷ []) (word.from ∷ []) in
        omega (arith, inner, name, other, two, one, all, places);
  }

  attribute_follows : (here sign : Span) (e : Expr) (label : Name)
      → Follows (E (attribute here sign e label)) (E e ++ (sign.from ∷ []))
  attribute_follows here sign e label = record {
    counts = λ p.
        let inner = single_counts here (named here content_name) p in
        let name = named_counts here content_name p in
        let one = branch_counts here e (attribute_pattern sign label) (single here (named here content_name)) p in
        let all = times_both p (E e) (sign.from ∷ []) in
        omega (arith, inner, name, one, all);
  }

  closed_follows : (place : Span) (first : Expr) (tails : List Tail)
      → Follows (E (closed place first tails)) (E first ++ flat_map (of_tail E) tails)
  closed_follows place first [] = first_of (E first) []
  closed_follows place first (tail ∷ more) = walk.chain place first (tail ∷ more)

  closed_counts : (place : Span) (first : Expr) (tails : List Tail) (p : ℕ)
      → times p (E (closed place first tails)) ≤ times p (E first) + times p (flat_map (of_tail E) tails)
  closed_counts place first tails p =
      let one = (closed_follows place first tails).counts p in
      let all = times_both p (E first) (flat_map (of_tail E) tails) in
      omega (arith, one, all)

  -- the fields that have been read have no place of a step, and what a step is made of is the next operand
  path_counts : (here place : Span) (first : Expr) (tails : List Tail) (steps : List Step) (p : ℕ)
      → times p (E (path here place first tails steps))
      ≤ times p (E first) + (times p (flat_map (of_tail E) tails) + times p (flat_map of_step steps))
  path_counts here place first tails [] p =
      let one = closed_counts place first tails p in let none = times_none p in omega (arith, one, none)
  path_counts here place first tails (ToField word label ∷ rest) p =
      let more = path_counts here (up_to here word) first (tails ++ Select label ∷ []) rest p in
      let one = (of_one_more (of_tail E) tails (Select label)).counts p in
      let ended = times_both p (flat_map (of_tail E) tails) [] in
      let none = times_none p in
      omega (arith, more, one, ended, none)
  path_counts here place first tails (ToChild sign word label ∷ rest) p =
      let to = up_to here word in
      let operand = closed place first tails in
      let more = path_counts here to (child to sign word operand label) [] rest p in
      let one = (child_follows to sign word operand label).counts p in
      let inner = closed_counts place first tails p in
      let own = times_both p (E operand) (sign.from ∷ word.from ∷ []) in
      let all = times_both p (sign.from ∷ word.from ∷ []) (flat_map of_step rest) in
      let none = times_none p in
      omega (arith, more, one, inner, own, all, none)
  path_counts here place first tails (ToAttribute sign word label ∷ rest) p =
      let to = up_to here word in
      let operand = closed place first tails in
      let more = path_counts here to (attribute to sign operand label) [] rest p in
      let one = (attribute_follows to sign operand label).counts p in
      let inner = closed_counts place first tails p in
      let own = times_both p (E operand) (sign.from ∷ []) in
      let all = times_both p (sign.from ∷ []) (flat_map of_step rest) in
      let none = times_none p in
      omega (arith, more, one, inner, own, all, none)

  pub path_follows : (here : Span) (first : Expr) (steps : List Step)
      → Follows (E (path here here first [] steps)) (E first ++ flat_map of_step steps)
  path_follows here first steps = record {
    counts = λ p.
        let one = path_counts here here first [] steps p in
        let all = times_both p (E first) (flat_map of_step steps) in
        let none = times_none p in
        omega (arith, one, all, none);
  }
