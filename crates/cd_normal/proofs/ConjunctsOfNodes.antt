-- Conjuncts of formulas of a graph go on to such.
use Rattle.std.proofs.Common.{ℕ, zero, suc, Bool, true, false, not, List, [], ◌∷◌, ◌++◌, map, subst, sym}
use Rattle.std.specs.List.{slice_get}
use Rattle.std.specs.Option.{unwrap_or}
use Rattle.cd_sets.specs.declared.node_id.NodeId.{NodeId}
use Rattle.cd_sets.specs.declared.question.Question.{Question}
use Rattle.cd_model.specs.AllOf.{AllOf}
use Rattle.cd_model.specs.Formula as formula
use Rattle.cd_model.specs.Formula.{Formula, Formulas, NoFormula, AFormula, Graph, formula_at, IsFormula, AreFormulas}
use Rattle.cd_model.specs.Kinds.{Kind}
use Rattle.cd_rules.specs.Dnf.{Literal, Conjunct, joined, when}
use Rattle.cd_rules.specs.KindDnf.{is_of, literal_by, kind_dnf, kind_of_each, kind_of_one}
use Rattle.cd_rules.specs.PartialConjuncts.{Partial, Signed, partial, each_signed, IsConjunction, wants_each, refuses_each, denies}
use Rattle.cd_rules.specs.PartialConjuncts.{IsDisjunction, wants_one, refuses_one, GoesOn, unfolds, divides, extends, partial_conjuncts}
use Rattle.cd_rules.proofs.Asking.{each_of_map}
use Rattle.cd_model.proofs.Ones.{each_weaker, each_of_lists}
use Rattle.cd_normal.specs.ConjunctsGoOn.{IsOfNodes, TopGoesOn, GoesBy}
use Rattle.cd_normal.specs.declared.advance.Advance.{Advance}
use Rattle.cd_normal.specs.declared.advance.Advance.TheVariants.{Nothing, Went, Complete}

module _ (nodes : ℕ) where
  -- literals and formulas of a graph with so many nodes
  abbrev IsLiteral : Literal → Type 0
  IsLiteral literal = IsFormula nodes literal.is

  abbrev IsSigned : Signed → Type 0
  IsSigned one = IsFormula nodes one.0

  -- conjuncts of such literals, joined with others
  with_others : (conjunct : Conjunct) (others : List Conjunct) → AllOf IsLiteral conjunct → AllOf (AllOf IsLiteral) others
      → AllOf (AllOf IsLiteral) (map (λ other. conjunct ++ other) others)
  with_others conjunct others each those = each_of_map (λ other. conjunct ++ other) (AllOf IsLiteral) others
      (each_weaker (AllOf IsLiteral) (λ other. AllOf IsLiteral (conjunct ++ other))
      (λ other have. each_of_lists IsLiteral conjunct other each have) others those)

  joined_are : (conjuncts others : List Conjunct) → AllOf (AllOf IsLiteral) conjuncts → AllOf (AllOf IsLiteral) others
      → AllOf (AllOf IsLiteral) (joined conjuncts others)
  joined_are [] others each those = tt
  joined_are (conjunct ∷ conjuncts) others each those =
      each_of_lists (AllOf IsLiteral) (map (λ other. conjunct ++ other) others) (joined conjuncts others)
      (with_others conjunct others each.0 those) (joined_are conjuncts others each.1 those)

  when_are : (holds : Bool) → AllOf (AllOf IsLiteral) (when holds)
  when_are true = (tt, tt)
  when_are false = tt

  literals_are : (of_kind wanted : Bool) (is : Formula) → IsFormula nodes is → AllOf (AllOf IsLiteral) (literal_by of_kind wanted is)
  literals_are true wanted is whole = ((whole, tt), tt)
  literals_are false true is whole = tt
  literals_are false false is whole = (tt, tt)

  -- the conjuncts of such a formula for a kind
  mutual
    dnf_is : (kind : Kind) (is : Formula) (wanted : Bool) → IsFormula nodes is → AllOf (AllOf IsLiteral) (kind_dnf kind is wanted)
    dnf_is kind formula.Nothing wanted whole = when_are (not wanted)
    dnf_is kind formula.Everything wanted whole = when_are wanted
    dnf_is kind (formula.And formulas) true whole = each_are kind formulas true whole
    dnf_is kind (formula.And formulas) false whole = one_are kind formulas false whole
    dnf_is kind (formula.Or formulas) true whole = one_are kind formulas true whole
    dnf_is kind (formula.Or formulas) false whole = each_are kind formulas false whole
    dnf_is kind (formula.Not is) wanted whole = dnf_is kind is (not wanted) whole
    dnf_is kind (formula.Ints set) wanted whole = literals_are (is_of kind (formula.Ints set)) wanted (formula.Ints set) whole
    dnf_is kind (formula.Chars set) wanted whole = literals_are (is_of kind (formula.Chars set)) wanted (formula.Chars set) whole
    dnf_is kind (formula.Atoms set) wanted whole = literals_are (is_of kind (formula.Atoms set)) wanted (formula.Atoms set) whole
    dnf_is kind (formula.Pair first second) wanted whole =
        literals_are (is_of kind (formula.Pair first second)) wanted (formula.Pair first second) whole
    dnf_is kind (formula.Xml tag attributes content) wanted whole =
        literals_are (is_of kind (formula.Xml tag attributes content)) wanted (formula.Xml tag attributes content) whole
    dnf_is kind (formula.Record named rest) wanted whole =
        literals_are (is_of kind (formula.Record named rest)) wanted (formula.Record named rest) whole
    dnf_is kind (formula.Arrow argument result) wanted whole =
        literals_are (is_of kind (formula.Arrow argument result)) wanted (formula.Arrow argument result) whole

    each_are : (kind : Kind) (formulas : Formulas) (wanted : Bool) → AreFormulas nodes formulas
        → AllOf (AllOf IsLiteral) (kind_of_each kind formulas wanted)
    each_are kind NoFormula wanted whole = (tt, tt)
    each_are kind (AFormula is rest) wanted whole =
        joined_are (kind_dnf kind is wanted) (kind_of_each kind rest wanted)
        (dnf_is kind is wanted whole.0) (each_are kind rest wanted whole.1)

    one_are : (kind : Kind) (formulas : Formulas) (wanted : Bool) → AreFormulas nodes formulas
        → AllOf (AllOf IsLiteral) (kind_of_one kind formulas wanted)
    one_are kind NoFormula wanted whole = tt
    one_are kind (AFormula is rest) wanted whole =
        each_of_lists (AllOf IsLiteral) (kind_dnf kind is wanted) (kind_of_one kind rest wanted)
        (dnf_is kind is wanted whole.0) (one_are kind rest wanted whole.1)

  -- the members of such a formula
  members_are : (formulas : Formulas) (wanted : Bool) → AreFormulas nodes formulas → AllOf IsSigned (each_signed formulas wanted)
  members_are NoFormula wanted whole = tt
  members_are (AFormula is rest) wanted whole = (whole.0, members_are rest wanted whole.1)

  conjuncts_are : (one : Signed) (members : List Signed) → IsConjunction one members → IsSigned one → AllOf IsSigned members
  conjuncts_are _ _ (wants_each formulas) whole = members_are formulas true whole
  conjuncts_are _ _ (refuses_each formulas) whole = members_are formulas false whole
  conjuncts_are _ _ (denies is wanted) whole = (whole, tt)

  disjuncts_are : (one : Signed) (members : List Signed) → IsDisjunction one members → IsSigned one → AllOf IsSigned members
  disjuncts_are _ _ (wants_one formulas) whole = members_are formulas true whole
  disjuncts_are _ _ (refuses_one formulas) whole = members_are formulas false whole

  -- so conjuncts go on to such
  goes_on_of_nodes : (first : Partial) (more : List Partial) → GoesOn first more → IsOfNodes nodes first → AllOf (IsOfNodes nodes) more
  goes_on_of_nodes _ _ (unfolds kind conjunct one members left is) whole =
      ((whole.0, each_of_lists IsSigned members left (conjuncts_are one members is whole.1.0) whole.1.1), tt)
  goes_on_of_nodes _ _ (divides kind conjunct one members left is) whole =
      each_of_map (λ member. partial kind conjunct (member ∷ left)) (IsOfNodes nodes) members
      (each_weaker IsSigned (λ member. IsOfNodes nodes (partial kind conjunct (member ∷ left)))
      (λ member of. (whole.0, (of, whole.1.1))) members (disjuncts_are one members is whole.1.0))
  goes_on_of_nodes _ _ (extends kind conjunct one left) whole =
      each_of_map (λ more. partial kind (conjunct ++ more) left) (IsOfNodes nodes) (kind_dnf kind one.0 one.1)
      (each_weaker (AllOf IsLiteral) (λ more. IsOfNodes nodes (partial kind (conjunct ++ more) left))
      (λ more each. (each_of_lists IsLiteral conjunct more whole.0 each, whole.1.1)) (kind_dnf kind one.0 one.1)
      (dnf_is kind one.0 one.1 whole.1.0))

  top_of_nodes : (before after : List Partial) → TopGoesOn before after → AllOf (IsOfNodes nodes) before → AllOf (IsOfNodes nodes) after
  top_of_nodes before after (first, more, rest, was, is, goes) each =
      let all = subst (AllOf (IsOfNodes nodes)) was each in
      subst (AllOf (IsOfNodes nodes)) (sym is)
      (each_of_lists (IsOfNodes nodes) more rest (goes_on_of_nodes first more goes all.0) all.1)

  pub goes_of_nodes : (before after : List Partial) (advance : Advance) → GoesBy before after advance
      → AllOf (IsOfNodes nodes) before → AllOf (IsOfNodes nodes) after
  goes_of_nodes before after Nothing goes each = subst (AllOf (IsOfNodes nodes)) (sym goes.1) tt
  goes_of_nodes before after Went goes each = top_of_nodes before after goes each
  goes_of_nodes before after (Complete clause) (kind, conjunct, was, is) each = (subst (AllOf (IsOfNodes nodes)) was each).1

  -- and the conjuncts of a question of such a graph are such
  formula_is : (graph : Graph) (id : ℕ) → AllOf (IsFormula nodes) graph
      → IsFormula nodes (unwrap_or (slice_get graph id) formula.Nothing)
  formula_is [] id each = tt
  formula_is (is ∷ graph) zero each = each.0
  formula_is (is ∷ graph) (suc id) each = formula_is graph id each.1

  signed_are : (graph : Graph) → AllOf (IsFormula nodes) graph → (ids : List NodeId) (wanted : Bool)
      → AllOf IsSigned (map (λ id. (formula_at graph id, wanted)) ids)
  signed_are graph whole [] wanted = tt
  signed_are graph whole (id ∷ ids) wanted = (formula_is graph id.0 whole, signed_are graph whole ids wanted)

  pub partial_conjuncts_are : (graph : Graph) → AllOf (IsFormula nodes) graph → (question : Question)
      → AllOf (IsOfNodes nodes) (partial_conjuncts graph question)
  partial_conjuncts_are graph whole question =
      let left = each_of_lists IsSigned (map (λ id. (formula_at graph id, true)) question.pos)
      (map (λ id. (formula_at graph id, false)) question.neg)
      (signed_are graph whole question.pos true) (signed_are graph whole question.neg false) in
      ((tt, left), ((tt, left), ((tt, left), ((tt, left), tt))))
