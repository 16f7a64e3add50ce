-- What a partial conjunct may become: by one more formula, where it is complete, and for a
-- question.
use Rattle.std.proofs.Common.{◌≡◌, Bool, true, false, List, [], ◌∷◌, ◌++◌, map, refl, sym, ap, subst, ◌∙◌, append_assoc, append-nil}
use Rattle.cd_sets.specs.declared.node_id.NodeId.{NodeId}
use Rattle.cd_sets.specs.declared.question.Question.{Question}
use Rattle.cd_model.specs.AllOf.{AllOf}
use Rattle.cd_model.specs.Formula.{Formulas, NoFormula, AFormula, Graph, formula_at}
use Rattle.cd_model.specs.Kinds.{Kind}
use Rattle.cd_model.proofs.Covered.{each_parts}
use Rattle.cd_rules.specs.Dnf.{Conjunct, joined, always}
use Rattle.cd_rules.specs.Clauses.{Clause}
use Rattle.cd_rules.specs.KindDnf.{kind_dnf, kind_of_each, kind_of_one, kind_at, kind_dnf_of}
use Rattle.cd_rules.specs.PartialConjuncts.{Signed, Partial, partial, clause_by, completions, EachClause, extensions, signed}
use Rattle.cd_rules.specs.PartialConjuncts.{each_signed, IsConjunction, wants_each, refuses_each, denies}
use Rattle.cd_rules.specs.PartialConjuncts.{IsDisjunction, wants_one, refuses_one, GoesOn, unfolds, divides, extends}
use Rattle.cd_rules.proofs.Answered.{map_of_each}
use Rattle.cd_rules.proofs.Asking.{each_of_map}
use Rattle.cd_model.proofs.Ones.{each_weaker, each_of_lists}

-- a fact of each of the joined ones is one of each with each, and back
module _ (Fact : Conjunct → Type 0) where
  each_joined : (some others : List Conjunct) → AllOf (λ one. AllOf (λ other. Fact (one ++ other)) others) some → AllOf Fact (joined some others)
  each_joined [] others each = tt
  each_joined (conjunct ∷ some) others each = each_of_lists Fact (map (λ other. conjunct ++ other) others) (joined some others)
      (each_of_map (λ other. conjunct ++ other) Fact others each.0) (each_joined some others each.1)

  joined_each : (some others : List Conjunct) → AllOf Fact (joined some others) → AllOf (λ one. AllOf (λ other. Fact (one ++ other)) others) some
  joined_each [] others each = tt
  joined_each (conjunct ∷ some) others each =
      let both = each_parts Fact (map (λ other. conjunct ++ other) others) (joined some others) each in
      (map_of_each (λ other. conjunct ++ other) Fact others both.0, joined_each some others both.1)

module _ (fact : Clause → Type 0) (kind : Kind) where
  -- a fact of each clause that the extensions may become is one of each that the conjunct may
  -- become, and back
  of_extensions : (conjunct : Conjunct) (one : Signed) (left : List Signed) → AllOf (EachClause fact) (extensions kind conjunct one left)
      → EachClause fact (partial kind conjunct (one ∷ left))
  of_extensions conjunct one left each = each_joined (λ rest. fact (clause_by kind (conjunct ++ rest))) (kind_dnf kind one.0 one.1)
      (completions kind left) (each_weaker (λ more. EachClause fact (partial kind (conjunct ++ more) left))
      (λ more. AllOf (λ rest. fact (clause_by kind (conjunct ++ (more ++ rest)))) (completions kind left))
      (λ more. each_weaker (λ rest. fact (clause_by kind ((conjunct ++ more) ++ rest))) (λ rest. fact (clause_by kind (conjunct ++ (more ++ rest))))
      (λ rest. subst (λ conjunct. fact (clause_by kind conjunct)) (append_assoc conjunct more rest)) (completions kind left))
      (kind_dnf kind one.0 one.1)
      (map_of_each (λ more. partial kind (conjunct ++ more) left) (EachClause fact) (kind_dnf kind one.0 one.1) each))

  to_extensions : (conjunct : Conjunct) (one : Signed) (left : List Signed) → EachClause fact (partial kind conjunct (one ∷ left))
      → AllOf (EachClause fact) (extensions kind conjunct one left)
  to_extensions conjunct one left each = each_of_map (λ more. partial kind (conjunct ++ more) left) (EachClause fact) (kind_dnf kind one.0 one.1)
      (each_weaker (λ more. AllOf (λ rest. fact (clause_by kind (conjunct ++ (more ++ rest)))) (completions kind left))
      (λ more. EachClause fact (partial kind (conjunct ++ more) left))
      (λ more. each_weaker (λ rest. fact (clause_by kind (conjunct ++ (more ++ rest)))) (λ rest. fact (clause_by kind ((conjunct ++ more) ++ rest)))
      (λ rest. subst (λ conjunct. fact (clause_by kind conjunct)) (sym (append_assoc conjunct more rest))) (completions kind left))
      (kind_dnf kind one.0 one.1)
      (joined_each (λ rest. fact (clause_by kind (conjunct ++ rest))) (kind_dnf kind one.0 one.1) (completions kind left) each))

  -- a complete conjunct becomes its own clause
  pub of_complete : (conjunct : Conjunct) → EachClause fact (partial kind conjunct []) → fact (clause_by kind conjunct)
  of_complete conjunct each = subst (λ conjunct. fact (clause_by kind conjunct)) (append-nil conjunct) each.0

  pub to_complete : (conjunct : Conjunct) → fact (clause_by kind conjunct) → EachClause fact (partial kind conjunct [])
  to_complete conjunct is = (subst (λ conjunct. fact (clause_by kind conjunct)) (sym (append-nil conjunct)) is, tt)

-- joining has a unit and is associative
abbrev with_each : Conjunct → List Conjunct → List Conjunct
with_each conjunct others = map (λ other. conjunct ++ other) others

joined_nothing : (all : List Conjunct) → joined always all ≡ all
joined_nothing [] = refl
joined_nothing (conjunct ∷ all) = ap (λ more. conjunct ∷ more) (joined_nothing all)

with_each_of_both : (conjunct : Conjunct) (some others : List Conjunct)
    → with_each conjunct (some ++ others) ≡ with_each conjunct some ++ with_each conjunct others
with_each_of_both conjunct [] others = refl
with_each_of_both conjunct (one ∷ some) others = ap (λ more. (conjunct ++ one) ∷ more) (with_each_of_both conjunct some others)

with_each_twice : (conjunct one : Conjunct) (others : List Conjunct)
    → with_each (conjunct ++ one) others ≡ with_each conjunct (with_each one others)
with_each_twice conjunct one [] = refl
with_each_twice conjunct one (other ∷ others) = ap (λ first. first ∷ with_each (conjunct ++ one) others) (append_assoc conjunct one other)
    ∙ ap (λ more. (conjunct ++ (one ++ other)) ∷ more) (with_each_twice conjunct one others)

joined_with_each : (conjunct : Conjunct) (some others : List Conjunct)
    → joined (with_each conjunct some) others ≡ with_each conjunct (joined some others)
joined_with_each conjunct [] others = refl
joined_with_each conjunct (one ∷ some) others = ap (λ more. more ++ joined (with_each conjunct some) others) (with_each_twice conjunct one others)
    ∙ ap (λ more. with_each conjunct (with_each one others) ++ more) (joined_with_each conjunct some others)
    ∙ sym (with_each_of_both conjunct (with_each one others) (joined some others))

pub joined_both : (some more others : List Conjunct) → joined (some ++ more) others ≡ joined some others ++ joined more others
joined_both [] more others = refl
joined_both (conjunct ∷ some) more others = ap (λ rest. with_each conjunct others ++ rest) (joined_both some more others)
    ∙ sym (append_assoc (with_each conjunct others) (joined some others) (joined more others))

joined_assoc : (some more others : List Conjunct) → joined (joined some more) others ≡ joined some (joined more others)
joined_assoc [] more others = refl
joined_assoc (conjunct ∷ some) more others = joined_both (with_each conjunct more) (joined some more) others
    ∙ ap (λ first. first ++ joined (joined some more) others) (joined_with_each conjunct more others)
    ∙ ap (λ rest. with_each conjunct (joined more others) ++ rest) (joined_assoc some more others)

-- so the conjuncts of a question are the completions of the one that has nothing yet
module _ (kind : Kind) where
  completions_of_both : (some others : List Signed)
      → completions kind (some ++ others) ≡ joined (completions kind some) (completions kind others)
  completions_of_both [] others = sym (joined_nothing (completions kind others))
  completions_of_both (one ∷ some) others = ap (joined (kind_dnf kind one.0 one.1)) (completions_of_both some others)
      ∙ sym (joined_assoc (kind_dnf kind one.0 one.1) (completions kind some) (completions kind others))

  -- a conjunction is completed as its formulas are
  completions_of_each : (formulas : Formulas) (wanted : Bool)
      → completions kind (each_signed formulas wanted) ≡ kind_of_each kind formulas wanted
  completions_of_each NoFormula wanted = refl
  completions_of_each (AFormula is rest) wanted = ap (joined (kind_dnf kind is wanted)) (completions_of_each rest wanted)

  pub completions_unfold : (one : Signed) (members left : List Signed) → IsConjunction one members
      → completions kind (members ++ left) ≡ completions kind (one ∷ left)
  completions_unfold _ _ left (wants_each formulas) = completions_of_both (each_signed formulas true) left
      ∙ ap (λ some. joined some (completions kind left)) (completions_of_each formulas true)
  completions_unfold _ _ left (refuses_each formulas) = completions_of_both (each_signed formulas false) left
      ∙ ap (λ some. joined some (completions kind left)) (completions_of_each formulas false)
  completions_unfold _ _ left (denies is wanted) = refl

  completions_at : (graph : Graph) (wanted : Bool) (ids : List NodeId)
      → completions kind (map (λ id. (formula_at graph id, wanted)) ids) ≡ kind_at kind graph ids wanted
  completions_at graph wanted [] = refl
  completions_at graph wanted (id ∷ ids) = ap (joined (kind_dnf kind (formula_at graph id) wanted)) (completions_at graph wanted ids)

  pub completions_of_question : (graph : Graph) (question : Question)
      → completions kind (signed graph question) ≡ kind_dnf_of kind graph question
  completions_of_question graph question =
      completions_of_both (map (λ id. (formula_at graph id, true)) question.pos) (map (λ id. (formula_at graph id, false)) question.neg)
      ∙ ap (λ some. joined some (completions kind (map (λ id. (formula_at graph id, false)) question.neg))) (completions_at graph true question.pos)
      ∙ ap (joined (kind_at kind graph question.pos true)) (completions_at graph false question.neg)

module _ (fact : Clause → Type 0) (kind : Kind) (conjunct : Conjunct) (one : Signed) (members left : List Signed)
    (are : IsConjunction one members) where
  -- so what a conjunct may become stays, where the formulas of a conjunction take its place
  of_members : EachClause fact (partial kind conjunct (members ++ left)) → EachClause fact (partial kind conjunct (one ∷ left))
  of_members = subst (AllOf (λ rest. fact (clause_by kind (conjunct ++ rest)))) (completions_unfold kind one members left are)

  to_members : EachClause fact (partial kind conjunct (one ∷ left)) → EachClause fact (partial kind conjunct (members ++ left))
  to_members = subst (AllOf (λ rest. fact (clause_by kind (conjunct ++ rest)))) (sym (completions_unfold kind one members left are))

-- a choice for each of these formulas
abbrev pub divided : Kind → Conjunct → (left members : List Signed) → List Partial
divided kind conjunct left members = map (λ member. partial kind conjunct (member ∷ left)) members

module _ (fact : Clause → Type 0) (kind : Kind) (conjunct : Conjunct) (left : List Signed) where
  abbrev IsOfRest : Conjunct → Type 0
  IsOfRest rest = fact (clause_by kind (conjunct ++ rest))

  -- the conjuncts of one of some formulas are those of each, one after the other
  of_each_one : (formulas : Formulas) (wanted : Bool) → AllOf (EachClause fact) (divided kind conjunct left (each_signed formulas wanted))
      → AllOf IsOfRest (joined (kind_of_one kind formulas wanted) (completions kind left))
  of_each_one NoFormula wanted each = tt
  of_each_one (AFormula is rest) wanted each =
      subst (AllOf IsOfRest) (sym (joined_both (kind_dnf kind is wanted) (kind_of_one kind rest wanted) (completions kind left)))
      (each_of_lists IsOfRest (joined (kind_dnf kind is wanted) (completions kind left))
      (joined (kind_of_one kind rest wanted) (completions kind left)) each.0 (of_each_one rest wanted each.1))

  to_each_one : (formulas : Formulas) (wanted : Bool) → AllOf IsOfRest (joined (kind_of_one kind formulas wanted) (completions kind left))
      → AllOf (EachClause fact) (divided kind conjunct left (each_signed formulas wanted))
  to_each_one NoFormula wanted each = tt
  to_each_one (AFormula is rest) wanted each =
      let both = each_parts IsOfRest (joined (kind_dnf kind is wanted) (completions kind left))
      (joined (kind_of_one kind rest wanted) (completions kind left))
      (subst (AllOf IsOfRest) (joined_both (kind_dnf kind is wanted) (kind_of_one kind rest wanted) (completions kind left)) each) in
      (both.0, to_each_one rest wanted both.1)

  -- so what a conjunct may become stays, where there is a conjunct for each formula of a
  -- disjunction
  of_divided : (one : Signed) (members : List Signed) → IsDisjunction one members → AllOf (EachClause fact) (divided kind conjunct left members)
      → EachClause fact (partial kind conjunct (one ∷ left))
  of_divided _ _ (wants_one formulas) = of_each_one formulas true
  of_divided _ _ (refuses_one formulas) = of_each_one formulas false

  to_divided : (one : Signed) (members : List Signed) → IsDisjunction one members → EachClause fact (partial kind conjunct (one ∷ left))
      → AllOf (EachClause fact) (divided kind conjunct left members)
  to_divided _ _ (wants_one formulas) = to_each_one formulas true
  to_divided _ _ (refuses_one formulas) = to_each_one formulas false

-- a fact of each clause that a conjunct may become stays where it goes on, and is so before where
-- it is so after
module _ (fact : Clause → Type 0) where
  pub of_more : (first : Partial) (more : List Partial) → GoesOn first more → AllOf (EachClause fact) more → EachClause fact first
  of_more _ _ (unfolds kind conjunct one members left are) each = of_members fact kind conjunct one members left are each.0
  of_more _ _ (divides kind conjunct one members left are) each = of_divided fact kind conjunct left one members are each
  of_more _ _ (extends kind conjunct one left) each = of_extensions fact kind conjunct one left each

  pub to_more : (first : Partial) (more : List Partial) → GoesOn first more → EachClause fact first → AllOf (EachClause fact) more
  to_more _ _ (unfolds kind conjunct one members left are) each = (to_members fact kind conjunct one members left are each, tt)
  to_more _ _ (divides kind conjunct one members left are) each = to_divided fact kind conjunct left one members are each
  to_more _ _ (extends kind conjunct one left) each = to_extensions fact kind conjunct one left each
