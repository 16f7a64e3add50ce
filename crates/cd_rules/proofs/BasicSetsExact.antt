-- A thing that reads as a test says is in a formula exactly when the formula passes the test, and so with questions.
use Rattle.std.proofs.Common.{◌≡◌, ◌↔◌, ◌⊎◌, Bool, true, false, true≢false, not, ◌&&◌, ◌||◌, ℤ, ℕ, List, [], ◌∷◌, inl, inr, refl, sym}
use Rattle.cd_sets.specs.declared.node_id.NodeId.{NodeId}
use Rattle.cd_sets.specs.declared.question.Question.{Question}
use Rattle.cd_syntax.specs.Name.{Name}
use Rattle.cd_model.specs.Thing as thing
use Rattle.cd_model.specs.AllOf.{AllOf}
use Rattle.cd_model.specs.Formula as formula
use Rattle.cd_model.specs.Formula.{Formula, Formulas, NoFormula, AFormula, Graph, formula_at}
use Rattle.cd_model.specs.Membership.{Reader, answers, asked, at_nodes, reader, holds, each_holds, one_holds}
use Rattle.cd_model.proofs.BothWays.{itself, through, both_agree, one_agrees}
use Rattle.cd_rules.specs.BasicSets.{passes, all_pass, one_passes, in_all, in_none, question_passes, integer_test, character_test, atom_test}

-- what two tests say together
both_true : (one other : Bool) → ((one ≡ true) × (other ≡ true)) ↔ ((one && other) ≡ true)
both_true true other = (λ are. are.1, λ is. (refl, is))
both_true false other = (λ are. are.0, λ is. absurd (true≢false (sym is)))

one_false : (one other : Bool) → ((one ≡ false) ⊎ (other ≡ false)) ↔ ((one && other) ≡ false)
one_false true other = (λ either. elim either [ inl is ↦ absurd (true≢false is) | inr is ↦ is ], λ is. inr is)
one_false false other = (λ either. refl, λ is. inl refl)

one_true : (one other : Bool) → ((one ≡ true) ⊎ (other ≡ true)) ↔ ((one || other) ≡ true)
one_true true other = (λ either. refl, λ is. inl refl)
one_true false other = (λ either. elim either [ inl is ↦ absurd (true≢false (sym is)) | inr is ↦ is ], λ is. inr is)

both_false : (one other : Bool) → ((one ≡ false) × (other ≡ false)) ↔ ((one || other) ≡ false)
both_false true other = (λ are. are.0, λ is. absurd (true≢false is))
both_false false other = (λ are. are.1, λ is. (refl, is))

opposite : (one answer : Bool) → (one ≡ not answer) ↔ (not one ≡ answer)
opposite true true = (λ is. sym is, λ is. sym is)
opposite true false = (λ is. refl, λ is. refl)
opposite false true = (λ is. refl, λ is. refl)
opposite false false = (λ is. sym is, λ is. sym is)

module _ (reader : Reader) (test : Formula → Bool) (reads : (is : Formula) (answer : Bool) → reader is answer ↔ (test is ≡ answer)) where
  mutual
    passes_exact : (is : Formula) (answer : Bool) → holds reader is answer ↔ (passes test is ≡ answer)
    passes_exact formula.Nothing answer = (λ same. sym same, λ same. sym same)
    passes_exact formula.Everything answer = (λ same. sym same, λ same. sym same)
    passes_exact (formula.And formulas) true = each_true formulas
    passes_exact (formula.And formulas) false = some_false formulas
    passes_exact (formula.Or formulas) true = some_true formulas
    passes_exact (formula.Or formulas) false = each_false formulas
    passes_exact (formula.Not is) answer = through (passes_exact is (not answer)) (opposite (passes test is) answer)
    passes_exact (formula.Ints set) answer = reads (formula.Ints set) answer
    passes_exact (formula.Chars set) answer = reads (formula.Chars set) answer
    passes_exact (formula.Atoms set) answer = reads (formula.Atoms set) answer
    passes_exact (formula.Pair first second) answer = reads (formula.Pair first second) answer
    passes_exact (formula.Xml tag attributes content) answer = reads (formula.Xml tag attributes content) answer
    passes_exact (formula.Record named rest) answer = reads (formula.Record named rest) answer
    passes_exact (formula.Arrow argument result) answer = reads (formula.Arrow argument result) answer

    each_true : (formulas : Formulas) → each_holds reader formulas true ↔ (all_pass test formulas ≡ true)
    each_true NoFormula = (λ are. refl, λ is. tt)
    each_true (AFormula is rest) = through (both_agree (passes_exact is true) (each_true rest))
        (both_true (passes test is) (all_pass test rest))

    some_false : (formulas : Formulas) → one_holds reader formulas false ↔ (all_pass test formulas ≡ false)
    some_false NoFormula = (λ none. elim none [ ], λ is. true≢false is)
    some_false (AFormula is rest) = through (one_agrees (passes_exact is false) (some_false rest))
        (one_false (passes test is) (all_pass test rest))

    some_true : (formulas : Formulas) → one_holds reader formulas true ↔ (one_passes test formulas ≡ true)
    some_true NoFormula = (λ none. elim none [ ], λ is. true≢false (sym is))
    some_true (AFormula is rest) = through (one_agrees (passes_exact is true) (some_true rest))
        (one_true (passes test is) (one_passes test rest))

    each_false : (formulas : Formulas) → each_holds reader formulas false ↔ (one_passes test formulas ≡ false)
    each_false NoFormula = (λ are. refl, λ is. tt)
    each_false (AFormula is rest) = through (both_agree (passes_exact is false) (each_false rest))
        (both_false (passes test is) (one_passes test rest))

  module _ (graph : Graph) where
    all_exact : (ids : List NodeId) → AllOf (λ id. at_nodes graph reader id true) ids ↔ (in_all test graph ids ≡ true)
    all_exact [] = (λ are. refl, λ is. tt)
    all_exact (id ∷ ids) = through (both_agree (passes_exact (formula_at graph id) true) (all_exact ids))
        (both_true (passes test (formula_at graph id)) (in_all test graph ids))

    none_exact : (ids : List NodeId) → AllOf (λ id. at_nodes graph reader id false) ids ↔ (in_none test graph ids ≡ true)
    none_exact [] = (λ are. refl, λ is. tt)
    none_exact (id ∷ ids) = through
        (both_agree (through (passes_exact (formula_at graph id) false) (opposite (passes test (formula_at graph id)) true)) (none_exact ids))
        (both_true (not (passes test (formula_at graph id))) (in_none test graph ids))

    pub question_exact : (question : Question) → asked (at_nodes graph reader) question true ↔ (question_passes test graph question ≡ true)
    question_exact question = through (both_agree (all_exact question.pos) (none_exact question.neg))
        (both_true (in_all test graph question.pos) (in_none test graph question.neg))

-- the readers of integers, characters and atoms
turned : (one other : Bool) → (one ≡ other) ↔ (other ≡ one)
turned one other = (λ same. sym same, λ same. sym same)

module _ (graph : Graph) where
  integer_reads : (z : ℤ) (is : Formula) (answer : Bool) → reader graph (thing.Integer z) is answer ↔ (integer_test z is ≡ answer)
  integer_reads z (formula.Ints set) answer = itself
  integer_reads z _ answer = turned answer false

  character_reads : (c : ℕ) (is : Formula) (answer : Bool)
      → reader graph (thing.Character c) is answer ↔ (character_test c is ≡ answer)
  character_reads c (formula.Chars set) answer = itself
  character_reads c _ answer = turned answer false

  atom_reads : (name : Name) (is : Formula) (answer : Bool) → reader graph (thing.Atom name) is answer ↔ (atom_test name is ≡ answer)
  atom_reads name (formula.Atoms set) answer = itself
  atom_reads name _ answer = turned answer false

  pub integers_exact : (question : Question) (z : ℤ)
      → asked (answers graph (thing.Integer z)) question true ↔ (question_passes (integer_test z) graph question ≡ true)
  integers_exact question z = question_exact (reader graph (thing.Integer z)) (integer_test z) (integer_reads z) graph question

  pub characters_exact : (question : Question) (c : ℕ)
      → asked (answers graph (thing.Character c)) question true ↔ (question_passes (character_test c) graph question ≡ true)
  characters_exact question c =
      question_exact (reader graph (thing.Character c)) (character_test c) (character_reads c) graph question

  pub atoms_exact : (question : Question) (name : Name)
      → asked (answers graph (thing.Atom name)) question true ↔ (question_passes (atom_test name) graph question ≡ true)
  atoms_exact question name = question_exact (reader graph (thing.Atom name)) (atom_test name) (atom_reads name) graph question
