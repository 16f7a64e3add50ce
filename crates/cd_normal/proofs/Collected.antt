-- Sets that are collected of formulas one by one: those so far, with those of the formulas that are left, are those of all.
use Rattle.std.proofs.Common.{◌≡◌, ℕ, suc, ◌+◌, ◌<◌, ◌≤◌, Bool, true, false, ◌&&◌, ◌||◌, ℤ, List, [], ◌∷◌, ◌++◌, map, drop, length, get_or}
use Rattle.std.proofs.Common.{refl, sym, ap, ap₂, subst, ◌∙◌, append_assoc, append-nil, drop-cons, true≢false, arith}
use Rattle.std.proofs.Math.ListN.{drop_of_length-le}
use Rattle.cd_syntax.specs.Name.{Name}
use Rattle.cd_model.specs.Formula as formula
use Rattle.cd_model.specs.Formula.{Formula, formulas_of}
use Rattle.cd_graph.specs.PlainFormula.{plain}
use Rattle.cd_graph.specs.declared.formula.Formula.{Formula as CodeFormula}
use Rattle.cd_rules.specs.BasicSets.{passes, all_pass, one_passes, integer_test, character_test, atom_test}
use Rattle.cd_normal.specs.declared.basic_sets.Basics.{Basics}
use Rattle.cd_normal.specs.HoldNothing.{HoldNothing}
use Rattle.cd_normal.specs.Inner.ExactSets.{AreExact, AreExactEach, has_parts}
use Rattle.cd_normal.proofs.ExactSets.{exact_so}
use Rattle.cd_normal.proofs.Nothing.{nothing_left}

-- what the tests of a thing say of a list of formulas
abbrev pub PassingList : Type 0
PassingList = (Formula → Bool) → List Formula → Bool

abbrev pub passes_each : PassingList
passes_each test formulas = all_pass test (formulas_of formulas)

abbrev pub passes_one : PassingList
passes_one test formulas = one_passes test (formulas_of formulas)

-- the sets are those of some formulas, which serve with those that are left as all do
pub record AreCollected (passing : PassingList) (all rest : List Formula) (sets : List Basics) : Type 0 where
  pub formulas : List Formula
  pub exact : AreExactEach formulas sets
  pub serve : (joined : Basics) → AreExact (λ test. passing test (formulas ++ rest)) joined
      → AreExact (λ test. passing test all) joined

-- the formula at a place stands before those that are left
pub next_formula : (formulas : List CodeFormula) (index : ℕ) (item : CodeFormula) → item ≡ get_or formulas index item
    → index < length formulas → map plain (drop index formulas) ≡ plain item ∷ map plain (drop (index + 1) formulas)
next_formula formulas index item is within =
    let next : suc index ≡ index + 1 = omega arith in
    ap (map plain) (drop-cons formulas index item within ∙ ap₂ (λ one place. one ∷ drop place formulas) (sym is) next)

-- in the end none is left
pub none_left : (formulas : List CodeFormula) (index : ℕ) → length formulas ≤ index → map plain (drop index formulas) ≡ []
none_left formulas index past = ap (map plain) (drop_of_length-le formulas past)

put_exact : (formulas : List Formula) (sets : List Basics) → AreExactEach formulas sets → (one : Formula) (set : Basics)
    → AreExact (λ test. passes test one) set → AreExactEach (formulas ++ (one ∷ [])) (sets ++ (set ∷ []))
put_exact [] [] exact one set here = (here, tt)
put_exact [] (other ∷ sets) exact one set here = absurd exact
put_exact (formula ∷ formulas) [] exact one set here = absurd exact
put_exact (formula ∷ formulas) (other ∷ sets) exact one set here = (exact.0, put_exact formulas sets exact.1 one set here)

module _ (passing : PassingList) (all : List Formula) where
  -- at first there are none
  pub none_yet : AreCollected passing all all []
  none_yet = record { formulas = []; exact = tt; serve = λ joined exact. exact }

  -- then the one of the next formula
  pub one_put : (left rest : List Formula) (sets more : List Basics) (one : Formula) (set : Basics) → AreCollected passing all left sets
      → left ≡ one ∷ rest → AreExact (λ test. passes test one) set → more ≡ sets ++ (set ∷ []) → AreCollected passing all rest more
  one_put left rest sets more one set so_far next here put = subst (AreCollected passing all rest) (sym put) (record {
    formulas = so_far.formulas ++ (one ∷ []);
    exact = put_exact so_far.formulas sets so_far.exact one set here;
    serve = λ joined exact. so_far.serve joined (subst (λ formulas. AreExact (λ test. passing test formulas) joined)
        (append_assoc so_far.formulas (one ∷ []) rest ∙ ap (λ left. so_far.formulas ++ left) (sym next)) exact);
  })

  -- in the end what is joined of the sets is what is joined of all
  pub all_put : (left : List Formula) (sets given : List Basics) → AreCollected passing all left sets → left ≡ [] → given ≡ sets
      → (joined : Basics) → ((formulas : List Formula) → AreExactEach formulas given → AreExact (λ test. passing test formulas) joined)
      → AreExact (λ test. passing test all) joined
  all_put left sets given so_far none same joined exact = so_far.serve joined (subst (λ formulas. AreExact (λ test. passing test formulas) joined)
      (sym (append-nil so_far.formulas) ∙ ap (λ left. so_far.formulas ++ left) (sym none)) (exact so_far.formulas
      (subst (AreExactEach so_far.formulas) (sym same) so_far.exact)))

-- where nothing is in one of the formulas, nothing is in each of all
each_of_parts : (test : Formula → Bool) (formulas rest : List Formula) (one : Formula)
    → (passes test one && (passes_each test formulas && passes_each test rest)) ≡ passes_each test (formulas ++ (one ∷ rest))
each_of_parts test [] rest one = refl
each_of_parts test (formula ∷ formulas) rest one =
    turned (passes test one) (passes test formula) (passes_each test formulas) (passes_each test rest)
    ∙ ap (λ passed. passes test formula && passed) (each_of_parts test formulas rest one)
  where
    turned : (one two three four : Bool) → (one && ((two && three) && four)) ≡ (two && (one && (three && four)))
    turned true true three four = refl
    turned true false three four = refl
    turned false true three four = refl
    turned false false three four = refl

pub nothing_more : (all left rest : List Formula) (sets : List Basics) (one : Formula) (set : Basics) → AreCollected passes_each all left sets
    → left ≡ one ∷ rest → AreExact (λ test. passes test one) set → HoldNothing set → AreExact (λ test. passes_each test all) set
nothing_more all left rest sets one set so_far next here nothing = so_far.serve set
    (subst (λ left. AreExact (λ test. passes_each test (so_far.formulas ++ left)) set) (sym next)
    (exact_so (λ test. passes test one && (passes_each test so_far.formulas && passes_each test rest))
    (λ test. passes_each test (so_far.formulas ++ (one ∷ rest))) (λ test. each_of_parts test so_far.formulas rest one) set
    (nothing_left set nothing (λ test. passes test one) (λ test. passes_each test so_far.formulas && passes_each test rest) here)))

-- no integer, character or atom is of things that have parts, so their formulas may be left out
no_integer : (z : ℤ) (one : Formula) → has_parts one ≡ true → false ≡ passes (integer_test z) one
no_integer z (formula.Pair first second) is = refl
no_integer z (formula.Xml tag attributes content) is = refl
no_integer z (formula.Record named rest) is = refl
no_integer z (formula.Arrow argument mapped) is = refl
no_integer z _ is = absurd (true≢false (sym is))

no_character : (c : ℕ) (one : Formula) → has_parts one ≡ true → false ≡ passes (character_test c) one
no_character c (formula.Pair first second) is = refl
no_character c (formula.Xml tag attributes content) is = refl
no_character c (formula.Record named rest) is = refl
no_character c (formula.Arrow argument mapped) is = refl
no_character c _ is = absurd (true≢false (sym is))

no_atom : (name : Name) (one : Formula) → has_parts one ≡ true → false ≡ passes (atom_test name) one
no_atom name (formula.Pair first second) is = refl
no_atom name (formula.Xml tag attributes content) is = refl
no_atom name (formula.Record named rest) is = refl
no_atom name (formula.Arrow argument mapped) is = refl
no_atom name _ is = absurd (true≢false (sym is))

without_it : (test : Formula → Bool) (one : Formula) → false ≡ passes test one → (formulas rest : List Formula)
    → passes_one test (formulas ++ rest) ≡ passes_one test (formulas ++ (one ∷ rest))
without_it test one fails [] rest = ap (λ passed. passed || passes_one test rest) fails
without_it test one fails (formula ∷ formulas) rest = ap (λ passed. passes test formula || passed) (without_it test one fails formulas rest)

pub left_out : (all left rest : List Formula) (sets same : List Basics) (one : Formula) → AreCollected passes_one all left sets
    → left ≡ one ∷ rest → has_parts one ≡ true → same ≡ sets → AreCollected passes_one all rest same
left_out all left rest sets same one so_far next parts are = subst (AreCollected passes_one all rest) (sym are) (record {
  formulas = so_far.formulas;
  exact = so_far.exact;
  serve = λ joined exact. so_far.serve joined (subst (λ left. AreExact (λ test. passes_one test (so_far.formulas ++ left)) joined) (sym next) (
    λ z is. exact.0 z is ∙ without_it (integer_test z) one (no_integer z one parts) so_far.formulas rest,
    λ c is. exact.1 c is ∙ without_it (character_test c) one (no_character c one parts) so_far.formulas rest,
    λ name is. exact.2 name is ∙ without_it (atom_test name) one (no_atom name one parts) so_far.formulas rest,
  ));
})
