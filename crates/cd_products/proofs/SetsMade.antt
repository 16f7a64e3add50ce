-- The union of those of three sets that are not empty holds what is in one of the sets.
use Rattle.std.proofs.Common.{◌≡◌, inl, inr, ◌++◌, Bool, true, false, ◌||◌, ◌&&◌, ℕ, List}
use Rattle.std.proofs.Common.{[], ◌∷◌, refl, sym, ap, subst, ◌∙◌}
use Rattle.std.proofs.lemmas.Bool.{and_parts, and_from}
use Rattle.std.proofs.lemmas.List.Elements.{All-head, All-tail}
use Rattle.std.specs.List.{All}
use Rattle.cd_sets.specs.Interval as integers
use Rattle.cd_sets.specs.Characters.{HoldsNoCharacter}
use Rattle.cd_sets.specs.Atoms as atoms
use Rattle.cd_syntax.specs.Name.{Name, IsLabel}
use Rattle.cd_model.specs.AllOf.{AllOf}
use Rattle.cd_model.specs.Formula as formula
use Rattle.cd_model.specs.Formula.{Formula, Formulas, formulas_of, IsFormula, AreFormulas}
use Rattle.cd_rules.specs.BasicSets.{passes, one_passes, integer_test, character_test, atom_test}
use Rattle.cd_normal.specs.declared.basic_sets.Basics.{Basics}
use Rattle.cd_products.specs.Inner.Basic.{is_basic, all_are_basic}
use Rattle.cd_products.specs.Inner.Sets.{IsOfSets, Adds}

or_false : (a : Bool) → (a || false) ≡ a
or_false true = refl
or_false false = refl

or_assoc : (a b c : Bool) → ((a || b) || c) ≡ (a || (b || c))
or_assoc true b c = refl
or_assoc false b c = refl

-- one more at the end
passes_end : (test : Formula → Bool) (old : List Formula) (f : Formula)
    → one_passes test (formulas_of (old ++ f ∷ []))
    ≡ (one_passes test (formulas_of old) || passes test f)
passes_end test [] f = or_false (passes test f)
passes_end test (first ∷ old) f = ap (passes test first ||◌) (passes_end test old f)
    ∙ sym (or_assoc (passes test first) (one_passes test (formulas_of old)) (passes test f))

basic_end : (old : List Formula) (f : Formula) → all_are_basic (formulas_of old) ≡ true
    → is_basic f ≡ true → all_are_basic (formulas_of (old ++ f ∷ [])) ≡ true
basic_end [] f basic last = ap (◌&& true) last
basic_end (first ∷ old) f basic last =
    let parts = and_parts (is_basic first) (all_are_basic (formulas_of old)) basic in
    and_from (is_basic first) (all_are_basic (formulas_of (old ++ f ∷ []))) parts.0
    (basic_end old f parts.1 last)

sound_end : (count : ℕ) (old : List Formula) (f : Formula) → AreFormulas count (formulas_of old)
    → IsFormula count f → AreFormulas count (formulas_of (old ++ f ∷ []))
sound_end count [] f sound last = (last, tt)
sound_end count (first ∷ old) f sound last = (sound.0, sound_end count old f sound.1 last)

-- the name of an atom is a label
label : (name : Name) → atoms.IsAtom name → IsLabel name
label [] is = is
label (c ∷ cs) is = is

each_label : (names : List Name) → All atoms.IsAtom names → AllOf IsLabel names
each_label [] all = tt
each_label (name ∷ names) all = (
  label name (All-head atoms.IsAtom name names all),
  each_label names (All-tail atoms.IsAtom name names all),
)

-- what passes, where a set comes after others
module _ (f : Formula) (Nothing : Type 0) (old new : List Formula) (adds : Adds f Nothing old new)
  where
    passes_added : (test : Formula → Bool) → (Nothing → passes test f ≡ false)
        → one_passes test (formulas_of new) ≡ (one_passes test (formulas_of old) || passes test f)
    passes_added test fails = elim adds [
      | inl more ↦ ap (λ all. one_passes test (formulas_of all)) more ∙ passes_end test old f
      | inr none ↦ ap (λ all. one_passes test (formulas_of all)) none.0
          ∙ sym (or_false (one_passes test (formulas_of old)))
          ∙ ap (one_passes test (formulas_of old) ||◌) (sym (fails none.1))
    ]

    basic_added : all_are_basic (formulas_of old) ≡ true → is_basic f ≡ true
        → all_are_basic (formulas_of new) ≡ true
    basic_added basic last = elim adds [
      | inl more ↦ ap (λ all. all_are_basic (formulas_of all)) more ∙ basic_end old f basic last
      | inr none ↦ ap (λ all. all_are_basic (formulas_of all)) none.0 ∙ basic
    ]

    sound_added : (count : ℕ) → AreFormulas count (formulas_of old) → IsFormula count f
        → AreFormulas count (formulas_of new)
    sound_added count sound last = elim adds [
      | inl more ↦ subst (λ all. AreFormulas count (formulas_of all)) (sym more)
          (sound_end count old f sound last)
      | inr none ↦ subst (λ all. AreFormulas count (formulas_of all)) (sym none.0) sound
    ]

module _ (sets : Basics) (labels : All atoms.IsAtom sets.atoms.names)
    (first second third : List Formula)
    (one : Adds (formula.Ints sets.integers) (integers.HoldsNothing sets.integers) [] first)
    (two : Adds (formula.Chars sets.characters) (HoldsNoCharacter sets.characters) first second)
    (three : Adds (formula.Atoms sets.atoms) (atoms.HoldsNoAtom sets.atoms) second third) where
  -- what passes one of the three
  all_pass : (test : Formula → Bool)
      → (integers.HoldsNothing sets.integers → test (formula.Ints sets.integers) ≡ false)
      → (HoldsNoCharacter sets.characters → test (formula.Chars sets.characters) ≡ false)
      → (atoms.HoldsNoAtom sets.atoms → test (formula.Atoms sets.atoms) ≡ false)
      → one_passes test (formulas_of third) ≡ ((test (formula.Ints sets.integers)
      || test (formula.Chars sets.characters)) || test (formula.Atoms sets.atoms))
  all_pass test a b c =
      passes_added (formula.Atoms sets.atoms) (atoms.HoldsNoAtom sets.atoms) second third three test c
      ∙ ap (λ (x : Bool). x || test (formula.Atoms sets.atoms))
      (passes_added (formula.Chars sets.characters) (HoldsNoCharacter sets.characters) first second
      two test b
      ∙ ap (λ (x : Bool). x || test (formula.Chars sets.characters))
      (passes_added (formula.Ints sets.integers) (integers.HoldsNothing sets.integers) [] first one
      test a))

  pub is_of_sets : IsOfSets sets (formula.Or (formulas_of third))
  is_of_sets = record {
    integers_are = λ z.
        all_pass (integer_test z) (λ none. none z) (λ none. refl) (λ none. refl)
        ∙ or_false (integers.holds sets.integers z || false)
        ∙ or_false (integers.holds sets.integers z);
    characters_are = λ c within.
        all_pass (character_test c) (λ none. refl) (λ none. none c within) (λ none. refl)
        ∙ or_false (character_test c (formula.Chars sets.characters));
    atoms_are = λ name is.
        all_pass (atom_test name) (λ none. refl) (λ none. refl) (λ none. none name is);
    basic = basic_added (formula.Atoms sets.atoms) (atoms.HoldsNoAtom sets.atoms) second third
        three (basic_added (formula.Chars sets.characters) (HoldsNoCharacter sets.characters) first
        second two (basic_added (formula.Ints sets.integers) (integers.HoldsNothing sets.integers)
        [] first one refl refl) refl) refl;
    sound = λ count. sound_added (formula.Atoms sets.atoms) (atoms.HoldsNoAtom sets.atoms) second
        third three count (sound_added (formula.Chars sets.characters)
        (HoldsNoCharacter sets.characters) first second two count
        (sound_added (formula.Ints sets.integers) (integers.HoldsNothing sets.integers) [] first one
        count tt tt) tt) (each_label sets.atoms.names labels);
  }
