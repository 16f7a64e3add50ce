-- A chain of pieces is a piece: one of Both, where each of them binds apart from those after it, and
-- one of First, where all of them bind the same.
use Rattle.std.proofs.Common.{◌≡◌, ℕ, Bool, true, false, ◌||◌, List, [], ◌∷◌, ◌++◌, refl, sym, ap}
use Rattle.std.proofs.Common.{inl, inr, subst, ◌∙◌}
use Rattle.std.proofs.lemmas.Bool.{true≢false, or_parts, or_cases}
use Rattle.cd_syntax.specs.Name.{Name}
use Rattle.cd_model.specs.AllOf.{AllOf}
use Rattle.cd_model.proofs.Covered.{each_parts}
use Rattle.cd_matching.specs.Kernel.{KernelNode, Both, First}
use Rattle.cd_matching.specs.Naming.{AreDisjointNames}
use Rattle.cd_kernel.specs.Chains.{IsChain, one_node, two_chains}
use Rattle.cd_kernel.specs.Copies.{Types}
use Rattle.cd_kernel.proofs.Pieces.{any_of, Piece, both_of, first_of, Good}
use Rattle.cd_kernel.proofs.PlainVariables.{Names, either, none}

or_again : (a b c : Bool) → (a || (b || c)) ≡ ((a || b) || c)
or_again true b c = refl
or_again false b c = refl

or_none : (a : Bool) → a ≡ (a || false)
or_none true = refl
or_none false = refl

module _ {T : Type 0} (IsType : T → Type 0) (types : Types T) (variables : List Name)
    (nodes : List (KernelNode T)) where
  -- a piece whose node is good
  abbrev pub GoodPiece : Names → ℕ → Type 0
  GoodPiece bound number =
      Piece IsType types variables nodes bound number × Good IsType types variables nodes bound number

  -- pieces in turn that bind these
  abbrev pub BindInTurn : List Names → List ℕ → Type 0
  BindInTurn [] [] = Unit {0}
  BindInTurn [] (number ∷ numbers) = ⊥
  BindInTurn (bound ∷ more) [] = ⊥
  BindInTurn (bound ∷ more) (number ∷ numbers) = GoodPiece bound number
      × AreDisjointNames bound (any_of more) × BindInTurn more numbers

  -- some of them, and those after these
  record Parted (bounds : List Names) (front back : List ℕ) : Type 0 where
    before : List Names
    after : List Names
    same : (name : Name) → any_of bounds name ≡ (any_of before name || any_of after name)
    one : BindInTurn before front
    other : BindInTurn after back
    apart : AreDisjointNames (any_of before) (any_of after)

  parted : (front back : List ℕ) (bounds : List Names) → BindInTurn bounds (front ++ back)
      → Parted bounds front back
  parted [] back bounds are = record {
    before = [];
    after = bounds;
    same = λ name. refl;
    one = tt;
    other = are;
    apart = λ name h. absurd (true≢false (sym h));
  }
  parted (number ∷ front) back [] are = absurd are
  parted (number ∷ front) back (bound ∷ more) are =
      by_rest (parted front back more are.2)
    where
      by_rest : Parted more front back → Parted (bound ∷ more) (number ∷ front) back
      by_rest rest = record {
        before = bound ∷ rest.before;
        after = rest.after;
        same = λ name. ap (bound name ||◌) (rest.same name)
            ∙ or_again (bound name) (any_of rest.before name) (any_of rest.after name);
        one = (are.0, λ name h. (others name h).0, rest.one);
        other = rest.other;
        apart = λ name h. elim (or_cases (bound name) (any_of rest.before name) h) [
          | inl here ↦ (others name here).1
          | inr later ↦ rest.apart name later
        ];
      }
        where
          others : (name : Name) → bound name ≡ true
              → (any_of rest.before name ≡ false) × (any_of rest.after name ≡ false)
          others name h = or_parts (any_of rest.before name) (any_of rest.after name)
              (sym (rest.same name) ∙ are.1 name h)

  alone : (bound : Names) → bound ≡ either bound none
  alone bound = λ i name. or_none (bound name) i

  both_piece : (numbers : List ℕ) (number : ℕ) → IsChain nodes Both numbers number
      → (bounds : List Names) → BindInTurn bounds numbers
      → Piece IsType types variables nodes (any_of bounds) number
  both_piece _ _ (one_node number) [] are = absurd are
  both_piece _ _ (one_node number) (bound ∷ []) are =
      subst (λ (b : Names). Piece IsType types variables nodes b number) (alone bound) are.0.0
  both_piece _ _ (one_node number) (bound ∷ next ∷ more) are = absurd are.2
  both_piece _ _ (two_chains front back first second number there one other) bounds are =
      let parts = parted front back bounds are in
      subst (λ (b : Names). Piece IsType types variables nodes b number)
      (λ i name. sym (parts.same name) i)
      (both_of (any_of parts.before) (any_of parts.after) first second number there
      (both_piece front first one parts.before parts.one)
      (both_piece back second other parts.after parts.other) parts.apart)

  pub both_good : (numbers : List ℕ) (number : ℕ) → IsChain nodes Both numbers number
      → (bounds : List Names) → BindInTurn bounds numbers
      → Good IsType types variables nodes (any_of bounds) number
  both_good _ _ (one_node number) [] are = absurd are
  both_good _ _ (one_node number) (bound ∷ []) are =
      subst (λ (b : Names). Good IsType types variables nodes b number) (alone bound) are.0.1
  both_good _ _ (one_node number) (bound ∷ next ∷ more) are = absurd are.2
  both_good _ _ (two_chains front back first second number there one other) bounds are =
      let parts = parted front back bounds are in (
        Both first second,
        there,
        tt,
        (
          any_of parts.before,
          any_of parts.after,
          both_piece front first one parts.before parts.one,
          both_piece back second other parts.after parts.other,
          parts.apart,
          λ name h. parts.same name ∙ h,
        ),
      )

  module _ (bound : Names) where
    first_piece : (numbers : List ℕ) (number : ℕ) → IsChain nodes First numbers number
        → AllOf (GoodPiece bound) numbers → Piece IsType types variables nodes bound number
    first_piece _ _ (one_node number) are = are.0.0
    first_piece _ _ (two_chains front back first second number there one other) are =
        let parts = each_parts (GoodPiece bound) front back are in
        first_of bound first second number there (first_piece front first one parts.0)
        (first_piece back second other parts.1)

    pub first_good : (numbers : List ℕ) (number : ℕ) → IsChain nodes First numbers number
        → AllOf (GoodPiece bound) numbers → Good IsType types variables nodes bound number
    first_good _ _ (one_node number) are = are.0.1
    first_good _ _ (two_chains front back first second number there one other) are =
        let parts = each_parts (GoodPiece bound) front back are in (
          First first second,
          there,
          tt,
          (
            bound,
            bound,
            first_piece front first one parts.0,
            first_piece back second other parts.1,
            (λ name. refl),
            λ name h. h,
          ),
        )
