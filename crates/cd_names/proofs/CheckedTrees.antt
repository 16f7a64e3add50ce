-- What is reported of the trees in a list, one after the other.
use Rattle.std.proofs.Common.{◌≡◌, ◌∙◌, ap, sym, refl, subst, arith, ℕ, zero, suc, ◌+◌, ◌<◌, ◌≤◌}
use Rattle.std.proofs.Common.{◌⊎◌, inl, inr}
use Rattle.std.proofs.Common.{List, [], ◌∷◌, ◌++◌, length, take, get_or, Bor, Result}
use Rattle.std.proofs.lemmas.List.{take_more}
use Rattle.cd_syntax.specs.PlainTree.{plain}
use Rattle.cd_syntax.specs.TypeTree.{Tree, Declarations}
use Rattle.cd_syntax.specs.WellMadePattern.{IsWellMadePattern}
use Rattle.cd_syntax.specs.declared.type_tree.Tree.{Tree as CodeTree}
use Rattle.cd_model.specs.AllOf.{AllOf, AnyOf}
use Rattle.cd_resolve.specs.Faults.{IsFaultOfType}
use Rattle.cd_resolve.specs.declared.error.NameError.{NameError}
use Rattle.cd_names.specs.Inner.Faults.{IsFaultOfOne, Reports}
use Rattle.cd_resolve.specs.Least.{first_of}
use Rattle.cd_names.specs.Inner.PlainFound.{plain_trees}
use Rattle.cd_names.proofs.FirstReported.{both_reported, reports_same}

pub tree_made : (trees : List (Bor CodeTree)) (index : ℕ) (item : Bor CodeTree)
    → item ≡ get_or trees index item
    → index < length trees → AllOf IsWellMadePattern (plain_trees trees)
    → IsWellMadePattern (plain item.now)
tree_made [] index item is within made = absurd (omega arith)
tree_made (first ∷ rest) zero item is within made =
    subst (λ one. IsWellMadePattern (plain one.now)) (sym is) made.0
tree_made (first ∷ rest) (suc index) item is within made =
    tree_made rest index item is (omega arith) made.1

-- one of them, or the last
one_or_last : {X : Type 0} (fact : X → Type 0) (all : List X) (last : X)
    → (AnyOf fact all ⊎ fact last) → AnyOf fact (all ++ last ∷ [])
one_or_last fact [] last (inl is) = elim is [ ]
one_or_last fact [] last (inr is) = inl is
one_or_last fact (one ∷ all) last (inl (inl is)) = inl is
one_or_last fact (one ∷ all) last (inl (inr is)) = inr (one_or_last fact all last (inl is))
one_or_last fact (one ∷ all) last (inr is) = inr (one_or_last fact all last (inr is))

one_of_more : {X : Type 0} (fact : X → Type 0) (all : List X) (last : X)
    → AnyOf fact (all ++ last ∷ []) → (AnyOf fact all ⊎ fact last)
one_of_more fact [] last (inl is) = inr is
one_of_more fact [] last (inr is) = elim is [ ]
one_of_more fact (one ∷ all) last (inl is) = inl (inl is)
one_of_more fact (one ∷ all) last (inr is) = by (one_of_more fact all last is)
  where
    by : (AnyOf fact all ⊎ fact last) → (AnyOf fact (one ∷ all) ⊎ fact last)
    by (inl is) = inl (inr is)
    by (inr is) = inr is

plain_last : (trees : List (Bor CodeTree)) (last : Bor CodeTree)
    → plain_trees (trees ++ last ∷ []) ≡ plain_trees trees ++ plain last.now ∷ []
plain_last [] last = refl
plain_last (one ∷ trees) last = ap (λ rest. plain one.now ∷ rest) (plain_last trees last)

pub one_more : (types : Declarations) (trees : List (Bor CodeTree)) (index : ℕ)
    (item : Bor CodeTree)
    → item ≡ get_or trees index item → index < length trees
    → (one other : Result (Unit {0}) NameError)
    → Reports (IsFaultOfOne types (plain_trees (take index trees))) one
    → Reports (IsFaultOfType types (plain item.now)) other
    → Reports (IsFaultOfOne types (plain_trees (take (index + 1) trees))) (first_of one other)
one_more types trees index item is within one other reported reported_too =
    subst (λ all. Reports (IsFaultOfOne types all) (first_of one other)) (sym all)
    (reports_same _ (IsFaultOfOne types (before ++ plain item.now ∷ []))
    (λ f. (
      one_or_last (λ t. IsFaultOfType types t f) before (plain item.now),
      one_of_more (λ t. IsFaultOfType types t f) before (plain item.now),
    ))
    (first_of one other)
    (both_reported (IsFaultOfOne types before) (IsFaultOfType types (plain item.now)) one other reported
    reported_too))
  where
    before : List Tree
    before = plain_trees (take index trees)

    all : plain_trees (take (index + 1) trees) ≡ before ++ plain item.now ∷ []
    all = ap plain_trees (take_more trees index item within
        ∙ ap (λ last. take index trees ++ last ∷ []) (sym is)) ∙ plain_last (take index trees) item

all_taken : {X : Type 0} (all : List X) (count : ℕ) → length all ≤ count → take count all ≡ all
all_taken [] zero end = refl
all_taken [] (suc count) end = refl
all_taken (one ∷ all) zero end = absurd (omega arith)
all_taken (one ∷ all) (suc count) end = ap (λ rest. one ∷ rest) (all_taken all count (omega arith))

pub all_checked : (types : Declarations) (trees : List (Bor CodeTree)) (index : ℕ)
    → length trees ≤ index
    → (reported : Result (Unit {0}) NameError)
    → Reports (IsFaultOfOne types (plain_trees (take index trees))) reported
    → Reports (IsFaultOfOne types (plain_trees trees)) reported
all_checked types trees index end reported reports =
    subst (λ all. Reports (IsFaultOfOne types (plain_trees all)) reported) (all_taken trees index end)
    reports
