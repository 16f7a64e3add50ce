-- Facts of what is left of a list, one thing on.
use Rattle.std.proofs.Common.{◌≡◌, ◌∙◌, ◌<◌, ◌+◌, ℕ, List, [], ◌∷◌, ◌++◌, ap, sym, subst, map, length, drop, get_or, append_assoc, zero, suc, arith}
use Rattle.std.proofs.lemmas.List.{map-append, drop_more}
use Rattle.cd_model.specs.AllOf.{AllOf}
use Rattle.cd_resolve.proofs.Views.{at_item}
use Rattle.cd_model.proofs.Ones.{each_of_lists}

-- the next thing has it, and those after it
pub one_left : {X : Type 0} (fact : X → Type 0) (all : List X) (index : ℕ) (one : X) → one ≡ get_or all index one → index < length all
    → AllOf fact (drop index all) → fact one × AllOf fact (drop (index + 1) all)
one_left {X} fact all index one is more left =
    subst (λ (rest : List X). AllOf fact rest) (at_item (λ (rest : List X). rest) all index one is more) left

-- so of what a function gives
pub one_left_of : {X Y : Type 0} (f : X → Y) (fact : Y → Type 0) (all : List X) (index : ℕ) (one : X) → one ≡ get_or all index one
    → index < length all → AllOf fact (map f (drop index all)) → fact (f one) × AllOf fact (map f (drop (index + 1) all))
one_left_of {X} {Y} f fact all index one is more left =
    subst (λ (rest : List Y). AllOf fact rest) (at_item (λ (rest : List X). map f rest) all index one is more) left

-- where the next thing has it, all have it if those after it do
pub one_shown : {X : Type 0} (fact : X → Type 0) (all : List X) (index : ℕ) (one : X) → one ≡ get_or all index one → index < length all
    → fact one → (AllOf fact (drop index all) → AllOf fact all) → AllOf fact (drop (index + 1) all) → AllOf fact all
one_shown {X} fact all index one is more here on further =
    on (subst (λ (rest : List X). AllOf fact rest) (sym (at_item (λ (rest : List X). rest) all index one is more)) (here, further))

-- the same of the thing that stands at the place
pub left_after : {X : Type 0} (fact : X → Type 0) (all : List X) (index : ℕ) (default : X) → index < length all
    → AllOf fact (drop index all) → AllOf fact (drop (index + 1) all)
left_after {X} fact all index default more left =
    (subst (λ (rest : List X). AllOf fact rest) (drop_more all index default more) left).1

pub shown_after : {X : Type 0} (fact : X → Type 0) (all : List X) (index : ℕ) (default : X) → index < length all
    → fact (get_or all index default) → (AllOf fact (drop index all) → AllOf fact all) → AllOf fact (drop (index + 1) all) → AllOf fact all
shown_after {X} fact all index default more here on further =
    on (subst (λ (rest : List X). AllOf fact rest) (sym (drop_more all index default more)) (here, further))

-- one more thing at the end
pub one_more : {X : Type 0} (fact : X → Type 0) (done now : List X) (one : X) → now ≡ done ++ one ∷ [] → AllOf fact done → fact one
    → AllOf fact now
one_more {X} fact done now one are all here =
    subst (λ (items : List X). AllOf fact items) (sym are) (each_of_lists fact done (one ∷ []) all (here, tt))

-- what was made so far, and what the rest makes, is the whole
pub joined_on : {X Z : Type 0} (f : X → Z) (done now : List X) (one : X) → now ≡ done ++ one ∷ [] → (first : Z) (left rest : List Z)
    → left ≡ first ∷ rest → f one ≡ first → (whole : List Z) → map f done ++ left ≡ whole → map f now ++ rest ≡ whole
joined_on {X} {Z} f done now one are first left rest next same whole so_far =
    ap (λ (items : List X). map f items ++ rest) are
    ∙ ap (λ (start : List Z). start ++ rest) (map-append f done (one ∷ []))
    ∙ append_assoc (map f done) (f one ∷ []) rest
    ∙ ap (λ (z : Z). map f done ++ (z ∷ rest)) same
    ∙ ap (λ (more : List Z). map f done ++ more) (sym next)
    ∙ so_far

-- a fact of all is one of each
pub one_at : {X : Type 0} (fact : X → Type 0) (all : List X) (index : ℕ) (one : X) → one ≡ get_or all index one → index < length all
    → AllOf fact all → fact one
one_at fact [] index one is more are = absurd (omega arith)
one_at fact (first ∷ rest) zero one is more are = subst fact (sym is) are.0
one_at fact (first ∷ rest) (suc index) one is more are = one_at fact rest index one is (omega arith) are.1
