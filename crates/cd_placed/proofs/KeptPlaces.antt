-- What is made of parts holds no place more often than they do; or it begins where the first of them does.
use Rattle.std.proofs.Common.{arith, sym, ℕ, ◌<◌, ◌≤◌, List, [], ◌∷◌, ◌++◌, Option, Some, None}
use Rattle.std.proofs.Common.{append-nil, append_assoc}
use Rattle.std.specs.Prelude.{flat_map}
use Rattle.cd_program.specs.Expr.{Expr, Tail, FunctionTree}
use Rattle.cd_syntax.specs.declared.tokens.Span.{Span}
use Rattle.cd_grammar.specs.Parts.{Part, of_one, of_two, of_three, of_four}
use Rattle.cd_grammar.specs.Actions.{between}
use Rattle.cd_placed.proofs.Once.{Stands, no_places, one_place, carried, Follows, itself, through, same_places, none}
use Rattle.cd_placed.proofs.Once.{both, later, of_one_more}
use Rattle.cd_placed.proofs.HeldPlaces.{of_tail, in_chain, held, IsRead, missing, found}

-- these places stand once between any two places between which the others do, and this one is
pub record Keeps (here : ℕ) (given made : List ℕ) : Type 0 where
  pub stand : (from to : ℕ) → from ≤ here → here < to → Stands from given to → Stands from made to

pub follows : (here : ℕ) (given made : List ℕ) → Follows made given → Keeps here given made
follows here given made is = record { stand = λ from to low high stand. carried made given is from to stand }

-- and whatever the others are
pub record IsPlain (here : ℕ) (made : List ℕ) : Type 0 where
  pub stand : (from to : ℕ) → from ≤ here → here < to → Stands from made to

pub plain : (here : ℕ) (given made : List ℕ) → IsPlain here made → Keeps here given made
plain here given made is = record { stand = λ from to low high stand. is.stand from to low high }

pub no_place : (here : ℕ) → IsPlain here []
no_place here = record { stand = λ from to low high. no_places from to (omega (arith, low, high)) }

pub start : (here : ℕ) → IsPlain here (here ∷ [])
start here = record { stand = λ from to low high. one_place from here to low high }

pub of_none : (here : ℕ) (made : List ℕ) → Follows made [] → IsPlain here made
of_none here made is = record {
  stand = λ from to low high. carried made [] is from to (no_places from to (omega (arith, low, high)));
}

-- a list that ends with none, and more before both
pub ended : (xs : List ℕ) → Follows xs (xs ++ [])
ended xs = same_places xs (xs ++ []) (sym (append-nil xs))

pub closed : (xs : List ℕ) → Follows (xs ++ []) xs
closed xs = same_places (xs ++ []) xs (append-nil xs)

pub behind : (us xs ys : List ℕ) → Follows xs ys → Follows (us ++ xs) (us ++ ys)
behind us xs ys is = both us xs us ys (itself us) is

-- characters from one to another, where each is one
pub between_plain : (E : Expr → List ℕ) (F : FunctionTree → List ℕ) (here : Span) (low high : List ℕ)
    → IsPlain here.from (held E F (between here low high))
between_plain E F here (low ∷ []) (high ∷ []) = start here.from
between_plain E F here _ _ = no_place here.from

-- one more operator
pub more_in_chain : (E : Expr → List ℕ) (F : FunctionTree → List ℕ) (first : Expr) (all : List Tail) (last : Tail)
    → Follows (in_chain E F (first, all ++ last ∷ [])) (in_chain E F (first, all) ++ of_tail E last)
more_in_chain E F first all last =
    through _ _ _ (behind (E first) _ _ (of_one_more (of_tail E) all last))
    (same_places _ _ (sym (append_assoc (E first) (flat_map (of_tail E) all) (of_tail E last))))

module _ (E : Expr → List ℕ) (F : FunctionTree → List ℕ) (here : ℕ) where
  abbrev H : Part → List ℕ
  H = held E F

  -- what is made of a part of a form, or nothing of use
  pub plain_one : {A : Type 0} (a : Option A) (make : A → Part) → ((one : A) → IsPlain here (H (make one)))
      → IsPlain here (H (of_one a make))
  plain_one None make is = no_place here
  plain_one (Some one) make is = is one

  pub plain_two : {A B : Type 0} (a : Option A) (b : Option B) (make : A → B → Part)
      → ((one : A) (two : B) → IsPlain here (H (make one two))) → IsPlain here (H (of_two a b make))
  plain_two None b make is = no_place here
  plain_two (Some one) None make is = no_place here
  plain_two (Some one) (Some two) make is = is one two

  pub plain_three : {A B C : Type 0} (a : Option A) (b : Option B) (c : Option C) (make : A → B → C → Part)
      → ((one : A) (two : B) (three : C) → IsPlain here (H (make one two three)))
      → IsPlain here (H (of_three a b c make))
  plain_three None b c make is = no_place here
  plain_three (Some one) None c make is = no_place here
  plain_three (Some one) (Some two) None make is = no_place here
  plain_three (Some one) (Some two) (Some three) make is = is one two three

-- what is made of things that are read has no other places than they do
module _ (E : Expr → List ℕ) (F : FunctionTree → List ℕ) where
  abbrev G : Part → List ℕ
  G = held E F

  module _ {A : Type 0} (at : A → List ℕ) (make : A → Part) where
    pub one_follows : ((one : A) → Follows (G (make one)) (at one)) → (a : Option A) (us : List ℕ) → IsRead at a us
        → Follows (G (of_one a make)) (us ++ [])
    one_follows follow _ us (missing _) = none (us ++ [])
    one_follows follow _ _ (found one) = through _ _ _ (follow one) (ended (at one))

  module _ {A B : Type 0} (at : A → List ℕ) (more : B → List ℕ) (make : A → B → Part) where
    pub two_follow : ((one : A) (two : B) → Follows (G (make one two)) (at one ++ more two))
        → (a : Option A) (us : List ℕ) → IsRead at a us → (b : Option B) (vs : List ℕ) → IsRead more b vs
        → Follows (G (of_two a b make)) (us ++ (vs ++ []))
    two_follow follow _ us (missing _) b vs is_b = none (us ++ (vs ++ []))
    two_follow follow _ _ (found one) _ vs (missing _) = none (at one ++ (vs ++ []))
    two_follow follow _ _ (found one) _ _ (found two) =
        through _ _ _ (follow one two) (behind (at one) (more two) (more two ++ []) (ended (more two)))

  module _ {A B C : Type 0} (at : A → List ℕ) (more : B → List ℕ) (last : C → List ℕ) (make : A → B → C → Part) where
    pub three_follow : ((one : A) (two : B) (three : C)
        → Follows (G (make one two three)) (at one ++ (more two ++ last three)))
        → (a : Option A) (us : List ℕ) → IsRead at a us → (b : Option B) (vs : List ℕ) → IsRead more b vs
        → (c : Option C) (ws : List ℕ) → IsRead last c ws
        → Follows (G (of_three a b c make)) (us ++ (vs ++ (ws ++ [])))
    three_follow follow _ us (missing _) b vs is_b c ws is_c = none (us ++ (vs ++ (ws ++ [])))
    three_follow follow _ _ (found one) _ vs (missing _) c ws is_c = none (at one ++ (vs ++ (ws ++ [])))
    three_follow follow _ _ (found one) _ _ (found two) _ ws (missing _) = none (at one ++ (more two ++ (ws ++ [])))
    three_follow follow _ _ (found one) _ _ (found two) _ _ (found three) =
        through _ _ _ (follow one two three)
        (behind (at one) (more two ++ last three) (more two ++ (last three ++ []))
        (behind (more two) (last three) (last three ++ []) (ended (last three))))

  -- the second and the third have no places of use
  module _ {A B C D : Type 0} (at : A → List ℕ) (last : D → List ℕ) (make : A → B → C → D → Part) where
    pub four_follow : ((one : A) (two : B) (three : C) (four : D)
        → Follows (G (make one two three four)) (at one ++ last four))
        → (a : Option A) (us : List ℕ) → IsRead at a us → (b : Option B) (vs : List ℕ) (c : Option C) (ws : List ℕ)
        → (d : Option D) (xs : List ℕ) → IsRead last d xs
        → Follows (G (of_four a b c d make)) (us ++ (vs ++ (ws ++ (xs ++ []))))
    four_follow follow _ us (missing _) b vs c ws d xs is_d = none (us ++ (vs ++ (ws ++ (xs ++ []))))
    four_follow follow _ _ (found one) None vs c ws d xs is_d = none (at one ++ (vs ++ (ws ++ (xs ++ []))))
    four_follow follow _ _ (found one) (Some two) vs None ws d xs is_d = none (at one ++ (vs ++ (ws ++ (xs ++ []))))
    four_follow follow _ _ (found one) (Some two) vs (Some three) ws _ xs (missing _) =
        none (at one ++ (vs ++ (ws ++ (xs ++ []))))
    four_follow follow _ _ (found one) (Some two) vs (Some three) ws _ _ (found four) =
        through _ _ _ (follow one two three four)
        (behind (at one) (last four) (vs ++ (ws ++ (last four ++ [])))
        (later vs (last four) (ws ++ (last four ++ []))
        (later ws (last four) (last four ++ []) (ended (last four)))))
