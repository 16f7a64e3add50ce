-- Places that stand once in a list: each is at or above one place, and below another one.
use Rattle.std.proofs.Common.{arith, subst, sym, ap, ◌≡◌, ◌≢◌, refl, ◌∙◌, ℕ, zero, suc, ◌+◌, ◌<◌, ◌≤◌, Bool, true}
use Rattle.std.proofs.Common.{false, List, [], ◌∷◌, ◌++◌, append-nil, map}
use Rattle.std.proofs.lemmas.Bool.{eq-eqb, eqb-true}
use Rattle.std.proofs.lemmas.List.{map-append}
use Rattle.std.proofs.lemmas.List.Concat.{flat_map-append}
use Rattle.std.proofs.Math.Dec.{eqb}
use Rattle.std.specs.Prelude.{flat_map}
use Rattle.cd_model.specs.AllOf.{AllOf}

-- how often a place stands in a list
one_if : Bool → ℕ
one_if true = 1
one_if false = 0

pub times : (p : ℕ) → List ℕ → ℕ
times p [] = 0
times p (x ∷ rest) = one_if (eqb x p) + times p rest

at_most_one : (is : Bool) → one_if is ≤ 1
unfolding one_if
at_most_one true = omega arith
at_most_one false = omega arith

one_is : (is : Bool) → 1 ≤ one_if is → is ≡ true
unfolding one_if
one_is true some = refl
one_is false some = absurd (omega (arith, some))

pub times_none : (p : ℕ) → times p [] ≡ 0
unfolding times
times_none p = refl

times_next : (p x : ℕ) (rest : List ℕ) → times p (x ∷ rest) ≡ one_if (eqb x p) + times p rest
unfolding one_if times
times_next p x rest = refl

pub times_both : (p : ℕ) (xs ys : List ℕ) → times p (xs ++ ys) ≡ times p xs + times p ys
times_both p [] ys = let none = times_none p in omega (arith, none)
times_both p (x ∷ rest) ys =
    let more = times_both p rest ys in
    let first = times_next p x (rest ++ ys) in
    let alone = times_next p x rest in
    omega (arith, more, first, alone)

itself_once : (p : ℕ) (is : Bool) → is ≡ true → one_if is ≡ 1
unfolding one_if
itself_once p true same = refl
itself_once p false same = absurd (wrong same)
  where
    wrong : false ≡ true → ⊥
    wrong = λ equal. cc

-- the places stand once, and between these two
pub record Stands (from : ℕ) (xs : List ℕ) (to : ℕ) : Type 0 where
  pub order : from ≤ to
  pub once : (p : ℕ) → times p xs ≤ 1
  pub within : (p : ℕ) → 1 ≤ times p xs → (from ≤ p) × (p < to)

pub ordered : (from to : ℕ) (xs : List ℕ) → Stands from xs to → from ≤ to
ordered from to xs stand = stand.order

pub longer : (from to after : ℕ) (xs : List ℕ) → to ≤ after → Stands from xs to → Stands from xs after
longer from to after xs less stand = record {
  order = let order = stand.order in omega (arith, less, order);
  once = stand.once;
  within = λ p some.
      let within = stand.within p some in
      let high = within.1 in
      (within.0, omega (arith, high, less));
}

pub no_places : (from to : ℕ) → from ≤ to → Stands from [] to
no_places from to less = record {
  order = less;
  once = λ p. let none = times_none p in omega (arith, none);
  within = λ p some. let none = times_none p in absurd (omega (arith, none, some));
}

pub one_place : (from x to : ℕ) → from ≤ x → x < to → Stands from (x ∷ []) to
one_place from x to low high = record {
  order = omega (arith, low, high);
  once = λ p.
      let next = times_next p x [] in
      let none = times_none p in
      let most = at_most_one (eqb x p) in
      omega (arith, next, none, most);
  within = λ p some.
      let next = times_next p x [] in
      let none = times_none p in
      let more : 1 ≤ one_if (eqb x p) = omega (arith, next, none, some) in
      let same = eqb-true x p (one_is (eqb x p) more) in
      (omega (arith, same, low), omega (arith, same, high));
}

-- one after the other
pub joined : (from middle to : ℕ) (xs ys : List ℕ) → Stands from xs middle → Stands middle ys to
    → Stands from (xs ++ ys) to
joined from middle to xs ys first second = record {
  order = let before = first.order in let after = second.order in omega (arith, before, after);
  once = λ p. let both = times_both p xs ys in let less = (all p).0 in omega (arith, both, less);
  within = λ p some. let both = times_both p xs ys in (all p).1 (omega (arith, both, some));
}
  where
    sum : (p n m : ℕ) → n ≤ 1 → m ≤ 1 → (1 ≤ n → (from ≤ p) × (p < middle)) → (1 ≤ m → (middle ≤ p) × (p < to))
        → (n + m ≤ 1) × (1 ≤ n + m → (from ≤ p) × (p < to))
    sum p zero m n_less m_less low high = (
      omega (arith, m_less),
      λ some.
          let is = high (omega (arith, some)) in
          let one = is.0 in
          let order = first.order in
          (omega (arith, one, order), is.1),
    )
    sum p (suc n) zero n_less m_less low high = (
      omega (arith, n_less),
      λ some.
          let is = low (omega arith) in
          let other = is.1 in
          let order = second.order in
          (is.0, omega (arith, other, order)),
    )
    sum p (suc n) (suc m) n_less m_less low high =
        let one = (low (omega arith)).1 in
        let other = (high (omega arith)).0 in
        absurd (omega (arith, one, other))

    all : (p : ℕ) → (times p xs + times p ys ≤ 1) × (1 ≤ times p xs + times p ys → (from ≤ p) × (p < to))
    all p = sum p (times p xs) (times p ys) (first.once p) (second.once p) (first.within p) (second.within p)

-- each place stands in the one list at most as often as in the other
pub record Follows (xs ys : List ℕ) : Type 0 where
  pub counts : (p : ℕ) → times p xs ≤ times p ys

pub carried : (xs ys : List ℕ) → Follows xs ys → (from to : ℕ) → Stands from ys to → Stands from xs to
carried xs ys follows from to stand = record {
  order = stand.order;
  once = λ p. let less = follows.counts p in let most = stand.once p in omega (arith, less, most);
  within = λ p some. let less = follows.counts p in stand.within p (omega (arith, less, some));
}

pub itself : (xs : List ℕ) → Follows xs xs
itself xs = record { counts = λ p. omega arith }

pub through : (xs ys zs : List ℕ) → Follows xs ys → Follows ys zs → Follows xs zs
through xs ys zs first second = record {
  counts = λ p. let one = first.counts p in let other = second.counts p in omega (arith, one, other);
}

pub same_places : (xs ys : List ℕ) → xs ≡ ys → Follows xs ys
same_places xs ys same = subst (λ all. Follows xs all) same (itself xs)

pub none : (ys : List ℕ) → Follows [] ys
none ys = record { counts = λ p. let empty = times_none p in omega (arith, empty) }

pub both : (xs ys us vs : List ℕ) → Follows xs us → Follows ys vs → Follows (xs ++ ys) (us ++ vs)
both xs ys us vs first second = record {
  counts = λ p.
      let one = first.counts p in
      let other = second.counts p in
      let left = times_both p xs ys in
      let right = times_both p us vs in
      omega (arith, one, other, left, right);
}

-- the others have more before these, or after these
pub later : (us xs ys : List ℕ) → Follows xs ys → Follows xs (us ++ ys)
later us xs ys follows = both [] xs us ys (none us) follows

pub first : (xs ys : List ℕ) → Follows xs (xs ++ ys)
first xs ys = subst (λ all. Follows all (xs ++ ys)) (append-nil xs) (both xs [] xs ys (itself xs) (none ys))

-- the same one before both
pub next : (x : ℕ) (xs ys : List ℕ) → Follows xs ys → Follows (x ∷ xs) (x ∷ ys)
next x xs ys follows = both (x ∷ []) xs (x ∷ []) ys (itself (x ∷ [])) follows

-- places of the things in a list
module _ {A : Type 0} (at : A → List ℕ) where
  pub of_two_lists : (all more : List A) → Follows (flat_map at (all ++ more)) (flat_map at all ++ flat_map at more)
  of_two_lists all more = same_places _ _ (flat_map-append at all more)

  pub of_one : (a : A) → Follows (flat_map at (a ∷ [])) (at a)
  of_one a = same_places _ _ (append-nil (at a))

  pub of_one_more : (all : List A) (a : A) → Follows (flat_map at (all ++ a ∷ [])) (flat_map at all ++ at a)
  of_one_more all a =
      through _ _ _ (of_two_lists all (a ∷ []))
      (both (flat_map at all) (flat_map at (a ∷ [])) (flat_map at all) (at a) (itself (flat_map at all)) (of_one a))

-- things whose places stand once stand at different places
module _ {X : Type 0} (at : X → ℕ) where
  pub times_of_both : (p : ℕ) (xs ys : List X)
      → times p (map at (xs ++ ys)) ≡ times p (map at xs) + times p (map at ys)
  times_of_both p xs ys = ap (times p) (map-append at xs ys) ∙ times_both p (map at xs) (map at ys)

  absent : (q : ℕ) (xs : List X) → times q (map at xs) ≡ 0 → AllOf (λ other. q ≢ at other) xs
  absent q [] gone = tt
  absent q (y ∷ rest) gone =
      let next = times_next q (at y) (map at rest) in (
        λ same. let one = itself_once q (eqb (at y) q) (eq-eqb (at y) q (sym same)) in omega (arith, next, gone, one),
        absent q rest (omega (arith, next, gone)),
      )

  -- the first is none of the others
  pub none_of : (x : X) (rest : List X) → ((p : ℕ) → times p (map at (x ∷ rest)) ≤ 1)
      → AllOf (λ other. at x ≢ at other) rest
  none_of x rest once =
      let most = once (at x) in
      let next = times_next (at x) (at x) (map at rest) in
      let one = itself_once (at x) (eqb (at x) (at x)) (eq-eqb (at x) (at x) refl) in
      absent (at x) rest (omega (arith, most, next, one))

  pub others_once : (x : X) (rest : List X) → ((p : ℕ) → times p (map at (x ∷ rest)) ≤ 1) → (p : ℕ)
      → times p (map at rest) ≤ 1
  others_once x rest once p =
      let most = once p in let next = times_next p (at x) (map at rest) in omega (arith, most, next)
