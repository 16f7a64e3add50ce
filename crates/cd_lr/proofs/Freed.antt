-- What is derived is derived of other tokens with the same terminals and values: at the same depth
-- where they are as free, and else at some depth.
use Rattle.std.proofs.Common.{◌≡◌, ◌+◌, ℕ, zero, List, [], ◌∷◌, ◌++◌, Bool, true, false, refl, sym, ap, subst, arith}
use Rattle.std.specs.Prelude.{◌≤◌}
use Rattle.cd_lr.specs.Grammar.{Symbol, Terminal, Grammar, Derives, one, made, Row, nothing, next, within, fits}
use Rattle.cd_lr.proofs.Depths.{fits_room, levels, room_within}

-- two lists of the same length, whose tokens at each place are related
pub data Pairwise {Token : Type 0} (Is : Token → Token → Type 0) : List Token → List Token → Type 0 where
  none : Pairwise Is [] []
  more : (t u : Token) (ts us : List Token) → Is t u → Pairwise Is ts us → Pairwise Is (t ∷ ts) (u ∷ us)

module _ {Token : Type 0} (Is : Token → Token → Type 0) where
  -- a list that is related to two lists, one after the other, is in two parts
  pub record Parted (first second us : List Token) : Type 0 where
    pub prefix : List Token
    pub back : List Token
    pub same : us ≡ prefix ++ back
    pub of_first : Pairwise Is first prefix
    pub of_second : Pairwise Is second back

  pub parted : (first second us : List Token) → Pairwise Is (first ++ second) us → Parted first second us
  parted [] second us related = record { prefix = []; back = us; same = refl; of_first = none; of_second = related }
  parted (t ∷ first) second _ (more _ u _ us is related) =
      let on = parted first second us related in
      record {
        prefix = u ∷ on.prefix;
        back = on.back;
        same = ap (λ all. u ∷ all) on.same;
        of_first = more t u first on.prefix is on.of_first;
        of_second = on.of_second;
      }

  -- and lists that are related are so one after the other
  pub joined : (a b first second : List Token) → Pairwise Is a b → Pairwise Is first second
      → Pairwise Is (a ++ first) (b ++ second)
  joined _ _ first second none related = related
  joined _ _ first second (more t u ts us is on) related =
      more t u (ts ++ first) (us ++ second) is (joined ts us first second on related)

module _ {Token Value : Type 0} (g : Grammar Token Value) where
  -- tokens with the same terminal and the same value
  pub record Alike (t u : Token) : Type 0 where
    pub kind : g.kind t ≡ g.kind u
    pub value : g.value t ≡ g.value u

  -- and the second one is free where the first one is
  pub record Freer (t u : Token) : Type 0 where
    pub alike : Alike t u
    pub free : g.free t ≡ true → g.free u ≡ true

  one_of : (depth opens : ℕ) (t u : Token) → Alike t u → fits (g.free u) opens depth ≡ true
      → Derives g depth (Terminal opens (g.kind t)) (u ∷ []) (g.value t)
  one_of depth opens t u alike fit =
      subst (λ kind. Derives g depth (Terminal opens kind) (u ∷ []) (g.value t)) (sym alike.kind)
      (subst (λ v. Derives g depth (Terminal opens (g.kind u)) (u ∷ []) v) (sym alike.value) (one depth opens u fit))

  fits_freer : (t u : Token) (opens depth : ℕ) → Freer t u → fits (g.free t) opens depth ≡ true
      → fits (g.free u) opens depth ≡ true
  fits_freer t u opens depth freer fit = by (g.free t) (g.free u) freer.free fit
    where
      by : (first second : Bool) → (first ≡ true → second ≡ true) → fits first opens depth ≡ true
          → fits second opens depth ≡ true
      by first true so fit = refl
      by true false so fit = absurd (let no : false ≡ true = so refl in cc)
      by false false so fit = fit

  -- of tokens that are as free, at the same depth
  mutual
    pub freed : (depth : ℕ) (x : Symbol) (ts us : List Token) (v : Value) → Derives g depth x ts v → Pairwise Freer ts us
        → Derives g depth x us v
    freed _ _ _ _ _ (one depth opens t fit) (more _ u _ _ is none) =
        one_of depth opens t u is.alike (fits_freer t u opens depth is fit)
    freed _ _ _ us _ (made depth p tokens values row) related =
        made depth p us values (freed_row depth (g.right p) tokens us values row related)

    freed_row : (depth : ℕ) (xs : List Symbol) (ts us : List Token) (values : List Value) → Row g depth xs ts values
        → Pairwise Freer ts us → Row g depth xs us values
    freed_row _ _ _ _ _ (nothing depth) none = nothing depth
    freed_row _ _ _ us _ (next depth x rest a b v vs is row) related =
        let parts = parted Freer a b us related in
        subst (λ all. Row g depth (x ∷ rest) all (v ∷ vs)) (sym parts.same)
        (next depth x rest parts.prefix parts.back v vs (freed depth x a parts.prefix v is parts.of_first)
        (freed_row (within g depth x) rest b parts.back vs row parts.of_second))

  -- a symbol derives the tokens from some depth on
  pub record Deep (x : Symbol) (us : List Token) (v : Value) : Type 0 where
    pub least : ℕ
    pub derives : (depth : ℕ) → least ≤ depth → Derives g depth x us v

  -- the same of the symbols of a right side
  record DeepRow (xs : List Symbol) (us : List Token) (values : List Value) : Type 0 where
    least : ℕ
    derives : (depth : ℕ) → least ≤ depth → Row g depth xs us values

  -- of tokens that are less free, at some depth
  mutual
    pub deep : (depth : ℕ) (x : Symbol) (ts us : List Token) (v : Value) → Derives g depth x ts v → Pairwise Alike ts us
        → Deep x us v
    deep _ _ _ _ _ (one depth opens t fit) (more _ u _ _ is none) =
        record {
          least = opens;
          derives = λ depth less. one_of depth opens t u is (fits_room (g.free u) opens depth less);
        }
    deep _ _ _ us _ (made depth p tokens values row) related =
        let all = deep_row depth (g.right p) tokens us values row related in
        record { least = all.least; derives = λ depth less. made depth p us values (all.derives depth less) }

    deep_row : (depth : ℕ) (xs : List Symbol) (ts us : List Token) (values : List Value) → Row g depth xs ts values
        → Pairwise Alike ts us → DeepRow xs us values
    deep_row _ _ _ _ _ (nothing depth) none = record { least = zero; derives = λ depth less. nothing depth }
    deep_row _ _ _ us _ (next depth x rest a b v vs is row) related =
        let parts = parted Alike a b us related in
        let first = deep depth x a parts.prefix v is parts.of_first in
        let others = deep_row (within g depth x) rest b parts.back vs row parts.of_second in
        record {
          least = first.least + (others.least + levels x);
          derives = λ depth less. subst (λ all. Row g depth (x ∷ rest) all (v ∷ vs)) (sym parts.same)
              (next depth x rest parts.prefix parts.back v vs (first.derives depth (omega (arith, less)))
              (others.derives (within g depth x) (room_within g others.least depth x (omega (arith, less)))));
        }
