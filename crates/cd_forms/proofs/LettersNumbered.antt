-- One more character of a text has its node among those of all letters.
use Rattle.std.proofs.Common.{◌≡◌, ◌⊎◌, ◌+◌, ◌++◌, ℕ, zero, suc, List, [], ◌∷◌, Some, inl, inr}
use Rattle.std.proofs.Common.{refl}
use Rattle.std.proofs.Common.{subst, sym, ap, ◌∙◌, None, map, drop, length, length-append, arith}
use Rattle.std.proofs.Common.{append_assoc}
use Rattle.std.proofs.lemmas.List.{map-append, append-nil}
use Rattle.std.proofs.lemmas.Option.{none-some, same_Some}
use Rattle.std.specs.List.{slice_get}
use Rattle.cd_sets.specs.declared.node_id.NodeId.{NodeId}
use Rattle.cd_model.specs.BuiltIns.{node}
use Rattle.cd_graph.specs.PlainFormula.{plain}
use Rattle.cd_graph.specs.declared.formula.Formula.{Formula as CodeFormula}
use Rattle.cd_model.specs.Leaves.{one_character}
use Rattle.cd_forms.specs.Inner.Letters.{IsLetter, AreLetters}

got_more : (letters : List ℕ) (more : List ℕ) (k c : ℕ) → slice_get letters k ≡ Some c
    → slice_get (letters ++ more) k ≡ Some c
got_more [] more k c is = absurd (none-some c is)
got_more (d ∷ letters) more zero c is = is
got_more (d ∷ letters) more (suc k) c is = got_more letters more k c is

still_letters : (first : ℕ) (letters more : List ℕ) (text : List ℕ) (ids : List NodeId)
    → AreLetters first letters text ids → AreLetters first (letters ++ more) text ids
still_letters first letters more [] [] are = tt
still_letters first letters more [] (id ∷ ids) are = absurd are
still_letters first letters more (c ∷ text) [] are = absurd are
still_letters first letters more (c ∷ text) (id ∷ ids) are = (
  (are.0.0, got_more letters more are.0.0 c are.0.1, are.0.2),
  still_letters first letters more text ids are.1,
)

kept_letters : (first : ℕ) (letters others : List ℕ) (c : ℕ)
    → (others ≡ letters) ⊎ (others ≡ letters ++ c ∷ []) → (text : List ℕ) (ids : List NodeId)
    → AreLetters first letters text ids → AreLetters first others text ids
kept_letters first letters others c (inl same) text ids are =
    subst (λ (all : List ℕ). AreLetters first all text ids) (sym same) are
kept_letters first letters others c (inr grown) text ids are =
    subst (λ (all : List ℕ). AreLetters first all text ids) (sym grown)
    (still_letters first letters (c ∷ []) text ids are)

pushed : (first : ℕ) (letters text : List ℕ) (ids : List NodeId) (c : ℕ) (id : NodeId)
    → AreLetters first letters text ids → IsLetter first letters c id
    → AreLetters first letters (text ++ c ∷ []) (ids ++ id ∷ [])
pushed first letters [] [] c id are is = (is, tt)
pushed first letters [] (other ∷ ids) c id are is = absurd are
pushed first letters (d ∷ text) [] c id are is = absurd are
pushed first letters (d ∷ text) (other ∷ ids) c id are is =
    (are.0, pushed first letters text ids c id are.1 is)

pub one_more : (first : ℕ) (letters others : List ℕ) (c : ℕ)
    → (others ≡ letters) ⊎ (others ≡ letters ++ c ∷ []) → (text : List ℕ) (ids : List NodeId)
    → AreLetters first letters text ids → (number : ℕ) → slice_get others number ≡ Some c
    → (id : NodeId) → id ≡ node (first + number)
    → AreLetters first others (text ++ c ∷ []) (ids ++ id ∷ [])
one_more first letters others c grown text ids are number there id is =
    pushed first others text ids c id (kept_letters first letters others c grown text ids are)
    (number, there, is)

-- the formulas of letters, one after the other
drop_got : (xs : List ℕ) (k x : ℕ) → slice_get xs k ≡ Some x → drop k xs ≡ x ∷ drop (k + 1) xs
drop_got [] k x is = absurd (none-some x is)
drop_got (y ∷ xs) zero x is = ap (λ d. d ∷ xs) (same_Some y x is)
drop_got (y ∷ xs) (suc k) x is =
    let more : suc k + 1 ≡ suc (k + 1) = omega arith in
    drop_got xs k x is ∙ ap (λ n. x ∷ drop n (y ∷ xs)) (sym more)

pub formula_more : (letters : List ℕ) (formulas longer : List CodeFormula) (f : CodeFormula)
    (c : ℕ) → slice_get letters (length formulas) ≡ Some c → longer ≡ formulas ++ f ∷ []
    → plain f ≡ one_character c
    → map plain formulas ++ map one_character (drop (length formulas) letters)
    ≡ map one_character letters
    → map plain longer ++ map one_character (drop (length longer) letters)
    ≡ map one_character letters
formula_more letters formulas longer f c there put is before =
    let count : length longer ≡ length formulas + 1 =
    ap length put ∙ length-append formulas (f ∷ []) in
    ap (λ n. map plain longer ++ map one_character (drop n letters)) count
    ∙ ap (λ all. map plain all ++ map one_character (drop (length formulas + 1) letters)) put
    ∙ ap (λ all. all ++ map one_character (drop (length formulas + 1) letters))
    (map-append plain formulas (f ∷ []))
    ∙ append_assoc (map plain formulas) (plain f ∷ [])
    (map one_character (drop (length formulas + 1) letters))
    ∙ ap (λ one. map plain formulas
    ++ one ∷ map one_character (drop (length formulas + 1) letters)) is
    ∙ ap (λ rest. map plain formulas ++ map one_character rest)
    (sym (drop_got letters (length formulas) c there))
    ∙ before

drop_none : (xs : List ℕ) (k : ℕ) → slice_get xs k ≡ None → drop k xs ≡ []
drop_none [] zero is = refl
drop_none [] (suc k) is = refl
drop_none (x ∷ xs) zero is = absurd (none-some x (sym is))
drop_none (x ∷ xs) (suc k) is = drop_none xs k is

pub formulas_end : (letters : List ℕ) (formulas : List CodeFormula)
    → slice_get letters (length formulas) ≡ None
    → map plain formulas ++ map one_character (drop (length formulas) letters)
    ≡ map one_character letters
    → map plain formulas ≡ map one_character letters
formulas_end letters formulas none before =
    sym (append-nil (map plain formulas))
    ∙ ap (λ rest. map plain formulas ++ map one_character rest)
    (sym (drop_none letters (length formulas) none)) ∙ before
