-- Captures by number and by name: what is made of those by number, is by name what is made of those
-- by name.
use Rattle.std.proofs.Common.{◌≡◌, ℕ, Bool, true, false, List, Option, Some, None, option_map}
use Rattle.std.proofs.Common.{refl, sym, ap, ◌∙◌, bytes_eq, if◌then◌else◌}
use Rattle.std.proofs.lemmas.Option.{none-some}
use Rattle.cd_syntax.specs.Name.{Name}
use Rattle.cd_model.specs.Thing as thing
use Rattle.cd_model.specs.Thing.{Thing}
use Rattle.cd_matching.specs.Captures as captures
use Rattle.cd_matching.specs.Captures.{Captures, nothing, or_else, joined, both, if_so}
use Rattle.cd_matching.specs.Kernel.{just, before, gathered, number_of, at_number, by_name}
use Rattle.cd_kernel.specs.Copies.{IsNumber}
use Rattle.cd_kernel.proofs.VariableNumbers.{names_same, number_test}

abbrev pub named : List Name → Option (Captures ℕ) → Option (Captures Name)
named variables = option_map (by_name variables)

-- what is put before what a variable has
abbrev pub before_name : Name → Thing → Captures Name → Captures Name
before_name name d all other =
    if bytes_eq name other then option_map (thing.Pair d) (all other) else all other

abbrev pub gathered_name : Name → Thing → (first second : Option (Captures Name))
    → Option (Captures Name)
gathered_name name d (Some c) (Some e) = Some (joined c (before_name name d e))
gathered_name name d _ _ = None

module _ (variables : List Name) where
  pub named_both : (a b : Option (Captures ℕ))
      → named variables (both a b) ≡ both (named variables a) (named variables b)
  named_both None b = refl
  named_both (Some c) None = refl
  named_both (Some c) (Some d) = λ i. Some (λ name. by_number (number_of variables name) i)
    where
      by_number : (n : Option ℕ)
          → at_number (joined c d) n ≡ or_else (at_number c n) (at_number d n)
      by_number None = refl
      by_number (Some number) = refl

  pub named_or : (a b : Option (Captures ℕ))
      → named variables (or_else a b) ≡ or_else (named variables a) (named variables b)
  named_or None b = refl
  named_or (Some c) b = refl

  pub named_so : (b : Bool) → named variables (if_so b) ≡ if_so b
  named_so false = refl
  named_so true = λ i. Some (λ name. by_number (number_of variables name) i)
    where
      by_number : (n : Option ℕ) → at_number (nothing {K = ℕ}) n ≡ None
      by_number None = refl
      by_number (Some number) = refl

  pub named_just : (name : Name) (variable : ℕ) (d : Thing) → IsNumber variables name variable
      → named variables (Some (just variable d)) ≡ Some (captures.just name d)
  named_just name variable d there =
      λ i. Some (λ other. at other (number_of variables other) refl (bytes_eq name other) refl i)
    where
      at : (other : Name) (n : Option ℕ) → number_of variables other ≡ n → (b : Bool)
          → bytes_eq name other ≡ b
          → at_number (just variable d) n ≡ (if b then Some d else None)
      at other (Some number) is b h = ap (λ (t : Bool). if t then Some d else None)
          (number_test variables name other variable number there is ∙ h)
      at other None is false h = refl
      at other None is true h = absurd (none-some variable
          (sym is ∙ ap (number_of variables) (sym (names_same name other h)) ∙ there))

  named_before : (name : Name) (variable : ℕ) (d : Thing) (c : Captures ℕ)
      → IsNumber variables name variable
      → by_name variables (before variable d c) ≡ before_name name d (by_name variables c)
  named_before name variable d c there =
      λ i other. at other (number_of variables other) refl i
    where
      at : (other : Name) (n : Option ℕ) → number_of variables other ≡ n
          → at_number (before variable d c) n
          ≡ (if bytes_eq name other then option_map (thing.Pair d) (at_number c n)
          else at_number c n)
      at other None is = by_test (bytes_eq name other)
        where
          by_test : (b : Bool) → None ≡ (if b then option_map (thing.Pair d) None else None)
          by_test true = refl
          by_test false = refl
      at other (Some number) is =
          ap (λ (t : Bool). if t then option_map (thing.Pair d) (c number) else c number)
          (number_test variables name other variable number there is)

  pub named_gathered : (name : Name) (variable : ℕ) (d : Thing) (a b : Option (Captures ℕ))
      → IsNumber variables name variable → named variables (gathered variable d a b)
      ≡ gathered_name name d (named variables a) (named variables b)
  named_gathered name variable d None b there = refl
  named_gathered name variable d (Some c) None there = refl
  named_gathered name variable d (Some c) (Some e) there =
      named_both (Some c) (Some (before variable d e))
      ∙ ap (λ (f : Captures Name). both (Some (by_name variables c)) (Some f))
      (named_before name variable d e there)
