-- The captures that are kept.
use Rattle.std.proofs.Common.{◌≡◌, Bool, true, false, Option, Some, None, option_map, refl, sym, ap}
use Rattle.std.proofs.Common.{◌∙◌, bytes_eq, if◌then◌else◌}
use Rattle.std.proofs.lemmas.Bool.{true≢false}
use Rattle.cd_syntax.specs.Name.{Name}
use Rattle.cd_model.specs.Thing.{Thing}
use Rattle.cd_matching.specs.Captures.{Captures, nothing, just, or_else, both, if_so}
use Rattle.cd_matching.proofs.UnboundVariables.{Lacks}
use Rattle.cd_kernel.proofs.VariableNumbers.{names_same}

abbrev pub kept : (keeps : Name → Bool) → Captures Name → Captures Name
kept keeps all name = if keeps name then all name else None

module _ (keeps : Name → Bool) where
  abbrev keep : Option (Captures Name) → Option (Captures Name)
  keep = option_map (kept keeps)

  pub kept_both : (a b : Option (Captures Name)) → keep (both a b) ≡ both (keep a) (keep b)
  kept_both None b = refl
  kept_both (Some c) None = refl
  kept_both (Some c) (Some d) = λ i. Some (λ name. at (keeps name) (c name) (d name) i)
    where
      at : (b : Bool) (x y : Option Thing) → (if b then or_else x y else None)
          ≡ or_else (if b then x else None) (if b then y else None)
      at true x y = refl
      at false x y = refl

  pub kept_or : (a b : Option (Captures Name)) → keep (or_else a b) ≡ or_else (keep a) (keep b)
  kept_or None b = refl
  kept_or (Some c) b = refl

  kept_nothing : kept keeps nothing ≡ nothing
  kept_nothing = λ i name. at name (keeps name) i
    where
      at : (name : Name) (b : Bool) → (if b then nothing {K = Name} name else None) ≡ None
      at name true = refl
      at name false = refl

  pub kept_so : (b : Bool) → keep (if_so b) ≡ if_so b
  kept_so true = ap Some kept_nothing
  kept_so false = refl

  pub kept_lacks : (name : Name) (a : Option (Captures Name)) → Lacks name a → Lacks name (keep a)
  kept_lacks name None h = tt
  kept_lacks name (Some c) h = at (keeps name)
    where
      at : (b : Bool) → (if b then c name else None) ≡ None
      at true = h
      at false = refl

  pub kept_one : (variable : Name) (x : Thing) (b : Bool) → keeps variable ≡ b
      → kept keeps (just variable x) ≡ (if b then just variable x else nothing)
  kept_one variable x b is =
      λ i other. at other (bytes_eq variable other) refl b is (keeps other) refl i
    where
      at : (other : Name) (e : Bool) → bytes_eq variable other ≡ e → (b : Bool)
          → keeps variable ≡ b → (k : Bool) → keeps other ≡ k
          → (if k then if e then Some x else None else None)
          ≡ (if b then (λ (name : Name). if bytes_eq variable name then Some x else None)
          else nothing) other
      at other false same true is true other_is =
          sym (ap (λ (t : Bool). if t then Some x else None) same)
      at other false same true is false other_is =
          sym (ap (λ (t : Bool). if t then Some x else None) same)
      at other false same false is true other_is = refl
      at other false same false is false other_is = refl
      at other true same true is true other_is =
          sym (ap (λ (t : Bool). if t then Some x else None) same)
      at other true same true is false other_is = absurd (true≢false
          (sym is ∙ ap keeps (names_same variable other same) ∙ other_is))
      at other true same false is true other_is = absurd (true≢false
          (sym other_is ∙ ap keeps (sym (names_same variable other same)) ∙ is))
      at other true same false is false other_is = refl
