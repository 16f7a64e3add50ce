-- The names of the truth values.
use Rattle.std.proofs.Common.{◌≡◌, ◌∙◌, refl, sym, ap, Bool, true, false, Some, None, bytes_eq}
use Rattle.std.specs.Prelude.{codes}
use Rattle.std.specs.Str.{chars}
use Rattle.cd_syntax.specs.Name.{Name}
use Rattle.cd_model.specs.Thing.{Atom}
use Rattle.cd_evaluation.specs.Operations.{truth_of}
use Rattle.cd_operations.proofs.Literals.{true_characters, false_characters}

module _ (name : Name) where
  abbrev named : Name → Bool
  named text = bytes_eq name (chars text)

  by_true : (test : Bool) → named (codes "true") ≡ test → bytes_eq name (codes "true") ≡ test
  by_true test is = ap (bytes_eq name) (sym true_characters) ∙ is

  by_false : (test : Bool) → named (codes "false") ≡ test → bytes_eq name (codes "false") ≡ test
  by_false test is = ap (bytes_eq name) (sym false_characters) ∙ is

  pub is_true : true ≡ named (codes "true") → Some true ≡ truth_of (Atom name)
  is_true same = let it = by_true true (sym same) in rw it refl

  pub is_false : false ≡ named (codes "true") → true ≡ named (codes "false") → Some false ≡ truth_of (Atom name)
  is_false other same = let one = by_true false (sym other) in let it = by_false true (sym same) in rw one (rw it refl)

  pub is_neither : false ≡ named (codes "true") → false ≡ named (codes "false") → None ≡ truth_of (Atom name)
  is_neither other last = let one = by_true false (sym other) in let it = by_false false (sym last) in rw one (rw it refl)
