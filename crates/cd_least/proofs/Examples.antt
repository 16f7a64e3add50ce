-- Small expressions that have a fault.
use Rattle.std.proofs.Common.{◌≡◌, [], inl, inr, refl, sym, subst, ◌∙◌, zero, Option, Some, None, pos, lit<}
use Rattle.cd_model.specs.BuiltIns.{INT, built_ins}
use Rattle.cd_model.specs.Kinds.{kind_of, AnInteger}
use Rattle.cd_model.specs.Scope.{Scope}
use Rattle.cd_model.specs.Thing.{Thing, Integer, IsElement}
use Rattle.cd_model.specs.Types.{no_closure}
use Rattle.cd_model.proofs.BuiltIns.{elements_are_sound, integers_are}
use Rattle.cd_model.proofs.SoundBuiltIns.{built_ins_are_sound}
use Rattle.cd_meaning.specs.Functions.{IsFunction}
use Rattle.cd_meaning.specs.Sets.{Set, ◌⊆◌}
use Rattle.cd_typing.specs.declared.rule.Rule.TheVariants.{NotFunction, Divisor}
use Rattle.cd_typing.specs.Examples.{x, x_of_x, ten_by_x, XMayBe}
use Rattle.cd_typing.specs.Typ.{Typ, typ, In, IsType, BuiltIn, Types}
use Rattle.cd_typing.proofs.Subsets.{itself}
use Rattle.cd_least.specs.Faults.{Fault}
use Rattle.cd_least.specs.Misses.{Misses}

abbrev Holds : Thing → Option Typ → Type 0
Holds d None = ⊥
Holds d (Some t) = In t d

-- the type of the integers, which 10 has
abbrev int : Typ
int = typ built_ins INT

int_is : IsType int
int_is = record { more = []; begins = refl; sound = built_ins_are_sound; is_node = lit< tt }

ten_in : (λ d. d ≡ Integer (pos 10)) ⊆ In int
ten_in e element is = (integers_are [] no_closure e (elements_are_sound e element)).1
    (subst (λ one. kind_of one ≡ AnInteger) (sym is) refl)

module _ (scope : Scope) (types : Types) (d : Thing) (element : IsElement d) (may : XMayBe types d) (is_type : IsType may.0) where
  misses : (needed : Set) → (needed d → ⊥) → Misses scope types x needed zero d
  misses needed outside = record {
    place = refl;
    some = (may.0, is_type, (may.0, may.1, itself (In may.0)));
    element = element;
    least = λ t is has. has.2 d element (subst (Holds d) (sym may.1 ∙ has.1) may.2);
    outside = outside;
  }

  pub x_of_x_has_fault : (IsFunction d → ⊥) → Fault scope types x_of_x zero NotFunction d
  x_of_x_has_fault none = inr (inr (inl (inl (refl, misses IsFunction none))))

  pub ten_by_x_has_fault : In may.0 ⊆ BuiltIn INT → d ≡ Integer (pos 0) → Fault scope types ten_by_x zero Divisor d
  ten_by_x_has_fault within is = inr (inl (inr (inr (
    (int, int_is, ten_in, itself (BuiltIn INT)),
    (may.0, is_type, (may.0, may.1, itself (In may.0)), within),
    (refl, misses (λ one. one ≡ Integer (pos 0) → ⊥) (λ other. other is)),
  ))))
