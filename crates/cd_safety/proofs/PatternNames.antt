-- Names that a pattern has captured, before others: each that has a type means a value of the type.
use Rattle.std.proofs.Common.{◌≡◌, ◌++◌, Option, Some, None, sym, ap, subst, ◌∙◌}
use Rattle.cd_syntax.specs.Name.{Name}
use Rattle.cd_model.specs.Interfaces.{Interfaces}
use Rattle.cd_model.specs.Thing.{Thing}
use Rattle.cd_matching.specs.Captures.{Captures, or_else}
use Rattle.cd_typing.specs.Typ.{Typ, Types, type_at}
use Rattle.cd_typing.proofs.NamesBefore.{type_before}
use Rattle.cd_safety.specs.PatternValues.{ValueFits, ValuesFit, NamesFit}
use Rattle.cd_safety.specs.ValueIn.{ValueIn, IsTypedValue}

pub names_fit : (interfaces : Interfaces) (own types : Types) (captures : Captures Name) (seen after : Name → Option Thing)
    → ((name : Name) → after name ≡ or_else (captures name) (seen name)) → ValuesFit interfaces own captures → NamesFit interfaces types seen
    → NamesFit interfaces (own ++ types) after
names_fit interfaces own types captures seen after are own_fit fit name t typed =
    by_type (type_at own name) (own_fit name) (sym (type_before own types name) ∙ typed)
  where
    by_type : (found : Option Typ) → ValueFits interfaces found (captures name) → or_else found (type_at types name) ≡ Some t
        → (v : Thing) × (after name ≡ Some v) × IsTypedValue interfaces v × ValueIn interfaces t v
    by_type None nothing same = let known = fit name t same in
        (known.0, are name ∙ ap (λ found. or_else found (seen name)) nothing ∙ known.1, known.2, known.3)
    by_type (Some s) value same = (
      value.0,
      are name ∙ ap (λ found. or_else found (seen name)) value.1,
      value.2,
      subst (λ t. ValueIn interfaces t value.0) (let is : s ≡ t = cc in is) value.3,
    )
