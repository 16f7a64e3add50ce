-- What a pattern captures that takes a thing: something for each variable that stands in it, and
-- nothing for any other.
use Rattle.std.proofs.Common.{◌≡◌, Bool, true, false, Some, None, sym, subst, ◌∙◌}
use Rattle.cd_syntax.specs.Name.{Name}
use Rattle.cd_model.specs.Thing.{Thing}
use Rattle.cd_matching.specs.Captures.{Captures}
use Rattle.cd_matching.specs.Naming.{IsNamed}
use Rattle.cd_matching.specs.Pattern.{Pattern}
use Rattle.cd_matching.specs.Take.{take}
use Rattle.cd_matching.specs.Takes.{Answering, IsRight, Takes}
use Rattle.cd_matching.specs.Variables.{binds}
use Rattle.cd_matching.proofs.BoundVariables.{Has, has_all}
use Rattle.cd_matching.proofs.NamedAlike.{named_alike}
use Rattle.cd_matching.proofs.PatternsAlike.{turned}
use Rattle.cd_matching.proofs.UnboundVariables.{Lacks, lacks}
use Rattle.cd_matching.proofs.VariablesAlike.{bind_alike}

module _ {T : Type 0} (test : T → Thing → Bool) (p : Pattern T) (d : Thing)
    (captures : Captures Name) (name : Name) where
  pub something : IsNamed p → take T test p d ≡ Some captures → binds p name ≡ true
      → (what : Thing) × (captures name ≡ Some what)
  something named takes bound = subst (Has name) takes (has_all name T test p named bound d)

  pub nothing_else : take T test p d ≡ Some captures → binds p name ≡ false
      → captures name ≡ None
  nothing_else takes unbound = subst (Lacks name) takes (lacks name T test p unbound d)

-- the same where types are known by what things answer
module _ {T : Type 0} (answers : Answering T) (Of : Thing → Type 0) (p : Pattern T) (d : Thing)
    (captures : Captures Name) (name : Name) (takes : Takes answers Of p d (Some captures)) where
  pub something_answers : IsNamed p → binds p name ≡ true
      → (what : Thing) × (captures name ≡ Some what)
  something_answers named bound =
      something (λ (test : Thing → Bool). test) takes.tested d captures name
      (named_alike (λ (test : Thing → Bool) (type : T). IsRight answers Of type test)
      takes.tested p (turned (IsRight answers Of) p takes.tested takes.right) named) takes.gives
      (sym (bind_alike (IsRight answers Of) p takes.tested takes.right name) ∙ bound)

  pub nothing_else_answers : binds p name ≡ false → captures name ≡ None
  nothing_else_answers unbound =
      nothing_else (λ (test : Thing → Bool). test) takes.tested d captures name takes.gives
      (sym (bind_alike (IsRight answers Of) p takes.tested takes.right name) ∙ unbound)
