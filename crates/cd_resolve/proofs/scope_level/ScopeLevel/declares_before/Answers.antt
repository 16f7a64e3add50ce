use Rattle.std.proofs.Common.{Some, None, sym, ◌∙◌}
use Rattle.cd_resolve.proofs.Places.{found_before}
use Rattle.cd_resolve.proofs.scope_level.ScopeLevel.declares_before.Goals as goal

-- the first place of the name says whether the name is one of the first so many
pub returns-in-Some : goal.returns-in-Some
returns-in-Some c = found_before (Some c.in-Some.place) _ _ c.args.name.now c.args.count
    (sym c.in-Some.is ∙ c.find.ensures) (c.as_ref.ensures ∙ c.args.self.now.indexed)

pub returns-in-None : goal.returns-in-None
returns-in-None c = found_before None _ _ c.args.name.now c.args.count
    (sym c.in-None.is ∙ c.find.ensures) (c.as_ref.ensures ∙ c.args.self.now.indexed)
