use Rattle.std.proofs.Common.{ap, ◌∙◌}
use Rattle.cd_resolve.specs.FirstPlaces.{first_place}
use Rattle.cd_resolve.proofs.name_index.NameIndex.find.Goals as goal

-- the map gives each name its first place
pub returns : goal.returns
returns c = c.copied.ensures ∙ c.get.ensures.value ∙ c.self.invariant (record { name = c.args.name })
    ∙ ap (λ names. first_place names c.args.name.now) c.self.view_is
