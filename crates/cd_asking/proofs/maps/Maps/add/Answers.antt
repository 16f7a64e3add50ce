use Rattle.std.proofs.Common.{refl, ◌≡◌, ◌∙◌, ap, Bool, true, false, cond, ◌||◌}
use Rattle.cd_asking.specs.MappedArrows.{AddsEntry, has_entry, same}
use Rattle.cd_asking.specs.Mappings.{Mappings}
use Rattle.cd_asking.specs.declared.mapped.Mapped.{Mapped}
use Rattle.cd_asking.proofs.maps.Maps.add.Goals as goal

or_else : (a b : Bool) → cond a true b ≡ b || a
or_else true true = refl
or_else true false = refl
or_else false true = refl
or_else false false = refl

one_more : (one : Mapped) (old new : Mappings) → ((other : Mapped) → has_entry new other ≡ cond (same one other) true (has_entry old other))
    → new.functions ≡ old.functions → AddsEntry one old new
one_more one old new updates kept = record {
  entries = λ other. updates other ∙ or_else (same one other) (has_entry old other);
  functions = kept;
}

pub returns-clause-added : goal.returns-clause-added
returns-clause-added c = one_more _ _ _ (rw (← c.self.view_is) (λ other. c.in_ok-insert.ensures.updates.0 other))
    (ap (λ (maps : Mappings). maps.functions) c.self.view_is)
