use Rattle.std.proofs.Common.{◌&&◌, refl, sym, ap, ◌∙◌}
use Rattle.cd_sets.specs.Characters.{holds_character}
use Rattle.cd_normal.proofs.basic_sets.characters_of_both.Goals as goal

pub returns-then-is_empty : goal.returns-then-is_empty
returns-then-is_empty c = λ x is. ap (λ set. holds_character set x) c.empty.ensures
    ∙ sym (ap (λ first. first && holds_character c.args.other.now x) (c.if-is_empty.ensures.0 refl x is))
