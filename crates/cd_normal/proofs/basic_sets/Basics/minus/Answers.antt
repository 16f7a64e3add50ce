use Rattle.std.proofs.Common.{◌&&◌, not, ap₂, ◌∙◌}
use Rattle.cd_normal.proofs.basic_sets.Basics.minus.Goals as goal

-- kind by kind
pub returns : goal.returns
returns c = λ first second here there. (
  λ z is. c.in_ok-integers_without.ensures z ∙ ap₂ (λ one two. one && not two) (here.0 z is) (there.0 z is),
  λ x is. c.in_ok-characters_without.ensures x is ∙ ap₂ (λ one two. one && not two) (here.1 x is) (there.1 x is),
  λ name is. c.in_ok-minus.ensures name ∙ ap₂ (λ one two. one && not two) (here.2 name is) (there.2 name is),
)
