use Rattle.std.proofs.Common.{◌&&◌, ap₂, ◌∙◌}
use Rattle.cd_normal.proofs.basic_sets.Basics.intersect.Goals as goal

-- kind by kind
pub returns : goal.returns
returns c = λ first second here there. (
  λ z is. c.in_ok-integers_of_both.ensures z ∙ ap₂ (λ one two. one && two) (here.0 z is) (there.0 z is),
  λ x is. c.in_ok-characters_of_both.ensures x is ∙ ap₂ (λ one two. one && two) (here.1 x is) (there.1 x is),
  λ name is. c.in_ok-intersect.ensures name ∙ ap₂ (λ one two. one && two) (here.2 name is) (there.2 name is),
)
