use Rattle.std.proofs.Common.{◌||◌, ap₂, ◌∙◌}
use Rattle.std.proofs.Common.{refl}
use Rattle.cd_normal.proofs.Nothing.{nothing_first, nothing_second}
use Rattle.cd_normal.proofs.basic_sets.Basics.union.Goals as goal

-- kind by kind
pub returns : goal.returns
returns c = λ first second here there. (
  λ z is. c.in_ok-union.ensures z ∙ ap₂ (λ one two. one || two) (here.0 z is) (there.0 z is),
  λ x is. c.in_ok-union-2.ensures x is ∙ ap₂ (λ one two. one || two) (here.1 x is) (there.1 x is),
  λ name is. c.in_ok-union-3.ensures name ∙ ap₂ (λ one two. one || two) (here.2 name is) (there.2 name is),
)

-- where one side holds nothing it is the other
pub returns-then-is_empty : goal.returns-then-is_empty
returns-then-is_empty c = λ first second here there.
    nothing_first c.args.self c.args.other first second (c.if-is_empty.ensures.0 refl) here there

pub returns-then-is_empty-2 : goal.returns-then-is_empty-2
returns-then-is_empty-2 c = λ first second here there.
    nothing_second c.args.self c.args.other first second (c.if-is_empty-2.ensures.0 refl) here there
