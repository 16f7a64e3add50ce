use Rattle.std.proofs.Common.{◌∙◌, ap, sym, subst}
use Rattle.std.specs.Str.{chars, IsUtf8}
use Rattle.std.specs.Str.Iter.{chars_rest}
use Rattle.cd_notation.proofs.Lettering.{letters_start, letters_go_on, letters_end}
use Rattle.cd_notation.proofs.items.letters.Goals as goal

pub loop-c-init : goal.loop-c-init
loop-c-init c =
    let is = ap chars_rest c.into_iter-c-iterator.ensures.into_iter_gives ∙ c.chars-c-items.ensures.rest in
    letters_start _ _ _ _ (subst IsUtf8 (sym is) c.utf8.text) (ap chars is)

pub loop-c-preserved : goal.loop-c-preserved
loop-c-preserved c =
    letters_go_on _ _ _ _ _ _ _ _ _ _ _ c.loop-c.invariant c.in-Some.ensures.steps.0 c.in_ok-id.ensures.grows c.in_ok-id.ensures.is c.in_ok-push.ensures.added

pub returns-clause-letters : goal.returns-clause-letters
returns-clause-letters c = letters_end _ _ _ _ _ _ c.loop-c.invariant c.in-None.ensures.steps.0.0
