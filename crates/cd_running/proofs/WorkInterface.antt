-- The type of `main`: what maps each log to a sequence of integers, which is data.
use Rattle.std.proofs.Common.{[], ◌∷◌, List, refl, sym, subst, lit<, true≢false}
use Rattle.cd_model.specs.Thing.{Function}
use Rattle.cd_meaning.specs.Sets.{◌⊆◌}
use Rattle.cd_typing.specs.Interfaces.{Arrow, AllArrows, AreWritten, IsIntersection}
use Rattle.cd_typing.specs.Typ.{In}
use Rattle.cd_typing.specs.Typed.{IsOfInterface, GivesData}
use Rattle.cd_running.specs.Inner.WorkProgram.{signature, main}
use Rattle.cd_forms.proofs.ArrowsHold.{maps_into, mapped}
use Rattle.cd_running.proofs.WorkLists.{integers_in_data}
use Rattle.cd_running.proofs.WorkStands.{scope, log_stands, integers_stand}
use Rattle.cd_running.proofs.WorkTypes.{graph, INTS, LOG, MAIN, is_type, log, some_integers, self}

abbrev pub arrows : List Arrow
arrows = record { argument = log; result = some_integers } ∷ []

pub arrows_are : AreWritten scope (signature ∷ []) arrows
arrows_are = ((is_type LOG (lit< tt), log_stands _), (is_type INTS (lit< tt), integers_stand _ _ _ _), tt)

within : In self ⊆ AllArrows arrows
within (Function pairs) element inside = (pairs, refl, (maps_into graph LOG INTS pairs inside, tt))
within _ element inside = absurd (true≢false inside)

whole : AllArrows arrows ⊆ In self
whole e element all = subst (In self) (sym all.1) (mapped graph LOG INTS all.0 all.2.0)

pub intersection : IsIntersection arrows self
intersection = record { is_type = is_type MAIN (lit< tt); within = within; whole = whole }

pub of_interface : IsOfInterface scope main self
of_interface = (arrows, arrows_are, intersection)

pub gives_data : GivesData scope main
gives_data same = (arrows, arrows_are, (integers_in_data, tt))
