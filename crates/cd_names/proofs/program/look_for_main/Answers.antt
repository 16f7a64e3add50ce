use Rattle.std.proofs.Common.{◌≡◌, ◌∙◌, ap, sym, subst, is_some, List, ℕ, Bool, OnOk}
use Rattle.std.specs.Prelude.{codes}
use Rattle.cd_resolve.specs.FirstPlaces.{first_place}
use Rattle.cd_resolve.proofs.Places.{has_place}
use Rattle.cd_names.specs.ProgramFaults.{is_seen}
use Rattle.cd_names.specs.Inner.FindingInPrograms.{main_found}
use Rattle.cd_names.specs.Inner.PlainFound.{plain_found}
use Rattle.cd_names.proofs.program.look_for_main.Goals as goal

-- whether a place is found is whether the name is seen
is_found : (functions : List (List ℕ)) (name : List ℕ) (found : Bool) → name ≡ codes "main"
    → found ≡ is_some (first_place functions name) → is_seen functions (codes "main") ≡ found
is_found functions name found is place =
    sym (place ∙ has_place functions name ∙ ap (is_seen functions) is)

pub returns-then-is_some : goal.returns-then-is_some
returns-then-is_some c =
    let seen = is_found c.args.functions.now c.in_ok-name.name c.is_some.result c.in_ok-name.ensures
    (c.is_some.ensures ∙ ap is_some c.find.ensures) ∙ c.if-is_some.true in
    sym (ap (λ seen. main_found seen c.args.end (plain_found c.args.found.now)) seen)

pub returns : goal.returns
returns c =
    let seen = is_found c.args.functions.now c.in_ok-name.name c.is_some.result c.in_ok-name.ensures
    (c.is_some.ensures ∙ ap is_some c.find.ensures) ∙ c.if-is_some.false in
    subst (λ seen. OnOk c.report_no_main.result (plain_found c.report_no_main.new.self
    ≡ main_found seen c.args.end (plain_found c.args.found.now))) (sym seen) c.report_no_main.ensures
