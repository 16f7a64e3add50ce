use Rattle.std.proofs.Common.{◌≡◌, length, map, is_some, sym, ap, subst, ◌∙◌, rules}
use Rattle.std.proofs.lemmas.List.{map_push, length-map}
use Rattle.std.specs.Prelude.{bytes_eq}
use Rattle.std.specs.List.{list_any}
use Rattle.cd_resolve.specs.FirstPlaces.{AreFirstPlaces, Enters}
use Rattle.cd_resolve.proofs.Places.{extended, has_place}
use Rattle.cd_resolve.proofs.name_index.NameIndex.add.Goals as goal

-- the new name has its first place at the end, unless it is there
pub invariant_of-self-in-Ok : goal.invariant_of-self-in-Ok
invariant_of-self-in-Ok c =
    let names = map (λ name. name.now) c.self.inside.names.items in
    let last : c.len-place.result ≡ length names =
    let mapped = length-map c.self.inside.names.items (λ name. name.now) in
    search (rules, mapped, c.len-place.ensures) in
    let entered = subst (λ place. Enters c.args.name.now place c.self.inside.places c.enter.new.places) last
    c.in-Ok.ensures.entered in
    let all = ap (map (λ name. name.now)) c.in_ok-push.ensures.items
    ∙ map_push (λ name. name.now) c.self.inside.names.items c.args.name in
    subst (λ names. AreFirstPlaces names c.enter.new.places) (sym all)
    (extended names c.args.name.now c.self.inside.places c.enter.new.places c.self.invariant entered)

-- the name has a place where it is one of the names
pub returns-in-Ok-clause-again : goal.returns-in-Ok-clause-again
returns-in-Ok-clause-again c =
    let names = map (λ name. name.now) c.self.inside.names.items in
    c.in-Ok.ensures.again ∙ ap is_some (c.self.invariant (record { name = c.args.name }))
    ∙ has_place names c.args.name.now ∙ ap (list_any (bytes_eq c.args.name.now)) c.self.view_is
