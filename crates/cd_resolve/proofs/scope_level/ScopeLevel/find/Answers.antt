use Rattle.std.proofs.Common.{Some, ap, sym, ◌∙◌, arith}
use Rattle.std.specs.Option.{option_map}
use Rattle.std.proofs.lemmas.Option.{slice_get-get_or}
use Rattle.cd_syntax.specs.PlainTree.{plain_declarations}
use Rattle.cd_resolve.specs.FirstPlaces.{first_place}
use Rattle.cd_resolve.proofs.Counting.{index_is}
use Rattle.cd_resolve.proofs.Placing.{placed_nowhere, placed, placed_within}
use Rattle.cd_resolve.proofs.scope_level.ScopeLevel.find.Goals as goal

-- a name that stands nowhere among the names has no place
pub returns-in_err-index-clause-index : goal.returns-in_err-index-clause-index
returns-in_err-index-clause-index c =
    let level = c.args.self.now in
    let nowhere = c.in_err-index.ensures
    ∙ ap (λ names. first_place names c.args.name.now) (c.as_ref.ensures ∙ level.indexed) in
    ap (option_map _) c.from_residual.ensures ∙ nowhere
    ∙ index_is (plain_declarations level.declarations.now) c.args.name.now

pub returns-in_err-index-clause-place : goal.returns-in_err-index-clause-place
returns-in_err-index-clause-place c =
    let level = c.args.self.now in
    let nowhere = sym (c.in_err-index.ensures
    ∙ ap (λ names. first_place names c.args.name.now) (c.as_ref.ensures ∙ level.indexed)) in
    ap (option_map _) c.from_residual.ensures
    ∙ sym (placed_nowhere (plain_declarations level.declarations.now) c.args.name.now nowhere)

-- and one that stands there has that of its declaration
pub returns-in_err-declaration-clause-index : goal.returns-in_err-declaration-clause-index
returns-in_err-declaration-clause-index c =
    let level = c.args.self.now in
    let within = placed_within (plain_declarations level.declarations.now) c.items.result.now c.as_ref.result.now
    c.args.name.now c.in_ok-index.index (c.as_ref.ensures ∙ level.indexed) c.items.ensures c.in_ok-index.ensures in
    absurd (omega (arith, within, c.in_err-declaration.ensures.lookup.3))

pub returns-in_err-declaration-clause-place : goal.returns-in_err-declaration-clause-place
returns-in_err-declaration-clause-place c =
    let level = c.args.self.now in
    let within = placed_within (plain_declarations level.declarations.now) c.items.result.now c.as_ref.result.now
    c.args.name.now c.in_ok-index.index (c.as_ref.ensures ∙ level.indexed) c.items.ensures c.in_ok-index.ensures in
    absurd (omega (arith, within, c.in_err-declaration.ensures.lookup.3))

pub returns-clause-index : goal.returns-clause-index
returns-clause-index c =
    let level = c.args.self.now in
    c.in_ok-index.ensures ∙ ap (λ names. first_place names c.args.name.now) (c.as_ref.ensures ∙ level.indexed)
    ∙ index_is (plain_declarations level.declarations.now) c.args.name.now

pub returns-clause-place : goal.returns-clause-place
returns-clause-place c =
    let level = c.args.self.now in
    sym (placed (plain_declarations level.declarations.now) c.items.result.now
    c.as_ref.result.now c.args.name.now c.in_ok-index.index (c.as_ref.ensures ∙ level.indexed) c.items.ensures
    c.in_ok-index.ensures
    ∙ ap (option_map _) (slice_get-get_or c.items.result.now c.in_ok-index.index _
    c.in_ok-declaration.ensures.lookup.3.0 ∙ ap Some (sym c.in_ok-declaration.ensures.lookup.1)))
