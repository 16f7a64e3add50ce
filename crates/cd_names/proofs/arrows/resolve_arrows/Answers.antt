use Rattle.std.proofs.Common.{◌≡◌, [], ◌∷◌, ◌++◌, List, map, sym, subst}
use Rattle.cd_sets.specs.declared.node_id.NodeId.{NodeId}
use Rattle.cd_syntax.specs.WellMadePattern.{IsWellMadePattern}
use Rattle.cd_model.specs.Scope.{Scope}
use Rattle.cd_model.specs.StandsFor.{StandsFor}
use Rattle.cd_graph.specs.Nodes.{nodes}
use Rattle.cd_graph.specs.PlainFormula.{plain_list}
use Rattle.cd_program.specs.PlainExpr.{plain_interface}
use Rattle.cd_resolve.specs.Faults.{Fault, IsFaultOfType}
use Rattle.cd_resolve.specs.Named.{declared_by}
use Rattle.cd_resolve.specs.Wanted.{wanted_tree, wanted_type, Pairwise}
use Rattle.cd_names.specs.Arrows.{AreArrows}
use Rattle.cd_names.specs.ProgramFaults.{arrow_types}
use Rattle.cd_names.proofs.ArrowsResolved.{all_wanted, each_wanted, arrows_stand}
use Rattle.cd_names.proofs.arrows.resolve_arrows.Goals as goal

are_wanted : (c : goal.After-as_slice) → map wanted_tree c.as_slice.result.now ≡ arrow_types (plain_interface c.args.interface.now)
are_wanted c = all_wanted c.loop-signature.wanted.items c.as_slice.result.now c.as_slice.ensures.value c.items-signature-items.result.now
    c.loop-signature.signature-index c.loop-signature-test.false (plain_interface c.args.interface.now) c.loop-signature.invariant

pub resolve_types-requires-clause-well_made : goal.resolve_types-requires-clause-well_made
resolve_types-requires-clause-well_made c =
    each_wanted IsWellMadePattern c.as_slice.result.now (arrow_types (plain_interface c.args.interface.now)) (are_wanted c) c.requires.well_made

pub resolve_types-requires-clause-sound : goal.resolve_types-requires-clause-sound
resolve_types-requires-clause-sound c =
    each_wanted (λ t. (fault : Fault) → IsFaultOfType (declared_by c.args.names.now) t fault → ⊥) c.as_slice.result.now
    (arrow_types (plain_interface c.args.interface.now)) (are_wanted c) c.requires.sound

-- the arrows that are made of the roots
pub returns-clause-stand : goal.returns-clause-stand
returns-clause-stand c =
    let scope : Scope = declared_by c.args.names.now ∷ [] in
    let interface = plain_interface c.args.interface.now in
    let wanted = c.as_slice.result.now in
    let graph = nodes c.args.graph.now ++ plain_list c.in_ok-formulas.field-0.formulas in
    let are = all_wanted c.loop-signature.wanted.items wanted c.as_slice.ensures.value c.items-signature-items.result.now
    c.loop-signature.signature-index c.loop-signature-test.false interface c.loop-signature.invariant in
    subst (λ (arrows : List (NodeId × NodeId)). AreArrows scope graph interface arrows) (sym c.in_ok-arrows.ensures)
    (arrows_stand scope graph interface wanted are c.as_slice-2.result.now
    (subst (λ (ids : List NodeId). Pairwise (StandsFor graph) ids (map (wanted_type scope) wanted)) (sym c.as_slice-2.ensures.value)
    c.in_ok-formulas.ensures.stand))
