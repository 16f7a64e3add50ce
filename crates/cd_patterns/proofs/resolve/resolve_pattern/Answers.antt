use Rattle.std.proofs.Common.{◌<◌, length, [], ◌∷◌, ◌++◌, List, map, sym, subst}
use Rattle.cd_sets.specs.declared.node_id.NodeId.{NodeId}
use Rattle.cd_syntax.specs.PlainTree.{plain as plain_tree}
use Rattle.cd_model.specs.Scope.{Scope}
use Rattle.cd_model.specs.StandsFor.{StandsFor}
use Rattle.cd_graph.specs.Nodes.{nodes}
use Rattle.cd_graph.specs.PlainFormula.{plain_list}
use Rattle.cd_resolve.specs.Named.{declared_by}
use Rattle.cd_resolve.specs.Wanted.{wanted_type, Pairwise}
use Rattle.cd_matching.specs.Pattern.{Pattern}
use Rattle.cd_matching.specs.PatternsAlike.{Alike}
use Rattle.cd_matching.specs.PlainPattern.{plain}
use Rattle.cd_matching.specs.Takes.{IsResolved}
use Rattle.cd_matching.specs.WrittenPattern.{pattern_of}
use Rattle.cd_matching.proofs.ResolvedPatterns.{resolved_stands}
use Rattle.cd_patterns.specs.Inner.Types.{Filled}
use Rattle.cd_patterns.proofs.PatternsResolved.{wanted_are, all_made, none_at_fault, resolved}
use Rattle.cd_patterns.proofs.ProperPatterns.{tree_proper, alike_labels, alike_made}
use Rattle.cd_patterns.proofs.resolve.resolve_pattern.Goals as goal
use Rattle.cd_patterns.proofs.resolve.resolve_pattern.Goals.{In_ok-pattern}

pub resolve_types-requires-clause-well_made : goal.resolve_types-requires-clause-well_made
resolve_types-requires-clause-well_made c =
    all_made (declared_by c.args.names.now ∷ []) (plain_tree c.args.pattern.now)
    c.as_slice.result.now
    (wanted_are (plain_tree c.args.pattern.now) c.new-wanted.result.items c.want.new.wanted.items
    c.as_slice.result.now c.new-wanted.ensures.items c.in_ok-want.ensures c.as_slice.ensures.value)
    c.requires.well_made c.requires.sound

pub resolve_types-requires-clause-sound : goal.resolve_types-requires-clause-sound
resolve_types-requires-clause-sound c =
    none_at_fault (declared_by c.args.names.now ∷ []) (plain_tree c.args.pattern.now)
    c.as_slice.result.now
    (wanted_are (plain_tree c.args.pattern.now) c.new-wanted.result.items c.want.new.wanted.items
    c.as_slice.result.now c.new-wanted.ensures.items c.in_ok-want.ensures c.as_slice.ensures.value)
    c.requires.well_made c.requires.sound

-- the nodes of the types are in their places
is_resolved : (c : In_ok-pattern)
    → IsResolved (nodes c.args.graph.now ++ plain_list c.in_ok-formulas.field-0.formulas)
    (plain c.in_ok-pattern.pattern)
    (declared_by c.args.names.now ∷ []) (plain_tree c.args.pattern.now)
is_resolved c =
    let is = plain_tree c.args.pattern.now in
    let scope : Scope = declared_by c.args.names.now ∷ [] in
    let Are = StandsFor (nodes c.args.graph.now ++ plain_list c.in_ok-formulas.field-0.formulas) in
    subst (λ (one : Filled (Pattern NodeId)). Alike Are one.0 (pattern_of scope is))
    (sym c.in_ok-pattern.ensures)
    (resolved Are scope is c.as_slice-2.result.now c.as_slice.result.now
    (wanted_are is c.new-wanted.result.items c.want.new.wanted.items c.as_slice.result.now
    c.new-wanted.ensures.items c.in_ok-want.ensures c.as_slice.ensures.value)
    (subst (λ (ids : List NodeId). Pairwise Are ids (map (wanted_type scope) c.as_slice.result.now))
    (sym c.as_slice-2.ensures.value)
    c.in_ok-formulas.ensures.stand))

pub returns-clause-resolved : goal.returns-clause-resolved
returns-clause-resolved c = is_resolved (goal.at.returns-clause-resolved c).In_ok-pattern

pub returns-clause-stands : goal.returns-clause-stands
returns-clause-stands c =
    resolved_stands _ _ _ _ (is_resolved (goal.at.returns-clause-stands c).In_ok-pattern)
    c.requires.variables

pub returns-clause-labels : goal.returns-clause-labels
returns-clause-labels c =
    let is = plain_tree c.args.pattern.now in
    let scope : Scope = declared_by c.args.names.now ∷ [] in
    let made = (goal.at.returns-clause-labels c).In_ok-pattern in
    alike_labels
    (StandsFor (nodes c.args.graph.now ++ plain_list c.in_ok-formulas.field-0.formulas))
    (plain made.in_ok-pattern.pattern) (pattern_of scope is) (is_resolved made)
    (tree_proper scope is c.requires.well_made)

pub returns-clause-made : goal.returns-clause-made
returns-clause-made c =
    let is = plain_tree c.args.pattern.now in
    let scope : Scope = declared_by c.args.names.now ∷ [] in
    let graph = nodes c.args.graph.now ++ plain_list c.in_ok-formulas.field-0.formulas in
    let made = (goal.at.returns-clause-made c).In_ok-pattern in
    alike_made (StandsFor graph) (λ id. id.0 < length graph) (λ id type stands. stands.is_node)
    (plain made.in_ok-pattern.pattern) (pattern_of scope is) (is_resolved made)
    (tree_proper scope is c.requires.well_made) c.constants_fit.ensures
