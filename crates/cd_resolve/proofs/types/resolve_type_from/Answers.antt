use Rattle.std.proofs.Common.{◌≡◌, List, ◌++◌, [], ◌∷◌, length, refl, sym, subst, ap, ◌∙◌, arith}
use Rattle.std.proofs.lemmas.List.{length-map}
use Rattle.std.specs.Option.{option_map}
use Rattle.cd_sets.specs.declared.node_id.NodeId.{NodeId}
use Rattle.cd_syntax.specs.PlainTree.{plain}
use Rattle.cd_syntax.specs.TypeTree.{Tree}
use Rattle.cd_graph.specs.PlainFormula.{plain_list}
use Rattle.cd_graph.specs.Nodes.{nodes}
use Rattle.cd_model.specs.StandsFor.{StandsFor}
use Rattle.cd_model.specs.Written.{Written}
use Rattle.cd_resolve.specs.Named.{plain_names, declared_by}
use Rattle.cd_shared.specs.Equation.{plain_equation, plain_equations}
use Rattle.cd_shared.specs.Shared.{class_in}
use Rattle.cd_resolve.specs.Inner.Links.{links}
use Rattle.cd_resolve.specs.Inner.Order.{Ends}
use Rattle.cd_resolve.specs.Inner.Solves.{AreEquations, Solves, IsNode}
use Rattle.cd_resolve.specs.Inner.Walk.{Read, walked}
use Rattle.cd_resolve.proofs.NodesNamed.{list_of}
use Rattle.cd_resolve.proofs.Resolving.{types_bounds, types_end, types_stand, begins_agree, begins_longer}
use Rattle.cd_resolve.proofs.SharedStanding.{class_stands}
use Rattle.cd_resolve.proofs.TypesArePatterns.{type_is_pattern}
use Rattle.cd_resolve.proofs.types.resolve_type_from.Goals as goal
use Rattle.cd_resolve.proofs.types.resolve_type_from.Goals.{In_ok-equations}

abbrev read : In_ok-equations → Read
read c = walked c.args.first (list_of (plain_names c.args.names.now)) [] (plain c.args.tree.now) []

-- the type is the only one of a list
abbrev alone : In_ok-equations → List Tree
alone c = plain c.args.tree.now ∷ []

-- the equations are bounded, and the type's node is one of them
bounds : (c : In_ok-equations) → AreEquations (length (nodes c.args.graph.now)) c.args.first (read c).1
    × IsNode (length (nodes c.args.graph.now)) c.args.first (length (read c).1) (read c).0
bounds c =
    let all = types_bounds (plain_names c.args.names.now) c.requires.names_sound (alone c)
    (c.in_ok-equations.ensures.sound, tt)
    (nodes c.args.graph.now) c.knows.ensures.sound c.knows.ensures.built_in c.requires.named
    c.args.first c.requires.first (type_is_pattern (plain c.args.tree.now) c.requires.well_made, tt) in
    (all.0, all.1.0)

pub read_type-requires : goal.read_type-requires
read_type-requires c = type_is_pattern (plain c.args.tree.now) c.requires.well_made

pub solve-requires-clause-sound : goal.solve-requires-clause-sound
solve-requires-clause-sound c =
    subst (λ (read : Read). AreEquations (length (nodes c.args.graph.now)) c.args.first read.1)
    (sym c.in_ok-equations.ensures.equations)
    (bounds (goal.at.solve-requires-clause-sound c).In_ok-equations).0

pub solve-requires-clause-ends : goal.solve-requires-clause-ends
solve-requires-clause-ends c = λ number less.
    subst (λ (read : Read). Ends (links c.args.first read.1) number) (sym c.in_ok-equations.ensures.equations)
    (types_end (plain_names c.args.names.now) c.requires.names_sound (plain c.args.tree.now ∷ [])
    (c.in_ok-equations.ensures.sound, tt)
    (nodes c.args.graph.now) c.knows.ensures.sound c.knows.ensures.built_in c.requires.named
    c.args.first c.requires.first number
    (omega (
      arith,
      less,
      length-map c.in_ok-equations.equations.items (option_map plain_equation),
      ap (λ (read : Read). length read.1) c.in_ok-equations.ensures.equations,
    )))

pub returns-clause-stands : goal.returns-clause-stands
returns-clause-stands c = λ more long.
    let old = nodes c.args.graph.now in
    let solution = c.in_ok-solution.ensures.solves in
    let batch = plain_list c.in_ok-solution.solution.formulas in
    let equations = plain_equations c.in_ok-equations.equations.items in
    let many : length equations ≡ length c.in_ok-equations.equations.items =
    length-map c.in_ok-equations.equations.items (option_map plain_equation) in
    let agrees = begins_agree old (old ++ more) more refl in
    let all = old ++ more ++ solution.formulas in
    let type : Written = record {
      scope = declared_by c.args.names.now ∷ [];
      tree = plain c.args.tree.now;
    } in
    subst (λ (root : NodeId). StandsFor (old ++ more ++ batch) root type)
    (sym c.class-root.ensures)
    (class_stands old c.args.first equations (class_in c.in_ok-solution.solution.classes) batch
    solution (c.in_ok-solution.ensures.number ∙ sym many) (old ++ more) long agrees
    (begins_longer old more c.knows.ensures.built_in) c.in_ok-equations.root type
    (subst (λ (read : Read). StandsFor all read.0 type) (sym c.in_ok-equations.ensures.equations)
    (types_stand (plain_names c.args.names.now) c.requires.names_sound
    (plain c.args.tree.now ∷ []) (c.in_ok-equations.ensures.sound, tt)
    old c.knows.ensures.sound c.knows.ensures.built_in c.requires.named
    c.args.first c.requires.first more solution.formulas long
    (solution.number
    ∙ ap (λ (read : Read). length read.1) c.in_ok-equations.ensures.equations)
    (subst (λ (read : Read). Solves all c.args.first read.1) c.in_ok-equations.ensures.equations
    (solution.solves (old ++ more) long agrees))
    ((bounds (goal.at.returns-clause-stands c).In_ok-equations).1, tt)).0))
