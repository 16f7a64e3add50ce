use Rattle.std.proofs.Common.{◌≡◌, List, [], ◌∷◌, ◌++◌, map, length, refl, sym, subst, ap, ◌∙◌, arith}
use Rattle.std.proofs.lemmas.List.{length-map, append-nil}
use Rattle.std.specs.Option.{option_map}
use Rattle.cd_sets.specs.declared.node_id.NodeId.{NodeId}
use Rattle.cd_syntax.specs.TypeTree.{Tree, trees_of}
use Rattle.cd_syntax.specs.WellMadePattern.{IsWellMadePattern}
use Rattle.cd_graph.specs.PlainFormula.{plain_list}
use Rattle.cd_graph.specs.Nodes.{nodes}
use Rattle.cd_model.specs.AllOf.{AllOf}
use Rattle.cd_model.specs.Formula.{Graph}
use Rattle.cd_model.specs.StandsFor.{StandsFor}
use Rattle.cd_model.specs.Written.{Written}
use Rattle.cd_resolve.specs.Named.{plain_names, declared_by}
use Rattle.cd_resolve.specs.Wanted.{wanted_tree, wanted_type, Pairwise}
use Rattle.cd_shared.specs.Equation.{Equations, plain_equation, plain_equations}
use Rattle.cd_shared.specs.Shared.{class_in}
use Rattle.cd_resolve.specs.Inner.Links.{links}
use Rattle.cd_resolve.specs.Inner.Order.{Ends}
use Rattle.cd_resolve.specs.Inner.Solves.{AreEquations, Solves, IsNode}
use Rattle.cd_resolve.specs.Inner.Walk.{walked_trees}
use Rattle.cd_resolve.proofs.NodesNamed.{list_of}
use Rattle.cd_resolve.proofs.Resolving.{HasNoFault, seen_by, types_bounds, types_end, types_stand}
use Rattle.cd_resolve.proofs.Resolving.{begins_agree, begins_longer}
use Rattle.cd_resolve.proofs.SharedStanding.{classes_stand}
use Rattle.cd_resolve.proofs.Wanting.{of_trees, types_of_trees}
use Rattle.cd_resolve.proofs.wanted.resolve_types.Goals as goal
use Rattle.cd_resolve.proofs.wanted.resolve_types.Goals.{In_ok-equations}

abbrev Read : Type 0
Read = List NodeId × Equations

abbrev trees : In_ok-equations → List Tree
trees c = map wanted_tree c.args.wanted.now

abbrev read : In_ok-equations → Read
read c = walked_trees c.len-first.result (list_of (plain_names c.args.names.now)) [] (trees_of (trees c)) [] []

no_fault : (c : In_ok-equations) → AllOf (HasNoFault (declared_by c.args.names.now)) (trees c)
no_fault c = of_trees (HasNoFault (declared_by c.args.names.now)) c.args.wanted.now c.requires.sound

-- the equations are bounded, and the types' nodes are among them
bounds : (c : In_ok-equations) → AreEquations (length (nodes c.args.graph.now)) c.len-first.result (read c).1
    × AllOf (IsNode (length (nodes c.args.graph.now)) c.len-first.result (length (read c).1)) (read c).0
bounds c = types_bounds (plain_names c.args.names.now) c.requires.names_sound (trees c) (no_fault c)
    (nodes c.args.graph.now) c.knows.ensures.sound c.knows.ensures.built_in c.requires.named
    c.len-first.result (omega (arith, c.len-first.ensures.count))
    (of_trees IsWellMadePattern c.args.wanted.now c.requires.well_made)

pub solve-requires-clause-sound : goal.solve-requires-clause-sound
solve-requires-clause-sound c =
    subst (λ (read : Read). AreEquations (length (nodes c.args.graph.now)) c.len-first.result read.1)
    (sym c.in_ok-equations.ensures)
    (bounds (goal.at.solve-requires-clause-sound c).In_ok-equations).0

pub solve-requires-clause-ends : goal.solve-requires-clause-ends
solve-requires-clause-ends c = λ number less.
    subst (λ (read : Read). Ends (links c.len-first.result read.1) number) (sym c.in_ok-equations.ensures)
    (types_end (plain_names c.args.names.now) c.requires.names_sound (map wanted_tree c.args.wanted.now)
    (no_fault (goal.at.solve-requires-clause-ends c).In_ok-equations)
    (nodes c.args.graph.now) c.knows.ensures.sound c.knows.ensures.built_in c.requires.named
    c.len-first.result (omega (arith, c.len-first.ensures.count)) number
    (omega (
      arith,
      less,
      length-map c.in_ok-equations.equations.items (option_map plain_equation),
      ap (λ (read : Read). length read.1) c.in_ok-equations.ensures,
    )))

pub returns-clause-stand : goal.returns-clause-stand
returns-clause-stand c =
    let at = (goal.at.returns-clause-stand c).In_ok-equations in
    let solution = c.in_ok-solution.ensures.solves in
    let class = class_in c.in_ok-solution.solution.classes in
    let batch = plain_list c.in_ok-solution.solution.formulas in
    let old = nodes c.args.graph.now in
    let equations = plain_equations c.in_ok-equations.equations.items in
    let many : length equations ≡ length c.in_ok-equations.equations.items =
    length-map c.in_ok-equations.equations.items (option_map plain_equation) in
    let types = map (wanted_type (declared_by c.args.names.now ∷ [])) c.args.wanted.now in
    let long : length (old ++ []) ≡ c.len-first.result =
    ap length (append-nil old) ∙ sym c.len-first.ensures.count in
    let agrees = begins_agree old (old ++ []) [] refl in
    subst (λ (graph : Graph). Pairwise (StandsFor (graph ++ batch)) c.in_ok-roots.roots.items types)
    (append-nil old)
    (subst (λ (roots : List NodeId). Pairwise (StandsFor (old ++ [] ++ batch)) roots types)
    (sym (c.in_ok-roots.ensures ∙ ap (map class) c.as_slice.ensures.value))
    (classes_stand old c.len-first.result equations class batch solution
    (c.in_ok-solution.ensures.number ∙ sym many) (old ++ []) long agrees
    (begins_longer old [] c.knows.ensures.built_in) c.in_ok-equations.roots.items types
    (subst (λ (types : List Written).
    Pairwise (StandsFor (old ++ [] ++ solution.formulas)) c.in_ok-equations.roots.items types)
    (types_of_trees (declared_by c.args.names.now) c.args.wanted.now)
    (subst (λ (read : Read). Pairwise (StandsFor (old ++ [] ++ solution.formulas)) read.0
    (map (seen_by (declared_by c.args.names.now)) (trees at)))
    (sym c.in_ok-equations.ensures)
    (types_stand (plain_names c.args.names.now) c.requires.names_sound (trees at) (no_fault at)
    old c.knows.ensures.sound c.knows.ensures.built_in c.requires.named
    c.len-first.result (omega (arith, c.len-first.ensures.count)) [] solution.formulas long
    (solution.number ∙ ap (λ (read : Read). length read.1) c.in_ok-equations.ensures)
    (subst (λ (read : Read). Solves (old ++ [] ++ solution.formulas) c.len-first.result read.1)
    c.in_ok-equations.ensures (solution.solves (old ++ []) long agrees))
    (bounds at).1)))))
