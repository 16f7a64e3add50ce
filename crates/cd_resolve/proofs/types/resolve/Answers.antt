use Rattle.std.proofs.Common.{◌≡◌, ◌++◌, length, sym, subst, ap, ◌∙◌, arith}
use Rattle.std.proofs.lemmas.List.{length-map}
use Rattle.std.specs.Option.{option_map}
use Rattle.cd_syntax.specs.PlainTree.{plain_declarations}
use Rattle.cd_graph.specs.Nodes.{nodes}
use Rattle.cd_graph.specs.PlainFormula.{plain_list}
use Rattle.cd_model.specs.BuiltIns.{built_ins}
use Rattle.cd_model.specs.Formula.{Graph}
use Rattle.cd_resolve.specs.Named.{Names, AreNamed, plain_names}
use Rattle.cd_shared.specs.Equation.{Equations, plain_equation, plain_equations}
use Rattle.cd_shared.specs.Shared.{class_in}
use Rattle.cd_resolve.specs.Inner.Links.{links}
use Rattle.cd_resolve.specs.Inner.Order.{Ends}
use Rattle.cd_resolve.specs.Inner.Solves.{AreEquations, AgreesWith, Solves}
use Rattle.cd_resolve.proofs.Resolving.{declarations_bounds, declarations_end, declarations_stand, begins_agree}
use Rattle.cd_resolve.proofs.SharedStanding.{named_too}
use Rattle.cd_resolve.proofs.TypesArePatterns.{declarations_are_patterns}
use Rattle.cd_resolve.proofs.types.resolve.Goals as goal

pub solve-requires-clause-sound : goal.solve-requires-clause-sound
solve-requires-clause-sound c =
    subst (λ (old : Graph). AreEquations (length old) c.args.first (plain_equations c.in_ok-equations.equations.items))
    (sym c.in_ok-new.ensures)
    (subst (λ (equations : Equations). AreEquations 14 c.args.first equations) (sym c.in_ok-equations.ensures.equations)
    (declarations_bounds (plain_declarations c.args.declared.now) c.in_ok-equations.ensures.sound c.args.first
    c.requires.built_ins (declarations_are_patterns (plain_declarations c.args.declared.now) c.requires.well_made)))

pub solve-requires-clause-ends : goal.solve-requires-clause-ends
solve-requires-clause-ends c = λ number less.
    subst (λ (equations : Equations). Ends (links c.args.first equations) number)
    (sym c.in_ok-equations.ensures.equations)
    (declarations_end (plain_declarations c.args.declared.now) c.in_ok-equations.ensures.sound c.args.first
    c.requires.built_ins number
    (omega (
      arith,
      less,
      length-map c.in_ok-equations.equations.items (option_map plain_equation),
      ap length c.in_ok-equations.ensures.equations,
    )))

pub returns-clause-stand : goal.returns-clause-stand
returns-clause-stand c = λ graph long begins.
    let solution = c.in_ok-solution.ensures.solves in
    let batch = plain_list c.in_ok-solution.solution.formulas in
    let equations = plain_equations c.in_ok-equations.equations.items in
    let many : length equations ≡ length c.in_ok-equations.equations.items =
    length-map c.in_ok-equations.equations.items (option_map plain_equation) in
    let agrees = subst (λ (old : Graph). AgreesWith old graph) (sym c.in_ok-new.ensures)
    (begins_agree built_ins graph begins.0 begins.1) in
    named_too (nodes c.in_ok-new.field-0) c.args.first equations
    (class_in c.in_ok-solution.solution.classes) batch solution
    (c.in_ok-solution.ensures.number ∙ sym many) graph long agrees begins
    (plain_names c.in_ok-equations.names)
    (subst (λ (names : Names). AreNamed (graph ++ solution.formulas) names)
    (sym c.in_ok-equations.ensures.names)
    (declarations_stand (plain_declarations c.args.declared.now) c.in_ok-equations.ensures.sound
    c.args.first c.requires.built_ins graph solution.formulas long begins
    (solution.number ∙ ap length c.in_ok-equations.ensures.equations)
    (subst (λ (equations : Equations). Solves (graph ++ solution.formulas) c.args.first equations)
    c.in_ok-equations.ensures.equations (solution.solves graph long agrees))))
