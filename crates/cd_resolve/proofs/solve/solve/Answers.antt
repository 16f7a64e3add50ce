use Rattle.std.proofs.Common.{map, sym, subst, ap, ◌∙◌, List, ℕ, length, arith}
use Rattle.std.proofs.lemmas.List.{length-map}
use Rattle.std.specs.Option.{option_map}
use Rattle.cd_graph.specs.Nodes.{nodes}
use Rattle.cd_graph.specs.PlainFormula.{plain, plain_list}
use Rattle.cd_shared.specs.Equation.{plain_equation, plain_equations}
use Rattle.cd_shared.specs.Shared.{class_in}
use Rattle.cd_resolve.specs.Inner.Order.{Ends}
use Rattle.cd_resolve.specs.Inner.Solves.{IsSolution}
use Rattle.cd_resolve.proofs.SharedSolutions.{shared_sound, shared_links, shared_length, is_solution}
use Rattle.cd_resolve.proofs.Solved.{IsSolved, is_solved}
use Rattle.cd_resolve.proofs.solve.solve.Goals as goal

pub formulas_of-requires-clause-sound : goal.formulas_of-requires-clause-sound
formulas_of-requires-clause-sound c = shared_sound (class_in c.in_ok-shared.shared.classes)
    c.args.first (plain_equations c.args.equations.items)
    (plain_equations c.in_ok-shared.shared.equations.items) c.in_ok-shared.ensures
    (length (nodes c.args.old.now)) c.requires.sound

pub formulas_of-requires-clause-ends : goal.formulas_of-requires-clause-ends
formulas_of-requires-clause-ends c = λ number less.
    let class = class_in c.in_ok-shared.shared.classes in
    let equations = plain_equations c.args.equations.items in
    let shared = plain_equations c.in_ok-shared.shared.equations.items in
    let as_many = shared_length class c.args.first equations shared c.in_ok-shared.ensures in
    subst (λ (rows : List (List ℕ)). Ends rows number)
    (sym (shared_links class c.args.first equations shared c.in_ok-shared.ensures))
    (c.requires.ends number
    (omega (
      arith,
      less,
      as_many,
      length-map c.args.equations.items (option_map plain_equation),
      length-map c.in_ok-shared.shared.equations.items (option_map plain_equation),
    )))

-- the formulas are those that the shared equations give
solved : (c : goal.In_ok-of)
    → IsSolved (nodes c.args.old.now) c.args.first
    (plain_equations c.in_ok-shared.shared.equations.items) (plain_list c.in_ok-of.field-0)
solved c =
    let shared = plain_equations c.in_ok-shared.shared.equations.items in
    subst (IsSolved (nodes c.args.old.now) c.args.first shared) (sym c.in_ok-of.ensures)
    (is_solved (nodes c.args.old.now) c.args.first c.requires.old shared
    (shared_sound (class_in c.in_ok-shared.shared.classes) c.args.first
    (plain_equations c.args.equations.items) shared c.in_ok-shared.ensures
    (length (nodes c.args.old.now)) c.requires.sound) c.len-nodes.ensures.sound
    (map plain c.in_ok-formulas.formulas.items) c.in_ok-formulas.ensures)

pub returns-clause-number : goal.returns-clause-number
returns-clause-number c = (solved c).number
    ∙ shared_length (class_in c.in_ok-shared.shared.classes) c.args.first
    (plain_equations c.args.equations.items)
    (plain_equations c.in_ok-shared.shared.equations.items) c.in_ok-shared.ensures
    ∙ length-map c.args.equations.items (option_map plain_equation)

pub returns-clause-formulas : goal.returns-clause-formulas
returns-clause-formulas c = (solved c).formulas

pub returns-clause-solves : goal.returns-clause-solves
returns-clause-solves c =
    let class = class_in c.in_ok-shared.shared.classes in
    let equations = plain_equations c.args.equations.items in
    subst (IsSolution (nodes c.args.old.now) c.args.first equations class)
    (sym c.in_ok-of.ensures)
    (is_solution class c.args.first equations
    (plain_equations c.in_ok-shared.shared.equations.items) c.in_ok-shared.ensures
    (nodes c.args.old.now) c.requires.old c.len-nodes.ensures.sound c.requires.sound (λ number less. c.requires.ends number (omega (arith, less, length-map c.args.equations.items (option_map plain_equation))))
    (map plain c.in_ok-formulas.formulas.items) c.in_ok-formulas.ensures)
