use Rattle.std.proofs.Common.{◌≡◌, Some, ◌<◌, ℕ, get_or, map, length, subst, sym, ap, ◌∙◌, refl}
use Rattle.std.proofs.lemmas.List.{length-map}
use Rattle.std.specs.Option.{option_map}
use Rattle.cd_graph.specs.Nodes.{nodes}
use Rattle.cd_graph.specs.PlainFormula.{plain}
use Rattle.cd_shared.specs.Equation.{plain_equation, plain_equations}
use Rattle.cd_resolve.specs.Inner.Solves.{IsEquation}
use Rattle.cd_resolve.proofs.EachOne.{each_got}
use Rattle.cd_resolve.proofs.Filling.{made_read, one_step}
use Rattle.cd_resolve.proofs.solve.fill.Goals as goal

pub put_made-requires-clause-sound : goal.put_made-requires-clause-sound
put_made-requires-clause-sound c =
    let number = get_or c.args.order.now c.loop-number.number-index 0 in
    let long : length (plain_equations c.args.equations.now) ≡ length c.loop-number.formulas.items =
    length-map c.args.equations.now (option_map plain_equation) ∙ sym c.loop-number.invariant.length in
    λ is same. subst (λ (count : ℕ). IsEquation (length (nodes c.args.old.now)) c.args.first count is) long
    (c.requires.sound.each number is
    (made_read (option_map plain_equation) c.args.equations.now number c.index-equations-number.result
    (each_got (λ number. number < length c.args.equations.now) c.args.order.now c.loop-number.number-index 0
    c.loop-number-test.true c.requires.known)
    c.index-equations-number.is ∙ ap Some same))

pub loop-number-preserved : goal.loop-number-preserved
loop-number-preserved c =
    let old = nodes c.args.old.now in
    let all = plain_equations c.args.equations.now in
    let number = get_or c.args.order.now c.loop-number.number-index 0 in
    record {
      length = c.in_ok-formulas.ensures.length ∙ c.loop-number.invariant.length;
      same = one_step old c.args.first all c.args.order.now c.loop-number.number-index number
          (option_map plain_equation c.index-equations-number.result) (map plain c.loop-number.formulas.items) _
          c.loop-number-test.true refl
          (made_read (option_map plain_equation) c.args.equations.now number c.index-equations-number.result
          (each_got (λ number. number < length c.args.equations.now) c.args.order.now c.loop-number.number-index 0
          c.loop-number-test.true c.requires.known)
          c.index-equations-number.is)
          c.in_ok-formulas.ensures.made
          ∙ c.loop-number.invariant.same;
    }
