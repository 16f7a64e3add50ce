use Rattle.std.proofs.Common.{◌≡◌, ◌<◌, List, Option, Some, length, refl, sym, ap, subst, ◌∙◌}
use Rattle.std.proofs.Common.{arith, set, ◌+◌}
use Rattle.std.specs.Option.{option_map, MatchOption}
use Rattle.std.proofs.lemmas.List.{length-map, length-set}
use Rattle.cd_shared.specs.Equation.{Equation, Is, plain_equation, plain_equations}
use Rattle.cd_shared.specs.Shared.{class_in, renamed_equation}
use Rattle.cd_shared.specs.declared.equation.Equation.{Equation as CodeEquation}
use Rattle.cd_graph.specs.PlainFormula.{plain}
use Rattle.cd_graph.specs.declared.formula.Formula.{Formula as CodeFormula}
use Rattle.cd_shared.proofs.GoneOver.{GoneOver, none_yet, one_put, one_kept, all_gone, made_there}
use Rattle.cd_shared.proofs.renamed.rename.Goals as goal
use Rattle.cd_shared.proofs.renamed.rename.Goals.{in-Some, in_default}

pub loop-number-init : goal.loop-number-init
loop-number-init c = record {
  many = refl;
  gone = none_yet (option_map (renamed_equation (class_in c.args.classes.now)))
      (plain_equations c.args.equations.now.items) (plain_equations c.args.equations.now.items);
}

-- what the formula that is changed says of its equation
abbrev Changed : (Option Equation → Option Equation) → Option Equation → Option CodeFormula → Type 0
Changed rename equation found = MatchOption found (rename equation ≡ equation)
    (λ image. rename equation ≡ Some (Is (plain image)))

many_plain : (some : List (Option CodeEquation)) → length (plain_equations some) ≡ length some
many_plain some = length-map some (option_map plain_equation)

pub loop-number-preserved : goal.loop-number-preserved
loop-number-preserved c =
    let old = plain_equations c.args.equations.now.items in
    let now = plain_equations c.loop-number.equations.items in
    let number = c.loop-number.number in
    let rename = option_map (renamed_equation (class_in c.args.classes.now)) in
    let equation = option_map plain_equation c.index.result.now in
    let many = c.loop-number.invariant.many in
    let below : number < length c.loop-number.equations.items =
    omega (arith, c.loop-number-test.true, many) in
    let there = made_there (option_map plain_equation) c.loop-number.equations.items number
    c.index.result.now below c.index.ensures in
    let changed : Changed rename equation c.in_ok-formula.field-0 = c.in_ok-formula.ensures in
    elim c.match-branch-2.branch [
      | in-Some w ↦
          let image = Some (Is (plain w.in-Some.formula)) in
          let after : plain_equations c.match-branch-2.equations.items ≡ set now number image =
          ap (λ all. plain_equations all.items) w.equations-is ∙ w.put.ensures in
          record {
            many = sym (many_plain c.match-branch-2.equations.items) ∙ ap length after
                ∙ length-set now number image ∙ many_plain c.loop-number.equations.items ∙ many;
            gone = subst (λ all. GoneOver rename old all (number + 1)) (sym after)
                (one_put rename old now number equation image
                (omega (arith, below, many_plain c.loop-number.equations.items)) there
                (subst (Changed rename equation) w.in-Some.is changed)
                c.loop-number.invariant.gone);
          }
      | in_default w ↦ record {
        many = ap (λ all. length all.items) w.equations-is ∙ many;
        gone = subst (λ all. GoneOver rename old (plain_equations all.items) (number + 1))
            (sym w.equations-is)
            (one_kept rename old now number equation there
            (subst (Changed rename equation) w.in_default.is changed)
            c.loop-number.invariant.gone);
      }
    ]

pub returns : goal.returns
returns c = all_gone (option_map (renamed_equation (class_in c.args.classes.now)))
    (plain_equations c.args.equations.now.items) (plain_equations c.loop-number.equations.items)
    c.loop-number.number
    (let many = c.loop-number.invariant.many in
    omega (
      arith,
      c.loop-number-test.false,
      many,
      length-map c.args.equations.now.items (option_map plain_equation),
    ))
    c.loop-number.invariant.gone
