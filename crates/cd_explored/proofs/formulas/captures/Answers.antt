use Rattle.std.proofs.Common.{◌≡◌, List, ℕ, subst, sym, ap, ◌∙◌}
use Rattle.std.proofs.lemmas.Result.{IfOk-weaker}
use Rattle.std.specs.List.{All, Contains}
use Rattle.std.specs.declared.alloc.Global.{Global}
use Rattle.std.specs.declared.vec.Vec.{Vec}
use Rattle.cd_model.specs.AllOf.{AllOf}
use Rattle.cd_graph.specs.PlainFormula.{plain}
use Rattle.cd_explored.specs.declared.givers.Giver.{Giver}
use Rattle.cd_explored.specs.declared.step.Step.{Step}
use Rattle.cd_explored.specs.Inner.Givers.{givers_of}
use Rattle.cd_explored.specs.Inner.Made.{IsUnion}
use Rattle.cd_explored.specs.Inner.Plan.{plain_plan, IsSoundStep}
use Rattle.cd_explored.specs.Inner.Reached.{rows_of, ReachesBy}
use Rattle.cd_explored.proofs.GiversFound.{sound_givers}
use Rattle.cd_explored.proofs.formulas.captures.Goals as goal

pub union_of-requires-clause-constants : goal.union_of-requires-clause-constants
union_of-requires-clause-constants c =
    let steps = c.args.plan.now.explored.now.steps.items in
    subst (AllOf (λ giver. IsSoundStep giver.step))
    (sym (c.as_slice-2.ensures.value ∙ c.in_ok-givers.ensures
    ∙ ap (λ (all : List (Vec Step Global)). givers_of c.args.variable (rows_of all) c.as_slice.result.now)
    c.as_slice-steps.ensures.value))
    (sound_givers c.args.variable (rows_of steps) c.requires.constants c.as_slice.result.now)

pub returns-clause-made : goal.returns-clause-made
returns-clause-made c =
    let plan = plain_plan c.args.plan.now in
    let steps = c.args.plan.now.explored.now.steps.items in
    let numbers = c.in_ok-numbers.numbers.items in
    let variable = c.args.variable in
    let same = c.as_slice-steps.ensures.value in
    let found : c.as_slice-2.result.now ≡ givers_of variable (rows_of steps) numbers =
    c.as_slice-2.ensures.value ∙ c.in_ok-givers.ensures
    ∙ ap (λ (all : List (Vec Step Global)). givers_of variable (rows_of all) c.as_slice.result.now) same
    ∙ ap (givers_of variable (rows_of steps)) c.as_slice.ensures.value in
    IfOk-weaker c.union_of.result _ _
    (λ is union. (
      numbers,
      subst (λ (all : List (Vec Step Global)). All (ReachesBy (rows_of all) variable c.args.number) numbers)
          same c.in_ok-numbers.ensures.sound,
      subst (λ (all : List (Vec Step Global)). (other : ℕ)
          → ReachesBy (rows_of all) variable c.args.number other → Contains numbers other)
          same c.in_ok-numbers.ensures.whole,
      subst (λ (givers : List Giver). IsUnion plan c.union_of.new.wants variable givers (plain is)) found union,
    ))
    c.union_of.ensures.made
