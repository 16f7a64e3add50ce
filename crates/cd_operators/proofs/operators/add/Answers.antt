use Rattle.std.proofs.Common.{◌+ℤ◌, ◌∙◌, inl, inr, subst}
use Rattle.std.proofs.lemmas.Result.{err_from_is_err_and}
use Rattle.cd_model.specs.BuiltIns.{INT}
use Rattle.cd_model.specs.Formula.{Graph}
use Rattle.cd_meaning.specs.Integers.{IsResultOf}
use Rattle.cd_meaning.specs.Records.{IsMergeOf}
use Rattle.cd_meaning.specs.Sets.{◌⊆◌, elements_of}
use Rattle.cd_typing.specs.Operators.{AreIntegers}
use Rattle.cd_typing.specs.Typ.{BuiltIn, In}
use Rattle.cd_typing.specs.declared.rule.Rule.TheVariants as rule
use Rattle.cd_empty.specs.Growth.{Grows}
use Rattle.cd_empty.specs.Seen.{graph_of, table_of}
use Rattle.cd_empty.proofs.GrowingWorlds.{and_further}
use Rattle.cd_operators.specs.Misfits.{IsMisfitOfBoth}
use Rattle.cd_operators.proofs.Operated.{sums_least, merges_least}
use Rattle.cd_operators.proofs.Refused.{misfit_of_plus}
use Rattle.cd_operators.proofs.operators.add.Goals as goal
use Rattle.cd_operators.proofs.operators.add.Goals.{After-results}

-- two records
pub returns-then-branch-clause-least : goal.returns-then-branch-clause-least
returns-then-branch-clause-least c =
    let graph = graph_of c.args.world.now in
    let one = elements_of graph c.args.first in
    let two = elements_of graph c.args.second in
    let merges = elements_of (graph_of c.merged.new.world) c.in_ok-merged.field-0 in
    let same = c.in_ok-are_records.ensures.graph in
    let are = c.in_ok-are_records.ensures.within c.if-branch.true in
    let only = subst (λ (g : Graph). merges
    ⊆ IsMergeOf (elements_of g c.args.first) (elements_of g c.args.second))
    same c.in_ok-merged.ensures.only in record {
      gives = inr (
        are.0,
        are.1,
        subst (λ (g : Graph). IsMergeOf (elements_of g c.args.first) (elements_of g c.args.second)
            ⊆ merges) same c.in_ok-merged.ensures.has,
      );
      within = λ wider other result first second gives e element inside. merges_least one two
          (In wider) (In other) (In result) first second gives are.0 e element
          (only e element inside);
    }

-- one is neither a record beside a record nor an integer
pub returns-in_err-integers-clause-misfit : goal.returns-in_err-integers-clause-misfit
returns-in_err-integers-clause-misfit c =
    let graph = graph_of c.args.world.now in
    let table = table_of c.integers.new.world in
    let stop = c.in_err-integers.field-0.0 in
    let is = err_from_is_err_and c.from_residual-in_err-integers.result
    c.from_residual-in_err-integers.ensures.1 in
    rw (is.1, is.2)
    (misfit_of_plus graph table c.args.first c.args.second
    (c.in_ok-are_records.ensures.not_within c.if-branch.false) stop
    (subst (λ (g : Graph). IsMisfitOfBoth g table c.args.first c.args.second (BuiltIn INT) rule.Operand stop)
    c.in_ok-are_records.ensures.graph c.in_err-integers.ensures.misfit))

-- two integers
pub returns-clause-least : goal.returns-clause-least
returns-clause-least c =
    let graph = graph_of c.args.world.now in
    let one = elements_of graph c.args.first in
    let two = elements_of graph c.args.second in
    let results = elements_of (graph_of c.results.new.world) c.in_ok-results.field-0 in
    let same = c.in_ok-are_records.ensures.graph in
    let integers = subst (λ (g : Graph). AreIntegers (elements_of g c.args.first)
    (elements_of g c.args.second)) same c.in_ok-integers.ensures.within in
    let only = subst (λ (g : Graph). results
    ⊆ IsResultOf (λ a b. a +ℤ b) (elements_of g c.args.first) (elements_of g c.args.second))
    (c.in_ok-integers.ensures.graph ∙ same) c.in_ok-results.ensures.results.only in record {
      gives = inl (
        integers,
        subst (λ (g : Graph). IsResultOf (λ a b. a +ℤ b) (elements_of g c.args.first)
            (elements_of g c.args.second) ⊆ results)
            (c.in_ok-integers.ensures.graph ∙ same) c.in_ok-results.ensures.results.has,
      );
      within = λ wider other result first second gives e element inside. sums_least one two
          (In wider) (In other) (In result) first second gives integers.0 e element
          (only e element inside);
    }

has_grown : (c : After-results) → Grows c.args.world.now c.results.new.world
has_grown c = and_further c.args.world.now c.are_records.new.world c.results.new.world
    c.in_ok-are_records.ensures.grows
    (and_further c.are_records.new.world c.integers.new.world c.results.new.world
    c.in_ok-integers.ensures.grows c.results.ensures.grows)

pub returns-in_err-results-clause-grows : goal.returns-in_err-results-clause-grows
returns-in_err-results-clause-grows c =
    has_grown (goal.at.returns-in_err-results-clause-grows c).After-results

pub returns-clause-grows : goal.returns-clause-grows
returns-clause-grows c = has_grown (goal.at.returns-clause-grows c).After-results
