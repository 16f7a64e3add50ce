use Rattle.std.proofs.Common.{rules, sym, ◌∙◌}
use Rattle.std.proofs.lemmas.Result.{IfOk-weaker}
use Rattle.cd_graph.specs.PlainFormula.{plain}
use Rattle.cd_filter.specs.Inner.Forming.{formula_in}
use Rattle.cd_filter.proofs.Simpler.{same_form, one_is_all, is_only}
use Rattle.cd_filter.proofs.combining.union_of.Goals as goal

pub returns-then-one_is_all : goal.returns-then-one_is_all
returns-then-one_is_all c = one_is_all (formula_in c.args.rows.now) c.args.numbers.now
    (plain c.all.result) (sym c.one_is_all.ensures ∙ c.if-one_is_all.true) c.all.ensures

pub returns-in-len1 : goal.returns-in-len1
returns-in-len1 c = IfOk-weaker c.formula_in.result _ _
    (λ union. is_only (formula_in c.args.rows.now) c.args.numbers.now (plain union)
    c.in-len1.len_at_least c.in-len1.len_below)
    c.formula_in.ensures

pub returns-in_ok-of-in_default : goal.returns-in_ok-of-in_default
returns-in_ok-of-in_default c = same_form _ _ (search rules)
