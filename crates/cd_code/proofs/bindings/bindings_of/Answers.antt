use Rattle.std.proofs.Common.{◌≡◌, map, ap, ◌∙◌}
use Rattle.std.proofs.lemmas.Result.{IfOk-weaker}
use Rattle.cd_syntax.specs.PlainTree.{plain}
use Rattle.cd_evaluation.proofs.NamesAreLabels.{names_are_labels}
use Rattle.cd_names.specs.ProgramFaults.{names_of}
use Rattle.cd_code.specs.Inner.Numbered.{numbered}
use Rattle.cd_code.proofs.NamesBound.{name_of, each_label, bound_names}
use Rattle.cd_code.proofs.bindings.bindings_of.Goals as goal
use Rattle.cd_code.proofs.bindings.bindings_of.Goals.{After-as_slice}

are_bound : (c : After-as_slice) → map name_of c.as_slice.result.now ≡ names_of (plain c.args.pattern.now)
are_bound c = bound_names c.new-bound.result.items c.check_variables.new.bound.items c.as_slice.result.now (plain c.args.pattern.now)
    c.new-bound.ensures.items c.in_ok-check_variables.ensures.bound c.as_slice.ensures.value

-- the names that a pattern binds are labels
pub bind_all-requires : goal.bind_all-requires
bind_all-requires c = each_label c.as_slice.result.now (names_of (plain c.args.pattern.now))
    (are_bound (goal.at.bind_all-requires c).After-as_slice) (names_are_labels (plain c.args.pattern.now) c.requires)

pub returns-clause-bound : goal.returns-clause-bound
returns-clause-bound c = IfOk-weaker c.bind_all.result _ _
    (λ all is. is ∙ ap (numbered c.args.variables.now) (are_bound (goal.at.returns-clause-bound c).After-as_slice))
    c.bind_all.ensures.bound
