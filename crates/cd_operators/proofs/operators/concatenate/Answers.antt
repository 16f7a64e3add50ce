use Rattle.std.proofs.Common.{subst}
use Rattle.std.proofs.lemmas.Result.{err_from_is_err_and}
use Rattle.cd_model.specs.Formula.{Graph}
use Rattle.cd_meaning.specs.Sequences.{IsSequence, IsJoinOf}
use Rattle.cd_meaning.specs.Sets.{◌⊆◌, elements_of}
use Rattle.cd_typing.specs.Typ.{In}
use Rattle.cd_typing.specs.declared.rule.Rule.TheVariants as rule
use Rattle.cd_typing.proofs.Subsets.{through}
use Rattle.cd_least.proofs.Monotone.{joins_grow}
use Rattle.cd_empty.specs.Seen.{graph_of, table_of}
use Rattle.cd_operators.proofs.Refused.{misfit_of_both}
use Rattle.cd_operators.proofs.operators.concatenate.Goals as goal

pub returns-in_err-need_both-clause-misfit : goal.returns-in_err-need_both-clause-misfit
returns-in_err-need_both-clause-misfit c =
    let graph = graph_of c.args.world.now in
    let is = err_from_is_err_and c.from_residual.result c.from_residual.ensures.1 in
    rw (is.1, is.2)
    (misfit_of_both graph (table_of c.need_both.new.world)
    (elements_of graph c.args.tools.now.sequences) c.args.first c.args.second IsSequence rule.Sequence
    c.requires.tools.all_sequences c.requires.tools.are_sequences c.in_err-need_both.field-0.0
    c.in_err-need_both.ensures.misfit)

pub returns-clause-least : goal.returns-clause-least
returns-clause-least c =
    let graph = graph_of c.args.world.now in
    let one = elements_of graph c.args.first in
    let two = elements_of graph c.args.second in
    let sequences = elements_of graph c.args.tools.now.sequences in
    let only = subst (λ (g : Graph). elements_of (graph_of c.joined.new.world) c.in_ok-joined.field-0
    ⊆ IsJoinOf (elements_of g c.args.first) (elements_of g c.args.second))
    c.in_ok-need_both.ensures.graph c.in_ok-joined.ensures.only in record {
      gives = (
        through one sequences IsSequence c.in_ok-need_both.ensures.first
            c.requires.tools.are_sequences,
        through two sequences IsSequence c.in_ok-need_both.ensures.second
            c.requires.tools.are_sequences,
        subst (λ (g : Graph). IsJoinOf (elements_of g c.args.first) (elements_of g c.args.second)
            ⊆ elements_of (graph_of c.joined.new.world) c.in_ok-joined.field-0)
            c.in_ok-need_both.ensures.graph c.in_ok-joined.ensures.has,
      );
      within = λ wider other result first second gives e element inside. gives.2 e element
          (joins_grow one two (In wider) (In other) first second e element (only e element inside));
    }
