use Rattle.std.proofs.Common.{◌∙◌}
use Rattle.std.proofs.lemmas.Result.{IfOk-weaker}
use Rattle.cd_products.specs.QuestionBoxes.{within_node}
use Rattle.cd_forms.proofs.of_sequences.asking.asking.Goals as goal

pub returns : goal.returns
returns c = IfOk-weaker c.within.result _ _
    (λ question same. same ∙ (λ i. within_node c.args.id (record {
      pos = c.new.ensures i;
      neg = c.new-2.ensures i;
    }))) c.within.ensures
