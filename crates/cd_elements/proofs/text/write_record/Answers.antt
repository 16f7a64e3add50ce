use Rattle.std.proofs.Common.{List, ◌++◌, ap, arith}
use Rattle.std.specs.Prelude.{codes}
use Rattle.std.proofs.lemmas.Result.{on_ok_weaker}
use Rattle.cd_model.specs.Canonical.{Text, joined}
use Rattle.cd_elements.specs.Elements.{table}
use Rattle.cd_elements.specs.Inner.Rows.{record_rest}
use Rattle.cd_elements.proofs.Looks.{fields_written}
use Rattle.cd_elements.proofs.Writes.{begun}
use Rattle.cd_elements.proofs.text.write_record.Goals as goal

pub returns : goal.returns
returns c =
    let all = table c.args.elements.now in
    let parts = c.args.parts.now in
    let text = ap (λ (fields : List Text). codes "{" ++ joined (codes "; ") fields ++ codes "}") (fields_written all parts) in
    let left = c.in_ok-push_record.ensures all in
    on_ok_weaker c.push.result (begun all _ _ _ _ (codes "{") (record_rest all parts) _ text (omega arith) left) c.push.ensures
