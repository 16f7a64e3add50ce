use Rattle.std.proofs.Common.{List, ◌++◌, ap, ◌∙◌, arith}
use Rattle.std.specs.Prelude.{codes}
use Rattle.std.proofs.lemmas.Result.{on_ok_weaker}
use Rattle.cd_model.specs.Canonical.{Text, joined}
use Rattle.cd_elements.specs.Elements.{table}
use Rattle.cd_elements.specs.Inner.Rows.{function_rest}
use Rattle.cd_elements.proofs.Looks.{pairs_written}
use Rattle.cd_elements.proofs.Marks.{function_characters}
use Rattle.cd_elements.proofs.Writes.{begun}
use Rattle.cd_elements.proofs.text.write_function.Goals as goal

pub returns : goal.returns
returns c =
    let all = table c.args.elements.now in
    let pairs = c.args.pairs.now in
    let text = ap (λ (texts : List Text). codes "fun{" ++ joined (codes "; ") texts ++ codes "}") (pairs_written all pairs) in
    let left = c.in_ok-push_function.ensures all in
    on_ok_weaker c.push_str.result (λ output.
    begun all _ _ c.args.tasks.now _ (codes "fun{") (function_rest all pairs) c.push_function.new.tasks text (omega arith) left
    (output ∙ ap (λ opening. c.args.output.now ++ opening) function_characters)) c.push_str.ensures
