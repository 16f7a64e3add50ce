use Rattle.std.proofs.Common.{◌∙◌, sym, ap, [], ◌∷◌, codes}
use Rattle.std.proofs.lemmas.List.{append_assoc}
use Rattle.cd_base.specs.declared.status.Status.TheVariants.{NotInput}
use Rattle.cd_replies.proofs.message.not_input.Goals as goal

-- the line feed stands after the whole line
pub returns : goal.returns
returns c =
    c.complaint.ensures ∙ ap (λ err. record { status = NotInput; out = []; err = err }) (c.in_ok-text.ensures.ok ∙ sym (append_assoc c.args.document.now (codes ": not of the input type") (10 ∷ [])))
