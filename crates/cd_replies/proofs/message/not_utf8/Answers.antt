use Rattle.std.proofs.Common.{◌∙◌, sym, ap, [], ◌∷◌, ◌++◌, codes}
use Rattle.std.specs.Fmt.{decimal}
use Rattle.std.proofs.lemmas.List.{append_assoc}
use Rattle.cd_base.specs.declared.status.Status.TheVariants.{NotUtf8}
use Rattle.cd_replies.proofs.message.not_utf8.Goals as goal

-- the line feed stands after the whole line
pub returns : goal.returns
returns c =
    let said = codes ": not UTF-8 at byte " in
    let number = decimal c.args.byte in
    let parts = append_assoc (c.args.name.now ++ said) number (10 ∷ []) ∙ append_assoc c.args.name.now said (number ++ 10 ∷ []) in
    c.complaint.ensures ∙ ap (λ err. record { status = NotUtf8; out = []; err = err }) (c.in_ok-text.ensures.ok ∙ sym parts)
