use Rattle.std.proofs.Common.{◌∙◌, ◌+◌, ◌++◌, [], ◌∷◌, ap, take, subst, sym, List}
use Rattle.std.proofs.lemmas.List.{take_more}
use Rattle.cd_sets.specs.declared.node_id.NodeId.{NodeId}
use Rattle.cd_forms.specs.Inner.Letters.{AreLetters}
use Rattle.cd_forms.proofs.LettersNumbered.{one_more}
use Rattle.cd_forms.proofs.letters.Letters.nodes_of.Goals as goal

-- one character more
pub loop-c-preserved : goal.loop-c-preserved
loop-c-preserved c =
    let text = c.args.text.now in
    let index = c.loop-c.c-index in
    let letters = c.number.new.self in
    let ids = c.loop-c.ids.items ++ c.in_ok-node_after.field-0 ∷ [] in
    let longer = take_more text index c.c-item.result c.loop-c-test.true
    ∙ ap (λ one. take index text ++ one ∷ []) (sym c.c-item.is) in
    subst (λ all. AreLetters c.args.first letters (take (index + 1) text) all)
    (sym {A = List NodeId} c.in_ok-push.ensures.items)
    (subst (λ some. AreLetters c.args.first letters some ids) (sym longer)
    (one_more c.args.first c.loop-c.self letters c.c-item.result c.in_ok-number.ensures.grows
    (take index text) c.loop-c.ids.items c.loop-c.invariant c.in_ok-number.number
    c.in_ok-number.ensures.found c.in_ok-node_after.field-0 c.in_ok-node_after.ensures))
