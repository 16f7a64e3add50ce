use Rattle.std.proofs.Common.{◌≡◌, ◌∙◌, sym, ap}
use Rattle.cd_model.specs.Thing.{Thing}
use Rattle.cd_graph.specs.PlainFormula.{plain}
use Rattle.cd_matching.specs.Sequences.{thing_of}
use Rattle.cd_meaning.specs.Sets.{elements_of}
use Rattle.cd_empty.specs.Seen.{graph_of}
use Rattle.cd_forms.specs.Inner.Chains.{IsTextBefore}
use Rattle.cd_model.specs.Leaves.{one_integer, one_character, one_atom}
use Rattle.cd_forms.proofs.ConstantsHold.{text_is_before, before_is_text, integer_is}
use Rattle.cd_forms.proofs.PutHolds.{put_has, put_only, narrower, wider}
use Rattle.cd_model.proofs.ReadHeads.{integer_holds, character_holds, atom_holds}
use Rattle.cd_model.specs.Types.{no_closure}
use Rattle.cd_forms.proofs.constants.constant.Goals as goal

pub returns-in_ok-integer-in-Int-clause-has : goal.returns-in_ok-integer-in-Int-clause-has
returns-in_ok-integer-in-Int-clause-has c = let graph = graph_of c.args.world.now in
    put_has graph (graph_of c.put.new.world) (plain c.in_ok-integer-in-Int.field-0)
    (one_integer c.in-Int.n)
    (c.in_ok-integer-in-Int.ensures
    ∙ ap one_integer (integer_is c.args.constant.now c.in-Int.n c.requires c.in-Int.is))
    c.put.result c.put.ensures.holds
    (λ (d : Thing). d ≡ thing_of c.args.constant.now)
    (λ e element is. (integer_holds graph no_closure c.in-Int.n e).1 (is ∙ ap thing_of c.in-Int.is))

pub returns-in_ok-integer-in-Int-clause-only : goal.returns-in_ok-integer-in-Int-clause-only
returns-in_ok-integer-in-Int-clause-only c = let graph = graph_of c.args.world.now in
    put_only graph (graph_of c.put.new.world) (plain c.in_ok-integer-in-Int.field-0)
    (one_integer c.in-Int.n)
    (c.in_ok-integer-in-Int.ensures
    ∙ ap one_integer (integer_is c.args.constant.now c.in-Int.n c.requires c.in-Int.is))
    c.put.result c.put.ensures.holds
    (λ (d : Thing). d ≡ thing_of c.args.constant.now)
    (λ e element is. (integer_holds graph no_closure c.in-Int.n e).0 is ∙ sym (ap thing_of c.in-Int.is))

pub returns-in_ok-character-in-Char-clause-has : goal.returns-in_ok-character-in-Char-clause-has
returns-in_ok-character-in-Char-clause-has c = let graph = graph_of c.args.world.now in
    put_has graph (graph_of c.put-in-Char.new.world) (plain c.in_ok-character-in-Char.field-0)
    (one_character c.in-Char.c) c.in_ok-character-in-Char.ensures c.put-in-Char.result
    c.put-in-Char.ensures.holds (λ (d : Thing). d ≡ thing_of c.args.constant.now)
    (λ e element is. (character_holds graph no_closure c.in-Char.c e).1 (is ∙ ap thing_of c.in-Char.is))

pub returns-in_ok-character-in-Char-clause-only : goal.returns-in_ok-character-in-Char-clause-only
returns-in_ok-character-in-Char-clause-only c = let graph = graph_of c.args.world.now in
    put_only graph (graph_of c.put-in-Char.new.world) (plain c.in_ok-character-in-Char.field-0)
    (one_character c.in-Char.c) c.in_ok-character-in-Char.ensures c.put-in-Char.result
    c.put-in-Char.ensures.holds (λ (d : Thing). d ≡ thing_of c.args.constant.now)
    (λ e element is. (character_holds graph no_closure c.in-Char.c e).0 is ∙ sym (ap thing_of c.in-Char.is))

pub returns-in_ok-atom-in-Atom-clause-has : goal.returns-in_ok-atom-in-Atom-clause-has
returns-in_ok-atom-in-Atom-clause-has c = let graph = graph_of c.args.world.now in
    put_has graph (graph_of c.put-in-Atom.new.world) (plain c.in_ok-atom-in-Atom.field-0)
    (one_atom c.in-Atom.name) c.in_ok-atom-in-Atom.ensures c.put-in-Atom.result
    c.put-in-Atom.ensures.holds (λ (d : Thing). d ≡ thing_of c.args.constant.now)
    (λ e element is. (atom_holds graph no_closure c.in-Atom.name e).1 (is ∙ ap thing_of c.in-Atom.is))

pub returns-in_ok-atom-in-Atom-clause-only : goal.returns-in_ok-atom-in-Atom-clause-only
returns-in_ok-atom-in-Atom-clause-only c = let graph = graph_of c.args.world.now in
    put_only graph (graph_of c.put-in-Atom.new.world) (plain c.in_ok-atom-in-Atom.field-0)
    (one_atom c.in-Atom.name) c.in_ok-atom-in-Atom.ensures c.put-in-Atom.result
    c.put-in-Atom.ensures.holds (λ (d : Thing). d ≡ thing_of c.args.constant.now)
    (λ e element is. (atom_holds graph no_closure c.in-Atom.name e).0 is ∙ sym (ap thing_of c.in-Atom.is))

pub returns-in-Text-clause-has : goal.returns-in-Text-clause-has
returns-in-Text-clause-has c = let graph = graph_of c.args.world.now in
    narrower (graph_of c.text_before.new.world) (λ (d : Thing). d ≡ thing_of c.args.constant.now)
    (IsTextBefore c.in-Text.text (elements_of graph c.nil-nil.result)) c.text_before.result
    c.text_before.ensures.has
    (text_is_before graph c.nil-nil.result c.nil-nil.ensures.holds c.in-Text.text
    (thing_of c.args.constant.now) (ap thing_of c.in-Text.is))

pub returns-in-Text-clause-only : goal.returns-in-Text-clause-only
returns-in-Text-clause-only c = let graph = graph_of c.args.world.now in
    wider (graph_of c.text_before.new.world)
    (IsTextBefore c.in-Text.text (elements_of graph c.nil-nil.result))
    (λ (d : Thing). d ≡ thing_of c.args.constant.now) c.text_before.result
    c.text_before.ensures.only
    (before_is_text graph c.nil-nil.result c.nil-nil.ensures.holds c.in-Text.text
    (thing_of c.args.constant.now) (ap thing_of c.in-Text.is))

pub returns-in-Nil-clause-has : goal.returns-in-Nil-clause-has
returns-in-Nil-clause-has c e element is =
    (c.nil-nil.ensures.holds e).1 (is ∙ ap thing_of c.in-Nil.is)

pub returns-in-Nil-clause-only : goal.returns-in-Nil-clause-only
returns-in-Nil-clause-only c e element there =
    (c.nil-nil.ensures.holds e).0 there ∙ sym (ap thing_of c.in-Nil.is)
