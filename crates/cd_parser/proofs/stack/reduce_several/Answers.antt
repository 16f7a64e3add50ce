use Rattle.std.proofs.Common.{◌≡◌, ◌∙◌, sym, ap, ap₂, map, drop}
use Rattle.std.proofs.lemmas.Result.{IfOk-equal}
use Rattle.cd_lr.specs.Automaton as machine
use Rattle.cd_grammar.specs.Language.{place_of}
use Rattle.cd_grammar.specs.Listed.{automaton, the_grammar}
use Rattle.cd_parser.specs.PlainStacks.{plain_value, plain_stack, put}
use Rattle.cd_parser.proofs.Stacks.{built, left_is, to_end}
use Rattle.cd_parser.proofs.stack.reduce_several.Goals as goal

pub returns : goal.returns
returns g c =
    let old = c.args.stack.now.items in
    let new = c.of_last.new.stack.items in
    let (cells, is, long, so) = c.in_ok-made.ensures in
    let parts = left_is old new cells c.args.at is long in
    let here : c.place_of-span.result ≡ place_of (map (plain_value g.P.Parts.plain) cells) =
    c.place_of-span.ensures
    ∙ ap (λ items. place_of (map (plain_value g.P.Parts.plain) items))
    (to_end c.args.at c.deref.result.now ∙ ap (drop c.args.at) c.deref.ensures.value ∙ parts.1) in
    let value =
    built g.P.Parts.plain c.args.rule c.make_of-make.result c.place_of-span.result (g.P.Parts.plain c.in_ok-made.made) cells c.make_of-make.ensures here so in
    IfOk-equal c.push.result _ _ _ c.push.ensures
    (ap (λ value. put c.args.most c.args.rule value (plain_stack g.P.Parts.plain new)) value
    ∙ ap₂ (λ all below. machine.pushed the_grammar automaton c.args.most c.args.rule (map (plain_value g.P.Parts.plain) all, plain_stack g.P.Parts.plain below))
    (sym parts.1) (sym parts.0))
