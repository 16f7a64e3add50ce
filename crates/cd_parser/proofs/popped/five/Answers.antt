use Rattle.std.proofs.Common.{◌≡◌, ◌-◌, ◌∙◌, length, arith, Some}
use Rattle.std.proofs.lemmas.Result.{IfOk-weaker}
use Rattle.cd_grammar.specs.declared.make.Make.TheVariants as makes
use Rattle.cd_parser.proofs.Popping.{before, last_made}
use Rattle.cd_parser.proofs.popped.five.Goals as goal

pub returns : goal.returns
returns g c =
    let last-e = c.take_part-e.ensures in
    let last-d = before g.P.Parts.plain _ _ _ _ _ last-e c.take_part-d.ensures in
    let last-c = before g.P.Parts.plain _ _ _ _ _ last-d c.take_part-c.ensures in
    let last-b = before g.P.Parts.plain _ _ _ _ _ last-c c.take_part-b.ensures in
    let last-a = before g.P.Parts.plain _ _ _ _ _ last-b c.take_part-a.ensures in
    let whole : c.len.result ≡ length c.args.stack.now.items = c.len.ensures ∙ c.args.stack.now.ok.0 in
    let count : length c.args.stack.now.items - c.args.at ≡ 5 = omega (arith, whole, c.if-len-at-ne5.false) in
    IfOk-weaker c.make_of_five.result _ _ (λ part is.
    last_made g.P.Parts.plain (Some (makes.Five c.args.make)) c.args.here c.args.at _ _ part _ last-a c.requires count is)
    c.make_of_five.ensures
