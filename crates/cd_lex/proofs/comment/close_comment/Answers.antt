use Rattle.std.proofs.Common.{ap, arith}
use Rattle.std.proofs.lemmas.Str.{length-le-encodes}
use Rattle.cd_lex.specs.Inner.Commenting.{left_from}
use Rattle.cd_lex.proofs.comment.close_comment.Goals as goal

pub loop-c-init : goal.loop-c-init
loop-c-init c = (
  ap (λ state. left_from state c.args.cursor.now) c.within-state.ensures,
  let all = length-le-encodes c.args.cursor.now in
      let none = ap (λ state. state.around) c.within-state.ensures in
      let most = c.bytes-most.ensures in
      omega arith,
)
