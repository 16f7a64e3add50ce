use Rattle.std.proofs.Common.{subst, sym, ◌≡◌, ◌∷◌, []}
use Rattle.std.specs.Prelude.{MatchBool, ◌≢◌}
use Rattle.std.specs.Str.{chars}
use Rattle.cd_lex.proofs.WordPrefixes.{underscore_by}
use Rattle.cd_lex.proofs.word.is_underscore.Goals as goal

pub returns : goal.returns
returns c =
    subst (λ same. MatchBool same (chars c.args.word.now ≡ 95 ∷ [])
    (chars c.args.word.now ≢ 95 ∷ [])) (sym c.eq.ensures)
    (underscore_by c.args.word.now c.utf8.word)
