use Rattle.std.proofs.Common.{subst, sym, ap, ◌∙◌, take, drop}
use Rattle.std.specs.List.{prefix_len}
use Rattle.std.specs.Str.{chars, IsCharBoundary}
use Rattle.cd_lex.specs.Inner.Runs.{belongs}
use Rattle.cd_lex.proofs.Runs.{beyond, boundary, run_chars, rest_chars}
use Rattle.cd_lex.proofs.cursor.split.Goals as goal

pub split_at-requires : goal.split_at-requires
split_at-requires c =
    subst (IsCharBoundary c.args.text.now) (sym (c.length.ensures
    ∙ ap (prefix_len (belongs c.args.run)) c.as_bytes.ensures.value))
    (boundary (belongs c.args.run) (beyond c.args.run c.requires) c.args.text.now c.utf8.text)

pub returns-clause-prefix : goal.returns-clause-prefix
returns-clause-prefix c =
    ap chars (c.split_at.ensures.front ∙ ap (λ n. take n c.args.text.now) (c.length.ensures
    ∙ ap (prefix_len (belongs c.args.run)) c.as_bytes.ensures.value))
    ∙ run_chars (belongs c.args.run) (beyond c.args.run c.requires) c.args.text.now c.utf8.text

pub returns-clause-rest : goal.returns-clause-rest
returns-clause-rest c =
    ap chars (c.split_at.ensures.back ∙ ap (λ n. drop n c.args.text.now) (c.length.ensures
    ∙ ap (prefix_len (belongs c.args.run)) c.as_bytes.ensures.value))
    ∙ rest_chars (belongs c.args.run) (beyond c.args.run c.requires) c.args.text.now c.utf8.text
