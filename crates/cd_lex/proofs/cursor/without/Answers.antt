use Rattle.std.proofs.Common.{ap, sym, ◌∙◌, get_or, length, arith}
use Rattle.std.proofs.lemmas.Str.{IsCharBoundary-after_ascii}
use Rattle.cd_lex.proofs.Stepping.{stands_first, differs_first, none_first}
use Rattle.cd_lex.proofs.cursor.without.Goals as goal

pub returns-in-empty : goal.returns-in-empty
returns-in-empty c =
    let none = c.in-empty.len_below in
    let long = ap length c.as_bytes.ensures.value in
    none_first c.args.text.now c.args.c (omega arith)

pub returns-then-first-c : goal.returns-then-first-c
returns-then-first-c c = differs_first c.args.text.now c.args.c c.utf8.text c.requires
    (λ same. c.if-first-c.true (ap (λ bytes. get_or bytes 0 0) c.as_bytes.ensures.value ∙ same))

pub split_at-requires : goal.split_at-requires
split_at-requires c =
    let first = ap (λ bytes. get_or bytes 0 0) (sym c.as_bytes.ensures.value)
    ∙ c.if-first-c.false in
    let some = c.in-len1-up.len_at_least in
    let long = ap length c.as_bytes.ensures.value in
    let ascii = c.requires in
    IsCharBoundary-after_ascii c.args.text.now 0 c.utf8.text (omega arith) (omega arith)

pub returns-else-first-c : goal.returns-else-first-c
returns-else-first-c c =
    let first = ap (λ bytes. get_or bytes 0 0) (sym c.as_bytes.ensures.value)
    ∙ c.if-first-c.false in
    let some = c.in-len1-up.len_at_least in
    let long = ap length c.as_bytes.ensures.value in
    stands_first c.args.text.now _ c.args.c c.utf8.text c.requires (omega arith) first
    c.split_at.ensures.back
