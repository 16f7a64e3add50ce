-- The sources of a select, from the last one to the first: each is put round what those before it made.
use Rattle.std.proofs.Common.{◌≡◌, ◌∙◌, ap, refl, List, [], ◌∷◌, ◌++◌, reverse, Option}
use Rattle.std.proofs.lemmas.List.{reverse-append}
use Rattle.cd_syntax.specs.declared.tokens.Span.{Span}
use Rattle.cd_program.specs.Expr.{Expr}
use Rattle.cd_query.specs.Core.{Source, given, select}
use Rattle.cd_query.specs.Inner.Queries.{over}

module _ (here : Span) where
  -- the first source stands outside, or inside
  abbrev around : List Source → Expr → Expr
  around [] body = body
  around (source ∷ more) body = over here source (around more body)

  abbrev pub wrapped : List Source → Expr → Expr
  wrapped [] body = body
  wrapped (source ∷ more) body = wrapped more (over here source body)

  select_is : (sources : List Source) (condition : Option Expr) (e : Expr)
      → select here sources condition e ≡ around sources (given here condition e)
  select_is [] condition e = refl
  select_is (source ∷ more) condition e = ap (over here source) (select_is more condition e)

  around_both : (some more : List Source) (body : Expr) → around (some ++ more) body ≡ around some (around more body)
  around_both [] more body = refl
  around_both (source ∷ some) more body = ap (over here source) (around_both some more body)

  around_reversed : (sources : List Source) (body : Expr) → around (reverse sources) body ≡ wrapped sources body
  around_reversed [] body = refl
  around_reversed (source ∷ more) body =
      ap (λ all. around all body) (reverse-append (source ∷ []) more)
      ∙ around_both (reverse more) (source ∷ []) body ∙ around_reversed more (over here source body)

  pub wrapped_all : (sources : List Source) (condition : Option Expr) (e : Expr)
      → select here (reverse sources) condition e ≡ wrapped sources (given here condition e)
  wrapped_all sources condition e =
      select_is (reverse sources) condition e ∙ around_reversed sources (given here condition e)
