-- The lists of the code are those of the tables.
use Rattle.std.proofs.Common.{refl}
use Rattle.cd_lr.specs.Flat.{IsFlat}
use Rattle.cd_grammar.specs.Tables.{tables}
use Rattle.cd_grammar.specs.Listed.{listed}

pub is_flat : IsFlat tables listed
unfolding listed
is_flat = record {
  actions = refl;
  gotos = refl;
  lefts = refl;
  lengths = refl;
  finish = refl;
  rows_coded = refl;
  rows_numbered = refl;
  rules_numbered = refl;
  lefts_below = refl;
  rules_below = refl;
}
