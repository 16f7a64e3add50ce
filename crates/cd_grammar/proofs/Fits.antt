-- The tables are those of the lines, and fit.
use Rattle.std.specs.Prelude.{◌≡◌, refl, true}
use Rattle.cd_lr.specs.Tables.{every}
use Rattle.cd_lr.specs.Validator.{row_safe, row_full, rules_fit, weights_fit}
use Rattle.cd_lr.specs.Goals.{goals_fit}
use Rattle.cd_grammar.specs.Tables.{tables}
use Rattle.cd_grammar.specs.Ruled.{rules, in_order}

pub same_rules : in_order tables.rules ≡ rules
same_rules = refl

pub rules_do : rules_fit tables ≡ true
rules_do = refl

pub rows_safe : every (row_safe tables) tables.states ≡ true
rows_safe = refl

pub rows_full : every (row_full tables) tables.states ≡ true
rows_full = refl

pub weights_do : weights_fit tables ≡ true
weights_do = refl

pub goals_do : goals_fit tables 73 1 ≡ true
goals_do = refl
