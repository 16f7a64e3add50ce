-- What a contract sees of conjuncts in the making.
use Rattle.std.specs.Prelude.{List}
use Rattle.cd_rules.specs.PartialConjuncts.{Partial}
use Rattle.cd_normal.specs.declared.conjuncts.Conjuncts.{Conjuncts}
use Rattle.cd_normal.specs.Inner.PlainPartial.{plain_partials}

-- them in a list, of which the first is worked at
abbrev pub partials : Conjuncts → List Partial
partials conjuncts = plain_partials conjuncts.items.items
