use Rattle.cd_resolve.proofs.TypesArePatterns.{type_is_pattern}
use Rattle.cd_resolve.proofs.laws.types_are_patterns.Goals as goal

pub returns : goal.returns
returns c = type_is_pattern
