use Rattle.cd_typing.proofs.TypesKept.{typed_within}
use Rattle.cd_typing.proofs.laws.sites_have_types.Goals as goal

pub returns : goal.returns
returns c program graph ids = typed_within program graph ids
