-- What the check of a program leaves: for each site a node of what may come to it.
use Rattle.std.specs.Prelude.{List}
use Rattle.cd_sets.specs.declared.node_id.NodeId.{NodeId}
use Rattle.cd_model.specs.Formula.{Graph}
use Rattle.cd_program.specs.Expr.{Program}
use Rattle.cd_typing.specs.Kept.{Only}
use Rattle.cd_typing.specs.Sites.{all_sites, kept_sites, AreMatched}
use Rattle.cd_typing.specs.Typed.{scope_of, IsTypedWithin}

pub record IsChecked (program : Program) (graph : Graph) (ids : List NodeId) : Type 0 where
  -- a node for each site: what the patterns of a closed one take, all data for a catching one, and
  -- everything for a filtering one
  pub matched : AreMatched (scope_of program) graph (all_sites program) ids
  -- the program has types, where no more than what is in these nodes comes to the sites
  pub within : IsTypedWithin (Only (kept_sites graph (all_sites program) ids)) program
