-- All that is known of what is answered.
use Rattle.std.specs.Prelude.{List}
use Rattle.cd_sets.specs.declared.node_id.NodeId.{NodeId}
use Rattle.cd_model.specs.Formula.{Graph}
use Rattle.cd_model.specs.Thing.{Thing}
use Rattle.cd_apply.specs.declared.application.Applied.{Applied}
use Rattle.cd_apply.specs.Applications.{AreMappedInto, AreResultsAlone, IsResultNode}
use Rattle.cd_apply.specs.Applications.{NamesNoFunction, NamesOutside}

pub record IsApplied (graph : Graph) (function argument : NodeId) (after : Graph)
    (table : List Thing) (applied : Applied) : Type 0 where
  pub into : AreMappedInto graph function argument after applied
  pub only : AreResultsAlone graph function argument after applied
  pub node : IsResultNode after applied
  pub not_function : NamesNoFunction graph function table applied
  pub outside : NamesOutside graph function argument table applied
