-- What a kernel takes of a value, and the environment of the names that it binds.
use Rattle.std.specs.Prelude.{◌≡◌, ℕ, Bool, List, Option, option_map}
use Rattle.cd_sets.specs.declared.node_id.NodeId.{NodeId}
use Rattle.cd_syntax.specs.Name.{Name}
use Rattle.cd_model.specs.Formula.{Graph}
use Rattle.cd_model.specs.Thing.{Thing}
use Rattle.cd_matching.specs.Captures.{Captures}
use Rattle.cd_matching.specs.Kernel.{Kernel}
use Rattle.cd_asking.specs.Mappings.{Mappings}
use Rattle.cd_taking.specs.Taken.{TakenAs}
use Rattle.cd_evaluation.specs.Environment.{Env}
use Rattle.cd_code.specs.Compiled.{if_taken}
use Rattle.cd_code.specs.Inner.Numbered.{env_by}

-- the kernel takes it with some captures, of which this is the environment; or it does not
pub record TakesWith (graph : Graph) (maps : Mappings) (kernel : Kernel NodeId) (v : Thing)
    (bound : List (ℕ × Name)) (answer : Bool) (env : Env) : Type 0 where
  pub result : Option (Captures ℕ)
  pub taken : TakenAs graph maps kernel v result
  pub same : if_taken answer env ≡ option_map (env_by bound) result
