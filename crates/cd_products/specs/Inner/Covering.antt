-- Formulas that hold all that others hold, whatever their nodes hold.
use Rattle.std.specs.Prelude.{true}
use Rattle.cd_model.specs.Formula.{Graph, Formula}
use Rattle.cd_model.specs.Interfaces.{Interfaces}
use Rattle.cd_model.specs.Membership.{Reader, holds, reader, value_reader}
use Rattle.cd_model.specs.Thing.{Thing, IsElement, IsValue}

-- a thing that asks at formulas over the nodes of a graph: an element, or a value under interfaces
pub data Asker : Type 0 where
  AnElement : Graph → (e : Thing) → IsElement e → Asker
  AValue : Graph → Interfaces → (v : Thing) → IsValue v → Asker

abbrev pub read_by : Asker → Reader
read_by (AnElement graph e sort) = reader graph e
read_by (AValue graph interfaces v sort) = value_reader graph interfaces v

abbrev pub HoldsToo : (one other : Formula) → Type 0
HoldsToo one other = (asker : Asker) → holds (read_by asker) one true
    → holds (read_by asker) other true
