-- Tables that are right of some functions.
use Rattle.std.specs.Prelude.{◌≡◌, ℕ, true, false, List, [], Some, None}
use Rattle.cd_model.specs.Formula.{Graph}
use Rattle.cd_model.specs.Scope.{Scope}
use Rattle.cd_program.specs.Expr.{FunctionTree}
use Rattle.cd_asking.specs.MappedArrows.{is_listed}
use Rattle.cd_asking.specs.Mappings.{Mappings}
use Rattle.cd_evaluation.specs.ProgramFunctions.{first_at}
use Rattle.cd_evaluation.specs.ProgramInterfaces.{interface_of}
use Rattle.cd_closures.specs.Inner.Entries.{AreRight, HasNone}
use Rattle.cd_closures.specs.declared.asked.Asked.{Asked}

-- a function that is not listed has no entries
abbrev pub UnlistedHaveNone : Mappings → Type 0
UnlistedHaveNone maps = (function : ℕ) → is_listed maps function ≡ false
    → HasNone (Some function) maps

module _ (graph : Graph) (scope : Scope) (asked : List Asked) where
  -- the table is right of the function at a place
  pub record IsFound (all : List FunctionTree) (function : ℕ) (maps : Mappings) : Type 0 where
    pub f : FunctionTree
    pub found : first_at all function ≡ Some f
    pub right : AreRight graph scope (interface_of f) (Some function) asked maps

  -- it is right of those of some functions that are listed, and those that are not stand among
  -- those that are left
  pub record IsTable (all left : List FunctionTree) (maps : Mappings) : Type 0 where
    pub listed : (function : ℕ) → is_listed maps function ≡ true → IsFound all function maps
    pub unlisted : (function : ℕ) → is_listed maps function ≡ false
        → first_at all function ≡ first_at left function
    pub others : AreRight graph scope [] None asked maps
