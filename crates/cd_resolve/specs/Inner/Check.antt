-- What is reported of a type, and of type declarations, from one walk over it.
use Rattle.std.specs.Prelude.{List, [], ◌∷◌, None}
use Rattle.cd_syntax.specs.TypeTree.{Tree, Declarations}
use Rattle.cd_resolve.specs.Faults.{Fault}
use Rattle.cd_resolve.specs.Inner.Finding.{State, innermost, found_in, found_in_list}
use Rattle.cd_resolve.specs.Inner.Cycles.{cycles_reported}

-- the declarations that a type sees are entered, and not walked over
abbrev pub found_in_type : Declarations → Tree → State Declarations
found_in_type declared is = found_in innermost
    (record { declarations = declared; list = 0 } ∷ []) None is
    (record { faults = []; lists = declared ∷ []; links = [] })

abbrev pub found_in_declarations : Declarations → State Declarations
found_in_declarations declared = found_in_list innermost [] declared
    (record { faults = []; lists = []; links = [] })

abbrev pub all_faults : State Declarations → List Fault
all_faults s = cycles_reported s.links s.links s.faults
