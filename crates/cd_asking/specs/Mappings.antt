-- The table of the arrows that closures are in, as plain data.
use Rattle.std.specs.Prelude.{ℕ, List, refl}
use Rattle.std.specs.Coded.{Coded, code_by, coded×, coded_list, coded_ℕ}
use Rattle.cd_asking.specs.contracts.mapped.Mapped as mapped
use Rattle.cd_asking.specs.declared.mapped.Mapped.{Mapped}

-- the functions that are listed, and the entries
pub record Mappings : Type 0 where
  pub functions : List ℕ
  pub entries : List Mapped

-- it is stored as the pair of its fields
abbrev pub mappings_code : Coded Mappings
mappings_code = code_by (List ℕ × List Mapped)
    (coded× (coded_list coded_ℕ) (coded_list mapped.the_row.coded))
    (λ maps. (maps.functions, maps.entries))
    (λ fields. record { functions = fields.0; entries = fields.1 })
    (λ maps. refl)
