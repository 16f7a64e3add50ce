-- Which arrows the closures of functions are in, by a table.
use Rattle.std.specs.Prelude.{◌≡◌, ℕ, ◌==◌, ◌&&◌, ◌||◌, ◌⊎◌, Bool, Option, Some, None, nat_eq}
use Rattle.std.specs.Prelude.{if◌then◌else◌}
use Rattle.std.specs.List.{list_any}
use Rattle.std.specs.Option.{option_eq}
use Rattle.cd_sets.specs.declared.node_id.NodeId.{NodeId}
use Rattle.cd_model.specs.Formula.{Formula, Formulas, Graph, NoFormula, AFormula, Arrow, And, Or}
use Rattle.cd_model.specs.Formula.{Not, formula_at, nodes}
use Rattle.cd_model.specs.Interfaces.{Interfaces, admits}
use Rattle.cd_model.specs.Types.{closure_maps}
use Rattle.cd_asking.specs.Mappings.{Mappings}
use Rattle.cd_asking.specs.declared.mapped.Mapped.{Mapped}

-- whether two entries are the same
abbrev pub same : (one other : Mapped) → Bool
same one other = option_eq nat_eq one.function other.function
    && (one.argument.0 == other.argument.0 && one.result.0 == other.result.0)

-- whether there is an entry, and whether a function is listed
abbrev pub has_entry : Mappings → Mapped → Bool
has_entry maps one = list_any (same one) maps.entries

abbrev pub is_listed : Mappings → ℕ → Bool
is_listed maps function = list_any (λ one. function == one) maps.functions

-- whose entries are those of a function: its own where it is listed, else those of all others
abbrev pub entries_of : Mappings → ℕ → Option ℕ
entries_of maps function = if is_listed maps function then Some function else None

-- whether the closures of a function are in an arrow
abbrev pub maps_at : Mappings → ℕ → (argument result : NodeId) → Bool
maps_at maps function argument result = has_entry maps
    (record { function = entries_of maps function; argument = argument; result = result })

-- the one entry was added
pub record AddsEntry (one : Mapped) (old new : Mappings) : Type 0 where
  pub entries : (other : Mapped) → has_entry new other ≡ has_entry old other || same one other
  pub functions : new.functions ≡ old.functions

-- the one function was listed
pub record Lists (function : ℕ) (old new : Mappings) : Type 0 where
  pub functions : (other : ℕ) → is_listed new other ≡ is_listed old other || (function == other)
  pub entries : new.entries ≡ old.entries

-- the arrow stands in the formula, by itself or under connectives
abbrev mutual
  pub HasArrow : Formula → (argument result : NodeId) → Type 0
  HasArrow (Arrow from to) argument result = (from ≡ argument) × (to ≡ result)
  HasArrow (And formulas) argument result = OneHasArrow formulas argument result
  HasArrow (Or formulas) argument result = OneHasArrow formulas argument result
  HasArrow (Not is) argument result = HasArrow is argument result
  HasArrow is argument result = ⊥

  pub OneHasArrow : Formulas → (argument result : NodeId) → Type 0
  OneHasArrow NoFormula argument result = ⊥
  OneHasArrow (AFormula is rest) argument result =
      HasArrow is argument result ⊎ OneHasArrow rest argument result

-- in the formula of a node
abbrev pub ArrowStands : Graph → (argument result : NodeId) → Type 0
ArrowStands graph argument result = (id : NodeId) × HasArrow (formula_at graph id) argument result

-- the table is right of a function: of each arrow in the graph it says whether the closures of the
-- function are in it
abbrev pub MapsRight : Graph → Interfaces → Mappings → (function : ℕ) → Type 0
MapsRight graph interfaces maps function =
    (argument result : NodeId) → ArrowStands graph argument result
    → closure_maps (nodes graph) (admits interfaces) function argument result
    (maps_at maps function argument result)
