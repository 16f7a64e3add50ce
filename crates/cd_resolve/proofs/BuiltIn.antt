-- The names that types cannot be declared with are those of the grammar.
use Rattle.std.proofs.Common.{◌≡◌, sym, refl, subst, List, [], ◌∷◌, Bool, true, false, Some, is_some, bytes_eq}
use Rattle.std.specs.Prelude.{if◌then◌else◌}
use Rattle.std.proofs.lemmas.Slice.Eq.{bytes_eq-Decides}
use Rattle.cd_syntax.specs.Name.{Name}
use Rattle.cd_syntax.specs.declared.builtin.BuiltinName.{BuiltinName}
use Rattle.cd_syntax.specs.BuiltIn.{IsBuiltin}
use Rattle.cd_syntax.specs.BuiltIn as grammar
use Rattle.cd_tables.specs.Rows.{row_of}
use Rattle.cd_tables.specs.Words.{type_names}
use Rattle.cd_resolve.specs.Inner.BuiltinNames.{is_builtin}

-- each name of a table is one of them
abbrev AreBuiltIn : List (Name × BuiltinName) → Type 0
AreBuiltIn [] = Unit {0}
AreBuiltIn (row ∷ rows) = IsBuiltin row.0 row.1 × AreBuiltIn rows

one_of : (rows : List (Name × BuiltinName)) (name : Name) → AreBuiltIn rows → is_some (row_of rows name) ≡ true
    → (is : BuiltinName) × IsBuiltin name is
unfolding row_of
one_of [] name are is = absurd cc
one_of (row ∷ rows) name are is = by (bytes_eq name row.0) refl is (one_of rows name are.1)
  where
    by : (same : Bool) → bytes_eq name row.0 ≡ same
        → is_some (if same then Some row.1 else row_of rows name) ≡ true
        → (is_some (row_of rows name) ≡ true → (is : BuiltinName) × IsBuiltin name is)
        → (is : BuiltinName) × IsBuiltin name is
    by true same is later =
        (row.1, subst (λ one. IsBuiltin one row.1) (sym ((bytes_eq-Decides name row.0).0 same)) are.0)
    by false same is later = later is

all_are : AreBuiltIn type_names
all_are = (grammar.any_name, (grammar.any_xml, (grammar.IsBuiltin.arrow, (grammar.IsBuiltin.atom, (grammar.bool, (grammar.byte, (grammar.char, (grammar.data_type, (grammar.empty, (grammar.int, (grammar.pair, (grammar.IsBuiltin.record_type, (grammar.string, (grammar.any, tt))))))))))))))

pub is_built_in : (name : Name) → is_builtin name ≡ true → (is : BuiltinName) × IsBuiltin name is
unfolding is_builtin
is_built_in name is = one_of type_names name all_are is
