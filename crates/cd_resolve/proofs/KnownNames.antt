-- Nodes that are known to answer as names of the outermost scope do so wherever these names are seen.
use Rattle.std.proofs.Common.{◌≡◌, ◌↔◌, ℕ, zero, suc, ◌≤◌, Bool, List, Option, Some, None, length, subst, arith}
use Rattle.cd_sets.specs.declared.node_id.NodeId.{NodeId}
use Rattle.cd_syntax.specs.Name.{Name}
use Rattle.cd_syntax.specs.TypeTree as type
use Rattle.cd_model.specs.Alike.{ReadAlike}
use Rattle.cd_model.specs.Formula.{Graph, formula_at}
use Rattle.cd_model.specs.Guarded.{IsGuarded}
use Rattle.cd_model.specs.Interfaces.{admits}
use Rattle.cd_model.specs.Scope.{Scope, Declared, declared_as}
use Rattle.cd_model.specs.Types.{Reader, reader, no_closure, closure_maps}
use Rattle.cd_model.specs.Written.{WrittenType, declared_holds, name_holds, written}
use Rattle.cd_model.proofs.BothWays.{itself, through}
use Rattle.cd_model.proofs.Leading.{IsIn, Leads}
use Rattle.cd_model.proofs.Seen.{IsSeen}
use Rattle.cd_model.proofs.NamesAlike.{names_alike, written_alike}
use Rattle.cd_model.proofs.Resolved.{KnownIn, AnswersAs}
use Rattle.cd_model.proofs.ValuesAlike.{AlwaysAlike, element_reads_alike, value_reads_alike}

-- the same is in a name in two scopes that declare it as the same
declared_alike : (read : Reader WrittenType) (left : ℕ) (one other : Scope) (name : Name) (answer : Bool)
    → declared_as one name ≡ declared_as other name
    → name_holds read left one name answer ↔ name_holds read left other name answer
declared_alike read zero one other name answer same = itself
declared_alike read (suc left) one other name answer same =
    subst (λ found. name_holds read (suc left) one name answer
    ↔ declared_holds read (name_holds read left) found answer) same itself

-- what a node has to be that a name is given, in this scope; a name that is given none is not declared there
abbrev pub IsGiven : Graph → ℕ → Scope → Name → Option NodeId → Type 0
IsGiven graph count base name None = declared_as base name ≡ None
IsGiven graph count base name (Some id) = AnswersAs graph id (record { scope = base; kind = type.Named name }) count

-- names that have this fact are guarded and among these
module _ (Fact : Declared → Type 0) (guards : (is : Declared) → Fact is → IsGuarded is) (seen : List Declared)
    (among : (is : Declared) → Fact is → IsIn is seen) (count : ℕ) (fits : length seen ≤ count) where
  same_written : AlwaysAlike (IsSeen Fact) (written count) (written count)
  same_written = written_alike Fact guards seen among count count fits fits

  as_name : (read : Reader WrittenType) → ReadAlike (IsSeen Fact) read read → (most : ℕ) (some : List Declared)
      → length some ≤ most → length some ≤ count → (base scope : Scope) (name : Name)
      → declared_as base name ≡ declared_as scope name → Leads Fact some scope (type.Named name)
      → (left : ℕ) → most ≤ left → (answer : Bool)
      → name_holds read count base name answer ↔ name_holds read left scope name answer
  as_name read alike most some fits_most fits_count base scope name same leads left enough answer =
      through (declared_alike read count base scope name answer same)
      (names_alike Fact guards read read alike count left some fits_count (omega arith) scope name leads answer)

  pub known_here : (graph : Graph) (id : NodeId) (most : ℕ) (some : List Declared) → length some ≤ most
      → length some ≤ count
      → (base scope : Scope) (name : Name) → declared_as base name ≡ declared_as scope name
      → Leads Fact some scope (type.Named name) → IsGiven graph count base name (Some id)
      → KnownIn graph count most (formula_at graph id) scope name
  known_here graph id most some fits_most fits_count base scope name same leads is = record {
    elements = λ e element left enough answer. through (is.elements e element answer)
        (as_name (reader (written count) no_closure e)
        (element_reads_alike (IsSeen Fact) (written count) (written count) same_written e)
        most some fits_most fits_count base scope name same leads left enough answer);
    values = λ interfaces v value left enough answer. through (is.values interfaces v value answer)
        (as_name (reader (written count) (closure_maps (written count) (admits interfaces)) v)
        (value_reads_alike (IsSeen Fact) (written count) (written count) same_written (admits interfaces)
        (admits interfaces)
        (λ function pairs sound. itself) v)
        most some fits_most fits_count base scope name same leads left enough answer);
  }
