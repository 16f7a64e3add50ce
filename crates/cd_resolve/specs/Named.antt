-- Names whose nodes stand for what a list of declarations says of them.
use Rattle.std.specs.Prelude.{ℕ, ◌+◌, [], ◌∷◌, Option, Some, None, bytes_eq}
use Rattle.std.specs.Prelude.{if◌then◌else◌}
use Rattle.std.specs.Option.{option_map}
use Rattle.cd_sets.specs.declared.node_id.NodeId.{NodeId}
use Rattle.cd_syntax.specs.Name.{Name}
use Rattle.cd_syntax.specs.TypeTree.{Tree, tree, Named, Declarations, NoDeclaration, ADeclaration}
use Rattle.cd_syntax.specs.PlainTree.{plain_declarations}
use Rattle.cd_model.specs.BuiltIns.{node}
use Rattle.cd_model.specs.Formula.{Graph}
use Rattle.cd_model.specs.Scope.{tree_in}
use Rattle.cd_model.specs.StandsFor.{StandsFor}
use Rattle.cd_model.specs.Written.{Written}
use Rattle.cd_resolve.specs.declared.names.Names.{Names as CodeNames}

-- the names of a list of declarations, whose nodes follow one another from this number on
pub record Names : Type 0 where
  pub declarations : Declarations
  pub first : ℕ

-- those of the code
abbrev pub plain_names : CodeNames → Names
plain_names names = record {
  declarations = plain_declarations names.level.declarations.now;
  first = names.level.first;
}

-- what they declare
abbrev pub declared_by : CodeNames → Declarations
declared_by names = plain_declarations names.level.declarations.now

-- the place of a name in a list, of the first that is this one
abbrev pub index_in : Declarations → Name → Option ℕ
index_in NoDeclaration name = None
index_in (ADeclaration other at is rest) name =
    if bytes_eq other name then Some 0 else option_map (λ index. index + 1) (index_in rest name)

abbrev pub node_of : Names → Name → Option NodeId
node_of names name =
    option_map (λ index. node (names.first + index)) (index_in names.declarations name)

-- the type that a name writes under a list of declarations
abbrev pub type_named : Declarations → Name → Written
type_named declarations name = record {
  scope = declarations ∷ [];
  tree = tree (record { from = 0; to = 0 }) (Named name);
}

-- a name that is declared has a node, which stands for its type, and another has none
abbrev pub IsNamed : Graph → Declarations → Name → Option Tree → Option NodeId → Type 0
IsNamed graph declarations name None None = Unit {0}
IsNamed graph declarations name (Some is) (Some id) =
    StandsFor graph id (type_named declarations name)
IsNamed graph declarations name _ _ = ⊥

pub record AreNamed (graph : Graph) (names : Names) : Type 0 where
  pub each : (name : Name)
      → IsNamed graph names.declarations name (tree_in names.declarations name) (node_of names name)
