-- What the code knows of a name that is met: its node, and where it is declared.
use Rattle.std.specs.Prelude.{Option, Some, None}
use Rattle.cd_sets.specs.declared.node_id.NodeId.{NodeId}
use Rattle.cd_resolve.specs.Inner.Finding.{DeclaredAt}
use Rattle.cd_resolve.specs.declared.lookup.Meaning.{Meaning}

-- the node, or this one of a name that means nothing
abbrev pub id_or : Option Meaning → NodeId → NodeId
id_or None outer = outer
id_or (Some meaning) outer = meaning.id

-- where it is declared, or this
abbrev pub declared_at_or : Option Meaning → Option DeclaredAt → Option DeclaredAt
declared_at_or None outer = outer
declared_at_or (Some meaning) outer =
    Some (record { list = meaning.declared_at.list; at = meaning.declared_at.at })
