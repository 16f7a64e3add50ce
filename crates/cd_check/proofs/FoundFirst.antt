-- The node of a name among variables, and then among functions.
use Rattle.std.proofs.Common.{◌≡◌, Bool, true, false, [], ◌∷◌, ◌++◌, Option, Some, None, refl, sym, subst, bytes_eq, if◌then◌else◌}
use Rattle.cd_sets.specs.declared.node_id.NodeId.{NodeId}
use Rattle.cd_syntax.specs.Name.{Name}
use Rattle.cd_check.specs.Inner.Environment.{Nodes, node_at}

abbrev IsThere : Option NodeId → Type 0
IsThere None = ⊥
IsThere (Some id) = Unit {0}

pub found_first : (first others : Nodes) (name : Name) (id : NodeId) → Some id ≡ node_at first name → Some id ≡ node_at (first ++ others) name
found_first [] others name id found = absurd (subst IsThere found tt)
found_first (node ∷ first) others name id found = by (bytes_eq node.0 name) (λ further. found_first first others name id further) found
  where
    by : (same : Bool) → (Some id ≡ node_at first name → Some id ≡ node_at (first ++ others) name)
        → Some id ≡ (if same then Some node.1 else node_at first name)
        → Some id ≡ (if same then Some node.1 else node_at (first ++ others) name)
    by true on found = found
    by false on found = on found

pub found_later : (first others : Nodes) (name : Name) → None ≡ node_at first name → node_at others name ≡ node_at (first ++ others) name
found_later [] others name missing = refl
found_later (node ∷ first) others name missing = by (bytes_eq node.0 name) (λ further. found_later first others name further) missing
  where
    by : (same : Bool) → (None ≡ node_at first name → node_at others name ≡ node_at (first ++ others) name)
        → None ≡ (if same then Some node.1 else node_at first name)
        → node_at others name ≡ (if same then Some node.1 else node_at (first ++ others) name)
    by true on missing = absurd (subst IsThere (sym missing) tt)
    by false on missing = on missing
