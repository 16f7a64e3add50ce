use Rattle.std.proofs.Common.{◌≡◌, ◌++◌, map, drop}
use Rattle.cd_syntax.specs.TypeTree.{declarations_of}
use Rattle.cd_syntax.specs.PlainTree.{plain_declaration, plain_declarations}
use Rattle.cd_resolve.specs.Inner.NamesDeclared.{names_in}
use Rattle.cd_resolve.proofs.declarations.declared_names.Given as goal

-- the names so far, and then those that are left, are all
abbrev pub invariant-loop-declaration : goal.invariant-loop-declaration
invariant-loop-declaration l = l.names
    ++ names_in (declarations_of (map plain_declaration (drop l.declaration-index l.declaration-items)))
    ≡ names_in (plain_declarations l.declarations)
