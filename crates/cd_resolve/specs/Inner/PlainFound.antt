-- What the code finds, as plain data.
use Rattle.std.specs.Prelude.{List, Option, map, length}
use Rattle.std.specs.Option.{option_map}
use Rattle.cd_syntax.specs.TypeTree.{Declarations}
use Rattle.cd_syntax.specs.PlainTree.{plain_declarations}
use Rattle.cd_resolve.specs.PlainReported.{plain_reported}
use Rattle.cd_resolve.specs.Inner.Finding as walk
use Rattle.cd_resolve.specs.Inner.Finding.{State}
use Rattle.cd_resolve.specs.declared.scope_level.ScopeLevel.{ScopeLevel}
use Rattle.cd_resolve.specs.declared.found.Id.{Id}
use Rattle.cd_resolve.specs.declared.found.Link.{Link}
use Rattle.cd_resolve.specs.declared.found.DeclaredAt.{DeclaredAt}
use Rattle.cd_resolve.specs.declared.found.Found.{Found}

abbrev pub list_level : ScopeLevel → walk.ScopeLevel
list_level level = record {
  declarations = plain_declarations level.declarations.now;
  list = level.list;
}

abbrev pub list_levels : List ScopeLevel → walk.ScopeLevels
list_levels levels = map list_level levels

abbrev pub plain_id : Id → walk.Id
plain_id id = record { list = id.list; name = id.name.now }

abbrev pub plain_start : Option Id → Option walk.Id
plain_start start = option_map plain_id start

abbrev pub plain_link : Link → walk.Link
plain_link link = record { start = plain_id link.start; to = plain_id link.to; at = link.at }

abbrev pub plain_declared_at : Option DeclaredAt → Option walk.DeclaredAt
plain_declared_at declared_at =
    option_map (λ one. record { list = one.list; at = one.at }) declared_at

abbrev pub plain_found : Found → State Declarations
plain_found found = record {
  faults = map plain_reported found.faults.items;
  lists = map (λ one. plain_declarations one.now) found.lists.items;
  links = map plain_link found.links.items;
}

-- the level of a list that is met when so many others were
abbrev pub list_after : Declarations → State Declarations → walk.ScopeLevel
list_after declarations s = record { declarations = declarations; list = length s.lists }
