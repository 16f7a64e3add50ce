-- What the code collects, as plain data.
use Rattle.std.specs.Prelude.{List, map}
use Rattle.std.specs.Borrow.{Bor}
use Rattle.cd_syntax.specs.PlainTree.{plain as plain_tree}
use Rattle.cd_syntax.specs.TypeTree.{Tree}
use Rattle.cd_syntax.specs.declared.type_tree.Tree.{Tree as CodeTree}
use Rattle.cd_program.specs.Expr.{FunctionTree}
use Rattle.cd_program.specs.PlainExpr.{plain_function}
use Rattle.cd_program.specs.declared.expr.FunctionTree.{FunctionTree as CodeFunction}
use Rattle.cd_typing.specs.Sites.{Site}
use Rattle.cd_resolved.specs.PlainSite.{plain_site}
use Rattle.cd_resolved.specs.Inner.Collecting as collecting
use Rattle.cd_resolved.specs.declared.parts.collected.Parts.{Parts}
use Rattle.cd_resolved.specs.declared.site_tree.SiteTree.{SiteTree}

abbrev pub functions_of : List (Bor CodeFunction) → List FunctionTree
functions_of all = map (λ one. plain_function one.now) all

abbrev pub trees_of : List (Bor CodeTree) → List Tree
trees_of all = map (λ one. plain_tree one.now) all

abbrev pub sites_of : List SiteTree → List Site
sites_of all = map plain_site all

abbrev pub plain_parts : Parts → collecting.Parts
plain_parts parts = record {
  functions = functions_of parts.functions.items;
  patterns = trees_of parts.patterns.items;
  sites = sites_of parts.sites.items;
}
