-- A site of the code as plain data.
use Rattle.std.specs.Prelude.{[], ◌∷◌}
use Rattle.cd_syntax.specs.PlainTree.{plain as plain_tree}
use Rattle.cd_program.specs.PlainExpr.{plain_branches}
use Rattle.cd_typing.specs.Sites.{Site, site, Closed, Catching, Filtering}
use Rattle.cd_resolved.specs.declared.site_tree.SiteTree.{SiteTree}
use Rattle.cd_resolved.specs.declared.site_tree.SiteTree.TheVariants as tree

abbrev pub plain_site : SiteTree → Site
plain_site (tree.Branches branches) = site Closed (plain_branches branches.now)
plain_site (tree.Let pattern) = record { kind = Closed; patterns = plain_tree pattern.now ∷ [] }
plain_site (tree.Try branches) = site Catching (plain_branches branches.now)
plain_site (tree.Transform branches) = site Filtering (plain_branches branches.now)
