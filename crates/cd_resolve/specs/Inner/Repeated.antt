-- An expression under a postfix. A lazy form holds what the greedy one holds.
use Rattle.cd_syntax.specs.declared.type_tree.Post.{Post}
use Rattle.cd_syntax.specs.declared.type_tree.Post.TheVariants as post
use Rattle.cd_regex.specs.Regular.{Regular, Star, Plus, Opt}

abbrev pub repeated : Post → Regular → Regular
repeated post.Star is = Star is
repeated post.LazyStar is = Star is
repeated post.Plus is = Plus is
repeated post.LazyPlus is = Plus is
repeated post.Opt is = Opt is
repeated post.LazyOpt is = Opt is
