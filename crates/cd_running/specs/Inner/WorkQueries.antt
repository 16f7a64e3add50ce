-- The types of the queries, as their texts read.
use Rattle.std.specs.Prelude.{ℕ, pos, ◌+◌, length, Some}
use Rattle.std.specs.Fmt.{decimal}
use Rattle.cd_syntax.specs.declared.type_tree.Post.TheVariants as post
use Rattle.cd_syntax.specs.TypeTree.{Tree, Sequence, Ints, Item, Repeat}
use Rattle.cd_grammar.specs.TreesAt.{tree_from, regular_from}

-- the sequences of integers up to a number that has so many digits
abbrev pub integers_up_to : (digits number : ℕ) → Tree
integers_up_to digits number = tree_from 0 (8 + digits) (Sequence (regular_from 1 (7 + digits)
    (Repeat (regular_from 2 (5 + digits)
    (Item (tree_from 2 (5 + digits) (Ints (Some (pos 0)) (Some (pos number)))))) post.Star)))

-- what the query of a number asks of
abbrev pub query_tree : (number : ℕ) → Tree
query_tree number = integers_up_to (length (decimal number)) number
