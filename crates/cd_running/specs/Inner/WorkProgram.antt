-- The program of the workload, as its text reads.
use Rattle.std.specs.Prelude.{ℕ, suc, pred, [], ◌∷◌, codes}
use Rattle.cd_syntax.specs.declared.type_tree.Post.TheVariants as post
use Rattle.cd_syntax.specs.TypeTree.{Tree, Xml, Atom, Record, Sequence, Seq, Repeat, Capture}
use Rattle.cd_syntax.specs.TypeTree.{Closed, declarations_of, fields_of, regulars_of}
use Rattle.cd_program.specs.Expr as code
use Rattle.cd_program.specs.Expr.{Expr, Branches, Signature, FunctionTree, Program, branches_of}
use Rattle.cd_grammar.specs.TreesAt.{tree_from, regular_from, named_at, ints_at, any_at, item}
use Rattle.cd_grammar.specs.TreesAt.{field_at, declared_at, no_attributes_at}
use Rattle.cd_grammar.specs.ExprsAt.{bound_at, expr_from, used_at, value_at, branch, arrow}
use Rattle.cd_grammar.specs.ExprsAt.{function_at}

-- `[Int*]` from a byte on
abbrev pub integers_at : (from to : ℕ) → Tree
integers_at from to = tree_from from to (Sequence (regular_from (suc from) (pred to)
    (Repeat (item (ints_at (suc from))) post.Star)))

-- the types `Log` and `Entry`
abbrev pub log_type : Tree
log_type = tree_from 11 24 (Xml (tree_from 12 15 (Atom (codes "log"))) (no_attributes_at 15)
    (tree_from 16 24 (Sequence (regular_from 17 23
    (Repeat (item (named_at "Entry" 17)) post.Star)))))

abbrev pub entry_type : Tree
entry_type = tree_from 38 53 (Xml (tree_from 39 40 (Atom (codes "e")))
    (tree_from 41 46 (Record (fields_of (field_at "n" 41 (ints_at 43) ∷ [])) Closed))
    (integers_at 47 53))

-- the pattern of a document, and that of an entry with a number in it
abbrev pub log_pattern : Tree
log_pattern = tree_from 85 91 (Xml (tree_from 86 89 (Atom (codes "log"))) (no_attributes_at 89)
    (bound_at "c" 90))

abbrev pub entry_pattern : Tree
entry_pattern = tree_from 112 130 (Xml (tree_from 113 114 (Atom (codes "e")))
    (tree_from 115 118 (Record (fields_of (field_at "n" 115 (bound_at "k" 117) ∷ [])) Closed))
    (tree_from 119 130 (Sequence (regular_from 120 129 (Seq (regulars_of
    (regular_from 120 126 (Capture (codes "x") (item (ints_at 123)))
    ∷ regular_from 127 129 (Repeat (item (any_at 127)) post.Star) ∷ [])))))))

-- what is made of an entry with a number in it, and of any other
abbrev pub first_number : Expr
first_number = used_at "x" 134

abbrev pub only_zero : Expr
only_zero = expr_from 143 146 (code.Sequence (code.items_of (code.One (value_at 0 144) ∷ [])))

abbrev pub entry_branches : Branches
entry_branches =
    branches_of (branch entry_pattern first_number ∷ branch (any_at 138) only_zero ∷ [])

-- the body of `main`, and its interface
abbrev pub body : Expr
body = expr_from 95 146 (code.Transform (used_at "c" 105) entry_branches)

abbrev pub signature : Signature
signature = arrow (named_at "Log" 68) (integers_at 75 81)

abbrev pub main : FunctionTree
main = function_at "main" 58 62 (signature ∷ []) (branch log_pattern body ∷ [])

abbrev pub work_program : Program
work_program = record {
  types = declarations_of (declared_at "Log" 5 log_type ∷ declared_at "Entry" 30 entry_type ∷ []);
  functions = main ∷ [];
  end = 147;
}
