-- Patterns and a kernel of which laws say what they take.
use Rattle.std.specs.Prelude.{ℕ, pos, Bool, true, false, ◌||◌, [], ◌∷◌, codes, bytes_eq}
use Rattle.std.specs.Prelude.{Option, Some, None}
use Rattle.cd_syntax.specs.Name.{Name}
use Rattle.cd_syntax.specs.TypeTree as type
use Rattle.cd_syntax.specs.TypeTree.{Tree, trees_of, NoSign, ASign}
use Rattle.cd_syntax.specs.declared.builtin.BuiltinName.TheVariants as builtin
use Rattle.cd_syntax.specs.declared.constant.Constant.TheVariants as constant
use Rattle.cd_syntax.specs.declared.type_tree.Post.TheVariants.{Star, LazyStar}
use Rattle.cd_model.specs.Thing as thing
use Rattle.cd_model.specs.Thing.{Thing}
use Rattle.cd_model.specs.WrittenExamples.{here}
use Rattle.cd_matching.specs.Captures.{Captures}
use Rattle.cd_matching.specs.Kernel as kernel
use Rattle.cd_matching.specs.Kernel.{Kernel, kernel_takes}
use Rattle.cd_matching.specs.Pattern.{Pattern, OfType, Bind, Xml, Record, Sequence, NoField}
use Rattle.cd_matching.specs.Pattern.{Regular, Item, Seq, Alt, Repeat, Capture, regulars_of}
use Rattle.cd_matching.specs.Sequences.{sequence_of, text_of}
use Rattle.cd_matching.specs.Take.{take}

-- types as tests of things
abbrev pub Test : Type 0
Test = Thing → Bool

abbrev pub int : Test
int (thing.Integer n) = true
int d = false

abbrev pub atom : Name → Test
atom name (thing.Atom other) = bytes_eq name other
atom name d = false

abbrev pub bool : Test
bool d = atom (codes "true") d || atom (codes "false") d

abbrev pub any : Test
any d = true

abbrev pub takes : Pattern Test → Thing → Option (Captures Name)
takes p d = take Test (λ test. test) p d

-- what a variable captures
abbrev pub captured : Name → Option (Captures Name) → Option Thing
captured variable None = None
captured variable (Some captures) = captures variable

abbrev pub item : Test → Regular Test
item test = Item (OfType test)

abbrev pub x_of : Regular Test → Regular Test
x_of r = Capture (codes "x") r

abbrev pub y_of : Regular Test → Regular Test
y_of r = Capture (codes "y") r

-- `[x::Int* y::Int*]`, and the same with `x::Int*?`
abbrev pub greedy : Pattern Test
greedy = Sequence (Seq (regulars_of
    (x_of (Repeat (item int) Star) ∷ y_of (Repeat (item int) Star) ∷ [])))

abbrev pub lazy : Pattern Test
lazy = Sequence (Seq (regulars_of
    (x_of (Repeat (item int) LazyStar) ∷ y_of (Repeat (item int) Star) ∷ [])))

-- `[(x::Int | y::Bool)*]`
abbrev pub mixed : Pattern Test
mixed = Sequence (Repeat (Alt (regulars_of (x_of (item int) ∷ y_of (item bool) ∷ []))) Star)

-- `[<name>n _*]`
abbrev pub name : Pattern Test
name = Sequence (Seq (regulars_of
    (Item (Xml (OfType (atom (codes "name"))) (Record NoField false) (Bind (codes "n")))
    ∷ Repeat (item any) Star ∷ [])))

abbrev pub number : ℕ → Thing
number n = thing.Integer (pos n)

abbrev pub truth : Thing
truth = thing.Atom (codes "true")

abbrev pub one_to_three : Thing
one_to_three = sequence_of (number 1 ∷ number 2 ∷ number 3 ∷ [])

abbrev pub one_true_two : Thing
one_true_two = sequence_of (number 1 ∷ truth ∷ number 2 ∷ [])

abbrev pub tagged : Name → Thing → Thing
tagged tag content = thing.Xml (thing.Atom tag) (thing.Record thing.NoField) content

-- `[<name>['Ada'] <phone>['12']]`
abbrev pub ada : Thing
ada = sequence_of
    (tagged (codes "name") (text_of (codes "Ada")) ∷ tagged (codes "phone") (text_of (codes "12"))
    ∷ [])

-- the kernel of `[x::Int* y::Int*]`: an item of `x` may come at node 0, and one of `y` at node 1
abbrev pub greedy_kernel : Kernel Test
greedy_kernel = record {
  nodes = kernel.First 2 1 ∷ kernel.First 3 4 ∷ kernel.Gather 0 5 0 ∷ kernel.Gather 1 5 1
      ∷ kernel.Both 6 7 ∷ kernel.Test int ∷ kernel.Test (atom (codes "nil")) ∷ kernel.Both 8 9
      ∷ kernel.Put 0 constant.Nil ∷ kernel.Put 1 constant.Nil ∷ [];
  root = 0;
  variables = codes "x" ∷ codes "y" ∷ [];
}

-- no more is asked of a test
abbrev pub IsTest : Test → Type 0
IsTest test = Unit {0}

abbrev pub kernel_captures : Kernel Test → Thing → Option (Captures Name)
kernel_captures is d = kernel_takes Test (λ test. test) is d

abbrev pub int_tree : Tree
int_tree = here (type.Builtin builtin.Int)

abbrev pub zero_tree : Tree
zero_tree = here (type.Ints (Some (pos 0)) (Some (pos 0)))

abbrev pub x_tree : Tree
x_tree = here (type.Variable (codes "x"))

-- `Int \ 0 & x`, `(x,Int)` and `Int | 0`, as trees
abbrev pub meet_tree : Tree
meet_tree = here (type.Meet int_tree (ASign false zero_tree (ASign true x_tree NoSign)))

abbrev pub pair_tree : Tree
pair_tree = here (type.Tuple (trees_of (x_tree ∷ int_tree ∷ [])))

abbrev pub type_tree : Tree
type_tree = here (type.Union (trees_of (int_tree ∷ zero_tree ∷ [])))
