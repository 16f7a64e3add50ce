-- Expressions that an automaton runs, with the ways that laws compare.
use Rattle.std.specs.Prelude.{◌≡◌, ℕ, pos, Bool, true, false, ◌||◌, List, [], ◌∷◌, codes}
use Rattle.std.specs.Prelude.{bytes_eq, Option, Some, None}
use Rattle.cd_sets.specs.declared.node_id.NodeId.{NodeId}
use Rattle.cd_syntax.specs.declared.constant.Constant.TheVariants as constant
use Rattle.cd_syntax.specs.declared.type_tree.Post.TheVariants.{Star, LazyStar, Plus, LazyPlus}
use Rattle.cd_syntax.specs.declared.type_tree.Post.TheVariants.{Opt, LazyOpt}
use Rattle.cd_model.specs.BuiltIns.{INT, NIL}
use Rattle.cd_model.specs.Thing.{Thing, Integer, Atom}
use Rattle.cd_matching.specs.Kernel as kernel
use Rattle.cd_matching.specs.Kernel.{Kernel}
use Rattle.cd_matching.specs.Pattern.{Pattern, OfType, Bind, Both, Sequence, patterns_of, Regular}
use Rattle.cd_matching.specs.Pattern.{Item, Seq, Alt, Repeat, Capture, regulars_of}
use Rattle.cd_matching.specs.Take.{ways}
use Rattle.cd_matching.specs.Ways.{Way, first_whole}
use Rattle.cd_moves.specs.Automaton.{run_whole}

-- types as tests of things
abbrev pub Test : Type 0
Test = Thing → Bool

abbrev pub int : Test
int (Integer n) = true
int d = false

abbrev pub bool : Test
bool (Atom name) = bytes_eq name (codes "true") || bytes_eq name (codes "false")
bool d = false

abbrev pub any : Test
any d = true

abbrev pub number : ℕ → Thing
number n = Integer (pos n)

abbrev pub truth : Thing
truth = Atom (codes "true")

abbrev pub item : Test → Regular Test
item type = Item (OfType type)

abbrev pub in_turn : List (Regular Test) → Regular Test
in_turn all = Seq (regulars_of all)

abbrev pub one_of : List (Regular Test) → Regular Test
one_of all = Alt (regulars_of all)

abbrev pub x_of : Regular Test → Regular Test
x_of r = Capture (codes "x") r

abbrev pub y_of : Regular Test → Regular Test
y_of r = Capture (codes "y") r

-- `(x::Int?? | y::Bool)+`
abbrev pub tricky : Regular Test
tricky = Repeat (one_of (x_of (Repeat (item int) LazyOpt) ∷ y_of (item bool) ∷ [])) Plus

-- `(x::Int?)*? (y::Int | x::Int)*`
abbrev pub tricky_too : Regular Test
tricky_too = in_turn (
    Repeat (x_of (Repeat (item int) Opt)) LazyStar
    ∷ Repeat (one_of (y_of (item int) ∷ x_of (item int) ∷ [])) Star
    ∷ []
    )

-- `((x::Int*)*? (y::Int)?)+?`
abbrev pub nested : Regular Test
nested = Repeat (in_turn (
    Repeat (x_of (Repeat (item int) Star)) LazyStar ∷ Repeat (y_of (item int)) Opt ∷ []
    )) LazyPlus

-- `_* (n & Int) y::_*`
abbrev pub plain : Regular Test
plain = in_turn (
    Repeat (item any) Star
    ∷ Item (Both (patterns_of (Bind (codes "n") ∷ OfType int ∷ [])))
    ∷ y_of (Repeat (item any) Star)
    ∷ []
    )

-- `y::((x::Int Int*?)* x::Int+)`
abbrev pub inner : Regular Test
inner = y_of (in_turn (
    Repeat (in_turn (x_of (item int) ∷ Repeat (item int) LazyStar ∷ [])) Star
    ∷ x_of (Repeat (item int) Plus)
    ∷ []
    ))

-- what `x` and `y` gather, and what `n` captures
abbrev pub shown : Option Way → Option (List Thing × List Thing × Option Thing)
shown None = None
shown (Some way) = Some (way.gathered (codes "x"), way.gathered (codes "y"), way.plain (codes "n"))

-- the automaton shows the same as the ways
abbrev pub both_ways : Regular Test → List Thing → Type 0
both_ways r things = shown (run_whole Test (λ test. test) r things)
    ≡ shown (first_whole (ways Test (λ test. test) r things))

-- `[x::Int* y::Int*]` over the built-in nodes, and the kernel that is made of it: an item of `x`
-- may come at node 0, and one of `y` at node 1
abbrev pub some_ints : Regular NodeId
some_ints = Repeat (Item (OfType INT)) Star

abbrev pub two_gather : Regular NodeId
two_gather = Seq (regulars_of
    (Capture (codes "x") some_ints ∷ Capture (codes "y") some_ints ∷ []))

abbrev pub greedy : Pattern NodeId
greedy = Sequence two_gather

abbrev pub greedy_kernel : Kernel NodeId
greedy_kernel = record {
  nodes = kernel.First 2 1 ∷ kernel.First 3 4 ∷ kernel.Gather 0 5 0 ∷ kernel.Gather 1 5 1
      ∷ kernel.Both 8 7 ∷ kernel.Test INT ∷ kernel.Test NIL ∷ kernel.Both 9 6
      ∷ kernel.Put 0 constant.Nil ∷ kernel.Put 1 constant.Nil ∷ [];
  root = 0;
  variables = codes "x" ∷ codes "y" ∷ [];
}
