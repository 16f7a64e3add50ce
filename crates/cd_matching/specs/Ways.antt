-- The ways of a regular expression to take the first items of a list, in the order in which they
-- are tried.
use Rattle.std.specs.Prelude.{ℕ, zero, suc, Bool, true, false, List, [], ◌∷◌, ◌++◌, map, length}
use Rattle.std.specs.Prelude.{Option, Some, None, bytes_eq, if◌then◌else◌}
use Rattle.cd_syntax.specs.Name.{Name}
use Rattle.cd_syntax.specs.declared.type_tree.Post.{Post}
use Rattle.cd_syntax.specs.declared.type_tree.Post.TheVariants as post
use Rattle.cd_model.specs.Thing.{Thing}
use Rattle.cd_matching.specs.Captures.{Captures, nothing, joined}

-- One way: the items that it takes, those that are left, what plain variables capture, and the
-- items that each other variable gathers
pub record Way : Type 0 where
  pub taken : List Thing
  pub rest : List Thing
  pub plain : Captures Name
  pub gathered : Name → List Thing

-- no item is taken
abbrev pub still : List Thing → Way
still things = record { taken = []; rest = things; plain = nothing; gathered = λ name. [] }

-- one item is taken, with these captures
abbrev pub one_item : Thing → List Thing → Captures Name → Way
one_item d rest captures =
    record { taken = d ∷ []; rest = rest; plain = captures; gathered = λ name. [] }

-- one way after another: variables gather items after those that they have
abbrev pub followed : Way → Way → Way
followed first second = record {
  taken = first.taken ++ second.taken;
  rest = second.rest;
  plain = joined first.plain second.plain;
  gathered = λ name. first.gathered name ++ second.gathered name;
}

abbrev pub gathers : Name → Way → Way
gathers variable way = record way {
  gathered = λ name. if bytes_eq variable name then way.gathered name ++ way.taken
      else way.gathered name;
}

-- the ways of an expression
abbrev pub Ways : Type 0
Ways = List Thing → List Way

-- ways, each followed by those of another expression on what it leaves
abbrev pub then_ : List Way → Ways → List Way
then_ [] next = []
then_ (way ∷ ways) next = map (followed way) (next way.rest) ++ then_ ways next

-- those that take an item at least
abbrev pub if_taken : Way → List Thing → List Way → List Way
if_taken way [] others = others
if_taken way (d ∷ taken) others = way ∷ others

abbrev pub that_take : List Way → List Way
that_take [] = []
that_take (way ∷ ways) = if_taken way way.taken (that_take ways)

-- the way that takes nothing comes last, or first where the repeat is lazy
abbrev pub in_order : (lazy : Bool) → (still : Way) → List Way → List Way
in_order true none ways = none ∷ ways
in_order false none ways = ways ++ none ∷ []

-- At most so many turns, each of which takes an item at least. As many turns as there are items
-- are enough
abbrev pub turns : (lazy : Bool) → ℕ → Ways → Ways
turns lazy zero one things = still things ∷ []
turns lazy (suc count) one things =
    in_order lazy (still things) (then_ (that_take (one things)) (turns lazy count one))

abbrev pub star : (lazy : Bool) → Ways → Ways
star lazy one things = turns lazy (length things) one things

abbrev pub repeated : Post → Ways → Ways
repeated post.Star one things = star false one things
repeated post.LazyStar one things = star true one things
repeated post.Plus one things = then_ (one things) (star false one)
repeated post.LazyPlus one things = then_ (one things) (star true one)
repeated post.Opt one things = in_order false (still things) (one things)
repeated post.LazyOpt one things = in_order true (still things) (one things)

-- the first way that leaves nothing
abbrev pub if_whole : Way → List Thing → Option Way → Option Way
if_whole way [] others = Some way
if_whole way (d ∷ rest) others = others

abbrev pub first_whole : List Way → Option Way
first_whole [] = None
first_whole (way ∷ ways) = if_whole way way.rest (first_whole ways)
