-- An expression that asks for nodes below a number asks for nodes below a greater one.
use Rattle.std.proofs.Common.{ℕ, ◌≤◌, List, [], ◌∷◌, arith}
use Rattle.cd_syntax.specs.declared.type_tree.Post.{Post}
use Rattle.cd_syntax.specs.declared.type_tree.Post.TheVariants as post
use Rattle.cd_model.specs.AllOf.{AllOf}
use Rattle.cd_regex.specs.Regular.{Regular, Regulars, Nothing, Item, Seq, Alt, Star, Plus, Opt, NoRegular, ARegular}
use Rattle.cd_regex.specs.Regular.{regulars_of, AsksBelow, AskBelow}
use Rattle.cd_resolve.specs.Inner.Repeated.{repeated}

mutual
  pub asks_more : (nodes more : ℕ) (is : Regular) → nodes ≤ more → AsksBelow nodes is → AsksBelow more is
  asks_more nodes more Nothing longer asks = tt
  asks_more nodes more (Item id) longer asks = omega arith
  asks_more nodes more (Seq all) longer asks = ask_more nodes more all longer asks
  asks_more nodes more (Alt all) longer asks = ask_more nodes more all longer asks
  asks_more nodes more (Star is) longer asks = asks_more nodes more is longer asks
  asks_more nodes more (Plus is) longer asks = asks_more nodes more is longer asks
  asks_more nodes more (Opt is) longer asks = asks_more nodes more is longer asks

  ask_more : (nodes more : ℕ) (all : Regulars) → nodes ≤ more → AskBelow nodes all → AskBelow more all
  ask_more nodes more NoRegular longer asks = tt
  ask_more nodes more (ARegular is rest) longer asks =
      (asks_more nodes more is longer asks.0, ask_more nodes more rest longer asks.1)

-- one under a postfix asks for the same nodes, and a list of them for those of each
pub asks_repeated : (nodes : ℕ) (how : Post) (part : Regular) → AsksBelow nodes part
    → AsksBelow nodes (repeated how part)
asks_repeated nodes post.Star part asks = asks
asks_repeated nodes post.LazyStar part asks = asks
asks_repeated nodes post.Plus part asks = asks
asks_repeated nodes post.LazyPlus part asks = asks
asks_repeated nodes post.Opt part asks = asks
asks_repeated nodes post.LazyOpt part asks = asks

pub ask_all : (nodes : ℕ) (all : List Regular) → AllOf (AsksBelow nodes) all → AskBelow nodes (regulars_of all)
ask_all nodes [] each = tt
ask_all nodes (is ∷ rest) each = (each.0, ask_all nodes rest each.1)
