-- Regular expressions over nodes as plain data, and which sequences fit them.
use Rattle.std.specs.Prelude.{ℕ, ◌+◌, ◌<◌, List, [], ◌∷◌}
use Rattle.cd_sets.specs.declared.node_id.NodeId.{NodeId}
use Rattle.cd_model.specs.Language.{Language, none, nothing, item, either, followed, star, plus}
use Rattle.cd_model.specs.Language.{optional}
use Rattle.cd_model.specs.Membership.{Answers}

mutual
  pub data Regular : Type 0 where
    -- no item, and one item of this node
    Nothing : Regular
    Item : NodeId → Regular
    -- these in turn, and one of these
    Seq : Regulars → Regular
    Alt : Regulars → Regular
    -- this one any number of times, once or more, and at most once
    Star : Regular → Regular
    Plus : Regular → Regular
    Opt : Regular → Regular

  pub data Regulars : Type 0 where
    NoRegular : Regulars
    ARegular : Regular → Regulars → Regulars

-- a list as regular expressions
abbrev pub regulars_of : List Regular → Regulars
regulars_of [] = NoRegular
regulars_of (first ∷ rest) = ARegular first (regulars_of rest)

-- the lists of items, each known by what it answers at each node, that fit
abbrev mutual
  pub fits : Regular → Language Answers
  fits Nothing = nothing
  fits (Item id) = item (λ answers. answers id)
  fits (Seq all) = fits_in_turn all
  fits (Alt all) = fits_one all
  fits (Star is) = star (fits is)
  fits (Plus is) = plus (fits is)
  fits (Opt is) = optional (fits is)

  pub fits_in_turn : Regulars → Language Answers
  fits_in_turn NoRegular = nothing
  fits_in_turn (ARegular first rest) = followed (fits first) (fits_in_turn rest)

  pub fits_one : Regulars → Language Answers
  fits_one NoRegular = none
  fits_one (ARegular first rest) = either (fits first) (fits_one rest)

-- the number of each item's node is below this
abbrev mutual
  pub AsksBelow : ℕ → Regular → Type 0
  AsksBelow nodes Nothing = Unit {0}
  AsksBelow nodes (Item id) = id.0 < nodes
  AsksBelow nodes (Seq all) = AskBelow nodes all
  AsksBelow nodes (Alt all) = AskBelow nodes all
  AsksBelow nodes (Star is) = AsksBelow nodes is
  AsksBelow nodes (Plus is) = AsksBelow nodes is
  AsksBelow nodes (Opt is) = AsksBelow nodes is

  pub AskBelow : ℕ → Regulars → Type 0
  AskBelow nodes NoRegular = Unit {0}
  AskBelow nodes (ARegular first rest) = AsksBelow nodes first × AskBelow nodes rest

-- how many items stand in it
abbrev mutual
  pub items_in : Regular → ℕ
  items_in Nothing = 0
  items_in (Item id) = 1
  items_in (Seq all) = items_in_all all
  items_in (Alt all) = items_in_all all
  items_in (Star is) = items_in is
  items_in (Plus is) = items_in is
  items_in (Opt is) = items_in is

  pub items_in_all : Regulars → ℕ
  items_in_all NoRegular = 0
  items_in_all (ARegular first rest) = items_in first + items_in_all rest
