-- The ways of an expression where each item goes at once to the variables around it that gather.
use Rattle.std.specs.Prelude.{Bool, List, [], ◌∷◌, ◌++◌, Option, Some, None}
use Rattle.cd_syntax.specs.Name.{Name}
use Rattle.cd_model.specs.Thing.{Thing}
use Rattle.cd_matching.specs.Captures.{Captures}
use Rattle.cd_matching.specs.Pattern as pattern
use Rattle.cd_matching.specs.Pattern.{Regular, Regulars, NoRegular, ARegular}
use Rattle.cd_matching.specs.Take.{Taking, take}
use Rattle.cd_matching.specs.Ways.{Way, Ways, still, then_, repeated}
use Rattle.cd_moves.specs.Automaton.{gathering}

-- the way, if there is one, that takes the first of the things
abbrev pub ways_gathering : List Name → Thing → List Thing → Option (Captures Name) → List Way
ways_gathering around d rest None = []
ways_gathering around d rest (Some captures) =
    record (gathering around d captures) { rest = rest } ∷ []

abbrev pub item_in : List Name → Taking → Ways
item_in around take [] = []
item_in around take (d ∷ rest) = ways_gathering around d rest (take d)

module _ (T : Type 0) (test : T → Thing → Bool) where
  abbrev mutual
    pub ways_in : List Name → Regular T → Ways
    ways_in around pattern.Nothing things = still things ∷ []
    ways_in around (pattern.Item p) things = item_in around (take T test p) things
    ways_in around (pattern.Seq all) things = turn_in around all things
    ways_in around (pattern.Alt all) things = one_in around all things
    ways_in around (pattern.Repeat r post) things = repeated post (ways_in around r) things
    ways_in around (pattern.Capture variable r) things = ways_in (variable ∷ around) r things

    pub turn_in : List Name → Regulars T → Ways
    turn_in around NoRegular things = still things ∷ []
    turn_in around (ARegular first rest) things =
        then_ (ways_in around first things) (turn_in around rest)

    pub one_in : List Name → Regulars T → Ways
    one_in around NoRegular things = []
    one_in around (ARegular first rest) things =
        ways_in around first things ++ one_in around rest things
