-- What the first branch of the program's `transform` takes of a list of items: one whose first item is an integer, which its
-- variable gathers alone.
use Rattle.std.proofs.Common.{◌≡◌, Bool, true, false, List, [], ◌∷◌, ◌++◌, Some, codes, refl, ap, ap₂, subst, map}
use Rattle.std.proofs.lemmas.Option.{none-some, same_Some}
use Rattle.cd_syntax.specs.Name.{Name}
use Rattle.cd_syntax.specs.declared.type_tree.Post.TheVariants as post
use Rattle.cd_model.specs.AllOf.{AllOf}
use Rattle.cd_model.specs.Thing.{Thing}
use Rattle.cd_model.proofs.Covered.{each_both}
use Rattle.cd_matching.specs.Captures.{nothing, if_so}
use Rattle.cd_matching.specs.Pattern as pattern
use Rattle.cd_matching.specs.Pattern.{Regular, ARegular, NoRegular}
use Rattle.cd_matching.specs.Take.{ways, ways_in_turn, ways_taking}
use Rattle.cd_matching.specs.Ways.{Way, Ways, followed, then_, first_whole, if_whole, one_item, gathers}
use Rattle.cd_matching.proofs.AllOf.{all_map}
use Rattle.cd_matching.proofs.AllWays.{all_then, all_repeated}
use Rattle.cd_running.proofs.PatternTests.{Test, is_integer, is_any}

abbrev pub x : Name
x = codes "x"

-- `_*`, and `x::Int _*`
abbrev any_item : Regular Test
any_item = pattern.Item (pattern.OfType is_any)

abbrev pub any_items : Regular Test
any_items = pattern.Repeat any_item post.Star

abbrev pub first_integer : Regular Test
first_integer = pattern.Seq
    (ARegular (pattern.Capture x (pattern.Item (pattern.OfType is_integer))) (ARegular any_items NoRegular))

abbrev pub ways_of : Regular Test → Ways
ways_of = ways Test (λ test. test)

abbrev other_ways : Ways
other_ways = ways_in_turn Test (λ test. test) (ARegular any_items NoRegular)

-- the other items are not gathered
abbrev GathersNothing : Way → Type 0
GathersNothing way = way.gathered x ≡ []

of_item : (things : List Thing) → AllOf GathersNothing (ways_of any_item things)
of_item [] = tt
of_item (d ∷ things) = (refl, tt)

in_turn : (one other : Way) → GathersNothing one → GathersNothing other → GathersNothing (followed one other)
in_turn one other first second = ap₂ (λ a b. a ++ b) first second

of_others : (things : List Thing) → AllOf GathersNothing (other_ways things)
of_others things = all_then GathersNothing (λ things. refl) in_turn (ways_of any_items things) _
    (all_repeated GathersNothing (λ things. refl) in_turn post.Star (ways_of any_item) of_item things)
    (λ things. (refl, tt))

-- the first item is
abbrev Gathers : Thing → Way → Type 0
Gathers d way = way.gathered x ≡ d ∷ []

abbrev with_first : Thing → List Thing → Way
with_first d things = gathers x (one_item d things nothing)

of_first : (d : Thing) (things : List Thing) → AllOf (Gathers d) (then_ (with_first d things ∷ []) other_ways)
of_first d things = each_both (Gathers d) (map (followed (with_first d things)) (other_ways things)) []
    (all_map GathersNothing (Gathers d) (followed (with_first d things)) (λ other none. ap (λ more. d ∷ more) none)
    (other_ways things) (of_others things))
    tt

-- the way that is chosen is one of the ways
chosen_is : (Fact : Way → Type 0) (all : List Way) → AllOf Fact all → (way : Way) → first_whole all ≡ Some way → Fact way
chosen_is Fact [] each way is = absurd (none-some way is)
chosen_is Fact (one ∷ others) each way is = by_rest one.rest is (chosen_is Fact others each.1 way)
  where
    by_rest : (rest : List Thing) → if_whole one rest (first_whole others) ≡ Some way
        → (first_whole others ≡ Some way → Fact way) → Fact way
    by_rest [] is later = subst Fact (same_Some one way is) each.0
    by_rest (d ∷ rest) is later = later is

pub record HasFirst (things : List Thing) (way : Way) : Type 0 where
  pub first : Thing
  pub rest : List Thing
  pub parts : things ≡ first ∷ rest
  pub is_one : is_integer first ≡ true
  pub gathered : way.gathered x ≡ first ∷ []

pub has_first : (things : List Thing) (way : Way) → first_whole (ways_of first_integer things) ≡ Some way → HasFirst things way
has_first [] way is = absurd (none-some way is)
has_first (d ∷ things) way is = by_test (is_integer d) refl is
  where
    by_test : (so : Bool) → is_integer d ≡ so
        → first_whole (then_ (map (gathers x) (ways_taking d things (if_so so))) other_ways) ≡ Some way
        → HasFirst (d ∷ things) way
    by_test true so is = record {
      first = d;
      rest = things;
      parts = refl;
      is_one = so;
      gathered = chosen_is (Gathers d) (then_ (with_first d things ∷ []) other_ways) (of_first d things) way is;
    }
    by_test false so is = absurd (none-some way is)
