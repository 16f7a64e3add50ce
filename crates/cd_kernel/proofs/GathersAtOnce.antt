-- Where no variable gathers inside of what it gathers, each item may go at once to the variables
-- around it.
use Rattle.std.proofs.Common.{◌≡◌, ℕ, zero, suc, Bool, true, false, ◌||◌, List, [], ◌∷◌, ◌++◌, map}
use Rattle.std.proofs.Common.{length, Option, Some, None, refl, sym, ap, ap₂, ◌∙◌}
use Rattle.std.proofs.Common.{if◌then◌else◌, bytes_eq}
use Rattle.std.specs.List.{list_any}
use Rattle.std.proofs.lemmas.List.{map-append}
use Rattle.std.proofs.lemmas.Slice.Eq.{bytes_eq-Decides}
use Rattle.cd_syntax.specs.Name.{Name}
use Rattle.cd_syntax.specs.ComparingNames.{names_equiv}
use Rattle.cd_syntax.specs.declared.type_tree.Post.{Post}
use Rattle.cd_syntax.specs.declared.type_tree.Post.TheVariants as post
use Rattle.cd_model.specs.AllOf.{AllOf}
use Rattle.cd_model.specs.Thing.{Thing}
use Rattle.cd_matching.specs.Captures.{Captures}
use Rattle.cd_matching.specs.Naming.{GathersDisjoint, GatherDisjoint}
use Rattle.cd_matching.specs.Pattern as pattern
use Rattle.cd_matching.specs.Pattern.{Regular, Regulars, NoRegular, ARegular}
use Rattle.cd_matching.specs.Take.{Taking, take, ways_taking, ways_of_item, ways, ways_in_turn}
use Rattle.cd_matching.specs.Take.{ways_of_one}
use Rattle.cd_matching.specs.Ways.{Way, Ways, still, followed, gathers, then_, if_taken, that_take}
use Rattle.cd_matching.specs.Ways.{in_order, turns, star, repeated}
use Rattle.cd_kernel.specs.Inner.WaysIn.{ways_gathering, item_in, ways_in, turn_in, one_in}
use Rattle.cd_kernel.proofs.GathersNothing.{HasNothing, has_nothing}

-- the variables around gather all that a way takes
abbrev all_gather : List Name → Way → Way
all_gather around way = record way {
  gathered = λ name. if list_any (bytes_eq name) around then way.taken else way.gathered name;
}

-- the first ways are the second ones, where the variables around gather all
abbrev Gather : List Name → (first second : Ways) → Type 0
Gather around first second =
    (things : List Thing) → first things ≡ map (all_gather around) (second things)

by_both : {A : Type 0} (b : Bool) (f : A → A → A) (x y z w : A)
    → f (if b then x else y) (if b then z else w) ≡ (if b then f x z else f y w)
by_both true f x y z w = refl
by_both false f x y z w = refl

followed_gathers : (around : List Name) (one next : Way)
    → followed (all_gather around one) (all_gather around next)
    ≡ all_gather around (followed one next)
followed_gathers around one next = λ i. record {
  taken = one.taken ++ next.taken;
  rest = next.rest;
  plain = (followed one next).plain;
  gathered = λ name. by_both (list_any (bytes_eq name) around) (λ (a b : List Thing). a ++ b)
      one.taken (one.gathered name) next.taken (next.gathered name) i;
}

map_gathers : (around : List Name) (one : Way) (ways : List Way)
    → map (followed (all_gather around one)) (map (all_gather around) ways)
    ≡ map (all_gather around) (map (followed one) ways)
map_gathers around one [] = refl
map_gathers around one (way ∷ ways) = ap₂ (λ (w : Way) (l : List Way). w ∷ l)
    (followed_gathers around one way) (map_gathers around one ways)

then_gathers : (around : List Name) (ways : List Way) (first second : Ways)
    → Gather around first second
    → then_ (map (all_gather around) ways) first ≡ map (all_gather around) (then_ ways second)
then_gathers around [] first second so = refl
then_gathers around (way ∷ ways) first second so =
    ap₂ (λ (a b : List Way). a ++ b)
    (ap (map (followed (all_gather around way))) (so way.rest)
    ∙ map_gathers around way (second way.rest))
    (then_gathers around ways first second so)
    ∙ sym (map-append (all_gather around) (map (followed way) (second way.rest))
    (then_ ways second))

that_take_gathers : (around : List Name) (ways : List Way)
    → that_take (map (all_gather around) ways) ≡ map (all_gather around) (that_take ways)
that_take_gathers around [] = refl
that_take_gathers around (way ∷ ways) = by_taken way.taken (that_take_gathers around ways)
  where
    by_taken : (taken : List Thing)
        → that_take (map (all_gather around) ways) ≡ map (all_gather around) (that_take ways)
        → if_taken (all_gather around way) taken (that_take (map (all_gather around) ways))
        ≡ map (all_gather around) (if_taken way taken (that_take ways))
    by_taken [] further = further
    by_taken (d ∷ taken) further = ap (λ (l : List Way). all_gather around way ∷ l) further

same_if : {A : Type 0} (b : Bool) (x : A) → x ≡ (if b then x else x)
same_if true x = refl
same_if false x = refl

still_gathers : (around : List Name) (things : List Thing)
    → still things ≡ all_gather around (still things)
still_gathers around things = λ i. record {
  taken = [];
  rest = things;
  plain = (still things).plain;
  gathered = λ name. same_if {A = List Thing} (list_any (bytes_eq name) around) [] i;
}

order_gathers : (around : List Name) (lazy : Bool) (things : List Thing) (first second : List Way)
    → first ≡ map (all_gather around) second
    → in_order lazy (still things) first
    ≡ map (all_gather around) (in_order lazy (still things) second)
order_gathers around true things first second so =
    ap₂ (λ (w : Way) (l : List Way). w ∷ l) (still_gathers around things) so
order_gathers around false things first second so =
    ap₂ (λ (w : Way) (l : List Way). l ++ w ∷ []) (still_gathers around things) so
    ∙ sym (map-append (all_gather around) second (still things ∷ []))

module _ (around : List Name) (lazy : Bool) (first second : Ways)
    (so : Gather around first second) where
  turns_gather : (count : ℕ) → Gather around (turns lazy count first) (turns lazy count second)
  turns_gather zero things = ap (λ (w : Way). w ∷ []) (still_gathers around things)
  turns_gather (suc count) things = order_gathers around lazy things
      (then_ (that_take (first things)) (turns lazy count first))
      (then_ (that_take (second things)) (turns lazy count second))
      (ap (λ (l : List Way). then_ l (turns lazy count first))
      (ap that_take (so things) ∙ that_take_gathers around (second things))
      ∙ then_gathers around (that_take (second things)) (turns lazy count first)
      (turns lazy count second) (turns_gather count))

  star_gathers : Gather around (star lazy first) (star lazy second)
  star_gathers things = turns_gather (length things) things

  plus_gathers : Gather around (λ things. then_ (first things) (star lazy first))
      (λ things. then_ (second things) (star lazy second))
  plus_gathers things = ap (λ (l : List Way). then_ l (star lazy first)) (so things)
      ∙ then_gathers around (second things) (star lazy first) (star lazy second) star_gathers

  opt_gathers : Gather around (λ things. in_order lazy (still things) (first things))
      (λ things. in_order lazy (still things) (second things))
  opt_gathers things =
      order_gathers around lazy things (first things) (second things) (so things)

repeated_gathers : (around : List Name) (how : Post) (first second : Ways)
    → Gather around first second → Gather around (repeated how first) (repeated how second)
repeated_gathers around post.Star first second so = star_gathers around false first second so
repeated_gathers around post.LazyStar first second so = star_gathers around true first second so
repeated_gathers around post.Plus first second so = plus_gathers around false first second so
repeated_gathers around post.LazyPlus first second so = plus_gathers around true first second so
repeated_gathers around post.Opt first second so = opt_gathers around false first second so
repeated_gathers around post.LazyOpt first second so = opt_gathers around true first second so

-- one more variable around
more_around : (among same : Bool) (taken gathered : List Thing) → (same ≡ true → gathered ≡ [])
    → (if same || among then taken else gathered)
    ≡ (if among then taken else (if same then gathered ++ taken else gathered))
more_around true true taken gathered none = refl
more_around true false taken gathered none = refl
more_around false true taken gathered none = sym (ap (λ (l : List Thing). l ++ taken) (none refl))
more_around false false taken gathered none = refl

way_gathers : (around : List Name) (variable : Name) (way : Way) → way.gathered variable ≡ []
    → all_gather (variable ∷ around) way ≡ all_gather around (gathers variable way)
way_gathers around variable way none = λ i. record {
  taken = way.taken;
  rest = way.rest;
  plain = way.plain;
  gathered = λ name. by_name name i;
}
  where
    by_name : (name : Name) → (all_gather (variable ∷ around) way).gathered name
        ≡ (all_gather around (gathers variable way)).gathered name
    by_name name =
        more_around (list_any (bytes_eq name) around) (bytes_eq name variable) way.taken
        (way.gathered name)
        (λ same. ap way.gathered ((bytes_eq-Decides name variable).0 same) ∙ none)
        ∙ ap (λ (b : Bool). if list_any (bytes_eq name) around then way.taken
        else (if b then way.gathered name ++ way.taken else way.gathered name))
        (names_equiv.symm name variable)

ways_gather : (around : List Name) (variable : Name) (things : List Thing) (ways : List Way)
    → AllOf (HasNothing variable things) ways
    → map (all_gather (variable ∷ around)) ways
    ≡ map (all_gather around) (map (gathers variable) ways)
ways_gather around variable things [] each = refl
ways_gather around variable things (way ∷ ways) each =
    ap₂ (λ (w : Way) (l : List Way). w ∷ l) (way_gathers around variable way each.0)
    (ways_gather around variable things ways each.1)

item_gathers : (around : List Name) (take : Taking)
    → Gather around (item_in around take) (ways_of_item take)
item_gathers around take [] = refl
item_gathers around take (d ∷ rest) = by_take (take d)
  where
    by_take : (captures : Option (Captures Name)) → ways_gathering around d rest captures
        ≡ map (all_gather around) (ways_taking d rest captures)
    by_take None = refl
    by_take (Some captures) = refl

module _ (T : Type 0) (test : T → Thing → Bool) where
  mutual
    regular_gathers : (around : List Name) (r : Regular T) → GathersDisjoint around r
        → Gather around (ways_in T test around r) (ways T test r)
    regular_gathers around pattern.Nothing apart = λ things.
        ap (λ (w : Way). w ∷ []) (still_gathers around things)
    regular_gathers around (pattern.Item p) apart = item_gathers around (take T test p)
    regular_gathers around (pattern.Seq all) apart = turn_gathers around all apart
    regular_gathers around (pattern.Alt all) apart = one_gathers around all apart
    regular_gathers around (pattern.Repeat r how) apart =
        repeated_gathers around how (ways_in T test around r) (ways T test r)
        (regular_gathers around r apart)
    regular_gathers around (pattern.Capture name r) apart = λ things.
        regular_gathers (name ∷ around) r apart.1 things
        ∙ ways_gather around name things (ways T test r things)
        (has_nothing T test name (name ∷ around)
        (ap (λ (b : Bool). b || list_any (bytes_eq name) around) (names_equiv.refl name))
        r apart.1 things)

    turn_gathers : (around : List Name) (all : Regulars T) → GatherDisjoint around all
        → Gather around (turn_in T test around all) (ways_in_turn T test all)
    turn_gathers around NoRegular apart = λ things.
        ap (λ (w : Way). w ∷ []) (still_gathers around things)
    turn_gathers around (ARegular first rest) apart = λ things.
        ap (λ (l : List Way). then_ l (turn_in T test around rest))
        (regular_gathers around first apart.0 things)
        ∙ then_gathers around (ways T test first things) (turn_in T test around rest)
        (ways_in_turn T test rest) (turn_gathers around rest apart.1)

    one_gathers : (around : List Name) (all : Regulars T) → GatherDisjoint around all
        → Gather around (one_in T test around all) (ways_of_one T test all)
    one_gathers around NoRegular apart = λ things. refl
    one_gathers around (ARegular first rest) apart = λ things.
        ap₂ (λ (a b : List Way). a ++ b) (regular_gathers around first apart.0 things)
        (one_gathers around rest apart.1 things)
        ∙ sym (map-append (all_gather around) (ways T test first things)
        (ways_of_one T test rest things))

  none_around : (ways : List Way) → map (all_gather []) ways ≡ ways
  none_around [] = refl
  none_around (way ∷ ways) = ap (λ (l : List Way). way ∷ l) (none_around ways)

  pub at_once : (r : Regular T) → GathersDisjoint [] r → (things : List Thing)
      → ways_in T test [] r things ≡ ways T test r things
  at_once r apart things =
      regular_gathers [] r apart things ∙ none_around (ways T test r things)
