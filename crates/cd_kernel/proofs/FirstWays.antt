-- The first of some ways after which something goes on.
use Rattle.std.proofs.Common.{◌≡◌, Bool, true, false, List, [], ◌∷◌, ◌++◌, map, Option, Some}
use Rattle.std.proofs.Common.{None, refl, sym, ap, ap₂, ◌∙◌}
use Rattle.std.proofs.lemmas.List.{append_assoc}
use Rattle.cd_model.specs.Thing.{Thing}
use Rattle.cd_matching.specs.Captures.{or_else}
use Rattle.cd_matching.specs.Ways.{Way, Ways, still, followed, then_, if_taken, that_take}
use Rattle.cd_matching.specs.Ways.{in_order}
use Rattle.cd_kernel.proofs.OrElse.{or_else_assoc, or_else_none}

-- what is done on the things that are left
abbrev pub On : Type 0
On = List Thing → Option Way

-- a way, and then what is done on what it leaves
abbrev pub after : Way → Option Way → Option Way
after way None = None
after way (Some next) = Some (followed way next)

-- this where the way took nothing, and that where it took something
abbrev pub onward : (still_on taken_on : On) → Way → List Thing → Option Way
onward still_on taken_on way [] = after way (still_on way.rest)
onward still_on taken_on way (d ∷ taken) = after way (taken_on way.rest)

abbrev pub first_on : (still_on taken_on : On) → List Way → Option Way
first_on still_on taken_on [] = None
first_on still_on taken_on (way ∷ ways) =
    or_else (onward still_on taken_on way way.taken) (first_on still_on taken_on ways)

-- first the way that takes nothing, or last
abbrev pub order : Bool → (none others : Option Way) → Option Way
order true none others = or_else none others
order false none others = or_else others none

pub after_still : (things : List Thing) (way : Option Way) → after (still things) way ≡ way
after_still things None = refl
after_still things (Some way) = refl

followed_assoc : (one next last : Way)
    → followed (followed one next) last ≡ followed one (followed next last)
followed_assoc one next last = λ i. record {
  taken = append_assoc one.taken next.taken last.taken i;
  rest = last.rest;
  plain = λ name. or_else_assoc (one.plain name) (next.plain name) (last.plain name) i;
  gathered = λ name.
      append_assoc (one.gathered name) (next.gathered name) (last.gathered name) i;
}

after_twice : (one next : Way) (last : Option Way)
    → after (followed one next) last ≡ after one (after next last)
after_twice one next None = refl
after_twice one next (Some last) = ap Some (followed_assoc one next last)

after_or : (way : Way) (a b : Option Way)
    → after way (or_else a b) ≡ or_else (after way a) (after way b)
after_or way (Some next) b = refl
after_or way None b = refl

pub first_append : (s t : On) (ways others : List Way)
    → first_on s t (ways ++ others) ≡ or_else (first_on s t ways) (first_on s t others)
first_append s t [] others = refl
first_append s t (way ∷ ways) others =
    ap (or_else (onward s t way way.taken)) (first_append s t ways others)
    ∙ sym (or_else_assoc (onward s t way way.taken) (first_on s t ways) (first_on s t others))

-- ways that follow one that took nothing, and ways that follow one that took something
onward_still : (s t : On) (one next : Way) → one.taken ≡ []
    → onward s t (followed one next) (followed one next).taken
    ≡ after one (onward s t next next.taken)
onward_still s t one next none =
    ap (λ (taken : List Thing). onward s t (followed one next) (taken ++ next.taken)) none
    ∙ by_taken next.taken
  where
    by_taken : (taken : List Thing)
        → onward s t (followed one next) taken ≡ after one (onward s t next taken)
    by_taken [] = after_twice one next (s next.rest)
    by_taken (d ∷ taken) = after_twice one next (t next.rest)

onward_taken : (s t : On) (one next : Way) (d : Thing) (taken : List Thing)
    → one.taken ≡ d ∷ taken
    → onward s t (followed one next) (followed one next).taken
    ≡ after one (onward t t next next.taken)
onward_taken s t one next d taken some =
    ap (λ (all : List Thing). onward s t (followed one next) (all ++ next.taken)) some
    ∙ after_twice one next (t next.rest) ∙ by_taken next.taken
  where
    by_taken : (all : List Thing)
        → after one (after next (t next.rest)) ≡ after one (onward t t next all)
    by_taken [] = refl
    by_taken (e ∷ all) = refl

map_still : (s t : On) (one : Way) (ways : List Way) → one.taken ≡ []
    → first_on s t (map (followed one) ways) ≡ after one (first_on s t ways)
map_still s t one [] none = refl
map_still s t one (way ∷ ways) none =
    ap₂ or_else (onward_still s t one way none) (map_still s t one ways none)
    ∙ sym (after_or one (onward s t way way.taken) (first_on s t ways))

map_taken : (s t : On) (one : Way) (ways : List Way) (d : Thing) (taken : List Thing)
    → one.taken ≡ d ∷ taken
    → first_on s t (map (followed one) ways) ≡ after one (first_on t t ways)
map_taken s t one [] d taken some = refl
map_taken s t one (way ∷ ways) d taken some =
    ap₂ or_else (onward_taken s t one way d taken some) (map_taken s t one ways d taken some)
    ∙ sym (after_or one (onward t t way way.taken) (first_on t t ways))

-- one expression and then another
pub first_then : (s t : On) (ways : List Way) (next : Ways)
    → first_on s t (then_ ways next)
    ≡ first_on (λ rest. first_on s t (next rest)) (λ rest. first_on t t (next rest)) ways
first_then s t [] next = refl
first_then s t (way ∷ ways) next =
    first_append s t (map (followed way) (next way.rest)) (then_ ways next)
    ∙ ap₂ or_else (by_taken way.taken refl) (first_then s t ways next)
  where
    by_taken : (taken : List Thing) → way.taken ≡ taken
        → first_on s t (map (followed way) (next way.rest))
        ≡ onward (λ rest. first_on s t (next rest)) (λ rest. first_on t t (next rest)) way taken
    by_taken [] none = map_still s t way (next way.rest) none
    by_taken (d ∷ taken) some = map_taken s t way (next way.rest) d taken some

-- where nothing goes on after the other ways, those count that take an item
pub first_that_take : (s t : On) (ways : List Way)
    → first_on (λ rest. None) t ways ≡ first_on s t (that_take ways)
first_that_take s t [] = refl
first_that_take s t (way ∷ ways) = by_taken way.taken refl (first_that_take s t ways)
  where
    by_taken : (taken : List Thing) → way.taken ≡ taken
        → first_on (λ rest. None) t ways ≡ first_on s t (that_take ways)
        → or_else (onward (λ rest. None) t way taken) (first_on (λ rest. None) t ways)
        ≡ first_on s t (if_taken way taken (that_take ways))
    by_taken [] none further = further
    by_taken (d ∷ taken) some further = ap₂ or_else (ap (onward s t way) (sym some)) further

pub first_order : (lazy : Bool) (s t : On) (things : List Thing) (ways : List Way)
    → first_on s t (in_order lazy (still things) ways)
    ≡ order lazy (s things) (first_on s t ways)
first_order true s t things ways =
    ap (λ way. or_else way (first_on s t ways)) (after_still things (s things))
first_order false s t things ways = first_append s t ways (still things ∷ [])
    ∙ ap (or_else (first_on s t ways))
    (or_else_none (after (still things) (s things)) ∙ after_still things (s things))

-- the same is done
pub first_same : (s u t v : On) → ((things : List Thing) → s things ≡ u things)
    → ((things : List Thing) → t things ≡ v things) → (ways : List Way)
    → first_on s t ways ≡ first_on u v ways
first_same s u t v still_same taken_same ways =
    ap₂ (λ (a b : On). first_on a b ways)
    (λ i things. still_same things i) (λ i things. taken_same things i)
