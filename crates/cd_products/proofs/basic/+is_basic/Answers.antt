use Rattle.std.proofs.Common.{rules, ◌/◌, ◌≡◌, Bool, true, false, ◌&&◌, ◌||◌, List, drop}
use Rattle.std.proofs.Common.{length, map, ap, sym, refl, ◌∙◌, arith, true≢false}
use Rattle.cd_model.specs.Formula.{formulas_of}
use Rattle.cd_graph.specs.PlainFormula.{plain}
use Rattle.cd_graph.specs.declared.formula.Formula.{Formula as CodeFormula}
use Rattle.cd_products.specs.Inner.Basic.{one_is_basic, all_are_basic}
use Rattle.cd_products.proofs.Halves.{first_falls, second_falls, from_place, two_or_more}
use Rattle.cd_products.proofs.BasicForms.{one_of_halves, all_of_halves}
use Rattle.cd_products.proofs.basic.+is_basic.Goals as goal

-- each half is smaller than the list
pub one_is_basic-one_is_basic-requires : goal.one_is_basic-one_is_basic-requires
one_is_basic-one_is_basic-requires t c =
    let formulas = c.args.formulas.now in
    let least = c.in-len1-up.len_at_least in
    let fall = first_falls (length formulas / 2) formulas (omega arith) in
    search (rules, fall, c.decreases)

pub one_is_basic-one_is_basic-requires-else-one_is_basic :
    goal.one_is_basic-one_is_basic-requires-else-one_is_basic
one_is_basic-one_is_basic-requires-else-one_is_basic t c =
    let formulas = c.args.formulas.now in
    let half = length formulas / 2 in
    let least = two_or_more formulas c.if-is_empty.ensures in
    let fall = rw (sym (from_place formulas half)) at
    (second_falls half formulas (omega arith) (omega arith)) in
    search (rules, fall, c.decreases)

pub all_are_basic-all_are_basic-requires : goal.all_are_basic-all_are_basic-requires
all_are_basic-all_are_basic-requires t c =
    let formulas = c.args.formulas.now in
    let least = c.in-len1-up.len_at_least in
    let fall = first_falls (length formulas / 2) formulas (omega arith) in
    search (rules, fall, c.decreases)

pub all_are_basic-all_are_basic-requires-then-all_are_basic :
    goal.all_are_basic-all_are_basic-requires-then-all_are_basic
all_are_basic-all_are_basic-requires-then-all_are_basic t c =
    let formulas = c.args.formulas.now in
    let half = length formulas / 2 in
    let least = two_or_more formulas c.if-is_empty.ensures in
    let fall = rw (sym (from_place formulas half)) at
    (second_falls half formulas (omega arith) (omega arith)) in
    search (rules, fall, c.decreases)

-- what is found of the halves
abbrev one_of : List CodeFormula → Bool
one_of formulas = one_is_basic (formulas_of (map plain formulas))

abbrev all_of : List CodeFormula → Bool
all_of formulas = all_are_basic (formulas_of (map plain formulas))

or_first : (a b : Bool) → a ≡ true → a ≡ (a || b)
or_first true b is = refl
or_first false b is = absurd (true≢false (sym is))

and_first : (a b : Bool) → a ≡ false → a ≡ (a && b)
and_first false b is = refl
and_first true b is = absurd (true≢false is)

pub one_is_basic-returns-then-one_is_basic : goal.one_is_basic-returns-then-one_is_basic
one_is_basic-returns-then-one_is_basic t c =
    let formulas = c.args.formulas.now in
    let rest = drop (length formulas / 2) formulas in
    or_first c.one_is_basic.result (one_of rest) c.if-one_is_basic.true
    ∙ ap (λ (b : Bool). b || one_of rest) c.one_is_basic.ensures
    ∙ one_of_halves (length formulas / 2) formulas

pub one_is_basic-returns-else-one_is_basic : goal.one_is_basic-returns-else-one_is_basic
one_is_basic-returns-else-one_is_basic t c =
    let formulas = c.args.formulas.now in
    let rest = drop (length formulas / 2) formulas in
    c.one_is_basic-else-one_is_basic.ensures
    ∙ ap one_of (from_place formulas (length formulas / 2))
    ∙ ap (λ (b : Bool). b || one_of rest)
    (sym c.if-one_is_basic.false ∙ c.one_is_basic.ensures)
    ∙ one_of_halves (length formulas / 2) formulas

pub all_are_basic-returns-then-all_are_basic : goal.all_are_basic-returns-then-all_are_basic
all_are_basic-returns-then-all_are_basic t c =
    let formulas = c.args.formulas.now in
    let rest = drop (length formulas / 2) formulas in
    c.all_are_basic-then-all_are_basic.ensures
    ∙ ap all_of (from_place formulas (length formulas / 2))
    ∙ ap (λ (b : Bool). b && all_of rest)
    (sym c.if-all_are_basic.true ∙ c.all_are_basic.ensures)
    ∙ all_of_halves (length formulas / 2) formulas

pub all_are_basic-returns-else-all_are_basic : goal.all_are_basic-returns-else-all_are_basic
all_are_basic-returns-else-all_are_basic t c =
    let formulas = c.args.formulas.now in
    let rest = drop (length formulas / 2) formulas in
    and_first c.all_are_basic.result (all_of rest) c.if-all_are_basic.false
    ∙ ap (λ (b : Bool). b && all_of rest) c.all_are_basic.ensures
    ∙ all_of_halves (length formulas / 2) formulas
