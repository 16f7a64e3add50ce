-- Runs of small programs, as the meaning gives them.
use Rattle.std.proofs.Common.{suc, zero, ◌≤◌, arith, ℕ, pos, negsuc, [], ◌∷◌, refl, codes}
use Rattle.cd_syntax.specs.Integer.{LEAST, GREATEST}
use Rattle.cd_model.specs.Thing.{Thing, Integer, Character, Atom, Record, NoField, Field}
use Rattle.cd_matching.specs.Sequences.{text_of, sequence_of}
use Rattle.cd_program.specs.Expr.{Expr}
use Rattle.cd_program.specs.declared.operator.Op.TheVariants as op
use Rattle.cd_evaluation.specs.Runs.{Outcome, Done, Raised, Overflow, Spent, Result, ticked}
use Rattle.cd_evaluation.specs.Meaning.{calls, Meaning}
use Rattle.cd_evaluation.specs.Examples.{code_of, main, one_more, by_minus_one, oops, read_x, records, doubled, flat, ones, ask, loop}

abbrev ended : Outcome → ℕ → Result
ended outcome left = record { outcome = outcome; left = left }

-- with so many units the body, at this value of `x`, ends with this outcome and so many units
abbrev Gives : Expr → Thing → ℕ → Outcome → ℕ → Type 0
Gives body x units outcome left = Meaning (code_of body) main x units (ended outcome left)

abbrev n : ℕ → Thing
n m = Integer (pos m)

abbrev minus_one : Thing
minus_one = Integer (negsuc 0)

-- x + 1
two : Gives one_more (n 1) 2 (Done (n 2)) 0
two = (_, refl, (ended (Done (n 1)) 1, refl, (ended (Done (n 2)) 0, (ended (Done (n 1)) 1, refl, refl), refl)))

spent : Gives one_more (n 1) 1 Spent 0
spent = (_, refl, (ended (Done (n 1)) 0, refl, (ended Spent 0, (ended (Done (n 1)) 0, refl, refl), refl)))

none_left : Gives one_more (n 1) 0 Spent 0
none_left = refl

overflow : Gives one_more (Integer GREATEST) 2 Overflow 0
overflow = (_, refl, (ended (Done (Integer GREATEST)) 1, refl, (ended Overflow 0, (ended (Done (n 1)) 1, refl, refl), refl)))

-- x div -1 and x mod -1, at the least integer
div_overflows : Gives (by_minus_one op.Div) (Integer LEAST) 2 Overflow 0
div_overflows = (_, refl, (ended (Done (Integer LEAST)) 1, refl, (ended Overflow 0, (ended (Done minus_one) 1, refl, refl), refl)))

mod_is_zero : Gives (by_minus_one op.Mod) (Integer LEAST) 2 (Done (n 0)) 0
mod_is_zero = (_, refl, (ended (Done (Integer LEAST)) 1, refl, (ended (Done (n 0)) 0, (ended (Done minus_one) 1, refl, refl), refl)))

-- raise `Oops
raised : Gives oops (n 1) 2 (Raised (Atom (codes "Oops"))) 0
raised = (_, refl, (ended (Done (Atom (codes "Oops"))) 1, refl, refl))

-- try int_of x with `Invalid_int -> 0 - 1
parsed : Gives read_x (text_of (codes "12")) 2 (Done (n 12)) 0
parsed = (_, refl, (ended (Done (n 12)) 0, (ended (Done (text_of (codes "12"))) 1, refl, refl), refl))

parsed_negative : Gives read_x (text_of (codes "-1")) 2 (Done minus_one) 0
parsed_negative = (_, refl, (ended (Done minus_one) 0, (ended (Done (text_of (codes "-1"))) 1, refl, refl), refl))

not_parsed : Gives read_x (text_of (codes "x")) 4 (Done minus_one) 0
not_parsed = (
  _,
  refl,
  (
    ended (Raised (Atom (codes "Invalid_int"))) 2,
    (ended (Done (text_of (codes "x"))) 3, refl, refl),
    (_, refl, (ended (Done (n 0)) 1, refl, (ended (Done minus_one) 0, (ended (Done (n 1)) 1, refl, refl), refl))),
  ),
)

-- {a=x; b=1} + {b="x"} \ a
abbrev bx : Thing
bx = Record (Field (codes "b") (text_of (codes "x")) NoField)

abbrev abx : Thing
abx = Record (Field (codes "a") (n 3) (Field (codes "b") (text_of (codes "x")) NoField))

abbrev ab1 : Thing
ab1 = Record (Field (codes "a") (n 3) (Field (codes "b") (n 1) NoField))

merged : Gives records (n 3) 3 (Done bx) 0
merged = (
  _,
  refl,
  (
    ended (Done ab1) 2,
    (ended (Done (n 3)) 2, refl, (ended (Done (n 1)) 2, refl, refl)),
    (
      ended (Done abx) 1,
      (ended (Done bx) 2, (ended (Done (text_of (codes "x"))) 2, refl, refl), refl),
      (ended (Done bx) 0, refl, refl),
    ),
  ),
)

-- (map x with x -> x * 2) @ [0]
abbrev of_two : ℕ → ℕ → Thing
of_two a b = sequence_of (n a ∷ n b ∷ [])

six_units : Gives doubled (of_two 1 2) 6 (Done (sequence_of (n 2 ∷ n 4 ∷ n 0 ∷ []))) 0
six_units = (
  _,
  refl,
  (
    ended (Done (of_two 2 4)) 1,
    (
      ended (Done (of_two 1 2)) 5,
      refl,
      (
        ended (Done (n 2)) 3,
        (_, refl, (ended (Done (n 1)) 4, refl, (ended (Done (n 2)) 3, (ended (Done (n 2)) 4, refl, refl), refl))),
        (ended (Done (n 4)) 1, (_, refl, (ended (Done (n 2)) 2, refl, (ended (Done (n 4)) 1, (ended (Done (n 2)) 2, refl, refl), refl))), refl),
      ),
    ),
    (ended (Done (sequence_of (n 2 ∷ n 4 ∷ n 0 ∷ []))) 0, (ended (Done (sequence_of (n 0 ∷ []))) 1, (ended (Done (n 0)) 1, refl, refl), refl), refl),
  ),
)

five_units : Gives doubled (of_two 1 2) 5 Spent 0
five_units = (
  _,
  refl,
  (
    ended (Done (of_two 2 4)) 0,
    (
      ended (Done (of_two 1 2)) 4,
      refl,
      (
        ended (Done (n 2)) 2,
        (_, refl, (ended (Done (n 1)) 3, refl, (ended (Done (n 2)) 2, (ended (Done (n 2)) 3, refl, refl), refl))),
        (ended (Done (n 4)) 0, (_, refl, (ended (Done (n 2)) 1, refl, (ended (Done (n 4)) 0, (ended (Done (n 2)) 1, refl, refl), refl))), refl),
      ),
    ),
    (ended Spent 0, (ended (Done (sequence_of (n 0 ∷ []))) 0, (ended (Done (n 0)) 0, refl, refl), refl), refl),
  ),
)

-- flatten x
abbrev lists : Thing
lists = sequence_of (of_two 1 2 ∷ sequence_of [] ∷ sequence_of (n 3 ∷ []) ∷ [])

flattened : Gives flat lists 2 (Done (sequence_of (n 1 ∷ n 2 ∷ n 3 ∷ []))) 0
flattened = (_, refl, (ended (Done lists) 1, refl, refl))

-- transform x with `a -> [1]: items that no branch takes give nothing, and take a unit
abbrev a : Thing
a = Atom (codes "a")

sifted : Gives ones (sequence_of (a ∷ n 5 ∷ a ∷ [])) 4 (Done (of_two 1 1)) 0
sifted = (
  _,
  refl,
  (
    ended (Done (sequence_of (a ∷ n 5 ∷ a ∷ []))) 3,
    refl,
    (
      ended (Done (sequence_of (n 1 ∷ []))) 2,
      (_, refl, (ended (Done (n 1)) 2, refl, refl)),
      (
        ended (Done (sequence_of [])) 1,
        (_, refl, refl),
        (ended (Done (sequence_of (n 1 ∷ []))) 0, (_, refl, (ended (Done (n 1)) 0, refl, refl)), refl),
      ),
    ),
  ),
)

-- if x = 0 then {a=0} else [!x 'y']: the unit of `!x` comes after that of the test
asked : Gives ask (n 0) 3 (Done (Record (Field (codes "a") (n 0) NoField))) 0
asked = (
  _,
  refl,
  (
    ended (Done (Atom (codes "true"))) 1,
    (
      ended (Done (n 0)) 2,
      refl,
      (ended (Done (Atom (codes "true"))) 1, (ended (Done (n 0)) 2, refl, refl), refl),
    ),
    (ended (Done (n 0)) 0, refl, refl),
  ),
)

spliced : Gives ask (sequence_of (n 7 ∷ [])) 4 (Done (sequence_of (n 7 ∷ Character 121 ∷ []))) 0
spliced = (
  _,
  refl,
  (
    ended (Done (Atom (codes "false"))) 2,
    (
      ended (Done (sequence_of (n 7 ∷ []))) 3,
      refl,
      (ended (Done (Atom (codes "false"))) 2, (ended (Done (n 0)) 3, refl, refl), refl),
    ),
    (ended (Done (sequence_of (n 7 ∷ []))) 1, refl, refl),
  ),
)

-- main x, for ever: no number of units is enough
loops : (depth units : ℕ) → units ≤ depth → ticked (calls (code_of loop) depth main (n 1)) units (ended Spent 0)
loops depth zero below = refl
loops zero (suc units) below = absurd (omega (arith, below))
loops (suc depth) (suc units) below = (
  _,
  refl,
  (
    ended (Done main) units,
    refl,
    (
      ended (Done (n 1)) units,
      refl,
      (ended Spent 0, loops depth units (omega (arith, below)), refl),
    ),
  ),
)

thousand : Gives loop (n 1) 1000 Spent 0
thousand = loops 1000 1000 (omega arith)
