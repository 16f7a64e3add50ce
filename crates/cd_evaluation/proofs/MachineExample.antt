-- The machine at work, step by step: `let fun main (..) x -> x + 1`, applied to 1 with two units.
use Rattle.std.proofs.Common.{ℕ, pos, List, [], ◌∷◌, refl, arith, codes}
use Rattle.cd_syntax.specs.declared.tokens.Span.{Span}
use Rattle.cd_syntax.specs.declared.constant.Constant.TheVariants as constant
use Rattle.cd_model.specs.Thing.{Thing, Integer, NoField, Field}
use Rattle.cd_program.specs.declared.operator.Op.TheVariants as op
use Rattle.cd_program.specs.Expr.{NoExpr, Tails, NoTail, ATail, Operand}
use Rattle.cd_evaluation.specs.Runs.{Done, Result}
use Rattle.cd_evaluation.specs.Environment.{Env}
use Rattle.cd_evaluation.specs.Code.{Code}
use Rattle.cd_evaluation.specs.Meaning.{calls, Meaning}
use Rattle.cd_evaluation.specs.Machine.{State, Frame, Called, Tailing, Operating, start, evaluating, returning}
use Rattle.cd_evaluation.specs.Ends.{Keeps}
use Rattle.cd_evaluation.specs.Examples.{code_of, main, one_more, x, int}
use Rattle.cd_evaluation.proofs.EnteringSteps as entering
use Rattle.cd_evaluation.proofs.ResumingSteps as resuming
use Rattle.cd_evaluation.proofs.CallingSteps as calling
use Rattle.cd_evaluation.proofs.MachineRight.{machine_right}

abbrev code : Code
code = code_of one_more

abbrev call : Thing → Thing → ℕ → Result → Type 0
call = calls code 2

abbrev Follows : (old new : State) → Type 0
Follows old new = Keeps code call old new

abbrev span : Span
span = record { from = 0; to = 0 }

abbrev one : Thing
one = Integer (pos 1)

-- what the body sees, and what waits for it
abbrev env : Env
env = Field (codes "x") one (Field (codes "main") main NoField)

abbrev plus_one : Tails
plus_one = ATail (Operand op.Plus (int (pos 1))) NoTail

abbrev below : List Frame
below = Called NoExpr NoField ∷ []

entered : Follows (start main one 2) (evaluating one_more env 1 below)
entered = calling.entered code 2 NoField NoExpr [] one 1 (omega arith) 0 NoField _ _ _ _ _ one_more (Field (codes "x") one NoField) refl
    (_, refl, refl)

to_left : Follows (evaluating one_more env 1 below) (evaluating x env 1 (Tailing plus_one env ∷ below))
to_left = entering.chain code call span env 1 below x plus_one

left : Follows (evaluating x env 1 (Tailing plus_one env ∷ below)) (returning (Done one) 1 (Tailing plus_one env ∷ below))
left = entering.variable code call span env 1 (Tailing plus_one env ∷ below) (codes "x")

to_right : Follows (returning (Done one) 1 (Tailing plus_one env ∷ below)) (evaluating (int (pos 1)) env 1 (Operating op.Plus one NoTail env ∷ below))
to_right = resuming.operand code call env 1 below op.Plus (int (pos 1)) NoTail one tt

right : Follows (evaluating (int (pos 1)) env 1 (Operating op.Plus one NoTail env ∷ below)) (returning (Done one) 1 (Operating op.Plus one NoTail env ∷ below))
right = entering.constant code call span env 1 (Operating op.Plus one NoTail env ∷ below) (constant.Int (pos 1))

added : Follows (returning (Done one) 1 (Operating op.Plus one NoTail env ∷ below)) (returning (Done (Integer (pos 2))) 0 (Tailing NoTail env ∷ below))
added = resuming.operated_ code call env 0 below op.Plus one NoTail one

no_more : Follows (returning (Done (Integer (pos 2))) 0 (Tailing NoTail env ∷ below)) (returning (Done (Integer (pos 2))) 0 below)
no_more = resuming.no_tail code call env 0 below (Integer (pos 2))

given : Follows (returning (Done (Integer (pos 2))) 0 below) (returning (Done (Integer (pos 2))) 0 [])
given = resuming.all_given code call NoField 0 [] (Integer (pos 2))

two : Meaning code main one 2 (record { outcome = Done (Integer (pos 2)); left = 0 })
two = machine_right code main one 2 (Done (Integer (pos 2))) 0 (λ result h. entered result (to_left result (left result (to_right result
    (right result (added result (no_more result (given result h))))))))
