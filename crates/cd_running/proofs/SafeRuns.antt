-- Runs of a safe program on a value that it takes.
use Rattle.std.proofs.Common.{◌≡◌, ◌≢◌, refl, ℕ, true, List, [], ◌∷◌, inl, inr}
use Rattle.cd_model.specs.AllOf.{AnyOf}
use Rattle.cd_model.specs.Thing.{Thing}
use Rattle.cd_model.specs.Written.{in_written}
use Rattle.cd_program.specs.Expr.{FunctionTree, Program}
use Rattle.cd_evaluation.specs.ProgramInterfaces.{interface_of}
use Rattle.cd_evaluation.specs.Runs.{Result, Stuck}
use Rattle.cd_safety.specs.SafeProgram.{IsMain, IsDocument, IsSafeProgram}
use Rattle.cd_running.specs.Input.{IsSafeOn, argument}
use Rattle.cd_running.specs.RunsOn.{IsRun}

-- one of a list of which a fact holds
one_of : {X : Type 0} (Fact : X → Type 0) (all : List X) → AnyOf Fact all → (x : X) × AnyOf (λ one. one ≡ x) all × Fact x
one_of Fact [] none = absurd none
one_of Fact (x ∷ rest) (inl is) = (x, inl refl, is)
one_of Fact (x ∷ rest) (inr among) = let found = one_of Fact rest among in (found.0, inr found.1, found.2)

pub safe_on : (program : Program) → IsSafeProgram program → (v : Thing) → IsDocument v → (main : FunctionTree) → IsMain program main
    → IsSafeOn program main v
safe_on program safe v is_document main is_main signature among inside = safe main is_main signature among v is_document inside

-- no run is stuck
pub not_stuck : (program : Program) (main : FunctionTree) (v : Thing) (units : ℕ) (result : Result) → IsRun program main v units result
    → result.outcome ≢ Stuck
not_stuck program main v units result run =
    let found = one_of (λ signature. in_written v (argument program signature) true) (interface_of main) run.input in
    (run.safe found.0 found.1 found.2).never_stuck units result run.comes
