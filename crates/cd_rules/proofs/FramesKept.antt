-- Each step keeps what is so of the frames. At the end the questions that are settled and the list are a closed family.
use Rattle.std.proofs.Common.{◌≡◌, ℕ, List, [], ◌∷◌, ◌++◌, length, take, refl, sym, ap, subst, ◌∙◌, append_assoc}
use Rattle.std.proofs.Math.Seq.{take-append_seam}
use Rattle.cd_sets.specs.declared.question.Question.{Question}
use Rattle.cd_model.specs.AllOf.{AllOf}
use Rattle.cd_model.specs.Formula.{Graph}
use Rattle.cd_rules.specs.Clauses.{Clause, IsClauseOfQuestion}
use Rattle.cd_rules.specs.Family.{AreAmong, IsClosed, Refutes}
use Rattle.cd_rules.specs.PartialConjuncts.{PartialFails}
use Rattle.cd_rules.specs.Tasks.{TaskFails}
use Rattle.cd_rules.proofs.Among.{among_longer, among_on, among_itself}
use Rattle.cd_rules.proofs.Subsumption.{subsumed_where, refutes_on}
use Rattle.cd_model.proofs.Ones.{each_weaker, each_of_lists}
use Rattle.cd_rules.specs.Machine.{Frame, State, Work, IsDone, Step, opens, knows, works, finds, leaves}
use Rattle.cd_rules.specs.Right.{IsRefuted, IsWorkOf, AreFrames}
use Rattle.cd_rules.proofs.WorkKept.{refuted_on, work_on, work_kept}

-- the list up to the place of its last frame
pub cut_to_place : (place : ℕ) (list before : List Question) (question : Question) (done : List Question)
    → list ≡ before ++ question ∷ done → place ≡ length before → take place list ≡ before
cut_to_place place list before question done list_is place_is = ap (λ place. take place list) place_is
    ∙ ap (take (length before)) list_is ∙ take-append_seam before (question ∷ done)

module _ (graph : Graph) where
  -- a question for which nothing is left to do
  done_is_refuted : (base : List Question) (question : Question) (left : Work) → IsWorkOf graph base question left → IsDone left
      → IsRefuted graph base question
  done_is_refuted base question left is (no_conjunct, no_branch) family larger none = is.conjuncts_fail family larger
      (is.branches_fail family larger (subst (AllOf (TaskFails family)) (sym no_branch) tt))
      (subst (AllOf (PartialFails family)) (sym no_conjunct) tt)

  module _ (settled : List Question) where
    -- what is settled and a list are among those with a longer list
    longer : (list more : List Question) → AreAmong (settled ++ list) (settled ++ (list ++ more))
    longer list more = subst (AreAmong (settled ++ list)) (append_assoc settled list more) (among_longer (settled ++ list) more)

    -- a list that goes on with questions that are refuted
    goes_longer : (list : List Question) (frames : List Frame) (more : List Question)
        → AllOf (IsRefuted graph (settled ++ (list ++ more))) more → AreFrames graph settled list frames
        → AreFrames graph settled (list ++ more) frames
    goes_longer list [] more refuted are = each_of_lists (IsRefuted graph (settled ++ (list ++ more))) list more
        (refuted_on graph (settled ++ list) (settled ++ (list ++ more)) (longer list more) list are) refuted
    goes_longer list (last ∷ frames) more refuted (before, done, list_is, place_is, is, done_are, are) = (
      before,
      done ++ more,
      ap (λ list. list ++ more) list_is ∙ append_assoc before (last.question ∷ done) more,
      place_is,
      work_on graph (settled ++ list) (settled ++ (list ++ more)) (longer list more) last.question last.work is,
      each_of_lists (IsRefuted graph (settled ++ (list ++ more))) done more
          (refuted_on graph (settled ++ list) (settled ++ (list ++ more)) (longer list more) done done_are) refuted,
      are,
    )

    pub frames_kept : (before after : State) → Step graph settled before after
        → AreFrames graph settled before.list before.frames → AreFrames graph settled after.list after.frames
    frames_kept _ _ (opens before question conjuncts new asks of accounts) are = (
      before.list,
      [],
      refl,
      refl,
      record {
        conjuncts_fail = λ family larger begun fail. accounts family larger fail;
        branches_fail = λ family larger fail. tt;
        later_fails = λ family larger one. elim one [ ];
        conjuncts_are = of;
        branches_are = refl;
        later_are = refl;
      },
      tt,
      are,
    )
    frames_kept _ _ (knows before witness new is) are = are
    frames_kept _ _ (works witnesses list place question before after frames step) (earlier, done, list_is, place_is, is, refuted, are) =
        (earlier, done, list_is, place_is, work_kept graph question (settled ++ list) before after step is, refuted, are)
    frames_kept _ _ (finds witnesses list last frames e is) (before, done, list_is, place_is, left, refuted, are) =
        subst (λ list. AreFrames graph settled list frames)
        (sym (cut_to_place last.place list before last.question done list_is place_is)) are
    frames_kept _ _ (leaves witnesses list last frames is_done) (before, done, list_is, place_is, is, refuted, are) =
        subst (λ list. AreFrames graph settled list frames) (sym list_is)
        (goes_longer before frames (last.question ∷ done)
        (subst (λ list. AllOf (IsRefuted graph (settled ++ list)) (last.question ∷ done)) list_is
        (done_is_refuted (settled ++ list) last.question last.work is is_done, refuted)) are)

    -- each larger family refutes the clauses of the questions of a closed one
    closed_is_refuted : IsClosed graph settled → (base : List Question) → AreAmong settled base → AllOf (IsRefuted graph base) settled
    closed_is_refuted closed base among = each_weaker
        (λ question. (clause : Clause) → IsClauseOfQuestion graph question clause → Refutes settled clause) (IsRefuted graph base)
        (λ question refutes family larger none clause of. refutes_on settled family
        (subsumed_where settled family (among_on settled base family among larger)) clause (refutes clause of))
        settled closed

    -- where no frame is left, what is settled and the list are a closed family
    pub closed_at_last : (list : List Question) → IsClosed graph settled → AreFrames graph settled list []
        → IsClosed graph (settled ++ list)
    closed_at_last list closed are = each_weaker (IsRefuted graph (settled ++ list))
        (λ question. (clause : Clause) → IsClauseOfQuestion graph question clause → Refutes (settled ++ list) clause)
        (λ question refuted. refuted (settled ++ list) (among_itself (settled ++ list)) tt) (settled ++ list)
        (each_of_lists (IsRefuted graph (settled ++ list)) settled list
        (closed_is_refuted closed (settled ++ list) (among_longer settled list)) are)
