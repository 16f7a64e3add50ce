-- The machine decides that no pair is an integer and such a pair again: the question itself
-- subsumes the second part.
use Rattle.std.proofs.Common.{true, List, [], ◌∷◌, Some, None, inl, inr, refl}
use native.Mathlib.Omega.{arith}
use Rattle.cd_sets.specs.declared.question.Question.{Question}
use Rattle.cd_model.specs.BuiltIns.{node, INT}
use Rattle.cd_model.specs.Formula.{Pair}
use Rattle.cd_model.specs.Kinds.{Kind, APair, AnXml, ARecord, AFunction}
use Rattle.cd_rules.specs.BasicSets.{HasNoBasic}
use Rattle.cd_rules.specs.Dnf.{Conjunct}
use Rattle.cd_rules.specs.Clauses.{Clause, Pairs}
use Rattle.cd_rules.specs.Examples.{asks, endless}
use Rattle.cd_rules.specs.PartialConjuncts.{Partial, Signed, partial, GoesOn, extends}
use Rattle.cd_rules.specs.Tasks.{Task, PairTask}
use Rattle.cd_rules.proofs.ClausesByKind.{accounts_for_clauses, partial_conjuncts_are}
use Rattle.cd_rules.specs.Machine.{State, Work, state, work, frame, Steps, no_step, one_more, opens, works, leaves}
use Rattle.cd_rules.specs.Machine.{Works, goes_further, begins, drops}

abbrev question : Question
question = asks (14 ∷ []) []

-- its one formula, as one of a conjunct of each kind, and as the conjunct and the clause that it
-- gives
abbrev formula : Signed
formula = (Pair INT (node 14), true)

abbrev of_kind : Kind → Partial
of_kind kind = partial kind [] (formula ∷ [])

abbrev conjunct : Conjunct
conjunct = record { wanted = true; is = Pair INT (node 14) } ∷ []

abbrev clause : Clause
clause = Pairs ((INT, node 14) ∷ []) []

abbrev task : Task
task = PairTask ((INT, node 14) ∷ []) [] ([], []) []

abbrev start : State
start = state [] [] []

abbrev at : Work → State
at left = state [] (question ∷ []) (frame 0 question left ∷ [])

-- the work at the question, from the conjuncts of all kinds to the end
abbrev opened : Work
opened = work (of_kind APair ∷ of_kind AnXml ∷ of_kind ARecord ∷ of_kind AFunction ∷ []) None [] []

abbrev extended : Work
extended = work (partial APair conjunct [] ∷ of_kind AnXml ∷ of_kind ARecord ∷ of_kind AFunction ∷ []) None [] []

abbrev begun : Work
begun = work (of_kind AnXml ∷ of_kind ARecord ∷ of_kind AFunction ∷ []) (Some clause) [] (task ∷ [])

abbrev dropped : List Partial → Work
dropped conjuncts = work conjuncts (Some clause) [] []

works_on : (before after : Work) → Works (question ∷ []) before after → Steps endless [] start (at before) → Steps endless [] start (at after)
works_on before after step steps = one_more start (at before) (at after) steps (works [] (question ∷ []) 0 question before after [] step)

-- a formula that gives no conjunct of a kind
no_conjunct : (kind : Kind) (rest : List Partial) → GoesOn (of_kind kind) []
    → Steps endless [] start (at (dropped (of_kind kind ∷ rest))) → Steps endless [] start (at (dropped rest))
no_conjunct kind rest goes = works_on (dropped (of_kind kind ∷ rest)) (dropped rest)
    (goes_further (of_kind kind) [] rest (Some clause) [] [] goes)

no_basic : HasNoBasic endless question
no_basic = (λ z is asked. absurd cc, λ c is asked. absurd cc, λ name is asked. absurd cc)

pub endless_run : Steps endless [] start (state [] (question ∷ []) [])
endless_run = one_more start (at (dropped [])) (state [] (question ∷ []) []) pairs_and_others
    (leaves [] (question ∷ []) (frame 0 question (dropped [])) [] (refl, refl))
  where
    first : Steps endless [] start (at opened)
    first = one_more start start (at opened) (no_step start)
        (opens start question opened.conjuncts (λ none. none) ((omega arith, tt), tt)
        (partial_conjuncts_are endless question) (accounts_for_clauses endless (question ∷ []) question no_basic))

    pairs : Steps endless [] start (at (dropped begun.conjuncts))
    pairs = works_on begun (dropped begun.conjuncts) (drops begun.conjuncts (Some clause) [] task [] (inr (inl (inl (inl ((inl refl, tt), tt))))))
        (works_on extended begun (begins APair conjunct begun.conjuncts None [] task [] refl)
        (works_on opened extended (goes_further (of_kind APair) (partial APair conjunct [] ∷ []) begun.conjuncts None [] []
        (extends APair [] formula [])) first))

    pairs_and_others : Steps endless [] start (at (dropped []))
    pairs_and_others = no_conjunct AFunction [] (extends AFunction [] formula [])
        (no_conjunct ARecord (of_kind AFunction ∷ []) (extends ARecord [] formula [])
        (no_conjunct AnXml (of_kind ARecord ∷ of_kind AFunction ∷ []) (extends AnXml [] formula []) pairs))
