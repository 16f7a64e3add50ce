use Rattle.std.proofs.Common.{◌∙◌, ◌<◌, ◌≤◌, ap, length, subst, sym}
use Rattle.std.proofs.lemmas.Result.{IfOk-weaker}
use Rattle.cd_tasks.specs.Inner.AfterWords.{IsWithin, words_from}
use Rattle.cd_tasks.proofs.NextWords.{next_is_short}
use Rattle.cd_tasks.proofs.Odometers.{next_after, next_below, next_past}
use Rattle.cd_tasks.proofs.odometer.Odometer.next_word.Goals as goal

-- one member more has a side
pub returns-in_ok-longer-in-Below-clause-rest : goal.returns-in_ok-longer-in-Below-clause-rest
returns-in_ok-longer-in-Below-clause-rest c =
    let self = c.args.self.now in
    let less = subst (λ word. length word < self.members) c.as_slice.ensures.value c.if-as_slice-self.true in
    next_below self.next self.last self.members self.word.items _ c.in-Below.is less c.in_ok-longer-in-Below.ensures

-- all members have a side
pub returns-in-Below-2-clause-rest : goal.returns-in-Below-2-clause-rest
returns-in-Below-2-clause-rest c =
    let self = c.args.self.now in
    let full = subst (λ word. self.members ≤ length word) c.as_slice.ensures.value c.if-as_slice-self.false in
    IfOk-weaker c.later.result _ _
    (λ found is. next_past self.next self.last self.members self.word.items c.in-Below-2.is self.short full
    ∙ ap (words_from self.last self.members) (sym is)) c.later.ensures

pub returns-in-Below-2-clause-short : goal.returns-in-Below-2-clause-short
returns-in-Below-2-clause-short c =
    let self = c.args.self.now in
    IfOk-weaker c.later.result _ _
    (λ found is. subst (IsWithin self.members) (sym is) (next_is_short self.last self.members self.word.items self.short)) c.later.ensures

-- the longer words are skipped
pub returns-in-Later-clause-rest : goal.returns-in-Later-clause-rest
returns-in-Later-clause-rest c =
    let self = c.args.self.now in
    IfOk-weaker c.later-in-Later.result _ _
    (λ found is. next_after self.next self.last self.members self.word.items c.in-Later.is self.short
    ∙ ap (words_from self.last self.members) (sym is)) c.later-in-Later.ensures

pub returns-in-Later-clause-short : goal.returns-in-Later-clause-short
returns-in-Later-clause-short c =
    let self = c.args.self.now in
    IfOk-weaker c.later-in-Later.result _ _
    (λ found is. subst (IsWithin self.members) (sym is) (next_is_short self.last self.members self.word.items self.short))
    c.later-in-Later.ensures
