-- What is put on the stack is done first.
use Rattle.std.proofs.Common.{◌≡◌, ℕ, zero, suc, ◌+◌, ◌≤◌, append-nil, List, [], ◌∷◌, ◌++◌, length, map, refl, sym, ap, ◌∙◌, subst, arith}
use Rattle.std.proofs.lemmas.List.{map-append}
use Rattle.cd_sets.specs.declared.node_id.NodeId.{NodeId}
use Rattle.cd_syntax.specs.Name.{Name}
use Rattle.cd_model.specs.AllOf.{AllOf}
use Rattle.cd_model.specs.Formula.{Graph}
use Rattle.cd_model.specs.Thing.{Thing}
use Rattle.cd_asking.specs.Inner.Shapes.{Closed}
use Rattle.cd_asking.specs.Inner.Tasks.{after, again, paired, finish, weight}
use Rattle.cd_asking.specs.Inner.Asked.{set_at, plain_task, IsTask}
use Rattle.cd_asking.specs.Inner.Running.{finished, total, ArePut, pairs_of}
use Rattle.cd_asking.specs.declared.asker.Asker.{Asker}
use Rattle.cd_asking.specs.declared.node_sets.SetId.{SetId}
use Rattle.cd_asking.specs.declared.task.Task.{Task}
use Rattle.cd_asking.specs.declared.task.Task.TheVariants.{OfPairs}
use Rattle.cd_asking.proofs.Members.{each_more}
use Rattle.cd_asking.proofs.Steps.{last_first}

pub each_first : {X : Type 0} (F : X → Type 0) (list : List X) (x : X) → AllOf F (list ++ x ∷ []) → AllOf F list × F x
each_first F [] x each = (tt, each.0)
each_first F (first ∷ list) x each = let rest = each_first F list x each.1 in ((each.0, rest.0), rest.1)

module _ (names : List Name) (table : List Thing) (asker : Asker) where
  pub total_more : (tasks : List Task) (task : Task) → total names table asker (tasks ++ task ∷ [])
      ≡ weight (plain_task names table asker task) + total names table asker tasks
  total_more [] task = refl
  total_more (first ∷ tasks) task =
      let rest = total_more tasks task in
      let a = weight (plain_task names table asker first) in
      let b = weight (plain_task names table asker task) in
      let c = total names table asker tasks in
      ap (λ rest. a + rest) rest ∙ swap a b c
    where
      swap : (a b c : ℕ) → a + (b + c) ≡ b + (a + c)
      swap a b c = omega arith

  pub last_done : (graph : Graph) (closed : Closed) (tasks : List Task) (task : Task) (answer : List NodeId)
      → finished names table asker graph closed (tasks ++ task ∷ []) answer
      ≡ finished names table asker graph closed tasks (after graph closed (plain_task names table asker task) answer)
  last_done graph closed tasks task answer =
      ap (λ all. finish graph closed all answer) (map-append (plain_task names table asker) tasks (task ∷ []))
      ∙ last_first graph closed (map (plain_task names table asker) tasks) (plain_task names table asker task) answer

pub put_last : (old : List Task) (task : Task) (new : List Task) → new ≡ old ++ task ∷ [] → ArePut old task new
put_last old task new is names table asker each one =
    subst (λ (new : List Task). AllOf (IsTask names (length table) asker) new
    × (total names table asker new ≤ weight (plain_task names table asker task) + total names table asker old)
    × ((graph : Graph) (closed : Closed) (answer : List NodeId)
    → finished names table asker graph closed new answer ≡ finished names table asker graph closed (old ++ task ∷ []) answer)) (sym is)
    (each_more _ old task each one, (let same = total_more names table asker old task in omega (arith, same)), λ graph closed answer. refl)

-- pairs in a row after others are pairs in a row
again_more : {X : Type 0} (n m : ℕ) (step : X → X) (x : X) → again (n + m) step x ≡ again n step (again m step x)
again_more n zero step x = ap (λ n. again n step x) (none n)
  where
    none : (n : ℕ) → n + zero ≡ n
    none n = omega arith
again_more n (suc m) step x = ap (λ n. again n step x) (one_more n m) ∙ again_more n m step (step x)
  where
    one_more : (n m : ℕ) → n + suc m ≡ suc (n + m)
    one_more n m = omega arith

module _ (names : List Name) (table : List Thing) (asker : Asker) (set first : SetId) where
  abbrev Sound : List Task → Type 0
  Sound = AllOf (IsTask names (length table) asker)

  pub pairs_total : (rest : List Task) (n : ℕ) → total names table asker rest ≤ total names table asker (rest ++ pairs_of set first n)
  pairs_total rest zero = subst (λ (all : List Task). total names table asker rest ≤ total names table asker all) (sym (append-nil rest)) (omega arith)
  pairs_total rest (suc n) = let same = total_more names table asker rest (OfPairs set first (suc n)) in omega (arith, same)

  pub pairs_before : (rest : List Task) (n : ℕ) → Sound (rest ++ pairs_of set first n) → Sound rest
  pairs_before rest zero each = subst Sound (append-nil rest) each
  pairs_before rest (suc n) each = (each_first _ rest (OfPairs set first (suc n)) each).0

  pub pairs_done : (graph : Graph) (closed : Closed) (rest : List Task) (n : ℕ) (answer : List NodeId)
      → finished names table asker graph closed (rest ++ pairs_of set first n) answer
      ≡ finished names table asker graph closed rest (again n (paired graph (set_at asker.sets set) (set_at asker.sets first)) answer)
  pairs_done graph closed rest zero answer = ap (λ (all : List Task). finished names table asker graph closed all answer) (append-nil rest)
  pairs_done graph closed rest (suc n) answer = last_done names table asker graph closed rest (OfPairs set first (suc n)) answer

pub put_all : (rest : List Task) (set first : SetId) (n count all : ℕ) (old new : List Task) → old ≡ rest ++ pairs_of set first n
    → n + count ≡ all → new ≡ rest ++ OfPairs set first all ∷ [] → ArePut old (OfPairs set first count) new
put_all rest set first n count all old new old_is sum new_is names table asker each one =
    let each_old = subst (AllOf (IsTask names (length table) asker)) old_is each in
    let before = pairs_before names table asker set first rest n each_old in
    let bound = pairs_total names table asker set first rest n in
    let total_old = ap (total names table asker) old_is in
    let total_new = ap (total names table asker) new_is ∙ total_more names table asker rest (OfPairs set first all) in (
      subst (AllOf (IsTask names (length table) asker)) (sym new_is) (each_more _ rest (OfPairs set first all) before one),
      (omega (arith, bound, total_old, total_new)),
      λ graph closed answer.
          let step = paired graph (set_at asker.sets set) (set_at asker.sets first) in
          ap (λ (new : List Task). finished names table asker graph closed new answer) new_is
          ∙ last_done names table asker graph closed rest (OfPairs set first all) answer
          ∙ ap (λ (all : ℕ). finished names table asker graph closed rest (again all step answer)) (sym sum)
          ∙ ap (finished names table asker graph closed rest) (again_more n count step answer)
          ∙ sym (pairs_done names table asker set first graph closed rest n (again count step answer))
          ∙ ap (λ (old : List Task). finished names table asker graph closed old (again count step answer)) (sym old_is)
          ∙ sym (last_done names table asker graph closed old (OfPairs set first count) answer),
    )
