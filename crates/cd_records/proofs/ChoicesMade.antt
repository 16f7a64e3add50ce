-- The choices of what stands at a label of no cell are right, and they are all there are.
use Rattle.std.proofs.Common.{◌≡◌, Bool, true, false, List, [], ◌∷◌, ◌++◌, Option, Some, None, ◌⊎◌}
use Rattle.std.proofs.Common.{inl, inr, refl, sym, subst, bytes_eq, append_assoc, append-nil}
use Rattle.std.proofs.lemmas.Bool.{true≢false}
use Rattle.cd_sets.specs.declared.question.Question.{Question}
use Rattle.cd_syntax.specs.Name.{Name}
use Rattle.cd_model.specs.AllOf.{AllOf, AnyOf}
use Rattle.cd_model.specs.Formula.{Graph, in_node, asked}
use Rattle.cd_model.specs.Thing.{Thing, IsElement}
use Rattle.cd_rules.specs.InRow.{IsInCell, IsOfNoCell, HasElsewhere}
use Rattle.cd_rules.specs.Members.{HasElement}
use Rattle.cd_rules.specs.Rows.{Row}
use Rattle.cd_rules.proofs.Answered.{each_of_asked}
use Rattle.cd_rules.proofs.Asking.{asked_of_each}
use Rattle.cd_model.proofs.Ones.{each_weaker, each_of_lists, one_on_left, one_on_right}
use Rattle.cd_rows.proofs.RowsWithWitnesses.{IsOfSort}
use Rattle.cd_records.specs.Inner.Leaving.{Choice, both_questions, take, leave, IsStep, AreSteps}
use Rattle.cd_records.specs.Inner.Leaving.{AreChoices, first_choice}
use Rattle.cd_records.proofs.Lookups.{same_name}

each_left : {X : Type 0} (Fact : X → Type 0) (xs ys : List X) → AllOf Fact (xs ++ ys)
    → AllOf Fact xs × AllOf Fact ys
each_left Fact [] ys each = (tt, each)
each_left Fact (x ∷ xs) ys each =
    let rest = each_left Fact xs ys each.1 in ((each.0, rest.0), rest.1)

module _ (graph : Graph) where
  abbrev In : Thing → Question → Type 0
  In d question = asked (in_node graph d) question true

  -- what is in both is in each
  pub in_both : (d : Thing) (one other : Question) → In d one → In d other
      → In d (both_questions one other)
  in_both d one other is is_too = asked_of_each (in_node graph d) (one.pos ++ other.pos)
      (one.neg ++ other.neg)
      (each_of_lists (λ id. in_node graph d id true) one.pos other.pos is.0 is_too.0)
      (each_of_lists (λ id. in_node graph d id false) one.neg other.neg is.1 is_too.1)

  pub in_each : (d : Thing) (one other : Question) → In d (both_questions one other)
      → In d one × In d other
  in_each d one other is =
      let both = each_of_asked (in_node graph d) (one.pos ++ other.pos) (one.neg ++ other.neg) is in
      let pos = each_left (λ id. in_node graph d id true) one.pos other.pos both.0 in
      let neg = each_left (λ id. in_node graph d id false) one.neg other.neg both.1 in
      ((pos.0, neg.0), (pos.1, neg.1))

  abbrev IsLeft : Choice → Question → Type 0
  IsLeft choice question = AnyOf (λ other. other ≡ question) choice.left

  -- something may be at a label for a row, so that each question seen is left or has it
  module _ (every : Question) where
    pub record IsRight (seen : List Question) (choice : Choice) : Type 0 where
      pub what : Option Thing
      pub sort : IsOfSort IsElement what
      pub free : IsInCell (in_node graph) what (record { absent = true; value = every })
      pub met : AllOf (λ question. IsLeft choice question
          ⊎ IsInCell (in_node graph) what (record { absent = false; value = question })) seen
      pub each : (d : Thing) → In d choice.taken
          → In d every × AllOf (λ question. IsLeft choice question ⊎ In d question) seen

    still_left : (question : Question) (choice : Choice) (other : Question)
        → IsLeft choice other → IsLeft (leave question choice) other
    still_left question choice other one =
        one_on_left (λ one. one ≡ other) choice.left (question ∷ []) one

    left_too : (Fact : Question → Type 0) (question : Question) (choice : Choice)
        (seen : List Question) → AllOf (λ other. IsLeft choice other ⊎ Fact other) seen
        → AllOf (λ other. IsLeft (leave question choice) other ⊎ Fact other)
        (seen ++ (question ∷ []))
    left_too Fact question choice seen each = each_of_lists
        (λ other. IsLeft (leave question choice) other ⊎ Fact other) seen (question ∷ [])
        (each_weaker (λ other. IsLeft choice other ⊎ Fact other)
        (λ other. IsLeft (leave question choice) other ⊎ Fact other)
        (λ other one. by_side other one) seen each)
        (inl (one_on_right (λ one. one ≡ question) choice.left (question ∷ []) (inl refl)), tt)
      where
        by_side : (other : Question) → IsLeft choice other ⊎ Fact other
            → IsLeft (leave question choice) other ⊎ Fact other
        by_side other (inl one) = inl (still_left question choice other one)
        by_side other (inr is) = inr is

    leave_right : (question : Question) (choice : Choice) (seen : List Question)
        → IsRight seen choice → IsRight (seen ++ (question ∷ [])) (leave question choice)
    leave_right question choice seen right = record {
      what = right.what;
      sort = right.sort;
      free = right.free;
      met = left_too (λ question. IsInCell (in_node graph) right.what
          (record { absent = false; value = question })) question choice seen right.met;
      each = λ d is. (
        (right.each d is).0,
        left_too (In d) question choice seen (right.each d is).1,
      );
    }

    take_right : (question : Question) (choice : Choice) (seen : List Question)
        → HasElement graph (take question choice).taken → IsRight seen choice
        → IsRight (seen ++ (question ∷ [])) (take question choice)
    take_right question choice seen (e, is, inside) right = record {
      what = Some e;
      sort = is;
      free = (of_it e inside).0;
      met = (of_it e inside).1;
      each = of_it;
    }
      where
        of_it : (d : Thing) → In d (take question choice).taken → In d every
            × AllOf (λ other. IsLeft (take question choice) other ⊎ In d other)
            (seen ++ (question ∷ []))
        of_it d is =
            let both = in_each d choice.taken question is in
            let before = right.each d both.0 in (
              before.0,
              each_of_lists (λ other. IsLeft choice other ⊎ In d other) seen (question ∷ [])
                  before.1 (inr both.1, tt),
            )

    step_right : (question : Question) (choice : Choice) (seen : List Question)
        (all : List Choice) → IsStep graph question choice all → IsRight seen choice
        → AllOf (IsRight (seen ++ (question ∷ []))) all
    step_right question choice seen all (inl (has, same)) right =
        subst (AllOf (IsRight (seen ++ (question ∷ [])))) (sym same)
        (take_right question choice seen has right, (leave_right question choice seen right, tt))
    step_right question choice seen all (inr (none, same)) right =
        subst (AllOf (IsRight (seen ++ (question ∷ [])))) (sym same)
        (leave_right question choice seen right, tt)

    steps_right : (question : Question) (seen : List Question) (choices all : List Choice)
        → AreSteps graph question choices all → AllOf (IsRight seen) choices
        → AllOf (IsRight (seen ++ (question ∷ []))) all
    steps_right question seen [] all same each =
        subst (AllOf (IsRight (seen ++ (question ∷ [])))) (sym same) tt
    steps_right question seen (choice ∷ choices) all (first, rest, step, steps, same) each =
        subst (AllOf (IsRight (seen ++ (question ∷ [])))) (sym same)
        (each_of_lists (IsRight (seen ++ (question ∷ []))) first rest
        (step_right question choice seen first step each.0)
        (steps_right question seen choices rest steps each.1))

    all_right : (some seen : List Question) (choices all : List Choice)
        → AreChoices graph some choices all → AllOf (IsRight seen) choices
        → AllOf (IsRight (seen ++ some)) all
    all_right [] seen choices all same each =
        subst (λ (seen : List Question). AllOf (IsRight seen) all) (sym (append-nil seen))
        (subst (AllOf (IsRight seen)) (sym same) each)
    all_right (question ∷ some) seen choices all (next, steps, later) each =
        subst (λ (seen : List Question). AllOf (IsRight seen) all)
        (append_assoc seen (question ∷ []) some)
        (all_right some (seen ++ (question ∷ [])) next all later
        (steps_right question seen choices next steps each))

  pub choices_right : (row : Row) (some : List Question) (choices : List Choice)
      → AreChoices graph some (first_choice row ∷ []) choices
      → AllOf (IsRight row.every some) choices
  choices_right row some choices are = all_right row.every some [] (first_choice row ∷ [])
      choices are (
        record {
          what = None;
          sort = tt;
          free = refl;
          met = tt;
          each = λ d is. (is, tt);
        },
        tt,
      )

  -- A record of a row has a choice
  module _ (row : Row) (label : Name) (at : Name → Option Thing)
      (sorted : IsOfSort IsElement (at label)) where
    -- a question has its value at another label
    abbrev pub IsOutsideOtherKinds : Question → Type 0
    IsOutsideOtherKinds question = (name : Name) × IsOfNoCell row name × (bytes_eq label name ≡ false)
        × IsInCell (in_node graph) (at name) (record { absent = false; value = question })

    pub record Fits (choice : Choice) : Type 0 where
      pub taken : IsInCell (in_node graph) (at label)
          (record { absent = true; value = choice.taken })
      pub left : AllOf IsOutsideOtherKinds choice.left

    leave_fits : (question : Question) (choice : Choice) → IsOutsideOtherKinds question → Fits choice
        → Fits (leave question choice)
    leave_fits question choice other fits = record {
      taken = fits.taken;
      left = each_of_lists IsOutsideOtherKinds choice.left (question ∷ []) fits.left (other, tt);
    }

    -- the value at the label is one of the question
    module _ (question : Question) (choice : Choice)
        (here : IsInCell (in_node graph) (at label)
        (record { absent = false; value = question })) (fits : Fits choice) where
      taken_too : (what : Option Thing) → IsOfSort IsElement what
          → IsInCell (in_node graph) what (record { absent = false; value = question })
          → IsInCell (in_node graph) what (record { absent = true; value = choice.taken })
          → HasElement graph (take question choice).taken
          × IsInCell (in_node graph) what
          (record { absent = true; value = (take question choice).taken })
      taken_too None sort here before = absurd (true≢false (sym here))
      taken_too (Some d) sort here before =
          let both = in_both d choice.taken question before here in ((d, sort, both), both)

      pub take_fits : HasElement graph (take question choice).taken × Fits (take question choice)
      take_fits = let taken = taken_too (at label) sorted here fits.taken in
          (taken.0, record { taken = taken.1; left = fits.left })

    step_fits : (question : Question) (choice : Choice) (all : List Choice)
        → IsStep graph question choice all → HasElsewhere (in_node graph) at row question
        → Fits choice → AnyOf Fits all
    step_fits question choice all step (name, none, inside) fits =
        by_name (bytes_eq label name) refl step
      where
        by_name : (same : Bool) → bytes_eq label name ≡ same → IsStep graph question choice all
            → AnyOf Fits all
        by_name true same (inl (has, are)) = subst (AnyOf Fits) (sym are)
            (inl (take_fits question choice (subst (λ (name : Name). IsInCell (in_node graph)
            (at name) (record { absent = false; value = question }))
            (sym (same_name label name same)) inside) fits).1)
        by_name true same (inr (empty, are)) = absurd (empty
            (take_fits question choice (subst (λ (name : Name). IsInCell (in_node graph)
            (at name) (record { absent = false; value = question }))
            (sym (same_name label name same)) inside) fits).0)
        by_name false differ (inl (has, are)) = subst (AnyOf Fits) (sym are)
            (inr (inl (leave_fits question choice (name, none, differ, inside) fits)))
        by_name false differ (inr (empty, are)) = subst (AnyOf Fits) (sym are)
            (inl (leave_fits question choice (name, none, differ, inside) fits))

    steps_fit : (question : Question) (choices all : List Choice)
        → AreSteps graph question choices all → HasElsewhere (in_node graph) at row question
        → AnyOf Fits choices → AnyOf Fits all
    steps_fit question [] all same has one = absurd one
    steps_fit question (choice ∷ choices) all (first, rest, step, steps, same) has (inl fits) =
        subst (AnyOf Fits) (sym same)
        (one_on_left Fits first rest (step_fits question choice first step has fits))
    steps_fit question (choice ∷ choices) all (first, rest, step, steps, same) has (inr later) =
        subst (AnyOf Fits) (sym same)
        (one_on_right Fits first rest (steps_fit question choices rest steps has later))

    all_fit : (some : List Question) (choices all : List Choice)
        → AreChoices graph some choices all
        → AllOf (HasElsewhere (in_node graph) at row) some → AnyOf Fits choices → AnyOf Fits all
    all_fit [] choices all same has one = subst (AnyOf Fits) (sym same) one
    all_fit (question ∷ some) choices all (next, steps, later) has one =
        all_fit some next all later has.1 (steps_fit question choices next steps has.0 one)

    pub choice_fits : (some : List Question) (choices : List Choice)
        → AreChoices graph some (first_choice row ∷ []) choices
        → IsInCell (in_node graph) (at label) (record { absent = true; value = row.every })
        → AllOf (HasElsewhere (in_node graph) at row) some → AnyOf Fits choices
    choice_fits some choices are free has = all_fit some (first_choice row ∷ []) choices are
        has (inl (record { taken = free; left = tt }))
