-- One field more, and one tree of a chain more.
use Rattle.std.proofs.Common.{◌≡◌, ℕ, ◌-◌, ◌<◌, ◌≤◌, Bool, true, false, not, ◌||◌, List, [], ◌++◌, refl, sym}
use Rattle.std.proofs.Common.{ap, ◌∙◌, append_assoc, if◌then◌else◌, arith}
use Rattle.std.proofs.lemmas.Bool.{true≢false}
use Rattle.cd_syntax.specs.Name.{Name}
use Rattle.cd_syntax.specs.TypeTree.{Tree, Signs, ASign, Fields, AField}
use Rattle.cd_resolve.specs.Faults.{Fault}
use Rattle.cd_variables.specs.Occurrences.{Occurrence, takes_away, bound, bound_by_signs, bound_by_fields}
use Rattle.cd_variables.specs.FindingMisplaced.{misplaced_in}
use Rattle.cd_variables.specs.FindingVariables.{names_among, variable_faults, reported_again, sign_faults, field_faults}
use Rattle.cd_variables.specs.FindingVariables.{sides_in}
use Rattle.cd_variables.proofs.Sides.{sides_left, none_left, one_less, later_none}

-- of an optional field the variables are misplaced
pub optional_step : (label : Name) (at : ℕ) (optional : Bool) (t : Tree) (rest : Fields)
    (all all_after : List Occurrence) (seen seen_after : List Name) (s s_after : List Fault)
    → optional ≡ true → all_after ≡ all → seen_after ≡ seen → s_after ≡ misplaced_in t s
    → (all_after ++ bound_by_fields rest ≡ all ++ bound_by_fields (AField label at optional t rest))
    × (field_faults seen_after rest s_after ≡ field_faults seen (AField label at optional t rest) s)
optional_step label at false t rest all all_after seen seen_after s s_after out all_is seen_is s_is =
    absurd (true≢false (sym out))
optional_step label at true t rest all all_after seen seen_after s s_after out all_is seen_is s_is = (
  ap (λ all. all ++ bound_by_fields rest) all_is,
  ap (λ seen. field_faults seen rest s_after) seen_is ∙ ap (field_faults seen rest) s_is,
)

-- of another one they bind
pub present_step : (label : Name) (at : ℕ) (optional : Bool) (t : Tree) (rest : Fields)
    (all all_after : List Occurrence) (seen seen_after : List Name) (s s_after : List Fault)
    → optional ≡ false → all_after ≡ all ++ bound t → seen_after ≡ seen ++ names_among (bound t)
    → s_after ≡ reported_again seen (bound t) (variable_faults t s)
    → (all_after ++ bound_by_fields rest ≡ all ++ bound_by_fields (AField label at optional t rest))
    × (field_faults seen_after rest s_after ≡ field_faults seen (AField label at optional t rest) s)
present_step label at true t rest all all_after seen seen_after s s_after out all_is seen_is s_is =
    absurd (true≢false out)
present_step label at false t rest all all_after seen seen_after s s_after out all_is seen_is s_is = (
  ap (λ all. all ++ bound_by_fields rest) all_is ∙ append_assoc all (bound t) (bound_by_fields rest),
  ap (λ seen. field_faults seen rest s_after) seen_is
      ∙ ap (field_faults (seen ++ names_among (bound t)) rest) s_is,
)

-- where the test is known
taken_away : (b : Bool) → b ≡ true → {X : Type 0} (one other : X) → (if b then one else other) ≡ one
taken_away true is one other = refl
taken_away false is one other = absurd (true≢false (sym is))

not_taken : (b : Bool) → b ≡ false → {X : Type 0} (one other : X) → (if b then one else other) ≡ other
not_taken true is one other = absurd (true≢false is)
not_taken false is one other = refl

-- the variables of a tree on a side are misplaced
pub side_step : (kept : Bool) (t : Tree) (rest : Signs) (left left_after : ℕ)
    (all all_after : List Occurrence) (seen seen_after : List Name) (s s_after : List Fault)
    → left ≡ sides_in (ASign kept t rest) → 0 < left → left_after ≡ left - 1
    → all_after ≡ all → seen_after ≡ seen → s_after ≡ misplaced_in t s
    → (left_after ≡ sides_in rest)
    × (all_after ++ bound_by_signs rest ≡ all ++ bound_by_signs (ASign kept t rest))
    × (sign_faults seen_after rest s_after ≡ sign_faults seen (ASign kept t rest) s)
side_step kept t rest left left_after all all_after seen seen_after s s_after left_is some after_is all_is seen_is s_is =
    (after_is ∙ ap (λ left. left - 1) left_is ∙ one_less kept t rest some_sides, by_bound, by_faults) where
      some_sides : 0 < sides_in (ASign kept t rest)
      some_sides = omega (arith, left_is, some)

      side : (not kept || takes_away rest) ≡ true
      side = sides_left (ASign kept t rest) some_sides

      by_bound : all_after ++ bound_by_signs rest
          ≡ all ++ ((if not kept || takes_away rest then [] else bound t) ++ bound_by_signs rest)
      by_bound = ap (λ all. all ++ bound_by_signs rest) all_is
          ∙ sym (ap (λ part. all ++ (part ++ bound_by_signs rest))
          (taken_away (not kept || takes_away rest) side [] (bound t)))

      by_faults : sign_faults seen_after rest s_after ≡ (if not kept || takes_away rest
          then sign_faults seen rest (misplaced_in t s)
          else sign_faults (seen ++ names_among (bound t)) rest (reported_again seen (bound t) (variable_faults t s)))
      by_faults = ap (λ seen. sign_faults seen rest s_after) seen_is ∙ ap (sign_faults seen rest) s_is
          ∙ sym (taken_away (not kept || takes_away rest) side (sign_faults seen rest (misplaced_in t s))
          (sign_faults (seen ++ names_among (bound t)) rest (reported_again seen (bound t) (variable_faults t s))))

-- those of one after the last `\` bind
pub kept_step : (kept : Bool) (t : Tree) (rest : Signs) (left left_after : ℕ)
    (all all_after : List Occurrence) (seen seen_after : List Name) (s s_after : List Fault)
    → left ≡ sides_in (ASign kept t rest) → left ≤ 0 → left_after ≡ left
    → all_after ≡ all ++ bound t → seen_after ≡ seen ++ names_among (bound t)
    → s_after ≡ reported_again seen (bound t) (variable_faults t s)
    → (left_after ≡ sides_in rest)
    × (all_after ++ bound_by_signs rest ≡ all ++ bound_by_signs (ASign kept t rest))
    × (sign_faults seen_after rest s_after ≡ sign_faults seen (ASign kept t rest) s)
kept_step kept t rest left left_after all all_after seen seen_after s s_after left_is none after_is all_is seen_is s_is =
    (omega (arith, after_is, none, no_sides_after), by_bound, by_faults) where
      no_sides_here : sides_in (ASign kept t rest) ≡ 0
      no_sides_here = omega (arith, left_is, none)

      no_sides_after : sides_in rest ≡ 0
      no_sides_after = later_none kept t rest no_sides_here

      side : (not kept || takes_away rest) ≡ false
      side = none_left (ASign kept t rest) no_sides_here

      by_bound : all_after ++ bound_by_signs rest
          ≡ all ++ ((if not kept || takes_away rest then [] else bound t) ++ bound_by_signs rest)
      by_bound = ap (λ all. all ++ bound_by_signs rest) all_is
          ∙ append_assoc all (bound t) (bound_by_signs rest)
          ∙ sym (ap (λ part. all ++ (part ++ bound_by_signs rest))
          (not_taken (not kept || takes_away rest) side [] (bound t)))

      by_faults : sign_faults seen_after rest s_after ≡ (if not kept || takes_away rest
          then sign_faults seen rest (misplaced_in t s)
          else sign_faults (seen ++ names_among (bound t)) rest (reported_again seen (bound t) (variable_faults t s)))
      by_faults = ap (λ seen. sign_faults seen rest s_after) seen_is
          ∙ ap (sign_faults (seen ++ names_among (bound t)) rest) s_is
          ∙ sym (not_taken (not kept || takes_away rest) side (sign_faults seen rest (misplaced_in t s))
          (sign_faults (seen ++ names_among (bound t)) rest (reported_again seen (bound t) (variable_faults t s))))
