-- The formulas of rests, as the code makes them.
use Rattle.std.proofs.Common.{◌≡◌, ◌<◌, ◌++◌, List, [], ◌∷◌, map, length, refl, sym, ap, subst, ◌∙◌, arith}
use Rattle.std.specs.Borrow.{Bor}
use Rattle.std.specs.List.{AllZip}
use Rattle.cd_sets.specs.declared.question.Question.{Question}
use Rattle.cd_syntax.specs.Name.{Name}
use Rattle.cd_model.specs.Formula.{Graph, Formula, And, Or, formulas_of}
use Rattle.cd_records.specs.Inner.Entries.{Entry}
use Rattle.cd_records.specs.Inner.Plain.{plain_questions}
use Rattle.cd_records.specs.Inner.Rests.{HoldsRest, IsOfRests, Rest, joined}
use Rattle.cd_records.specs.Inner.Standing.{Adds, HoldsOther, HoldsRecords, IsAsSaid, IsMeet, IsRest}
use Rattle.cd_records.proofs.FormulasJoined.{alone_holds, meet_holds, one_rest_holds}
use Rattle.cd_records.proofs.FormulasJoined.{records_stay, union_holds}

no_questions : (left : List (Bor Question)) → length left < 1 → plain_questions left ≡ []
no_questions [] none = refl
no_questions (question ∷ left) none = absurd (omega arith)

module _ (graph : Graph) where
  -- the formula of a record type is its own meet with nothing
  pub meet_of_none : (batch : List Formula) (entries : List (Name × Entry)) (one : Formula)
      (left : List (Bor Question)) → length left < 1
      → IsMeet graph batch batch entries one (plain_questions left) one
  meet_of_none batch entries one left none every holding = subst
      (λ (left : List Question). HoldsRecords graph batch (IsRest graph entries every left) one)
      (sym (no_questions left none)) (alone_holds graph batch entries every one holding)

  -- and with others
  pub meet_made : (old new : List Formula) → Adds graph old new → (entries : List (Name × Entry))
      (one : Formula) (left : List Question) (fs : List Formula)
      → AllZip (HoldsOther graph new entries) left fs → (list : List Formula) → list ≡ one ∷ fs
      → (f : Formula) → f ≡ And (formulas_of list) → IsMeet graph old new entries one left f
  meet_made old new adds entries one left fs are list same f is every holding = subst
      (HoldsRecords graph new (IsRest graph entries every left))
      (sym (is ∙ ap (λ (fs : List Formula). And (formulas_of fs)) same))
      (meet_holds graph new entries every left one fs
      (records_stay graph old new adds (IsAsSaid graph entries every) one holding) are)

  -- of the entries of a row
  pub rest_found : (old new : List Formula) (entries first second : List (Name × Entry))
      → first ≡ entries → second ≡ entries → (left found : List Question) → found ≡ left
      → (every : List Question) (one f : Formula)
      → HoldsRecords graph old (IsAsSaid graph first every) one
      → IsMeet graph old new second one found f
      → HoldsRecords graph new (IsRest graph entries every left) f
  rest_found old new entries first second one_same other_same left found left_same every one f
      holding meet = subst
      (λ (left : List Question). HoldsRecords graph new (IsRest graph entries every left) f)
      left_same
      (subst (λ (entries : List (Name × Entry)).
      HoldsRecords graph new (IsRest graph entries every found) f) other_same
      (meet every (subst (λ (entries : List (Name × Entry)).
      HoldsRecords graph old (IsAsSaid graph entries every) one) (one_same ∙ sym other_same)
      holding)))

  -- the union of the formulas of rests
  pub joined_holds : (batch : List Formula) (label : Name) (rests : List Rest)
      (fs : List Formula) → AllZip (HoldsRest graph batch label) rests fs
      → HoldsRecords graph batch (IsOfRests graph label rests) (joined fs)
  joined_holds batch label rests [] are = union_holds graph batch label rests [] are
  joined_holds batch label rests (f ∷ []) are = one_rest_holds graph batch label rests f are
  joined_holds batch label rests (f ∷ other ∷ fs) are =
      union_holds graph batch label rests (f ∷ other ∷ fs) are
