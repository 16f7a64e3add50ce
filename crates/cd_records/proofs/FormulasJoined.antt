-- What unions and meets of formulas hold.
use Rattle.std.proofs.Common.{◌≡◌, ◌≤◌, ◌+◌, ◌<◌, ◌↔◌, Bool, true, false, List, [], ◌∷◌, ◌++◌}
use Rattle.std.proofs.Common.{Option, Some, None, ◌⊎◌, inl, inr, length, bytes_eq, if◌then◌else◌, refl, sym, ap, subst, ◌∙◌}
use Rattle.std.proofs.Common.{append_assoc, arith}
use Rattle.std.proofs.lemmas.Bool.{true≢false}
use Rattle.std.proofs.lemmas.List.{length-append}
use Rattle.std.specs.List.{AllZip}
use Rattle.cd_sets.specs.declared.node_id.NodeId.{NodeId}
use Rattle.cd_sets.specs.declared.question.Question.{Question}
use Rattle.cd_syntax.specs.Name.{Name}
use Rattle.cd_model.specs.AllOf.{AllOf, AnyOf}
use Rattle.cd_model.specs.BuiltIns.{built_ins, ANY}
use Rattle.cd_model.specs.Formula as formula
use Rattle.cd_model.specs.Formula.{Graph, Formula, Formulas, Field, And, Or, Not, IsFormula}
use Rattle.cd_model.specs.Formula.{AreFormulas, AreRisingLabels, formulas_of, field_of, asked, holds}
use Rattle.cd_model.specs.Formula.{each_holds, one_holds, in_node}
use Rattle.cd_model.specs.Membership.{reader}
use Rattle.cd_model.specs.Thing as thing
use Rattle.cd_model.specs.Thing.{Thing, Fields, IsElement, IsRecord}
use Rattle.cd_model.proofs.BothWays.{both_agree, itself, one_agrees, through}
use Rattle.cd_model.proofs.Sorts as sort
use Rattle.cd_model.proofs.FormulasAmongMore.{formula_among_more}
use Rattle.cd_rules.specs.InRow.{thing_at, IsInCell}
use Rattle.cd_rules.proofs.InCells.{Says}
use Rattle.cd_rows.proofs.RowsWithWitnesses.{IsOfSort, at_labels}
use Rattle.cd_records.specs.Inner.Entries.{Entry}
use Rattle.cd_records.specs.Inner.Rests.{HoldsRest, IsOfRests, Rest}
use Rattle.cd_records.specs.Inner.Standing.{Adds, HasOther, HoldsOther, HoldsOutside, HoldsRecords}
use Rattle.cd_records.specs.Inner.Standing.{IsAsSaid, IsRest, longer, open_fields}
use Rattle.cd_records.proofs.BuiltInsBelow.{at_least}
use Rattle.cd_records.proofs.Lookups.{not_same, same_name}
use Rattle.cd_records.proofs.RecordsStand.{as_had, had}

-- what holds for some formulas still holds where more come after them
module _ (graph : Graph) (old new : List Formula) (adds : Adds graph old new) where
  larger : length old ≤ length new
  larger = omega (arith, ap length adds.1 ∙ length-append old adds.0)

  moved : (more : Graph) → longer graph old (adds.0 ++ more) ≡ longer graph new more
  moved more = ap (λ (later : Graph). graph ++ later)
      (sym (append_assoc old adds.0 more) ∙ ap (λ (some : Graph). some ++ more) (sym adds.1))

  still_sound : (f : Formula) → IsFormula (length graph + length old) f
      → IsFormula (length graph + length new) f
  still_sound f sound = formula_among_more (length graph + length old) (length graph + length new)
      (let most = larger in omega arith) f sound

  pub records_stay : (IsSo : Fields → Type 0) (f : Formula) → HoldsRecords graph old IsSo f
      → HoldsRecords graph new IsSo f
  records_stay IsSo f holding = record {
    exact = λ more fields is. subst (λ (whole : Graph). IsSo fields
        ↔ holds (reader whole (thing.Record fields)) f true) (moved more)
        (holding.exact (adds.0 ++ more) fields is);
    records = λ more d h. holding.records (adds.0 ++ more) d
        (subst (λ (whole : Graph). holds (reader whole d) f true) (sym (moved more)) h);
    sound = still_sound f holding.sound;
  }

  pub other_stays : (entries : List (Name × Entry)) (question : Question) (f : Formula)
      → HoldsOther graph old entries question f → HoldsOther graph new entries question f
  other_stays entries question f holding = record {
    exact = λ more fields is. subst (λ (whole : Graph). HasOther graph entries fields question
        ↔ holds (reader whole (thing.Record fields)) f true) (moved more)
        (holding.exact (adds.0 ++ more) fields is);
    sound = still_sound f holding.sound;
  }

  pub others_stay : (entries : List (Name × Entry)) (left : List Question) (fs : List Formula)
      → AllZip (HoldsOther graph old entries) left fs
      → AllZip (HoldsOther graph new entries) left fs
  others_stay entries [] [] are = are
  others_stay entries [] (f ∷ fs) are = absurd are
  others_stay entries (question ∷ left) [] are = absurd are
  others_stay entries (question ∷ left) (f ∷ fs) are =
      (other_stays entries question f are.0, others_stay entries left fs are.1)

  pub rests_stay : (label : Name) (rests : List Rest) (fs : List Formula)
      → AllZip (HoldsRest graph old label) rests fs → AllZip (HoldsRest graph new label) rests fs
  rests_stay label [] [] are = are
  rests_stay label [] (f ∷ fs) are = absurd are
  rests_stay label (rest ∷ rests) [] are = absurd are
  rests_stay label (rest ∷ rests) (f ∷ fs) are =
      (records_stay _ f are.0, rests_stay label rests fs are.1)

module _ (graph : Graph) (batch : List Formula) where
  -- a value of a question at a name without an entry
  module _ (before : Graph) (begins : graph ≡ built_ins ++ before)
      (entries : List (Name × Entry)) (question : Question) (id : NodeId)
      (outside : HoldsOutside graph batch question id) where
    abbrev NoEntry : List (Name × Entry) → Name → Type 0
    NoEntry entries name = AnyOf (λ one. one.0 ≡ name) entries → ⊥

    abbrev field_at : Name → Field
    field_at name = field_of (open_fields entries) id name

    -- the fields let anything stand at the names that have entries
    abbrev IsOpenOrNot : List (Name × Entry) → Name → Field → Type 0
    IsOpenOrNot those name field = (AnyOf (λ one. one.0 ≡ name) those
        × (field ≡ record { optional = true; type = ANY }))
        ⊎ (NoEntry those name × (field ≡ record { optional = true; type = id }))

    open_or_not : (those : List (Name × Entry)) (name : Name)
        → IsOpenOrNot those name (field_of (open_fields those) id name)
    open_or_not [] name = inr (λ one. one, refl)
    open_or_not (one ∷ those) name = by_name (bytes_eq one.0 name) refl (open_or_not those name)
      where
        by_name : (same : Bool) → bytes_eq one.0 name ≡ same
            → IsOpenOrNot those name (field_of (open_fields those) id name)
            → IsOpenOrNot (one ∷ those) name (if same then record { optional = true; type = ANY }
            else field_of (open_fields those) id name)
        by_name true same later = inl (inl (same_name one.0 name same), refl)
        by_name false differ (inl (some, is)) = inl (inr some, is)
        by_name false differ (inr (none, is)) = inr (
          λ some. elim some [
            | inl same ↦ not_same one.0 name differ same
            | inr later ↦ none later
          ],
          is,
        )

    module _ (more : Graph) where
      abbrev whole : Graph
      whole = longer graph batch more

      in_any : (d : Thing) → in_node whole d ANY false → ⊥
      in_any d out = true≢false (sym (subst (λ (graph : Graph).
          in_node (longer graph batch more) d ANY false) begins out))

      -- so the record is outside them at one without
      not_open : (what : Option Thing)
          → Says (in_node whole) what (record { optional = true; type = ANY }) false → ⊥
      not_open None out = true≢false out
      not_open (Some d) out = in_any d out

      out_of : (what : Option Thing) → IsOfSort IsElement what
          → IsInCell (in_node graph) what (record { absent = false; value = question })
          ↔ Says (in_node whole) what (record { optional = true; type = id }) false
      out_of None sort = (λ is. absurd (true≢false (sym is)), λ is. absurd (true≢false is))
      out_of (Some d) sort = outside.elements more d sort

      abbrev refused : Formula
      refused = Not (formula.Record (open_fields entries) id)

      other_exact : (fields : Fields) → IsElement (thing.Record fields)
          → HasOther graph entries fields question
          ↔ holds (reader whole (thing.Record fields)) refused true
      other_exact fields is = (
        λ other. by_name other.0 other.1 other.2 (open_or_not entries other.0),
        λ h. back h.0 (open_or_not entries h.0)
            (had whole fields h.0 (field_at h.0) false h.1),
      )
        where
          sorted : (name : Name) → IsOfSort IsElement (thing_at fields name)
          sorted name = at_labels sort.elements fields is.1 name

          by_name : (name : Name) → NoEntry entries name
              → IsInCell (in_node graph) (thing_at fields name)
              (record { absent = false; value = question })
              → IsOpenOrNot entries name (field_at name)
              → holds (reader whole (thing.Record fields)) refused true
          by_name name none inside (inl (some, is_open)) = absurd (none some)
          by_name name none inside (inr (none_too, is)) = (
            name,
            as_had whole fields name (field_at name) false
                (subst (λ (field : Field). Says (in_node whole) (thing_at fields name) field false)
                (sym is) ((out_of (thing_at fields name) (sorted name)).0 inside)),
          )

          back : (name : Name) → IsOpenOrNot entries name (field_at name)
              → Says (in_node whole) (thing_at fields name) (field_at name) false
              → HasOther graph entries fields question
          back name (inl (some, is_open)) out = absurd (not_open (thing_at fields name)
              (subst (λ (field : Field). Says (in_node whole) (thing_at fields name) field false)
              is_open out))
          back name (inr (none, is)) out = (
            name,
            none,
            (out_of (thing_at fields name) (sorted name)).1 (subst (λ (field : Field).
                Says (in_node whole) (thing_at fields name) field false) is out),
          )

    any_below : ANY.0 < length graph + length batch
    any_below = let most = at_least graph before begins in omega arith

    open_below : (those : List (Name × Entry))
        → AllOf (λ field. field.1.type.0 < length graph + length batch) (open_fields those)
    open_below [] = tt
    open_below (one ∷ those) = (any_below, open_below those)

    pub other_holds : AreRisingLabels None (open_fields entries)
        → HoldsOther graph batch entries question (Not (formula.Record (open_fields entries) id))
    other_holds rising = record {
      exact = λ more fields is. other_exact more fields is;
      sound = (rising, open_below entries, outside.node);
    }

  -- a meet of a record type and of others
  module _ (entries : List (Name × Entry)) (every : List Question) where
    all_hold : (left : List Question) (fs : List Formula)
        → AllZip (HoldsOther graph batch entries) left fs → (more : Graph) (fields : Fields)
        → IsElement (thing.Record fields)
        → AllOf (HasOther graph entries fields) left
        ↔ each_holds (reader (longer graph batch more) (thing.Record fields)) (formulas_of fs) true
    all_hold [] [] are more fields is = itself
    all_hold [] (f ∷ fs) are more fields is = absurd are
    all_hold (question ∷ left) [] are more fields is = absurd are
    all_hold (question ∷ left) (f ∷ fs) are more fields is =
        both_agree (are.0.exact more fields is) (all_hold left fs are.1 more fields is)

    all_sound : (left : List Question) (fs : List Formula)
        → AllZip (HoldsOther graph batch entries) left fs
        → AreFormulas (length graph + length batch) (formulas_of fs)
    all_sound [] [] are = tt
    all_sound [] (f ∷ fs) are = absurd are
    all_sound (question ∷ left) [] are = absurd are
    all_sound (question ∷ left) (f ∷ fs) are = (are.0.sound, all_sound left fs are.1)

    pub meet_holds : (left : List Question) (f : Formula) (fs : List Formula)
        → HoldsRecords graph batch (IsAsSaid graph entries every) f
        → AllZip (HoldsOther graph batch entries) left fs
        → HoldsRecords graph batch (IsRest graph entries every left) (And (formulas_of (f ∷ fs)))
    meet_holds left f fs holding are = record {
      exact = λ more fields is. both_agree (holding.exact more fields is)
          (all_hold left fs are more fields is);
      records = λ more d h. holding.records more d h.0;
      sound = (holding.sound, all_sound left fs are);
    }

    -- where there are no others
    pub alone_holds : (f : Formula) → HoldsRecords graph batch (IsAsSaid graph entries every) f
        → HoldsRecords graph batch (IsRest graph entries every []) f
    alone_holds f holding = record {
      exact = λ more fields is. (
        λ rest. (holding.exact more fields is).0 rest.0,
        λ h. ((holding.exact more fields is).1 h, tt),
      );
      records = holding.records;
      sound = holding.sound;
    }

  -- a union of the formulas of rests
  module _ (label : Name) where
    one_holds_rest : (rests : List Rest) (fs : List Formula)
        → AllZip (HoldsRest graph batch label) rests fs → (more : Graph) (fields : Fields)
        → IsElement (thing.Record fields)
        → IsOfRests graph label rests fields
        ↔ one_holds (reader (longer graph batch more) (thing.Record fields)) (formulas_of fs) true
    one_holds_rest [] [] are more fields is = itself
    one_holds_rest [] (f ∷ fs) are more fields is = absurd are
    one_holds_rest (rest ∷ rests) [] are more fields is = absurd are
    one_holds_rest (rest ∷ rests) (f ∷ fs) are more fields is =
        one_agrees (are.0.exact more fields is) (one_holds_rest rests fs are.1 more fields is)

    one_record : (rests : List Rest) (fs : List Formula)
        → AllZip (HoldsRest graph batch label) rests fs → (more : Graph) (d : Thing)
        → one_holds (reader (longer graph batch more) d) (formulas_of fs) true → IsRecord d
    one_record [] [] are more d one = absurd one
    one_record [] (f ∷ fs) are more d one = absurd are
    one_record (rest ∷ rests) [] are more d one = absurd one
    one_record (rest ∷ rests) (f ∷ fs) are more d (inl h) = are.0.records more d h
    one_record (rest ∷ rests) (f ∷ fs) are more d (inr later) =
        one_record rests fs are.1 more d later

    rests_sound : (rests : List Rest) (fs : List Formula)
        → AllZip (HoldsRest graph batch label) rests fs
        → AreFormulas (length graph + length batch) (formulas_of fs)
    rests_sound [] [] are = tt
    rests_sound [] (f ∷ fs) are = absurd are
    rests_sound (rest ∷ rests) [] are = absurd are
    rests_sound (rest ∷ rests) (f ∷ fs) are = (are.0.sound, rests_sound rests fs are.1)

    pub union_holds : (rests : List Rest) (fs : List Formula)
        → AllZip (HoldsRest graph batch label) rests fs
        → HoldsRecords graph batch (IsOfRests graph label rests) (Or (formulas_of fs))
    union_holds rests fs are = record {
      exact = λ more fields is. one_holds_rest rests fs are more fields is;
      records = λ more d h. one_record rests fs are more d h;
      sound = rests_sound rests fs are;
    }

    -- of one alone
    pub one_rest_holds : (rests : List Rest) (f : Formula)
        → AllZip (HoldsRest graph batch label) rests (f ∷ [])
        → HoldsRecords graph batch (IsOfRests graph label rests) f
    one_rest_holds [] f are = absurd are
    one_rest_holds (rest ∷ []) f are = record {
      exact = λ more fields is. through one_of_one (are.0.exact more fields is);
      records = are.0.records;
      sound = are.0.sound;
    }
      where
        one_of_one : {A : Type 0} → (A ⊎ ⊥) ↔ A
        one_of_one = (λ one. elim one [ inl a ↦ a | inr none ↦ absurd none ], λ a. inl a)
    one_rest_holds (rest ∷ other ∷ rests) f are = absurd are.1
