-- Records that are written are good and in the types that hold all that their rule gives.
use Rattle.std.proofs.Common.{◌≡◌, ◌∙◌, ℕ, true, false, List, [], ◌∷◌, Option, Some, None, inl, inr, refl, ap, subst, bytes_eq, if◌then◌else◌}
use Rattle.std.proofs.lemmas.Bool.{cases_Bool}
use Rattle.std.proofs.lemmas.Slice.Eq.{bytes_eq-Decides}
use Rattle.cd_syntax.specs.Name.{Name}
use Rattle.cd_model.specs.AllOf.{AllOf}
use Rattle.cd_model.specs.Formula.{Graph}
use Rattle.cd_model.specs.Interfaces.{Interfaces}
use Rattle.cd_model.specs.Thing as thing
use Rattle.cd_model.specs.Thing.{Thing, Record, IsElement, AreFields}
use Rattle.cd_rules.specs.InRow.{thing_at}
use Rattle.cd_matching.specs.Captures.{or_else}
use Rattle.cd_program.specs.Expr.{Expr, Fields, NoField, AField}
use Rattle.cd_names.specs.Labels.{LacksLabel}
use Rattle.cd_meaning.specs.Sets.{◌⊆◌}
use Rattle.cd_typing.specs.Typ.{Typ, In, IsType}
use Rattle.cd_typing.specs.Results.{written_at, IsRecordOf}
use Rattle.cd_evaluation.specs.RecordFields.{put}
use Rattle.cd_safety.specs.ByParts.{IsByParts}
use Rattle.cd_safety.specs.Operands.{put_all, GoodIn, FieldsLead}
use Rattle.cd_safety.specs.OutcomesStandIn.{AllStandIn}
use Rattle.cd_safety.specs.Sound.{IsGood, AreGood}
use Rattle.cd_safety.specs.StandsIn as stand
use Rattle.cd_safety.specs.StandsIn.{FieldsStandIn}
use Rattle.cd_safety.specs.WellWritten.{AreWrittenOnce}
use Rattle.cd_safety.proofs.FieldsAtLabels.{put_at}
use Rattle.cd_safety.proofs.OperandsStandIn.{have_places, value_in}
use Rattle.cd_safety.proofs.RecordsGood.{put_good}
use Rattle.cd_safety.proofs.RecordsStandIn.{put_stands}
use Rattle.cd_safety.proofs.SequencesSafe.{elements_of, goods_of}
use Rattle.cd_safety.proofs.SortsByParts.{elements_by_parts, good_by_parts}
use Rattle.cd_safety.proofs.TypesPlaced.{shared_graph}

-- nothing is written at a label that the fields lack
nothing_written : (label : Name) (fields : Fields) (ds : List Thing) → LacksLabel label fields → written_at fields ds label ≡ None
nothing_written label NoField ds lack = refl
nothing_written label (AField other at e rest) [] lack = refl
nothing_written label (AField other at e rest) (d ∷ ds) lack = rw lack.0 (nothing_written label rest ds lack.1)

-- what stands at a label is what is written there, or else what stood there
all_at : (fields : Fields) (ds : List Thing) (done : thing.Fields) (name : Name) → AreWrittenOnce fields
    → thing_at (put_all fields ds done) name ≡ or_else (written_at fields ds name) (thing_at done name)
all_at NoField ds done name once = refl
all_at (AField label at e rest) [] done name once = refl
all_at (AField label at e rest) (d ∷ ds) done name once =
    all_at rest ds (put label d done) name once.2 ∙ ap (or_else (written_at rest ds name)) (put_at label d done name)
    ∙ elim (cases_Bool (bytes_eq label name)) [
      | inl same ↦ found same
      | inr apart ↦ other apart
    ]
  where
    Same : Type 0
    Same = or_else (written_at rest ds name) (if bytes_eq label name then Some d else thing_at done name)
        ≡ or_else (if bytes_eq label name then Some d else written_at rest ds name) (thing_at done name)

    found : bytes_eq label name ≡ true → Same
    found same =
        let none = nothing_written name rest ds (subst (λ one. LacksLabel one rest) ((bytes_eq-Decides label name).0 same) once.1) in
        rw same (rw none refl)

    other : bytes_eq label name ≡ false → Same
    other apart = rw apart refl

all_good : (Of : Thing → Type 0) (OfFields : thing.Fields → Type 0) → IsByParts Of OfFields → (fields : Fields) (ds : List Thing)
    (done : thing.Fields) → AreWrittenOnce fields → AllOf Of ds → Of (Record done) → Of (Record (put_all fields ds done))
all_good Of OfFields by_parts NoField ds done once are is = is
all_good Of OfFields by_parts (AField label at e rest) [] done once are is = is
all_good Of OfFields by_parts (AField label at e rest) (d ∷ ds) done once are is =
    all_good Of OfFields by_parts rest ds (put label d done) once.2 are.1 (put_good Of OfFields by_parts label d done once.0 are.0 is)

all_stand : (graph : Graph) (interfaces : Interfaces) (fields : Fields) (vs es : List Thing) (done others : thing.Fields)
    → AllStandIn graph interfaces vs es → FieldsStandIn graph interfaces done others
    → FieldsStandIn graph interfaces (put_all fields vs done) (put_all fields es others)
all_stand graph interfaces NoField vs es done others are stands = stands
all_stand graph interfaces (AField label at e rest) [] [] done others are stands = stands
all_stand graph interfaces (AField label at e rest) [] (d ∷ es) done others are stands = absurd are
all_stand graph interfaces (AField label at e rest) (v ∷ vs) [] done others are stands = absurd are
all_stand graph interfaces (AField label at e rest) (v ∷ vs) (d ∷ es) done others are stands =
    all_stand graph interfaces rest vs es (put label v done) (put label d others) are.1
    (put_stands graph interfaces label v d done others are.0 stands)

module _ (fact : ℕ → thing.Fields → Type 0) (interfaces : Interfaces) where
  no_fields : (Of : Thing → Type 0) (OfFields : thing.Fields → Type 0) → IsByParts Of OfFields → Of (Record thing.NoField)
  no_fields Of OfFields by_parts = (by_parts.fields thing.NoField).1 (tt, by_parts.no_field)

  -- a record that is written, field by field
  pub fields_begin : (fields : Fields) (parts : List Typ) (t : Typ) → AllOf IsType parts → IsType t → AreWrittenOnce fields
      → IsRecordOf fields parts ⊆ In t → FieldsLead fact interfaces fields parts t thing.NoField
  fields_begin fields parts t parts_are t_is once within vs are =
      let all = shared_graph (t ∷ parts) (t_is, parts_are) in
      let places = have_places fact interfaces all.graph all.more all.begins all.sound parts all.nodes.1 vs are in
      let element = all_good IsElement AreFields elements_by_parts fields places.es thing.NoField once
      (elements_of parts places.es places.inside) (no_fields IsElement AreFields elements_by_parts) in
      let by_parts = good_by_parts fact interfaces in (
        all_good (IsGood fact interfaces) (AreGood fact interfaces) by_parts fields vs thing.NoField once
            (goods_of fact interfaces parts vs are) (no_fields (IsGood fact interfaces) (AreGood fact interfaces) by_parts),
        value_in fact interfaces all.graph t all.nodes.0 (Record (put_all fields vs thing.NoField))
            (Record (put_all fields places.es thing.NoField))
            (stand.of_fields (put_all fields vs thing.NoField) (put_all fields places.es thing.NoField)
            (all_stand all.graph interfaces fields vs places.es thing.NoField thing.NoField places.stand stand.no_field))
            (within (Record (put_all fields places.es thing.NoField)) element (
              places.es,
              put_all fields places.es thing.NoField,
              places.inside,
              λ label. all_at fields places.es thing.NoField label once ∙ or_nothing (written_at fields places.es label),
              refl,
            )),
      )
    where
      or_nothing : (what : Option Thing) → or_else what None ≡ what
      or_nothing None = refl
      or_nothing (Some d) = refl

  pub field_next : (label : Name) (at : ℕ) (e : Expr) (rest : Fields) (s : Typ) (parts : List Typ) (t : Typ) (done : thing.Fields)
      (v : Thing) → FieldsLead fact interfaces (AField label at e rest) (s ∷ parts) t done → GoodIn fact interfaces s v
      → FieldsLead fact interfaces rest parts t (put label v done)
  field_next label at e rest s parts t done v lead good vs are = lead (v ∷ vs) (good, are)

  pub fields_end : (t : Typ) (done : thing.Fields) → FieldsLead fact interfaces NoField [] t done → GoodIn fact interfaces t (Record done)
  fields_end t done lead = lead [] tt
