-- What some merged record has at a label is in the entry of the rows there.
use Rattle.std.proofs.Common.{◌≡◌, Bool, true, false, ◌&&◌, ◌||◌, List, [], ◌∷◌, ◌++◌, Option}
use Rattle.std.proofs.Common.{Some, None, ◌⊎◌, inl, inr, refl, sym, ap, subst, ◌∙◌}
use Rattle.std.proofs.Common.{if◌then◌else◌}
use Rattle.std.proofs.lemmas.Bool.{true≢false}
use Rattle.std.proofs.lemmas.Option.{none-some}
use Rattle.std.specs.List.{list_any}
use Rattle.cd_sets.specs.declared.node_id.NodeId.{NodeId}
use Rattle.cd_sets.specs.declared.question.Question.{Question}
use Rattle.cd_syntax.specs.Name.{Name, IsLabel}
use Rattle.cd_model.specs.AllOf.{AnyOf}
use Rattle.cd_model.specs.BuiltIns.{built_ins}
use Rattle.cd_model.specs.Formula.{Graph, in_node, asked}
use Rattle.cd_model.specs.Thing.{Thing, Fields, IsElement}
use Rattle.cd_rules.specs.InRow.{thing_at}
use Rattle.cd_rules.specs.Rows.{Row}
use Rattle.cd_model.proofs.Ones.{one_of_map, map_of_one}
use Rattle.cd_rows.specs.RecordRows.{asked_at, may_lack}
use Rattle.cd_rows.proofs.RowsWithWitnesses.{IsOfSort}
use Rattle.cd_meaning.specs.Records.{HasRecord, IsMergedAt, merged_at}
use Rattle.cd_meaning.specs.Sets.{elements_of}
use Rattle.cd_records.specs.Inner.Entries.{IsInEntry, InOneQuestion}
use Rattle.cd_records.specs.Inner.Rows.{AreRowsOf}
use Rattle.cd_records.specs.Inner.Saying.{asked_by, one_may_lack, merged_entry, with_questions}
use Rattle.cd_records.proofs.QuestionsOnce.{one_of_both, one_of_either}
use Rattle.cd_records.proofs.RowsOfNodes.{IsSaid, IsHad, had_is_said, said_is_had}

both_true : (a b : Bool) → (a && b) ≡ true → (a ≡ true) × (b ≡ true)
both_true true b h = (refl, h)
both_true false b h = absurd (true≢false (sym h))

-- one of a list passes a test
pub any_passes : {X : Type 0} (test : X → Bool) (xs : List X) → AnyOf (λ x. test x ≡ true) xs
    → list_any test xs ≡ true
any_passes test [] one = absurd one
any_passes test (x ∷ xs) one = by_test (test x) one (any_passes test xs)
  where
    by_test : (b : Bool) → (b ≡ true) ⊎ AnyOf (λ x. test x ≡ true) xs
        → (AnyOf (λ x. test x ≡ true) xs → list_any test xs ≡ true)
        → b || list_any test xs ≡ true
    by_test true one further = refl
    by_test false (inl is) further = absurd (true≢false (sym is))
    by_test false (inr later) further = further later

pub passes_any : {X : Type 0} (test : X → Bool) (xs : List X) → list_any test xs ≡ true
    → AnyOf (λ x. test x ≡ true) xs
passes_any test [] passes = absurd (true≢false (sym passes))
passes_any test (x ∷ xs) passes = by_test (test x) refl passes (passes_any test xs)
  where
    by_test : (b : Bool) → test x ≡ b → b || list_any test xs ≡ true
        → (list_any test xs ≡ true → AnyOf (λ x. test x ≡ true) xs)
        → AnyOf (λ x. test x ≡ true) (x ∷ xs)
    by_test true is passes further = inl is
    by_test false is passes further = inr (further passes)

module _ (graph : Graph) (rows : List Row) (label : Name) where
  -- what rows say of a label, as the code asks it
  pub lack_said : one_may_lack rows label ≡ true → IsSaid graph rows label None
  lack_said may = passes_any (λ row. may_lack row label) rows may

  pub said_lack : IsSaid graph rows label None → one_may_lack rows label ≡ true
  said_lack said = any_passes (λ row. may_lack row label) rows said

  module _ (d : Thing) where
    pub asked_said : InOneQuestion (in_node graph) (asked_by rows label) d
        → IsSaid graph rows label (Some d)
    asked_said one = map_of_one (λ row. asked_at row label)
        (λ question. asked (in_node graph d) question true) rows one

    pub said_asked : IsSaid graph rows label (Some d)
        → InOneQuestion (in_node graph) (asked_by rows label) d
    said_asked said = one_of_map (λ row. asked_at row label)
        (λ question. asked (in_node graph d) question true) rows said

module _ (graph more : Graph) (begins : graph ≡ built_ins ++ more) (a b : NodeId)
    (first second : List Row) (are_a : AreRowsOf graph a first) (are_b : AreRowsOf graph b second)
    (label : Name) (is_label : IsLabel label) where
  abbrev HadByFirst : Option Thing → Type 0
  HadByFirst = IsHad graph more begins a first are_a label

  abbrev HadBySecond : Option Thing → Type 0
  HadBySecond = IsHad graph more begins b second are_b label

  by_first : (what : Option Thing) → HadByFirst what → IsSaid graph first label what
  by_first = had_is_said graph more begins a first are_a label is_label

  by_second : (what : Option Thing) → HadBySecond what → IsSaid graph second label what
  by_second = had_is_said graph more begins b second are_b label is_label

  in_first : (what : Option Thing) → IsOfSort IsElement what → IsSaid graph first label what
      → HadByFirst what
  in_first = said_is_had graph more begins a first are_a label is_label

  in_second : (what : Option Thing) → IsOfSort IsElement what → IsSaid graph second label what
      → HadBySecond what
  in_second = said_is_had graph more begins b second are_b label is_label

  abbrev Merged : Option Thing → Type 0
  Merged = IsMergedAt (elements_of graph a) (elements_of graph b) label

  abbrev InEntry : Option Thing → Type 0
  InEntry what = IsInEntry (in_node graph) what (merged_entry first second label)

  -- a thing that one of the second ones has, or one of the first where the second may lack it
  abbrev Fact : Thing → Question → Type 0
  Fact d question = asked (in_node graph d) question true

  from_second : (d : Thing) → IsSaid graph second label (Some d) → InEntry (Some d)
  from_second d said = one_of_both (Fact d)
      (if one_may_lack second label then asked_by first label else [])
      (with_questions (asked_by second label) [])
      (inr (one_of_both (Fact d) (asked_by second label) []
      (inl (said_asked graph second label d said))))

  from_first : (d : Thing) → one_may_lack second label ≡ true → IsSaid graph first label (Some d)
      → InEntry (Some d)
  from_first d may said = one_of_both (Fact d)
      (if one_may_lack second label then asked_by first label else [])
      (with_questions (asked_by second label) [])
      (inl (subst (λ (b : Bool). AnyOf (Fact d) (if b then asked_by first label else []))
      (sym may) (said_asked graph first label d said)))

  from_either : (d : Thing) → InEntry (Some d) → IsSaid graph second label (Some d)
      ⊎ ((one_may_lack second label ≡ true) × IsSaid graph first label (Some d))
  from_either d one = by_side (one_of_either (Fact d)
      (if one_may_lack second label then asked_by first label else [])
      (with_questions (asked_by second label) []) one)
    where
      of_first : (b : Bool) → one_may_lack second label ≡ b
          → AnyOf (Fact d) (if b then asked_by first label else [])
          → IsSaid graph second label (Some d)
          ⊎ ((one_may_lack second label ≡ true) × IsSaid graph first label (Some d))
      of_first true may one = inr (may, asked_said graph first label d one)
      of_first false may none = absurd none

      of_second : AnyOf (Fact d) (asked_by second label) ⊎ AnyOf (Fact d) []
          → IsSaid graph second label (Some d)
          ⊎ ((one_may_lack second label ≡ true) × IsSaid graph first label (Some d))
      of_second (inl one) = inl (asked_said graph second label d one)
      of_second (inr none) = absurd none

      by_side : AnyOf (Fact d) (if one_may_lack second label then asked_by first label else [])
          ⊎ AnyOf (Fact d) (with_questions (asked_by second label) [])
          → IsSaid graph second label (Some d)
          ⊎ ((one_may_lack second label ≡ true) × IsSaid graph first label (Some d))
      by_side (inl one) = of_first (one_may_lack second label) refl one
      by_side (inr one) = of_second (one_of_either (Fact d) (asked_by second label) [] one)

  pub merged_in_entry : (what : Option Thing) → Merged what → InEntry what
  merged_in_entry what (one, other, is_one, is_other, same) =
      by_what (thing_at other label) refl what same
    where
      by_what : (there : Option Thing) → thing_at other label ≡ there → (what : Option Thing)
          → merged_at (thing_at one label) there ≡ what → InEntry what
      by_what (Some d) there None same = absurd (none-some d (sym same))
      by_what (Some d) there (Some e) same =
          from_second e (by_second (Some e) (other, is_other, there ∙ same))
      by_what None there None same =
          let second_may = said_lack graph second label (by_second None (other, is_other, there)) in
          let first_may = said_lack graph first label (by_first None (one, is_one, same)) in
          rw (second_may, first_may) refl
      by_what None there (Some e) same = from_first e
          (said_lack graph second label (by_second None (other, is_other, there)))
          (by_first (Some e) (one, is_one, same))

  -- the first node has a record
  pub entry_is_merged : ((fields : Fields) × HasRecord (elements_of graph a) fields)
      → (what : Option Thing) → IsOfSort IsElement what → InEntry what → Merged what
  entry_is_merged some None sort may =
      let both = both_true (one_may_lack second label) (one_may_lack first label) may in
      let other = in_second None tt (lack_said graph second label both.0) in
      let one = in_first None tt (lack_said graph first label both.1) in
      (one.0, other.0, one.1, other.1, ap (merged_at (thing_at one.0 label)) other.2 ∙ one.2)
  entry_is_merged some (Some e) sort one = by_side (from_either e one)
    where
      by_side : IsSaid graph second label (Some e)
          ⊎ ((one_may_lack second label ≡ true) × IsSaid graph first label (Some e))
          → Merged (Some e)
      by_side (inl said) =
          let other = in_second (Some e) sort said in
          (some.0, other.0, some.1, other.1, ap (merged_at (thing_at some.0 label)) other.2)
      by_side (inr (may, said)) =
          let other = in_second None tt (lack_said graph second label may) in
          let one = in_first (Some e) sort said in
          (one.0, other.0, one.1, other.1, ap (merged_at (thing_at one.0 label)) other.2 ∙ one.2)
