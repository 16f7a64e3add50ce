-- What a family refutes has no member whose parts are in no question that the family subsumes.
use Rattle.std.proofs.Common.{◌≡◌, true, false, List, [], ◌∷◌, map, ◌⊎◌, inl, inr, sym, subst, ◌∙◌, true≢false}
use Rattle.cd_sets.specs.declared.question.Question.{Question}
use Rattle.cd_syntax.specs.Name.{Name}
use Rattle.cd_model.specs.AllOf.{AllOf, AnyOf}
use Rattle.cd_model.specs.BuiltIns.{ATOM, RECORD}
use Rattle.cd_model.specs.Membership.{Answers, Reader, Labelled, pair_reader, xml_reader, record_reader}
use Rattle.cd_rules.specs.Dnf.{Conjunct, Meets}
use Rattle.cd_rules.specs.Clauses.{Clause, Pairs, Xmls, Records, IsClauseOf, parts_in, pair_of, xml_of, record_of}
use Rattle.cd_rules.specs.Needs.{Way, Need, empty_or_not, pair_way, xml_way, splits, splits_in_three}
use Rattle.cd_rules.specs.Rows.{Cell, Row, rows_of}
use Rattle.cd_rules.specs.Members.{HasWitnesses}
use Rattle.cd_rules.specs.Family.{IsSubsumed, RefutesNeed, RefutesRow, Refutes}
use Rattle.cd_rules.proofs.ClauseOf.{in_pairs, in_xmls, in_records, kind_of_pair, kind_of_xml, kind_of_record}
use Rattle.cd_model.proofs.Ones.{one_alone}
use Rattle.cd_rules.proofs.PairsForward.{pairs_forward}
use Rattle.cd_rules.proofs.XmlsForward.{xmls_forward}
use Rattle.cd_rules.proofs.RecordsForward.{HasAt, records_forward}
use Rattle.cd_rules.proofs.Things.{IsAskedFact}

-- a thing that is in a question all of whose clauses are refuted meets a conjunct whose clauses are
-- refuted
pub record IsRefuted (family : List Question) (reader : Reader) : Type 0 where
  pub conjunct : Conjunct
  pub meets : Meets reader conjunct
  pub refutes : (clause : Clause) → IsClauseOf conjunct clause → Refutes family clause

pub refuted_one : (family : List Question) (reader : Reader) (conjuncts : List Conjunct) → AnyOf (Meets reader) conjuncts
    → ((clause : Clause) → AnyOf (λ conjunct. IsClauseOf conjunct clause) conjuncts → Refutes family clause) → IsRefuted family reader
refuted_one family reader [] one refutes = elim one [ ]
refuted_one family reader (conjunct ∷ conjuncts) (inl meets) refutes =
    record { conjunct = conjunct; meets = meets; refutes = λ clause is. refutes clause (inl is) }
refuted_one family reader (conjunct ∷ conjuncts) (inr later) refutes =
    refuted_one family reader conjuncts later (λ clause is. refutes clause (inr is))

module _ (family : List Question) where
  -- a question that the family does not subsume
  abbrev pub IsOut : Question → Type 0
  IsOut question = IsSubsumed question family → ⊥

  -- a way all of whose questions are out is not refuted
  way_out : (way : Way) → AllOf IsOut way → AnyOf (λ question. IsSubsumed question family) way → ⊥
  way_out [] out one = elim one [ ]
  way_out (question ∷ way) out (inl is) = out.0 is
  way_out (question ∷ way) out (inr later) = way_out way out.1 later

  pub need_out : (need : Need) → AnyOf (AllOf IsOut) need → RefutesNeed family need → ⊥
  need_out [] one refutes = elim one [ ]
  need_out (way ∷ need) (inl out) refutes = way_out way out refutes.0
  need_out (way ∷ need) (inr later) refutes = need_out need later refutes.1

  -- the one need of a clause
  pub one_need_out : (needs : List Need) (need : Need) → needs ≡ need ∷ [] → AnyOf (AllOf IsOut) need
      → AnyOf (RefutesNeed family) needs → ⊥
  one_need_out needs need same out refuted = need_out need out (one_alone (RefutesNeed family) needs need same refuted)

  -- a basic kind: there is a member
  pub member_out : {X : Type 0} (IsMember : X → Type 0) (x : X) → IsMember x → (needs : List Need) → empty_or_not IsMember needs
      → AnyOf (RefutesNeed family) needs → ⊥
  member_out IsMember x is needs (inl empty) refuted = empty.0 x is
  member_out IsMember x is needs (inr member) refuted = elim (subst (AnyOf (RefutesNeed family)) member.2 refuted) [ ]

  -- a row whose questions have witnesses is not refuted
  cells_out : (cells : List (Name × Cell)) → AllOf (λ cell. (cell.1.absent ≡ true) ⊎ IsOut cell.1.value) cells
      → AnyOf (λ cell. (cell.1.absent ≡ false) × IsSubsumed cell.1.value family) cells → ⊥
  cells_out [] lives one = elim one [ ]
  cells_out (cell ∷ cells) (inl absent, lives) (inl refuted) = absurd (true≢false (sym absent ∙ refuted.0))
  cells_out (cell ∷ cells) (inr out, lives) (inl refuted) = out refuted.1
  cells_out (cell ∷ cells) (first, lives) (inr later) = cells_out cells lives later

  pub rows_out : (rows : List Row) → AnyOf (HasWitnesses IsOut) rows → AllOf (RefutesRow family) rows → ⊥
  rows_out [] one refutes = elim one [ ]
  rows_out (row ∷ rows) (inr later) refutes = rows_out rows later refutes.1
  rows_out (row ∷ rows) (inl lives) refutes = by_reason refutes.0
    where
      by_reason : RefutesRow family row → ⊥
      by_reason (inl cell) = cells_out row.cells lives.0 cell
      by_reason (inr question) = way_out row.some lives.1 question

  -- what a thing is asked is out
  abbrev pub AskedOut : Answers → Type 0
  AskedOut = IsAskedFact IsOut

  -- pairs, XML elements and records whose parts are out
  pub pair_out : (first second : Answers) → AskedOut first → AskedOut second → IsRefuted family (pair_reader first second) → ⊥
  pair_out first second is_first is_second refuted =
      let in_clause = in_pairs (pair_reader first second) (kind_of_pair first second) refuted.conjunct refuted.meets in
      let wanted = parts_in pair_of true refuted.conjunct in
      let refused = parts_in pair_of false refuted.conjunct in
      let needs = refuted.refutes (Pairs wanted refused) in_clause.0 in
      one_need_out needs.0 (map (pair_way wanted) (splits refused)) needs.1
      (pairs_forward first second IsOut is_first is_second wanted refused in_clause.1 in_clause.2) needs.2

  pub xml_out : (tag attributes content : Answers) → AskedOut tag → AskedOut attributes → AskedOut content
      → tag ATOM true → attributes RECORD true → IsRefuted family (xml_reader tag attributes content) → ⊥
  xml_out tag attributes content is_tag is_attributes is_content atom fields refuted =
      let in_clause = in_xmls (xml_reader tag attributes content) (kind_of_xml tag attributes content) refuted.conjunct refuted.meets in
      let wanted = parts_in xml_of true refuted.conjunct in
      let refused = parts_in xml_of false refuted.conjunct in
      let needs = refuted.refutes (Xmls wanted refused) in_clause.0 in
      one_need_out needs.0 (map (xml_way wanted) (splits_in_three refused)) needs.1
      (xmls_forward tag attributes content IsOut is_tag is_attributes is_content atom fields wanted refused in_clause.1 in_clause.2)
      needs.2

  pub record_out : (labelled : Labelled) → ((label : Name) → HasAt labelled IsOut label)
      → IsRefuted family (record_reader labelled) → ⊥
  record_out labelled has refuted =
      let in_clause = in_records (record_reader labelled) (kind_of_record labelled) refuted.conjunct refuted.meets in
      let wanted = parts_in record_of true refuted.conjunct in
      let refused = parts_in record_of false refuted.conjunct in
      rows_out (rows_of wanted refused) (records_forward labelled IsOut has wanted refused in_clause.1 in_clause.2)
      (refuted.refutes (Records wanted refused) in_clause.0)
