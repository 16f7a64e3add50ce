-- The clauses of the code for the conjuncts of each kind are those of the question, but for the
-- basic ones.
use Rattle.std.proofs.Common.{◌≡◌, ◌⊎◌, Option, true, false, List, [], ◌∷◌, map, inl, inr, sym, ap, ap₂, subst}
use Rattle.cd_sets.specs.declared.question.Question.{Question}
use Rattle.cd_model.specs.AllOf.{AllOf, AnyOf}
use Rattle.cd_model.specs.Formula.{Formula, Graph}
use Rattle.cd_model.specs.Kinds.{APair, AnXml, ARecord, AFunction}
use Rattle.cd_rules.specs.BasicSets.{IsBasic}
use Rattle.cd_rules.specs.Dnf.{Conjunct}
use Rattle.cd_rules.specs.Clauses as rules
use Rattle.cd_rules.specs.Clauses.{Triple, RecordType, Clause, Ints, Chars, Atoms, Pairs, Xmls, Records, Arrows, IsClauseOfQuestion}
use Rattle.cd_rules.specs.Clauses.{parts_in, pair_of, xml_of, record_of, arrow_of}
use Rattle.cd_rules.specs.KindDnf.{kind_dnf_of}
use Rattle.cd_rules.specs.PartialConjuncts.{clause_by}
use Rattle.cd_rules.proofs.Among.{each_of_its}
use Rattle.cd_rules.proofs.Answered.{map_of_each}
use Rattle.cd_rules.proofs.Asking.{each_of_map}
use Rattle.cd_rules.proofs.ClausesOfKind.{HasParts, pairs_of_kind, xmls_of_kind, records_of_kind, arrows_of_kind}
use Rattle.cd_model.proofs.Ones.{each_of_lists, one_weaker, one_of_map, map_of_one, one_on_left, one_on_right}
use Rattle.cd_normal.specs.declared.clause.Clause.{Clause as CodeClause}
use Rattle.cd_normal.specs.declared.kind.Kind.{Kind}
use Rattle.cd_normal.specs.declared.kind.Kind.TheVariants.{Pair, Xml, Record, Function}
use Rattle.cd_normal.specs.Inner.PlainKind.{plain_kind, kinds}
use Rattle.cd_normal.specs.PlainClause.{plain_clause}
use Rattle.cd_normal.specs.Inner.ClausesOfKinds.{clauses_of_kind, clauses_of_kinds, clauses_of_all}

module _ (graph : Graph) (question : Question) where
  -- what a conjunct of a kind says of it is a clause of the question
  same_parts : {X : Type 0} (parts_of : Formula → Option X) (all : List Conjunct) (conjunct : Conjunct) → AnyOf (λ other. other ≡ conjunct) all
      → AnyOf (HasParts parts_of (parts_in parts_of true conjunct) (parts_in parts_of false conjunct)) all
  same_parts parts_of all conjunct = one_weaker (λ other. other ≡ conjunct)
      (HasParts parts_of (parts_in parts_of true conjunct) (parts_in parts_of false conjunct))
      (λ other same. (ap (parts_in parts_of true) (sym same), ap (parts_in parts_of false) (sym same))) all

  clause_in : (kind : Kind) (conjunct : Conjunct) → AnyOf (λ other. other ≡ conjunct) (kind_dnf_of (plain_kind kind) graph question)
      → IsClauseOfQuestion graph question (clause_by (plain_kind kind) conjunct)
  clause_in Pair conjunct there = (pairs_of_kind graph question (parts_in pair_of true conjunct) (parts_in pair_of false conjunct)).1
      (same_parts pair_of (kind_dnf_of (plain_kind Pair) graph question) conjunct there)
  clause_in Xml conjunct there = (xmls_of_kind graph question (parts_in xml_of true conjunct) (parts_in xml_of false conjunct)).1
      (same_parts xml_of (kind_dnf_of (plain_kind Xml) graph question) conjunct there)
  clause_in Record conjunct there = (records_of_kind graph question (parts_in record_of true conjunct) (parts_in record_of false conjunct)).1
      (same_parts record_of (kind_dnf_of (plain_kind Record) graph question) conjunct there)
  clause_in Function conjunct there = (arrows_of_kind graph question (parts_in arrow_of true conjunct) (parts_in arrow_of false conjunct)).1
      (same_parts arrow_of (kind_dnf_of (plain_kind Function) graph question) conjunct there)

  all_in : (some : List Kind) → AllOf (IsClauseOfQuestion graph question) (clauses_of_kinds graph question some)
  all_in [] = tt
  all_in (kind ∷ some) =
      let conjuncts = kind_dnf_of (plain_kind kind) graph question in
      let Is = IsClauseOfQuestion graph question in
      each_of_lists Is (clauses_of_kind graph question kind) (clauses_of_kinds graph question some)
      (each_of_map (clause_by (plain_kind kind)) Is conjuncts (each_of_its (λ conjunct. Is (clause_by (plain_kind kind) conjunct)) conjuncts (clause_in kind)))
      (all_in some)

  -- and each clause of a kind is what one of its conjuncts says
  abbrev Among : List Clause → Clause → Type 0
  Among clauses is = AnyOf (λ one. one ≡ is) clauses

  pairs_among : (wanted refused : List rules.Pair) → IsClauseOfQuestion graph question (Pairs wanted refused)
      → Among (clauses_of_kind graph question Pair) (Pairs wanted refused)
  pairs_among wanted refused of =
      one_of_map (clause_by APair) (λ one. one ≡ Pairs wanted refused) (kind_dnf_of (plain_kind Pair) graph question)
      (one_weaker (HasParts pair_of wanted refused) (λ conjunct. clause_by APair conjunct ≡ Pairs wanted refused)
      (λ conjunct parts. ap₂ Pairs (sym parts.0) (sym parts.1)) (kind_dnf_of (plain_kind Pair) graph question)
      ((pairs_of_kind graph question wanted refused).0 of))

  xmls_among : (wanted refused : List Triple) → IsClauseOfQuestion graph question (Xmls wanted refused)
      → Among (clauses_of_kind graph question Xml) (Xmls wanted refused)
  xmls_among wanted refused of =
      one_of_map (clause_by AnXml) (λ one. one ≡ Xmls wanted refused) (kind_dnf_of (plain_kind Xml) graph question)
      (one_weaker (HasParts xml_of wanted refused) (λ conjunct. clause_by AnXml conjunct ≡ Xmls wanted refused)
      (λ conjunct parts. ap₂ Xmls (sym parts.0) (sym parts.1)) (kind_dnf_of (plain_kind Xml) graph question)
      ((xmls_of_kind graph question wanted refused).0 of))

  records_among : (wanted refused : List RecordType) → IsClauseOfQuestion graph question (Records wanted refused)
      → Among (clauses_of_kind graph question Record) (Records wanted refused)
  records_among wanted refused of =
      one_of_map (clause_by ARecord) (λ one. one ≡ Records wanted refused) (kind_dnf_of (plain_kind Record) graph question)
      (one_weaker (HasParts record_of wanted refused) (λ conjunct. clause_by ARecord conjunct ≡ Records wanted refused)
      (λ conjunct parts. ap₂ Records (sym parts.0) (sym parts.1)) (kind_dnf_of (plain_kind Record) graph question)
      ((records_of_kind graph question wanted refused).0 of))

  arrows_among : (wanted refused : List rules.Pair) → IsClauseOfQuestion graph question (Arrows wanted refused)
      → Among (clauses_of_kind graph question Function) (Arrows wanted refused)
  arrows_among wanted refused of =
      one_of_map (clause_by AFunction) (λ one. one ≡ Arrows wanted refused) (kind_dnf_of (plain_kind Function) graph question)
      (one_weaker (HasParts arrow_of wanted refused) (λ conjunct. clause_by AFunction conjunct ≡ Arrows wanted refused)
      (λ conjunct parts. ap₂ Arrows (sym parts.0) (sym parts.1)) (kind_dnf_of (plain_kind Function) graph question)
      ((arrows_of_kind graph question wanted refused).0 of))

  -- a clause of one of some kinds is among those of all
  of_first : (kind : Kind) (some : List Kind) (is : Clause) → Among (clauses_of_kind graph question kind) is
      → Among (clauses_of_kinds graph question (kind ∷ some)) is
  of_first kind some is =
      one_on_left (λ one. one ≡ is) (clauses_of_kind graph question kind) (clauses_of_kinds graph question some)

  of_later : (kind : Kind) (some : List Kind) (is : Clause) → Among (clauses_of_kinds graph question some) is
      → Among (clauses_of_kinds graph question (kind ∷ some)) is
  of_later kind some is =
      one_on_right (λ one. one ≡ is) (clauses_of_kind graph question kind) (clauses_of_kinds graph question some)

  among_all : (is : Clause) → IsClauseOfQuestion graph question is → IsBasic is ⊎ Among (clauses_of_all graph question) is
  among_all (Ints wanted refused) of = inl tt
  among_all (Chars wanted refused) of = inl tt
  among_all (Atoms wanted refused) of = inl tt
  among_all (Pairs wanted refused) of = inr (of_first Pair (Xml ∷ Record ∷ Function ∷ []) (Pairs wanted refused) (pairs_among wanted refused of))
  among_all (Xmls wanted refused) of = inr (of_later Pair (Xml ∷ Record ∷ Function ∷ []) (Xmls wanted refused)
      (of_first Xml (Record ∷ Function ∷ []) (Xmls wanted refused) (xmls_among wanted refused of)))
  among_all (Records wanted refused) of = inr (of_later Pair (Xml ∷ Record ∷ Function ∷ []) (Records wanted refused)
      (of_later Xml (Record ∷ Function ∷ []) (Records wanted refused)
      (of_first Record (Function ∷ []) (Records wanted refused) (records_among wanted refused of))))
  among_all (Arrows wanted refused) of = inr (of_later Pair (Xml ∷ Record ∷ Function ∷ []) (Arrows wanted refused)
      (of_later Xml (Record ∷ Function ∷ []) (Arrows wanted refused)
      (of_later Record (Function ∷ []) (Arrows wanted refused)
      (of_first Function [] (Arrows wanted refused) (arrows_among wanted refused of)))))

module _ (graph : Graph) (question : Question) (clauses : List CodeClause)
    (all : map plain_clause clauses ≡ clauses_of_all graph question) where
  pub sound : AllOf (λ clause. IsClauseOfQuestion graph question (plain_clause clause)) clauses
  sound = map_of_each plain_clause (IsClauseOfQuestion graph question) clauses
      (subst (AllOf (IsClauseOfQuestion graph question)) (sym all) (all_in graph question kinds))

  pub complete : (is : Clause) → IsClauseOfQuestion graph question is → IsBasic is ⊎ AnyOf (λ clause. plain_clause clause ≡ is) clauses
  complete is of = by_kind (among_all graph question is of)
    where
      by_kind : IsBasic is ⊎ AnyOf (λ one. one ≡ is) (clauses_of_all graph question)
          → IsBasic is ⊎ AnyOf (λ clause. plain_clause clause ≡ is) clauses
      by_kind (inl basic) = inl basic
      by_kind (inr among) = inr (map_of_one plain_clause (λ one. one ≡ is) clauses
          (subst (AnyOf (λ one. one ≡ is)) (sym all) among))
