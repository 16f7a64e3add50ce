-- A clause that wants and refuses the same pair, XML formula or arrow is refuted: each way to give
-- that to a side asks something that contradicts itself.
use Rattle.std.proofs.Common.{◌≡◌, List, [], ◌∷◌, map, inl, inr, refl, sym, subst}
use Rattle.cd_sets.specs.declared.node_id.NodeId.{NodeId}
use Rattle.cd_sets.specs.declared.question.Question.{Question}
use Rattle.cd_model.specs.BuiltIns.{ATOM, RECORD}
use Rattle.cd_model.specs.AllOf.{AnyOf}
use Rattle.cd_rules.specs.Clauses.{Pairs, Xmls, Arrows, Pair, Triple}
use Rattle.cd_rules.specs.Family.{IsSubsumed, Refutes}
use Rattle.cd_rules.specs.Needs.{question}
use Rattle.cd_rules.proofs.Subsumption.{asks_more, subsumes_more}
use Rattle.cd_model.proofs.Ones.{one_weaker, one_of_map}
use Rattle.cd_rules.specs.Fails.{seen, cases, three_seen, three_cases}
use Rattle.cd_rules.specs.Tasks.{TaskFails, ArrowTask}
use Rattle.cd_rules.proofs.FailingTasks.{task_refutes}

module _ (family : List Question) where
  -- a question of nodes contradicts itself where one is wanted and refused
  subsumed : (pos neg : List NodeId) (id : NodeId) → AnyOf (λ other. other ≡ id) pos → AnyOf (λ other. other ≡ id) neg
      → IsSubsumed (question pos neg) family
  subsumed pos neg id wanted refused = subsumes_more family (question pos neg) (question (id ∷ []) (id ∷ []))
      (asks_more (id ∷ []) (id ∷ []) pos neg (wanted, tt) (refused, tt)) (inr (inl (inl refl)))

  part_there : {X : Type 0} (part : X → NodeId) (x : X) (all : List X) → AnyOf (λ other. other ≡ x) all → AnyOf (λ id. id ≡ part x) (map part all)
  part_there part x all there = one_of_map part (λ id. id ≡ part x) all
      (one_weaker (λ other. other ≡ x) (λ other. part other ≡ part x) (λ other same. subst (λ one. part other ≡ part one) same refl) all there)

  pub pair_twice : (wanted refused : List Pair) (x : Pair) → AnyOf (λ other. other ≡ x) wanted → AnyOf (λ other. other ≡ x) refused
      → Refutes family (Pairs wanted refused)
  pair_twice wanted refused x there too = task_refutes family (Pairs wanted refused) (inl (cases ([], []) x too
      (seen (x ∷ [], []) (inl (subsumed (map (λ parts. parts.0) wanted) (x.0 ∷ []) x.0
      (part_there (λ (parts : Pair). parts.0) x wanted there) (inl refl))))
      (seen ([], x ∷ []) (inr (inl (subsumed (map (λ parts. parts.1) wanted) (x.1 ∷ []) x.1
      (part_there (λ (parts : Pair). parts.1) x wanted there) (inl refl)))))))

  pub xml_twice : (wanted refused : List Triple) (x : Triple) → AnyOf (λ other. other ≡ x) wanted → AnyOf (λ other. other ≡ x) refused
      → Refutes family (Xmls wanted refused)
  xml_twice wanted refused x there too = task_refutes family (Xmls wanted refused) (inl (three_cases ([], [], []) x too
      (three_seen (x ∷ [], [], []) (inl (subsumed (ATOM ∷ map (λ parts. parts.0) wanted) (x.0 ∷ []) x.0
      (inr (part_there (λ (parts : Triple). parts.0) x wanted there)) (inl refl))))
      (three_seen ([], x ∷ [], []) (inr (inl (subsumed (RECORD ∷ map (λ parts. parts.1) wanted) (x.1 ∷ []) x.1
      (inr (part_there (λ (parts : Triple). parts.1) x wanted there)) (inl refl)))))
      (three_seen ([], [], x ∷ []) (inr (inr (inl (subsumed (map (λ parts. parts.2) wanted) (x.2 ∷ []) x.2
      (part_there (λ (parts : Triple). parts.2) x wanted there) (inl refl))))))))

  pub arrow_twice : (wanted refused : List Pair) (x : Pair) → AnyOf (λ other. other ≡ x) wanted → AnyOf (λ other. other ≡ x) refused
      → Refutes family (Arrows wanted refused)
  arrow_twice wanted refused x there too = task_refutes family (Arrows wanted refused)
      (one_of_map (λ one. ArrowTask one wanted ([], []) wanted) (TaskFails family) refused
      (one_weaker (λ other. other ≡ x) (λ one. TaskFails family (ArrowTask one wanted ([], []) wanted))
      (λ other same. subst (λ one. TaskFails family (ArrowTask one wanted ([], []) wanted)) (sym same) (cases ([], []) x there
      (seen (x ∷ [], []) (inl (subsumed (x.0 ∷ []) (x.0 ∷ []) x.0 (inl refl) (inl refl))))
      (seen ([], x ∷ []) (inr (inl (subsumed (x.1 ∷ []) (x.1 ∷ []) x.1 (inl refl) (inl refl))))))) refused too))
