-- What the nodes of wants hold, in a graph in which the formulas for the wants stand.
use Rattle.std.proofs.Common.{◌≡◌, ◌↔◌, ◌+◌, ℕ, zero, suc, true, List, [], ◌∷◌, Option, Some, length, codes}
use Rattle.std.proofs.Common.{drop, refl, sym, ap, subst, ◌∙◌, arith}
use Rattle.std.proofs.lemmas.Option.{none-some, slice_get_within}
use Rattle.std.specs.List.{slice_get}
use Rattle.cd_sets.specs.declared.node_id.NodeId.{NodeId}
use Rattle.cd_syntax.specs.Name.{first}
use Rattle.cd_syntax.specs.declared.constant.Constant.{Constant}
use Rattle.cd_syntax.specs.declared.constant.Constant.TheVariants as constant
use Rattle.cd_model.specs.AllOf.{AllOf}
use Rattle.cd_model.specs.BuiltIns.{node}
use Rattle.cd_model.specs.Formula.{Graph, Formula, asked, formula_at}
use Rattle.cd_model.specs.Thing as thing
use Rattle.cd_model.specs.Thing.{Thing}
use Rattle.cd_model.specs.Types.{Mapping}
use Rattle.cd_model.proofs.BothWays.{through}
use Rattle.cd_model.proofs.ByNumber.{got_some, all_got}
use Rattle.cd_matching.specs.Sequences.{thing_of}
use Rattle.cd_matching.specs.Sequences as sequences
use Rattle.cd_rules.specs.Family.{AsksNodes}
use Rattle.cd_filter.specs.Table.{Place}
use Rattle.cd_explored.specs.declared.want.Want.{Want}
use Rattle.cd_explored.specs.declared.want.Want.TheVariants.{Comes, Text, Character}
use Rattle.cd_explored.specs.Inner.Made.{IsNodeOfWant, IsComing, IsText, IsConstant, IsMade}
use Rattle.cd_explored.specs.Inner.Made.{AreMade, text_at}
use Rattle.cd_explored.specs.Inner.Plan.{Plan, text_of}
use Rattle.cd_model.proofs.ReadHeads.{in_it, Holds as HoldsOf, integer_holds, character_holds, atom_holds}
use Rattle.cd_model.proofs.ReadHeads.{pair_holds, IsPairIn}
use Rattle.cd_model.specs.Leaves.{one_character}
use Rattle.cd_captured.proofs.QuestionsKept.{HoldsQuestions}

-- the formulas of a batch stand in a graph, from a number on
abbrev pub StandFrom : (first : ℕ) → List Formula → Graph → Type 0
StandFrom first batch graph = (k : ℕ) (f : Formula) → slice_get batch k ≡ Some f
    → formula_at graph (node (first + k)) ≡ f

got_dropped : {X : Type 0} (xs : List X) (k : ℕ) → slice_get xs k ≡ slice_get (drop k xs) zero
got_dropped [] zero = refl
got_dropped [] (suc k) = refl
got_dropped (x ∷ xs) zero = refl
got_dropped (x ∷ xs) (suc k) = got_dropped xs k

dropped_one : {X : Type 0} (xs : List X) (k : ℕ) (x : X) (rest : List X) → drop k xs ≡ x ∷ rest
    → drop (suc k) xs ≡ rest
dropped_one [] zero x rest is = ap (drop 1) is
dropped_one [] (suc k) x rest is = ap (drop 1) is
dropped_one (y ∷ xs) zero x rest is = ap (drop 1) is
dropped_one (y ∷ xs) (suc k) x rest is = dropped_one xs k x rest is

module _ (plan : Plan) (wants : List Want) (batch : List Formula)
    (asks : AllOf (λ place. AsksNodes (length plan.graph) place.question) plan.places)
    (made : AreMade plan wants batch) (count : length batch ≡ length wants)
    (graph : Graph) (closed : ℕ → Mapping NodeId) (Sort : Thing → Type 0)
    (stand : StandFrom plan.first batch graph)
    (questions : HoldsQuestions plan.graph graph closed Sort) where
  abbrev IsIn : Thing → NodeId → Type 0
  IsIn d id = in_it graph closed d id true

  abbrev Holds : Thing → Formula → Type 0
  Holds = HoldsOf graph closed

  -- the node of a want has a formula that is made for it
  formula_of_want : (id : NodeId) (want : Want) → IsNodeOfWant plan wants id want
      → (f : Formula) × IsMade plan wants want f × (formula_at graph id ≡ f)
  formula_of_want id want (number, there, is) =
      let found = got_some batch number (omega (arith, count, slice_get_within wants number want there)) in (
        found.0,
        made number want found.0 there found.1,
        ap (formula_at graph) is ∙ stand number found.0 found.1,
      )

  in_node_of : (id : NodeId) (f : Formula) (Fact : Thing → Type 0) → formula_at graph id ≡ f
      → (d : Thing) → Holds d f ↔ Fact d → IsIn d id ↔ Fact d
  in_node_of id f Fact is d holds =
      subst (λ (g : Formula). Holds d g ↔ Fact d) (sym is) holds

  pub coming_holds : (number : ℕ) (place : Place) → slice_get plan.places number ≡ Some place
      → (f : Formula) → IsComing plan (slice_get plan.places number) f → (d : Thing) → Sort d
      → Holds d f ↔ asked (in_it graph closed d) place.question true
  coming_holds number place there f is d sort = questions place.question f
      (all_got (λ place. AsksNodes (length plan.graph) place.question) plan.places number place
      asks there) (subst (λ (found : Option Place). IsComing plan found f) there is) d sort

  pub coming_node : (id : NodeId) (number : ℕ) (place : Place) → slice_get plan.places number ≡ Some place
      → IsNodeOfWant plan wants id (Comes number) → (d : Thing) → Sort d
      → IsIn d id ↔ asked (in_it graph closed d) place.question true
  coming_node id number place there is d sort =
      let found = formula_of_want id (Comes number) is in
      in_node_of id found.0 (λ d. asked (in_it graph closed d) place.question true) found.2 d
      (coming_holds number place there found.0 found.1 d sort)

  character_node : (id : NodeId) (c : ℕ) → IsNodeOfWant plan wants id (Character c) → (d : Thing)
      → IsIn d id ↔ (d ≡ thing.Character c)
  character_node id c is d =
      let found = formula_of_want id (Character c) is in
      in_node_of id (one_character c) (λ d. d ≡ thing.Character c) (found.2 ∙ found.1) d
      (character_holds graph closed c d)

  -- a pair of a character and a text
  of_pair : (one other : NodeId) (c : ℕ) (text : List ℕ)
      → ((d : Thing) → IsIn d one ↔ (d ≡ thing.Character c))
      → ((d : Thing) → IsIn d other ↔ (d ≡ sequences.text_of text)) → (d : Thing)
      → IsPairIn graph closed one other d ↔ (d ≡ sequences.text_of (c ∷ text))
  of_pair one other c text first rest d = (
    λ (a, b, same, here, there). same ∙ λ i. thing.Pair ((first a).0 here i) ((rest b).0 there i),
    λ same. (thing.Character c, sequences.text_of text, same, (first _).1 refl, (rest _).1 refl),
  )

  text_holds : (number next : ℕ) (text : List ℕ)
      → ((id : NodeId) (c : ℕ) (rest : List ℕ) → text ≡ c ∷ rest
      → IsNodeOfWant plan wants id (Text number next) → (d : Thing)
      → IsIn d id ↔ (d ≡ sequences.text_of rest))
      → (f : Formula) → IsText plan wants number next (slice_get text zero) f → (d : Thing)
      → Holds d f ↔ (d ≡ sequences.text_of text)
  text_holds number next [] later f is d = subst
      (λ (g : Formula). Holds d g ↔ (d ≡ sequences.nil)) (sym is) (atom_holds graph closed (codes "nil") d)
  text_holds number next (c ∷ rest) later f (one, other, is_one, is_other, is) d = subst
      (λ (g : Formula). Holds d g ↔ (d ≡ sequences.text_of (c ∷ rest))) (sym is)
      (through (pair_holds graph closed one other d) (of_pair one other c rest
      (character_node one c is_one) (later other c rest refl is_other) d))

  text_node : (text : List ℕ) (number from : ℕ) → drop from (text_at plan number) ≡ text
      → (id : NodeId) → IsNodeOfWant plan wants id (Text number from) → (d : Thing)
      → IsIn d id ↔ (d ≡ sequences.text_of text)
  text_node [] number from is id of d =
      let found = formula_of_want id (Text number from) of in
      let made = subst (λ (c : Option ℕ). IsText plan wants number (from + 1) c found.0)
      (got_dropped (text_at plan number) from ∙ ap (λ text. slice_get text zero) is) found.1 in
      in_node_of id found.0 (λ d. d ≡ sequences.nil) found.2 d
      (text_holds number (from + 1) [] (λ id c rest same. absurd (nothing c rest same)) found.0 made d)
    where
      nothing : (c : ℕ) (rest : List ℕ) → [] ≡ c ∷ rest → ⊥
      nothing c rest same = none-some c (ap (λ text. slice_get text zero) same)
  text_node (c ∷ rest) number from is id of d =
      let found = formula_of_want id (Text number from) of in
      let made = subst (λ (c : Option ℕ). IsText plan wants number (from + 1) c found.0)
      (got_dropped (text_at plan number) from ∙ ap (λ text. slice_get text zero) is) found.1 in
      in_node_of id found.0 (λ d. d ≡ sequences.text_of (c ∷ rest)) found.2 d
      (text_holds number (from + 1) (c ∷ rest)
      (λ id other text same is_id. subst
      (λ (text : List ℕ). (d : Thing) → IsIn d id ↔ (d ≡ sequences.text_of text))
      (ap (drop 1) same)
      (text_node rest number (from + 1) (next is) id is_id)) found.0 made d)
    where
      next : drop from (text_at plan number) ≡ c ∷ rest → drop (from + 1) (text_at plan number) ≡ rest
      next is = let more : from + 1 ≡ suc from = omega arith in
          ap (λ k. drop k (text_at plan number)) more ∙ dropped_one (text_at plan number) from c rest is

  pub constant_holds : (number : ℕ) (is : Constant) → text_at plan number ≡ text_of is
      → (f : Formula) → IsConstant plan wants number is f → (d : Thing)
      → Holds d f ↔ (d ≡ thing_of is)
  constant_holds number (constant.Int n) text f made d = subst
      (λ (g : Formula). Holds d g ↔ (d ≡ thing.Integer n)) (sym made) (integer_holds graph closed n d)
  constant_holds number (constant.Char c) text f made d = subst
      (λ (g : Formula). Holds d g ↔ (d ≡ thing.Character c)) (sym made)
      (character_holds graph closed c d)
  constant_holds number (constant.Atom name) text f made d = subst
      (λ (g : Formula). Holds d g ↔ (d ≡ thing.Atom name)) (sym made) (atom_holds graph closed name d)
  constant_holds number (constant.Text text) is f made d = text_holds number 1 text
      (λ id c rest same is_id. text_node rest number 1 (ap (drop 1) (is ∙ same)) id is_id) f
      (subst (λ (c : Option ℕ). IsText plan wants number 1 c f) (first_is text) made) d
    where
      first_is : (text : List ℕ) → first text ≡ slice_get text zero
      first_is [] = refl
      first_is (c ∷ text) = refl
  constant_holds number constant.Nil text f made d = subst
      (λ (g : Formula). Holds d g ↔ (d ≡ sequences.nil)) (sym made) (atom_holds graph closed (codes "nil") d)
