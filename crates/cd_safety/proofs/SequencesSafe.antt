-- Sequences that are written, and those that `map` and `transform` make, are good and in the types that hold all that their rules give.
use Rattle.std.proofs.Common.{◌≡◌, ℕ, List, [], ◌∷◌, ◌++◌, map, Option, Some, refl, sym, subst}
use Rattle.cd_model.specs.AllOf.{AllOf}
use Rattle.cd_model.specs.Formula.{Graph}
use Rattle.cd_model.specs.Interfaces.{Interfaces}
use Rattle.cd_model.specs.Thing.{Thing, Fields, Character, IsElement, AreFields}
use Rattle.cd_matching.specs.Sequences.{sequence_of, items}
use Rattle.cd_model.proofs.Ones.{each_of_lists}
use Rattle.cd_program.specs.Expr.{Expr, Items, NoItem, AnItem, One, Splice, Run}
use Rattle.cd_meaning.specs.Sets.{◌⊆◌}
use Rattle.cd_meaning.specs.Sequences.{IsSequence}
use Rattle.cd_typing.specs.Typ.{Typ, In, IsType, AreIn}
use Rattle.cd_typing.specs.Results.{Make, IsSequenceOf}
use Rattle.cd_evaluation.specs.Lists.{before}
use Rattle.cd_safety.specs.ByParts.{IsByParts}
use Rattle.cd_safety.specs.Operands.{GoodIn, AreGoodIn, ItemsLead}
use Rattle.cd_safety.specs.OutcomesStandIn.{AllStandIn, ItemsStandIn}
use Rattle.cd_safety.specs.Sound.{IsGood, AreGood}
use Rattle.cd_safety.specs.StandsIn.{StandsIn}
use Rattle.cd_safety.specs.WellWritten.{HaveCharacters}
use Rattle.cd_safety.proofs.ItemsOfSequences.{before_both}
use Rattle.cd_safety.proofs.OperandsStandIn.{has_place, have_places, value_in}
use Rattle.cd_safety.proofs.SequencesGood.{sequence_good, items_good, characters_good, some_is}
use Rattle.cd_safety.proofs.SequencesStandIn.{sequences_stand, appended_stand, characters_stand, items_stand}
use Rattle.cd_safety.proofs.SortsByParts.{elements_by_parts, good_by_parts}
use Rattle.cd_safety.proofs.TypesPlaced.{shared_graph}

-- elements of types are elements
pub elements_of : (types : List Typ) (es : List Thing) → AreIn types es → AllOf IsElement es
elements_of [] [] are = tt
elements_of [] (e ∷ es) are = absurd are
elements_of (t ∷ types) [] are = absurd are
elements_of (t ∷ types) (e ∷ es) are = (are.0, elements_of types es are.2)

-- what is made of things of a sort is of the sort
module _ (Of : Thing → Type 0) (OfFields : Fields → Type 0) (by_parts : IsByParts Of OfFields) where
  made_good : (all : Items) → HaveCharacters all → (vs made : List Thing) → AllOf Of vs → Make all vs made → AllOf Of made
  made_good NoItem written [] made are makes = subst (AllOf Of) (sym makes) tt
  made_good NoItem written (v ∷ vs) made are makes = absurd makes
  made_good (AnItem (One e) rest) written [] made are makes = absurd makes
  made_good (AnItem (One e) rest) written (v ∷ vs) made are makes =
      subst (AllOf Of) (sym makes.2) (are.0, made_good rest written vs makes.0 are.1 makes.1)
  made_good (AnItem (Splice e) rest) written [] made are makes = absurd makes
  made_good (AnItem (Splice e) rest) written (v ∷ vs) made are makes =
      subst (AllOf Of) (sym makes.4) (each_of_lists Of makes.0 makes.1
      (items_good Of OfFields by_parts v makes.0 makes.2 are.0) (made_good rest written vs makes.1 are.1 makes.3))
  made_good (AnItem (Run characters) rest) written vs made are makes =
      subst (AllOf Of) (sym makes.2) (each_of_lists Of (map Character characters) makes.0
      (characters_good Of OfFields by_parts characters written.0) (made_good rest written.1 vs makes.0 are makes.1))

module _ (graph : Graph) (interfaces : Interfaces) where
  -- the items of what stands in for a sequence
  pub record HasItems (e : Thing) (vs : List Thing) : Type 0 where
    pub es : List Thing
    pub are : items e ≡ Some es
    pub stand : AllStandIn graph interfaces vs es

  pub items_there : (v e : Thing) (vs : List Thing) → StandsIn graph interfaces v e → items v ≡ Some vs → HasItems e vs
  items_there v e vs stands found = by_items (items v) found (items e) refl (items_stand graph interfaces v e stands)
    where
      by_items : (of_value : Option (List Thing)) → of_value ≡ Some vs → (of_element : Option (List Thing)) → items e ≡ of_element
          → ItemsStandIn graph interfaces of_value of_element → HasItems e vs
      by_items Option.None found of_element same stand = absurd cc
      by_items (Some own) found Option.None same stand = absurd stand
      by_items (Some own) found (Some es) same stand = record {
        es = es;
        are = same;
        stand = subst (λ all. AllStandIn graph interfaces all es) (some_is own vs found) stand;
      }

  -- and those of what it stands in for
  pub record HasValues (v : Thing) (es : List Thing) : Type 0 where
    pub vs : List Thing
    pub are : items v ≡ Some vs
    pub stand : AllStandIn graph interfaces vs es

  pub items_here : (v e : Thing) (es : List Thing) → StandsIn graph interfaces v e → items e ≡ Some es → HasValues v es
  items_here v e es stands found = by_items (items v) refl (items e) found (items_stand graph interfaces v e stands)
    where
      by_items : (of_value : Option (List Thing)) → items v ≡ of_value → (of_element : Option (List Thing)) → of_element ≡ Some es
          → ItemsStandIn graph interfaces of_value of_element → HasValues v es
      by_items Option.None same Option.None found stand = absurd cc
      by_items Option.None same (Some own) found stand = absurd stand
      by_items (Some vs) same Option.None found stand = absurd stand
      by_items (Some vs) same (Some own) found stand = record {
        vs = vs;
        are = same;
        stand = subst (λ all. AllStandIn graph interfaces vs all) (some_is own es found) stand;
      }

  -- elements that stand in for operands make what stands in for what these make
  record HasMade (all : Items) (es made : List Thing) : Type 0 where
    others : List Thing
    makes : Make all es others
    stand : AllStandIn graph interfaces made others

  makes_there : (all : Items) (vs es made : List Thing) → AllStandIn graph interfaces vs es → Make all vs made → HasMade all es made
  makes_there NoItem [] [] made stand makes = record {
    others = [];
    makes = refl;
    stand = subst (λ all. AllStandIn graph interfaces all []) (sym makes) tt;
  }
  makes_there NoItem [] (e ∷ es) made stand makes = absurd stand
  makes_there NoItem (v ∷ vs) es made stand makes = absurd makes
  makes_there (AnItem (One e) rest) [] es made stand makes = absurd makes
  makes_there (AnItem (One e) rest) (v ∷ vs) [] made stand makes = absurd stand
  makes_there (AnItem (One e) rest) (v ∷ vs) (d ∷ es) made stand makes =
      let more = makes_there rest vs es makes.0 stand.1 makes.1 in
      record {
        others = d ∷ more.others;
        makes = (more.others, more.makes, refl);
        stand = subst (λ all. AllStandIn graph interfaces all (d ∷ more.others)) (sym makes.2) (stand.0, more.stand);
      }
  makes_there (AnItem (Splice e) rest) [] es made stand makes = absurd makes
  makes_there (AnItem (Splice e) rest) (v ∷ vs) [] made stand makes = absurd stand
  makes_there (AnItem (Splice e) rest) (v ∷ vs) (d ∷ es) made stand makes =
      let own = items_there v d makes.0 stand.0 makes.2 in
      let more = makes_there rest vs es makes.1 stand.1 makes.3 in
      record {
        others = own.es ++ more.others;
        makes = (own.es, more.others, own.are, more.makes, refl);
        stand = subst (λ all. AllStandIn graph interfaces all (own.es ++ more.others)) (sym makes.4)
            (appended_stand graph interfaces makes.0 own.es makes.1 more.others own.stand more.stand);
      }
  makes_there (AnItem (Run characters) rest) vs es made stand makes =
      let more = makes_there rest vs es makes.0 stand makes.1 in
      record {
        others = map Character characters ++ more.others;
        makes = (more.others, more.makes, refl);
        stand = subst (λ all. AllStandIn graph interfaces all (map Character characters ++ more.others)) (sym makes.2)
            (appended_stand graph interfaces (map Character characters) (map Character characters) makes.0 more.others
            (characters_stand graph interfaces characters) more.stand);
      }

module _ (fact : ℕ → Fields → Type 0) (interfaces : Interfaces) where
  pub goods_of : (types : List Typ) (vs : List Thing) → AreGoodIn fact interfaces types vs → AllOf (IsGood fact interfaces) vs
  goods_of [] [] are = tt
  goods_of [] (v ∷ vs) are = absurd are
  goods_of (t ∷ types) [] are = absurd are
  goods_of (t ∷ types) (v ∷ vs) are = (are.0.0, goods_of types vs are.1)

  -- a sequence that is written, item by item
  pub items_begin : (all : Items) (parts : List Typ) (t : Typ) → AllOf IsType parts → IsType t → HaveCharacters all
      → IsSequenceOf all parts ⊆ In t → ItemsLead fact interfaces all parts t []
  items_begin all parts t parts_are t_is written within vs made are makes =
      let shared = shared_graph (t ∷ parts) (t_is, parts_are) in
      let graph = shared.graph in
      let places = have_places fact interfaces graph shared.more shared.begins shared.sound parts shared.nodes.1 vs are in
      let there = makes_there graph interfaces all vs places.es made places.stand makes in
      let elements = made_good IsElement AreFields elements_by_parts all written places.es there.others
      (elements_of parts places.es places.inside) there.makes in
      let by_parts = good_by_parts fact interfaces in
      let goods = made_good (IsGood fact interfaces) (AreGood fact interfaces) by_parts all written vs made
      (goods_of parts vs are) makes in (
        sequence_good (IsGood fact interfaces) (AreGood fact interfaces) by_parts made goods,
        value_in fact interfaces graph t shared.nodes.0 (sequence_of made) (sequence_of there.others)
            (sequences_stand graph interfaces made there.others there.stand)
            (within (sequence_of there.others) (sequence_good IsElement AreFields elements_by_parts there.others elements)
            (places.es, there.others, places.inside, there.makes, refl)),
      )

  module _ (rest : Items) (parts : List Typ) (t : Typ) (done : List Thing) where
    pub item_one : (e : Expr) (s : Typ) (v : Thing) → ItemsLead fact interfaces (AnItem (One e) rest) (s ∷ parts) t done
        → GoodIn fact interfaces s v → ItemsLead fact interfaces rest parts t (v ∷ done)
    item_one e s v lead good vs made are makes = lead (v ∷ vs) (v ∷ made) (good, are) (made, makes, refl)

    pub item_splice : (e : Expr) (s : Typ) (v : Thing) (all : List Thing)
        → ItemsLead fact interfaces (AnItem (Splice e) rest) (s ∷ parts) t done → GoodIn fact interfaces s v → items v ≡ Some all
        → ItemsLead fact interfaces rest parts t (before all done)
    item_splice e s v all lead good found vs made are makes =
        subst (λ whole. GoodIn fact interfaces t (sequence_of whole)) (sym (before_both all done made))
        (lead (v ∷ vs) (all ++ made) (good, are) (all, made, found, makes, refl))

    pub item_run : (characters : List ℕ) → ItemsLead fact interfaces (AnItem (Run characters) rest) parts t done
        → ItemsLead fact interfaces rest parts t (before (map Character characters) done)
    item_run characters lead vs made are makes =
        subst (λ whole. GoodIn fact interfaces t (sequence_of whole)) (sym (before_both (map Character characters) done made))
        (lead vs (map Character characters ++ made) are (made, makes, refl))

  pub items_end : (t : Typ) (done : List Thing) → ItemsLead fact interfaces NoItem [] t done
      → GoodIn fact interfaces t (sequence_of (before done []))
  items_end t done lead = lead [] [] tt refl

  -- the items of an operand that is spliced
  pub spliced : (s : Typ) → IsType s → In s ⊆ IsSequence → (v : Thing) → GoodIn fact interfaces s v
      → (all : List Thing) × (items v ≡ Some all)
  spliced s s_is within v good =
      let all = shared_graph (s ∷ []) (s_is, tt) in
      let e = has_place fact interfaces all.graph all.more all.begins all.sound s all.nodes.0 v good in
      let found = within e.e e.is_element e.inside in
      let own = items_here all.graph interfaces v e.e found.0 e.stands found.1 in
      (own.vs, own.are)
