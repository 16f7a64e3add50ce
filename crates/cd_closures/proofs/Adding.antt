-- Entries that are added one by one.
use Rattle.std.proofs.Common.{◌≡◌, ◌==◌, ◌<◌, ◌+◌, take, get_or, length, ◌⊎◌, inl, inr, ◌||◌, ◌∙◌, ◌++◌, ℕ, Bool, true, false, List, [], ◌∷◌, Option, Some, None, nat_eq, refl, sym, subst, true≢false}
use Rattle.std.proofs.lemmas.Bool.{or_cases, or_parts, and_left, and_from, eq-eqb}
use Rattle.std.proofs.lemmas.List.{take_more}
use Rattle.std.specs.Option.{option_eq}
use Rattle.std.specs.Cmp.{second_so}
use Rattle.cd_sets.specs.declared.node_id.NodeId.{NodeId}
use Rattle.cd_model.specs.Formula.{Graph}
use Rattle.cd_model.proofs.Covered.{each_both}
use Rattle.cd_model.proofs.Ones.{each_weaker}
use Rattle.cd_asking.specs.MappedArrows.{same, AddsEntry}
use Rattle.cd_asking.specs.Mappings.{Mappings}
use Rattle.cd_closures.specs.Inner.Asked.{AllIn, Decides}
use Rattle.cd_closures.specs.Inner.Collected.{same_arrow}
use Rattle.cd_closures.specs.Inner.Entries.{entry, has, HasNone, IsDecided, AreAdded, AreDecided}
use Rattle.cd_closures.specs.declared.arrow.NodeArrow.{NodeArrow}
use Rattle.cd_closures.specs.declared.asked.Asked.{Asked}
use Rattle.cd_closures.proofs.ArrowsCollected.{same_is}

pub same_key : (key : Option ℕ) → option_eq nat_eq key key ≡ true
same_key None = refl
same_key (Some n) = eq-eqb n n refl

or_none : (a b : Bool) → b ≡ false → a || b ≡ a
or_none true b none = refl
or_none false b none = none

itself : (key : Option ℕ) (arrow : NodeArrow) → same (entry key arrow) (entry key arrow) ≡ true
itself key arrow = and_from (option_eq nat_eq key key) (same_arrow arrow arrow) (same_key key)
    (and_from (arrow.argument.0 == arrow.argument.0) (arrow.result.0 == arrow.result.0)
    (eq-eqb arrow.argument.0 arrow.argument.0 refl) (eq-eqb arrow.result.0 arrow.result.0 refl))

module _ (graph : Graph) (whole : NodeId) (key : Option ℕ) where
  -- no arrow was decided so far
  pub none_added : (maps : Mappings) → HasNone key maps → AreAdded graph whole key [] maps maps
  none_added maps none = record {
    sound = λ arrow some. absurd (true≢false (sym some ∙ none arrow));
    complete = tt;
    adds = record { others = λ other differs arrow. refl; functions = refl };
  }

  -- where one more arrow is decided
  module _ (old middle new : Mappings) (done : List Asked) (are : AreAdded graph whole key done old middle) (one : Asked) where
    and_not : (AllIn graph whole one.arrow → ⊥) → new ≡ middle → AreAdded graph whole key (done ++ one ∷ []) old new
    and_not not same = subst (AreAdded graph whole key (done ++ one ∷ []) old) (sym same) (record {
      sound = are.sound;
      complete = each_both (λ one. has middle key one.arrow ≡ false → AllIn graph whole one.arrow → ⊥) done (one ∷ [])
          are.complete ((λ none. not), tt);
      adds = are.adds;
    })

    and_added : AllIn graph whole one.arrow → AddsEntry (entry key one.arrow) middle new → AreAdded graph whole key (done ++ one ∷ []) old new
    and_added all adds = record {
      sound = λ arrow some. by_case arrow (or_cases _ _ (sym (adds.entries (entry key arrow)) ∙ some));
      complete = each_both (λ one. has new key one.arrow ≡ false → AllIn graph whole one.arrow → ⊥) done (one ∷ [])
          (each_weaker (λ one. has middle key one.arrow ≡ false → AllIn graph whole one.arrow → ⊥) _
          (λ other complete none. complete (or_parts _ _ (sym (adds.entries (entry key other.arrow)) ∙ none)).0) done are.complete)
          ((λ none. absurd (true≢false (sym (itself key one.arrow) ∙ (or_parts _ _ (sym (adds.entries (entry key one.arrow)) ∙ none)).1))), tt);
      adds = record {
        others = λ other differs arrow. adds.entries (entry other arrow) ∙ or_none _ _ (and_left _ _ differs) ∙ are.adds.others other differs arrow;
        functions = adds.functions ∙ are.adds.functions;
      };
    }
      where
        by_case : (arrow : NodeArrow) → (has middle key arrow ≡ true) ⊎ (same (entry key one.arrow) (entry key arrow) ≡ true) → AllIn graph whole arrow
        by_case arrow (inl before) = are.sound arrow before
        by_case arrow (inr here) = subst (AllIn graph whole) (same_is one.arrow arrow (second_so _ _ here)) all

    pub one_more : IsDecided graph whole key one.arrow middle new → AreAdded graph whole key (done ++ one ∷ []) old new
    one_more (inl added) = and_added added.0 added.1
    one_more (inr not) = and_not not.0 not.1

  -- the next one
  pub entries_further : (longer : Graph) → longer ≡ graph → (asked : List Asked) (i : ℕ) → i < length asked → (one : Asked) (old middle new : Mappings)
      → AreAdded graph whole key (take i asked) old middle → IsDecided longer whole key (get_or asked i one).arrow middle new
      → AreAdded graph whole key (take (i + 1) asked) old new
  entries_further longer same_graph asked i below one old middle new are decided =
      subst (λ (done : List Asked). AreAdded graph whole key done old new) (sym (take_more asked i one below))
      (one_more old middle new (take i asked) are (get_or asked i one)
      (subst (λ (g : Graph). IsDecided g whole key (get_or asked i one).arrow middle new) same_graph decided))

  -- none is left
  decides : (maps : Mappings) (arrow : NodeArrow) → (has maps key arrow ≡ true → AllIn graph whole arrow)
      → (has maps key arrow ≡ false → AllIn graph whole arrow → ⊥) → Decides graph whole arrow (has maps key arrow)
  decides maps arrow sound complete = by_test (has maps key arrow) sound complete
    where
      by_test : (c : Bool) → (c ≡ true → AllIn graph whole arrow) → (c ≡ false → AllIn graph whole arrow → ⊥) → Decides graph whole arrow c
      by_test true sound complete = sound refl
      by_test false sound complete = complete refl

  pub all_decided : (old maps : Mappings) (asked : List Asked) → AreAdded graph whole key asked old maps → AreDecided graph whole key asked maps
  all_decided old maps asked are = each_weaker (λ one. has maps key one.arrow ≡ false → AllIn graph whole one.arrow → ⊥)
      (λ one. Decides graph whole one.arrow (has maps key one.arrow)) (λ one complete. decides maps one.arrow (are.sound one.arrow) complete)
      asked are.complete
