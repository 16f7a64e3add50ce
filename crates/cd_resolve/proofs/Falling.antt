-- A name with a rank does not lead back to itself, where all links fall.
use Rattle.std.proofs.Common.{◌≡◌, ℕ, ◌<◌, Bool, true, false, List, [], ◌∷◌, Option, Some, None, is_some, refl, sym, ap}
use Rattle.std.proofs.Common.{◌∙◌, inl, inr, arith}
use Rattle.std.specs.Prelude.{◌&&◌}
use Rattle.std.specs.List.{list_all}
use Rattle.std.specs.Option.{unwrap_or}
use Rattle.std.proofs.lemmas.Bool.Decides.{Decides-ltb}
use Rattle.cd_resolve.specs.FirstPlaces.{first_place}
use Rattle.cd_resolve.specs.Inner.Finding.{Id, Link}
use Rattle.cd_resolve.specs.Inner.Cycles.{is_cyclic}
use Rattle.cd_resolve.specs.Inner.Ranks.{rank_at, rank_of, falls, link_falls, all_fall}
use Rattle.cd_resolve.specs.declared.ranks.Ranks.{Ranks}
use Rattle.cd_resolve.proofs.InLists.{IsIn}
use Rattle.cd_resolve.proofs.Reaching.{Leads, by_link, and_on, cyclic_leads}

-- each of a list passes a test that all pass
each_passes : {A : Type 0} (test : A → Bool) (all : List A) (one : A) → list_all test all ≡ true → IsIn one all
    → test one ≡ true
each_passes test [] one pass is = elim is [ ]
each_passes test (first ∷ rest) one pass is = by (test first) refl pass (each_passes test rest one) is
  where
    by : (b : Bool) → test first ≡ b → (b && list_all test rest) ≡ true
        → (list_all test rest ≡ true → IsIn one rest → test one ≡ true) → IsIn one (first ∷ rest) → test one ≡ true
    by true passes rest_pass on (inl same) = ap test same ∙ passes
    by true passes rest_pass on (inr later) = on rest_pass later
    by false passes rest_pass on is = absurd cc

-- a lesser rank
record Lesser (to : Option ℕ) (start : ℕ) : Type 0 where
  rank : ℕ
  is : to ≡ Some rank
  less : rank < start

falls_to : (start to : Option ℕ) (rank : ℕ) → falls start to ≡ true → start ≡ Some rank → Lesser to rank
falls_to None to rank fall is = absurd cc
falls_to (Some start) None rank fall is = absurd cc
falls_to (Some start) (Some to) rank fall is =
    let same : start ≡ rank = ap (λ o. unwrap_or o 0) is in
    let less : to < start = (Decides-ltb to start).0 fall in
    record { rank = to; is = refl; less = omega (arith, same, less) }

link_lesser : (ranks : Ranks) (links : List Link) (link : Link) (start : Id) (rank : ℕ) → all_fall ranks links ≡ true
    → IsIn link links → link.start ≡ start → rank_of ranks start.name ≡ Some rank
    → Lesser (rank_of ranks link.to.name) rank
link_lesser ranks links link start rank fall is starts ranked =
    falls_to (rank_of ranks link.start.name) (rank_of ranks link.to.name) rank
    (each_passes (link_falls ranks) links link fall is) (ap (λ id. rank_of ranks id.name) starts ∙ ranked)

leads_lesser : (ranks : Ranks) (links : List Link) (start to : Id) (rank : ℕ) → all_fall ranks links ≡ true
    → Leads links start to → rank_of ranks start.name ≡ Some rank → Lesser (rank_of ranks to.name) rank
leads_lesser ranks links _ _ rank fall (by_link start to link is starts ends) ranked =
    let next = link_lesser ranks links link start rank fall is starts ranked in
    record { rank = next.rank; is = ap (λ id. rank_of ranks id.name) (sym ends) ∙ next.is; less = next.less }
leads_lesser ranks links _ _ rank fall (and_on start between to link before is starts ends) ranked =
    let there = leads_lesser ranks links start between rank fall before ranked in
    let next = link_lesser ranks links link between there.rank fall is starts there.is in
    record {
      rank = next.rank;
      is = ap (λ id. rank_of ranks id.name) (sym ends) ∙ next.is;
      less = omega (arith, next.less, there.less);
    }

ranked_is_not_cyclic : (ranks : Ranks) (links : List Link) (id : Id) (rank : ℕ) → all_fall ranks links ≡ true
    → rank_of ranks id.name ≡ Some rank → is_cyclic links id ≡ false
ranked_is_not_cyclic ranks links id rank fall ranked = by (is_cyclic links id) refl
  where
    by : (cyclic : Bool) → is_cyclic links id ≡ cyclic → cyclic ≡ false
    by false is = refl
    by true is =
        let back = leads_lesser ranks links id id rank fall (cyclic_leads links id is) ranked in
        let same : back.rank ≡ rank = ap (λ o. unwrap_or o 0) (sym back.is ∙ ranked) in
        absurd (omega (arith, same, back.less))

pub with_rank_not_cyclic : (ranks : Ranks) (links : List Link) (id : Id) → all_fall ranks links ≡ true
    → is_some (rank_of ranks id.name) ≡ true → is_cyclic links id ≡ false
with_rank_not_cyclic ranks links id fall has = by (rank_of ranks id.name) refl has
  where
    by : (rank : Option ℕ) → rank_of ranks id.name ≡ rank → is_some rank ≡ true → is_cyclic links id ≡ false
    by None is has = absurd cc
    by (Some rank) is has = ranked_is_not_cyclic ranks links id rank fall is

-- with no ranks all links fall
no_rank : (place : Option ℕ) → rank_at [] place ≡ None
no_rank None = refl
no_rank (Some place) = refl

pub none_fall : (ranks : Ranks) (links : List Link) → ranks.ranks.items ≡ [] → all_fall ranks links ≡ true
none_fall ranks [] none = refl
none_fall ranks (link ∷ rest) none =
    let unranked = ap (λ all. rank_at all (first_place ranks.names link.start.name)) none
    ∙ no_rank (first_place ranks.names link.start.name) in
    ap (λ start. falls start (rank_of ranks link.to.name) && all_fall ranks rest) unranked ∙ none_fall ranks rest none
