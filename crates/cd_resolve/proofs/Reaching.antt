-- What is reached by links, and that it is all.
use Rattle.std.proofs.Common.{◌≡◌, ℕ, zero, suc, ◌+◌, ◌<◌, ◌≤◌, ◌⊎◌, inl, inr, Bool, true, false, List, [], ◌∷◌, ◌++◌}
use Rattle.std.proofs.Common.{length, Option, Some, None, refl, sym, ap, ◌∙◌, arith}
use Rattle.std.specs.Prelude.{not, ◌&&◌, ◌||◌}
use Rattle.std.specs.List.{slice_get as nth}
use Rattle.std.specs.Bool.{Decides}
use Rattle.std.proofs.lemmas.Bool.{cases_Bool}
use Rattle.std.proofs.lemmas.Bool.Decides.{Decides-eqb, Decides-and, Decides-like}
use Rattle.std.proofs.lemmas.Slice.Eq.{bytes_eq-Decides}
use Rattle.std.proofs.lemmas.List.{length-append}
use Rattle.std.proofs.lemmas.Option.{slice_get_within}
use Rattle.cd_syntax.specs.Name.{Name}
use Rattle.cd_resolve.specs.Inner.Finding.{Id, Link}
use Rattle.cd_resolve.specs.Inner.Cycles.{same_id, is_held, add_if, with_next, with_next_of, reached_after, reached}
use Rattle.cd_resolve.specs.Inner.Cycles.{is_cyclic}
use Rattle.cd_resolve.proofs.GrowingLists.{get_before}
use Rattle.cd_resolve.proofs.InLists.{IsIn, in_front, in_last, in_more, nth_of, in_nth}

-- a declared name leads to another one by links
pub data Leads (links : List Link) : Id → Id → Type 0 where
  by_link : (start to : Id) (link : Link) → IsIn link links → link.start ≡ start → link.to ≡ to → Leads links start to
  and_on : (start between to : Id) (link : Link) → Leads links start between → IsIn link links → link.start ≡ between
      → link.to ≡ to → Leads links start to

ids_same : (list : ℕ) (name : Name) (other_list : ℕ) (other_name : Name) → (list ≡ other_list) × (name ≡ other_name)
    → (let id : Id = record { list = list; name = name } in id) ≡ record { list = other_list; name = other_name }
ids_same list name other_list other_name same = let first = same.0 in let second = same.1 in cc

pub same_id_decides : (this other : Id) → Decides (same_id this other) (this ≡ other)
same_id_decides this other = Decides-like (same_id this other) (ids_same this.list this.name other.list other.name)
    (λ same. (ap (λ id. id.list) same, ap (λ id. id.name) same))
    (Decides-and _ _ (Decides-eqb this.list other.list) (bytes_eq-Decides this.name other.name))

pub held_is_in : (ids : List Id) (id : Id) → is_held ids id ≡ true → IsIn id ids
held_is_in [] id held = absurd cc
held_is_in (first ∷ rest) id held = by (same_id id first) refl (held_is_in rest id)
  where
    by : (b : Bool) → same_id id first ≡ b → (is_held rest id ≡ true → IsIn id rest) → IsIn id (first ∷ rest)
    by true is on = inl ((same_id_decides id first).0 is)
    by false is on = inr (on (rw is at held))

pub in_is_held : (ids : List Id) (id : Id) → IsIn id ids → is_held ids id ≡ true
in_is_held [] id is = elim is [ ]
in_is_held (first ∷ rest) id (inl same) = rw ((same_id_decides id first).1 same) refl
in_is_held (first ∷ rest) id (inr on) = by (same_id id first) (in_is_held rest id on)
  where
    by : (b : Bool) → is_held rest id ≡ true → (b || is_held rest id) ≡ true
    by true held = refl
    by false held = held

-- what is added at one link
in_add : (b : Bool) (x id : Id) (seen : List Id) → IsIn x (add_if b id seen) → IsIn x seen ⊎ ((b ≡ true) × (x ≡ id))
in_add true x id seen is = by (in_more x id seen is)
  where
    by : IsIn x seen ⊎ (x ≡ id) → IsIn x seen ⊎ ((true ≡ true) × (x ≡ id))
    by (inl old) = inl old
    by (inr new) = inr (refl, new)
in_add false x id seen is = inl is

add_keeps : (b : Bool) (x id : Id) (seen : List Id) → IsIn x seen → IsIn x (add_if b id seen)
add_keeps true x id seen is = in_front x seen (id ∷ []) is
add_keeps false x id seen is = is

add_keeps_place : (b : Bool) (x id : Id) (seen : List Id) (n : ℕ) → nth seen n ≡ Some x
    → nth (add_if b id seen) n ≡ Some x
add_keeps_place true x id seen n is = get_before x seen (id ∷ []) n is
add_keeps_place false x id seen n is = is

-- nothing that is seen is lost, nor its place
pub next_keeps : (links : List Link) (id x : Id) (seen : List Id) → IsIn x seen → IsIn x (with_next links id seen)
next_keeps [] id x seen is = is
next_keeps (link ∷ rest) id x seen is = next_keeps rest id x _ (add_keeps _ x link.to seen is)

next_keeps_place : (links : List Link) (id x : Id) (seen : List Id) (n : ℕ) → nth seen n ≡ Some x
    → nth (with_next links id seen) n ≡ Some x
next_keeps_place [] id x seen n is = is
next_keeps_place (link ∷ rest) id x seen n is = next_keeps_place rest id x _ n (add_keeps_place _ x link.to seen n is)

-- all that the declared name leads to by one link are there
added : (link : Link) (id : Id) (seen : List Id) → link.start ≡ id
    → IsIn link.to (add_if (same_id link.start id && not (is_held seen link.to)) link.to seen)
added link id seen is = rw ((same_id_decides link.start id).1 is) (by (is_held seen link.to) refl)
  where
    by : (b : Bool) → is_held seen link.to ≡ b → IsIn link.to (add_if (not b) link.to seen)
    by true held = held_is_in seen link.to held
    by false held = in_last link.to seen

pub next_has : (links : List Link) (link : Link) (id : Id) (seen : List Id) → IsIn link links → link.start ≡ id
    → IsIn link.to (with_next links id seen)
next_has [] link id seen is starts = elim is [ ]
next_has (first ∷ rest) link id seen (inl same) starts = next_keeps rest id link.to _
    (rw same (added first id seen (rw same at starts)))
next_has (first ∷ rest) link id seen (inr on) starts = next_has rest link id _ on starts

-- and no others
pub record IsNext (links : List Link) (id x : Id) : Type 0 where
  pub link : Link
  pub is_in : IsIn link links
  pub starts : link.start ≡ id
  pub ends : link.to ≡ x

and_is : (a b : Bool) → (a && b) ≡ true → a ≡ true
and_is true b is = refl
and_is false b is = absurd cc

pub next_is : (links : List Link) (id x : Id) (seen : List Id) → IsIn x (with_next links id seen)
    → IsIn x seen ⊎ IsNext links id x
next_is [] id x seen is = inl is
next_is (link ∷ rest) id x seen is = by (next_is rest id x _ is)
  where
    at : IsIn x seen ⊎ (((same_id link.start id && not (is_held seen link.to)) ≡ true) × (x ≡ link.to))
        → IsIn x seen ⊎ IsNext (link ∷ rest) id x
    at (inl old) = inl old
    at (inr new) = inr (record {
      link = link;
      is_in = inl refl;
      starts = (same_id_decides link.start id).0 (and_is _ _
          new.0);
      ends = sym new.1;
    })

    by : IsIn x (add_if (same_id link.start id && not (is_held seen link.to)) link.to seen) ⊎ IsNext rest id x
        → IsIn x seen ⊎ IsNext (link ∷ rest) id x
    by (inl old) = at (in_add _ x link.to seen old)
    by (inr new) = inr (record { link = new.link; is_in = inr new.is_in; starts = new.starts; ends = new.ends })

-- the links that lead to what is not seen
abbrev pub unseen_one : Bool → ℕ → ℕ
unseen_one true n = n
unseen_one false n = suc n

abbrev pub unseen : List Link → List Id → ℕ
unseen [] seen = zero
unseen (link ∷ rest) seen = unseen_one (is_held seen link.to) (unseen rest seen)

unseen_falls : (b c : Bool) (n m : ℕ) → (b ≡ true → c ≡ true) → n ≤ m → unseen_one c n ≤ unseen_one b m
unseen_falls true true n m kept less = less
unseen_falls true false n m kept less = let held = kept refl in absurd cc
unseen_falls false true n m kept less = omega arith
unseen_falls false false n m kept less = omega arith

held_more : (seen : List Id) (id x : Id) → is_held seen x ≡ true → is_held (seen ++ id ∷ []) x ≡ true
held_more seen id x held = in_is_held _ x (in_front x seen (id ∷ []) (held_is_in seen x held))

-- one more seen leaves no more links to what is not
pub unseen_less : (links : List Link) (seen : List Id) (id : Id) → unseen links (seen ++ id ∷ []) ≤ unseen links seen
unseen_less [] seen id = omega arith
unseen_less (link ∷ rest) seen id = unseen_falls _ _ _ _ (held_more seen id link.to) (unseen_less rest seen id)

-- and one fewer, where a link leads to it
pub unseen_fewer : (links : List Link) (seen : List Id) (link : Link) → IsIn link links → is_held seen link.to ≡ false
    → unseen links (seen ++ link.to ∷ []) < unseen links seen
unseen_fewer [] seen link is new = elim is [ ]
unseen_fewer (first ∷ rest) seen link (inl same) new =
    let here : is_held (seen ++ link.to ∷ []) first.to ≡ true = rw (ap (λ one. one.to) (sym same))
    (in_is_held _ link.to (in_last link.to seen)) in
    let before : is_held seen first.to ≡ false = rw (ap (λ one. one.to) same) at new in
    let less = unseen_less rest seen link.to in
    rw (here, before) (omega arith)
unseen_fewer (first ∷ rest) seen link (inr on) new =
    by (is_held seen first.to) (is_held (seen ++ link.to ∷ []) first.to)
    (held_more seen link.to first.to) (unseen_fewer rest seen link on new)
  where
    by : (b c : Bool) → (b ≡ true → c ≡ true) → unseen rest (seen ++ link.to ∷ []) < unseen rest seen
        → unseen_one c (unseen rest (seen ++ link.to ∷ [])) < unseen_one b (unseen rest seen)
    by true true kept less = less
    by true false kept less = let held = kept refl in absurd cc
    by false true kept less = omega arith
    by false false kept less = omega arith

unseen_nothing : (links : List Link) → unseen links [] ≤ length links
unseen_nothing [] = omega arith
unseen_nothing (link ∷ rest) = let on = unseen_nothing rest in omega arith

-- what is seen and what is not are together no more than the links
not_false : (b : Bool) → not b ≡ true → b ≡ false
not_false true is = absurd cc
not_false false is = refl

and_is_too : (a b : Bool) → (a && b) ≡ true → b ≡ true
and_is_too true b is = is
and_is_too false b is = absurd cc

add_bound : (all : List Link) (b : Bool) (link : Link) (seen : List Id) → IsIn link all
    → (b ≡ true → is_held seen link.to ≡ false)
    → unseen all (add_if b link.to seen) + length (add_if b link.to seen) ≤ unseen all seen + length seen
add_bound all true link seen is new = let fewer = unseen_fewer all seen link is (new refl) in let longer = length-append
    seen (link.to ∷ []) in omega arith
add_bound all false link seen is new = omega arith

next_bound : (all links : List Link) (id : Id) (seen : List Id) → ((link : Link) → IsIn link links → IsIn link all)
    → unseen all (with_next links id seen) + length (with_next links id seen) ≤ unseen all seen + length seen
next_bound all [] id seen are = omega arith
next_bound all (link ∷ rest) id seen are =
    let on = next_bound all rest id (add_if (same_id link.start id && not (is_held seen link.to)) link.to seen)
    (λ one is. are one (inr is)) in
    let here = add_bound all (same_id link.start id && not (is_held seen link.to)) link seen (are link (inl refl))
    (λ both. not_false (is_held seen link.to) (and_is_too (same_id link.start id) (not (is_held seen link.to)) both)) in
    omega arith

next_of_bound : (links : List Link) (next : Option Id) (seen : List Id)
    → unseen links (with_next_of links next seen) + length (with_next_of links next seen) ≤ unseen links seen + length
    seen
next_of_bound links None seen = omega arith
next_of_bound links (Some id) seen = next_bound links links id seen (λ link is. is)

reached_bound : (count : ℕ) (links : List Link) (id : Id)
    → unseen links (reached_after count links id) + length (reached_after count links id) ≤ length links
reached_bound zero links id = let begun = next_bound links links id [] (λ link is. is) in let nothing = unseen_nothing
    links in omega arith
reached_bound (suc count) links id =
    let on = reached_bound count links id in
    let step = next_of_bound links (nth (reached_after count links id) count) (reached_after count links id) in omega
    arith

-- all that is reached is led to
next_led : (links : List Link) (start : Id) (next : Option Id) (seen : List Id) (x : Id)
    → ((y : Id) → IsIn y seen → Leads links start y)
    → ((y : Id) → next ≡ Some y → IsIn y seen) → IsIn x (with_next_of links next seen) → Leads links start x
next_led links start None seen x are there is = are x is
next_led links start (Some y) seen x are there is = by (next_is links y x seen is)
  where
    by : IsIn x seen ⊎ IsNext links y x → Leads links start x
    by (inl old) = are x old
    by (inr new) = and_on start y x new.link (are y (there y refl)) new.is_in new.starts new.ends

reached_led : (count : ℕ) (links : List Link) (start x : Id) → IsIn x (reached_after count links start)
    → Leads links start x
reached_led zero links start x is = by (next_is links start x [] is)
  where
    by : IsIn x [] ⊎ IsNext links start x → Leads links start x
    by (inl nothing) = elim nothing [ ]
    by (inr new) = by_link start x new.link new.is_in new.starts new.ends
reached_led (suc count) links start x is = next_led links start (nth (reached_after count links start) count)
    (reached_after count links start) x
    (λ y there. reached_led count links start y there) (λ y at. in_nth y _ count at) is

-- each that is reached before this place has all that it leads to among what is reached
next_of_keeps : (links : List Link) (next : Option Id) (x : Id) (seen : List Id) → IsIn x seen
    → IsIn x (with_next_of links next seen)
next_of_keeps links None x seen is = is
next_of_keeps links (Some id) x seen is = next_keeps links id x seen is

next_of_keeps_place : (links : List Link) (next : Option Id) (x : Id) (seen : List Id) (n : ℕ) → nth seen n ≡ Some x
    → nth (with_next_of links next seen) n ≡ Some x
next_of_keeps_place links None x seen n is = is
next_of_keeps_place links (Some id) x seen n is = next_keeps_place links id x seen n is

-- a place before one that is taken is taken
nth_before : (seen : List Id) (n m : ℕ) (x : Id) → nth seen n ≡ Some x → m ≤ n → (y : Id) × (nth seen m ≡ Some y)
nth_before [] n m x is less = absurd cc
nth_before (first ∷ rest) n zero x is less = (first, refl)
nth_before (first ∷ rest) zero (suc m) x is less = absurd (omega arith)
nth_before (first ∷ rest) (suc n) (suc m) x is less = nth_before rest n m x is (omega arith)

less_or_last : (place count : ℕ) → place < suc count → (place < count) ⊎ (place ≡ count)
less_or_last zero zero less = inr refl
less_or_last zero (suc count) less = inl (omega arith)
less_or_last (suc place) zero less = absurd (omega arith)
less_or_last (suc place) (suc count) less = by (less_or_last place count (omega arith))
  where
    by : (place < count) ⊎ (place ≡ count) → (suc place < suc count) ⊎ (suc place ≡ suc count)
    by (inl before) = inl (omega arith)
    by (inr last) = inr (ap suc last)

closed_step : (links : List Link) (next : Option Id) (seen : List Id) (count place : ℕ) (x : Id) (link : Link)
    → nth seen count ≡ next
    → ((n : ℕ) (y : Id) → n < count → nth seen n ≡ Some y → link.start ≡ y → IsIn link.to seen)
    → place < suc count → nth (with_next_of links next seen) place ≡ Some x → IsIn link links → link.start ≡ x
    → IsIn link.to (with_next_of links next seen)
closed_step links None seen count place x link none closed less at is starts = by (less_or_last place count less)
  where
    by : (place < count) ⊎ (place ≡ count) → IsIn link.to seen
    by (inl before) = closed place x before at starts
    by (inr last) = let other = rw last at at in absurd cc
closed_step links (Some y) seen count place x link some closed less at is starts = by (less_or_last place count less)
  where
    by : (place < count) ⊎ (place ≡ count) → IsIn link.to (with_next links y seen)
    by (inl before) =
        let old = nth_before seen count place y some (omega arith) in
        let same = next_keeps_place links y old.0 seen place old.1 in
        let x_is : x ≡ old.0 = cc in
        next_keeps links y link.to seen (closed place old.0 before old.1 (starts ∙ x_is))
    by (inr last) =
        let same = next_keeps_place links y y seen count some in
        let other = rw last at at in
        let x_is : x ≡ y = cc in
        next_has links link y seen is (starts ∙ x_is)

reached_closed : (count : ℕ) (links : List Link) (start : Id) (link : Link) (place : ℕ) (x : Id) → IsIn link links
    → place < count
    → nth (reached_after count links start) place ≡ Some x → link.start ≡ x
    → IsIn link.to (reached_after count links start)
reached_closed zero links start link place x is less at starts = absurd (omega arith)
reached_closed (suc count) links start link place x is less at starts =
    closed_step links (nth (reached_after count links start) count) (reached_after count links start) count place x link
    refl
    (λ n y before here begins. reached_closed count links start link n y is before here begins) less at is starts

first_reached : (count : ℕ) (links : List Link) (start : Id) (link : Link) → IsIn link links → link.start ≡ start
    → IsIn link.to (reached_after count links start)
first_reached zero links start link is starts = next_has links link start [] is starts
first_reached (suc count) links start link is starts = next_of_keeps links (nth (reached_after count links start) count)
    link.to (reached_after count links start) (first_reached count links start link is starts)

-- what is led to is reached
pub led_reached : (links : List Link) (start x : Id) → Leads links start x → IsIn x (reached links start)
led_reached links _ _ (by_link start x link is starts ends) = rw (sym ends)
    (first_reached (length links) links start link is starts)
led_reached links _ _ (and_on start between x link before is starts ends) =
    let there = nth_of between (reached links start) (led_reached links start between before) in
    let bound = reached_bound (length links) links start in
    let within = slice_get_within (reached links start) there.0 between there.1 in
    rw (sym ends) (reached_closed (length links) links start link there.0 between is (omega arith) there.1 starts)

pub reached_is_led : (links : List Link) (start x : Id) → IsIn x (reached links start) → Leads links start x
reached_is_led links start x is = reached_led (length links) links start x is

-- the test for names that lead back to themselves
pub cyclic_leads : (links : List Link) (id : Id) → is_cyclic links id ≡ true → Leads links id id
unfolding is_cyclic
cyclic_leads links id is = reached_is_led links id id (held_is_in (reached links id) id is)

pub leads_cyclic : (links : List Link) (id : Id) → Leads links id id → is_cyclic links id ≡ true
unfolding is_cyclic
leads_cyclic links id leads = in_is_held (reached links id) id (led_reached links id id leads)

-- links one after the other
pub leads_on : (links : List Link) (start between to : Id) → Leads links start between → Leads links between to
    → Leads links start to
leads_on links start _ _ before (by_link between to link is starts ends) = and_on start between to link before is starts
    ends
leads_on links start _ _ before (and_on between later to link rest is starts ends) = and_on start later to link
    (leads_on links start between later before rest) is starts ends

-- the last link of those that lead to a declared name
pub last_link : (links : List Link) (start to : Id) → Leads links start to
    → (link : Link) × IsIn link links × (link.to ≡ to)
last_link links _ _ (by_link start to link is starts ends) = (link, is, ends)
last_link links _ _ (and_on start between to link before is starts ends) = (link, is, ends)

-- Where each declared name of some kind leads to one of that kind, one of them leads back to itself
pub record Returns (links : List Link) (IsSuch : Id → Type 0) : Type 0 where
  pub id : Id
  pub is_such : IsSuch id
  pub returns : Leads links id id

all_lead : (links : List Link) (seen : List Id) (id next x : Id) → ((y : Id) → IsIn y seen → Leads links y id)
    → Leads links id next
    → IsIn x (seen ++ id ∷ []) → Leads links x next
all_lead links seen id next x led leads is = by (in_more x id seen is)
  where
    by : IsIn x seen ⊎ (x ≡ id) → Leads links x next
    by (inl old) = leads_on links x id next (led x old) leads
    by (inr same) = rw same leads

fewer_left : (links : List Link) (seen : List Id) (id next : Id) → Leads links id next → is_held seen next ≡ false
    → unseen links (seen ++ next ∷ []) < unseen links seen
fewer_left links seen id next leads new =
    let last = last_link links id next leads in
    rw last.2 at (unseen_fewer links seen last.0 last.1 (rw last.2 new))

orbit : (fuel : ℕ) (links : List Link) (IsSuch : Id → Type 0)
    → ((id : Id) → IsSuch id → (next : Id) × IsSuch next × Leads links id next)
    → (seen : List Id) (id : Id) → IsSuch id → ((x : Id) → IsIn x seen → Leads links x id)
    → unseen links (seen ++ id ∷ []) < fuel → Returns links IsSuch
orbit zero links IsSuch on seen id is led less = absurd (omega arith)
orbit (suc fuel) links IsSuch on seen id is led less = by (cases_Bool (is_held (seen ++ id ∷ []) (on id is).0)) (λ new.
    orbit fuel links IsSuch on (seen ++ id ∷ []) (on id is).0 (on id is).1
    (λ x there. all_lead links seen id (on id is).0 x led (on id is).2 there)
    (let fewer = fewer_left links (seen ++ id ∷ []) id (on id is).0 (on id is).2 new in omega arith))
  where
    by : (is_held (seen ++ id ∷ []) (on id is).0 ≡ true) ⊎ (is_held (seen ++ id ∷ []) (on id is).0 ≡ false)
        → (is_held (seen ++ id ∷ []) (on id is).0 ≡ false → Returns links IsSuch) → Returns links IsSuch
    by (inl held) go = record {
      id = (on id is).0;
      is_such = (on id is).1;
      returns = all_lead links seen id (on id is).0 (on id is).0 led (on id is).2
          (held_is_in (seen ++ id ∷ []) (on id is).0 held);
    }
    by (inr new) go = go new

pub returns : (links : List Link) (IsSuch : Id → Type 0)
    → ((id : Id) → IsSuch id → (next : Id) × IsSuch next × Leads links id next)
    → (id : Id) → IsSuch id → Returns links IsSuch
returns links IsSuch on id is = orbit (suc (unseen links (id ∷ []))) links IsSuch on [] id is
    (λ x nothing. elim nothing [ ]) (omega arith)
