-- Each step of the search keeps it sound.
use Rattle.std.proofs.Common.{◌≡◌, ℕ, ◌+◌, ◌<◌, ◌⊎◌, inl, inr, Bool, true, false, List, [], ◌∷◌, ◌++◌, length, Some}
use Rattle.std.proofs.Common.{None, sym, subst, ◌∙◌, take, get_or, set, add-one, arith}
use Rattle.std.proofs.lemmas.List.{length-set}
use Rattle.std.specs.List.{slice_get}
use Rattle.cd_model.proofs.Ones.{each_weaker}
use Rattle.cd_resolve.specs.declared.search.Frame.{Frame}
use Rattle.cd_resolve.specs.Inner.Order.{IsOneOf, row, AreRows, Ends, IsOrder}
use Rattle.cd_resolve.specs.Inner.Search.{IsSeen, IsOpen, AreKept, AllSeen, Leads, AllLead, AreOpen, IsSound}
use Rattle.cd_resolve.proofs.EachOne.{one_of_first}
use Rattle.cd_resolve.proofs.Lists.{each_at, each_taken, each_to_end, one_at, one_at_last, one_of_more, come_after_more}
use Rattle.cd_resolve.proofs.MembersKept.{each_more}
use Rattle.cd_resolve.proofs.Ways.{leads_to, no_way_back, all_lead_on, open_leads}
use Rattle.cd_resolve.proofs.Seen.{kept_with, is_seen_now, seen_before}

-- open numbers stay so where more is seen
open_with_seen : (links : List (List ℕ)) (seen more : List Bool) (order : List ℕ) (frames : List Frame)
    → AreKept seen more → AreOpen links seen order frames → AreOpen links more order frames
open_with_seen links seen more order [] kept are = tt
open_with_seen links seen more order (frame ∷ rest) kept are = (
  are.0,
  kept.still frame.number are.1,
  are.2,
  are.3,
  are.4,
  open_with_seen links seen more order rest kept are.5,
)

-- and where a number is put that they lead to
open_with_put : (links : List (List ℕ)) (seen : List Bool) (order : List ℕ) (number : ℕ) (frames : List Frame)
    → Ends links number → AllLead links frames number → AreOpen links seen order frames
    → AreOpen links seen (order ++ number ∷ []) frames
open_with_put links seen order number [] ends lead are = tt
open_with_put links seen order number (frame ∷ rest) ends lead are = (
  are.0,
  are.1,
  (λ is. unput (one_of_more order number frame.number is)),
  each_weaker (λ next. IsOneOf next order) (λ next. IsOneOf next (order ++ number ∷ []))
      (λ next. one_of_first next order (number ∷ [])) (take frame.looked (row links frame.number)) are.3,
  are.4,
  open_with_put links seen order number rest ends lead.1 are.5,
)
  where
    unput : IsOneOf frame.number order ⊎ (number ≡ frame.number) → ⊥
    unput (inl put) = are.2 put
    unput (inr same) = no_way_back links number ends (subst (λ (start : ℕ). Leads links start number) (sym same) lead.0)

-- a number that was not seen is opened
pub sound_with_new : (links : List (List ℕ)) (seen : List Bool) (frames : List Frame) (order : List ℕ) (number : ℕ)
    → IsSound links seen frames order → number < length links → get_or seen number false ≡ false
    → AllLead links frames number
    → IsSound links (set seen number true) (record { number = number; looked = 0 } ∷ frames) order
sound_with_new links seen frames order number sound has new lead =
    let kept = kept_with seen number in
    let sized = sound.sized in
    record {
      sized = length-set seen number true ∙ sound.sized;
      known = sound.known;
      put_seen = each_weaker (IsSeen seen) (IsSeen (set seen number true)) kept.still order sound.put_seen;
      seen_found = λ other is. found other (seen_before seen number other is);
      after = sound.after;
      are_open = (
        has,
        is_seen_now seen number (omega arith),
        unput,
        tt,
        lead,
        open_with_seen links seen (set seen number true) order frames kept sound.are_open,
      );
    }
  where
    earlier : (other : ℕ) → IsOneOf other order ⊎ IsOpen other frames
        → IsOneOf other order ⊎ ((number ≡ other) ⊎ IsOpen other frames)
    earlier other (inl put) = inl put
    earlier other (inr is) = inr (inr is)

    found : (other : ℕ) → IsSeen seen other ⊎ (number ≡ other)
        → IsOneOf other order ⊎ ((number ≡ other) ⊎ IsOpen other frames)
    found other (inl before) = earlier other (sound.seen_found other before)
    found other (inr same) = inr (inl same)

    unput : IsOneOf number order → ⊥
    unput put = let seen_then = each_at (IsSeen seen) order number sound.put_seen put in absurd cc

-- what is met and was seen is put, since no way leads back
met_is_put : (links : List (List ℕ)) (seen : List Bool) (frame : Frame) (frames : List Frame) (order : List ℕ)
    (next : ℕ) → IsSound links seen (frame ∷ frames) order → IsOneOf next (row links frame.number) → IsSeen seen next
    → Ends links next → IsOneOf next order
met_is_put links seen frame frames order next sound on is ends = by (sound.seen_found next is)
  where
    leads : Leads links frame.number next
    leads = leads_to links frame.number next on

    by : IsOneOf next order ⊎ IsOpen next (frame ∷ frames) → IsOneOf next order
    by (inl put) = put
    by (inr is_open) = absurd (no_way_back links next ends
        (open_leads links (frame ∷ frames) next next is_open
        (leads, all_lead_on links frames frame.number next sound.are_open.4 leads)))

-- a number of the row is passed
pub sound_with_passed : (links : List (List ℕ)) (seen : List Bool) (frame : Frame) (frames : List Frame)
    (order : List ℕ)
    (next : ℕ) → IsSound links seen (frame ∷ frames) order → slice_get (row links frame.number) frame.looked ≡ Some next
    → IsSeen seen next → Ends links next
    → IsSound links seen (record { number = frame.number; looked = frame.looked + 1 } ∷ frames) order
sound_with_passed links seen frame frames order next sound at is ends = record {
  sized = sound.sized;
  known = sound.known;
  put_seen = sound.put_seen;
  seen_found = sound.seen_found;
  after = sound.after;
  are_open = (
    sound.are_open.0,
    sound.are_open.1,
    sound.are_open.2,
    rw add-one (each_taken (λ other. IsOneOf other order) (row links frame.number) frame.looked next at sound.are_open.3
        (met_is_put links seen frame frames order next sound
        (one_at (row links frame.number) frame.looked next at) is ends)),
    sound.are_open.4,
    sound.are_open.5,
  );
}

-- a number is put
pub sound_with_put : (links : List (List ℕ)) (seen : List Bool) (frame : Frame) (frames : List Frame) (order : List ℕ)
    → IsSound links seen (frame ∷ frames) order → slice_get (row links frame.number) frame.looked ≡ None
    → Ends links frame.number → IsSound links seen frames (order ++ frame.number ∷ [])
sound_with_put links seen frame frames order sound at ends = record {
  sized = sound.sized;
  known = each_more (λ number. number < length links) order frame.number sound.known sound.are_open.0;
  put_seen = each_more (IsSeen seen) order frame.number sound.put_seen sound.are_open.1;
  seen_found = λ other is. found other (sound.seen_found other is);
  after = come_after_more links [] order frame.number sound.after sound.are_open.2
      (each_to_end (λ next. IsOneOf next order) (row links frame.number) frame.looked at sound.are_open.3);
  are_open = open_with_put links seen order frame.number frames ends sound.are_open.4 sound.are_open.5;
}
  where
    found : (other : ℕ) → IsOneOf other order ⊎ IsOpen other (frame ∷ frames)
        → IsOneOf other (order ++ frame.number ∷ []) ⊎ IsOpen other frames
    found other (inl put) = inl (one_of_first other order (frame.number ∷ []) put)
    found other (inr (inl same)) = inl (one_at_last order frame.number other same)
    found other (inr (inr is)) = inr is

-- at the end all numbers are in order
pub order_of_all : (links : List (List ℕ)) (seen : List Bool) (order : List ℕ) → IsSound links seen [] order
    → AllSeen seen (length links) → IsOrder links order
order_of_all links seen order sound all = record {
  known = sound.known;
  all = λ number has. by number (sound.seen_found number (all.are number has));
  after = sound.after;
}
  where
    by : (number : ℕ) → IsOneOf number order ⊎ ⊥ → IsOneOf number order
    by number (inl put) = put
    by number (inr is) = elim is [ ]

-- the same where the new state is given by equations, as the code gives it
pub sound_when_added : (links : List (List ℕ)) (seen more : List Bool) (frames opened : List Frame)
    (order same : List ℕ)
    (number : ℕ) → IsSound links seen frames order → number < length links → get_or seen number false ≡ false
    → AllLead links frames number → more ≡ set seen number true
    → opened ≡ record { number = number; looked = 0 } ∷ frames → same ≡ order → IsSound links more opened same
sound_when_added links seen more frames opened order same number sound has new lead more_is opened_is same_is =
    rw (more_is, opened_is, same_is) (sound_with_new links seen frames order number sound has new lead)

-- all open numbers lead to the next of the last one's row
pub all_lead_next : (links : List (List ℕ)) (seen : List Bool) (frame : Frame) (frames : List Frame) (order : List ℕ)
    (next : ℕ) → IsSound links seen (frame ∷ frames) order → slice_get (row links frame.number) frame.looked ≡ Some next
    → AllLead links (frame ∷ frames) next
all_lead_next links seen frame frames order next sound at =
    let leads = leads_to links frame.number next (one_at (row links frame.number) frame.looked next at) in
    (leads, all_lead_on links frames frame.number next sound.are_open.4 leads)

-- the next of a row has a row itself
pub next_has_row : (links : List (List ℕ)) (number place next : ℕ) → AreRows links
    → slice_get (row links number) place ≡ Some next → next < length links
next_has_row links number place next rows at =
    each_at (λ other. other < length links) (row links number) next (rows number)
    (one_at (row links number) place next at)

-- likewise where a number of the row is passed
pub sound_when_passed : (links : List (List ℕ)) (seen same : List Bool) (frame : Frame) (frames opened : List Frame)
    (order kept : List ℕ) (next : ℕ) → IsSound links seen (frame ∷ frames) order
    → slice_get (row links frame.number) frame.looked ≡ Some next → IsSeen seen next → Ends links next → same ≡ seen
    → opened ≡ record { number = frame.number; looked = frame.looked + 1 } ∷ frames → kept ≡ order
    → IsSound links same opened kept
sound_when_passed links seen same frame frames opened order kept next sound at is ends same_is opened_is kept_is =
    rw (same_is, opened_is, kept_is) (sound_with_passed links seen frame frames order next sound at is ends)
