-- Ways from number to number, of which none leads back where all ways end.
use Rattle.std.proofs.Common.{ℕ, zero, suc, ◌<◌, inl, inr, List, [], ◌∷◌, subst, arith}
use Rattle.cd_resolve.specs.declared.search.Frame.{Frame}
use Rattle.cd_resolve.specs.Inner.Order.{IsOneOf, row, IsShort, Ends}
use Rattle.cd_resolve.specs.Inner.Search.{IsOpen, Leads, AllLead}
use Rattle.cd_resolve.proofs.Lists.{each_at}

-- the ways from what is in a number's row are shorter than those from the number
leads_by : (links : List (List ℕ)) (number next : ℕ) → IsOneOf next (row links number) → (most : ℕ)
    → IsShort links most number → (less : ℕ) × (less < most) × IsShort links less next
leads_by links number next is zero short = elim short [ ]
leads_by links number next is (suc most) short = (
  most,
  omega arith,
  each_at (IsShort links most) (row links number) next short is,
)

-- a number leads to each of its row
pub leads_to : (links : List (List ℕ)) (number next : ℕ) → IsOneOf next (row links number) → Leads links number next
leads_to links number next is = leads_by links number next is

-- one way after the other
pub leads_on : (links : List (List ℕ)) (number between next : ℕ) → Leads links number between → Leads links between next
    → Leads links number next
leads_on links number between next leads on = λ most short.
    let first = leads most short in
    let second = on first.0 first.2 in
    let less : first.0 < most = first.1 in
    let lesser : second.0 < first.0 = second.1 in
    (second.0, omega arith, second.2)

-- no number with ways below a bound leads back to itself
no_way_back_within : (bound : ℕ) (links : List (List ℕ)) (number most : ℕ) → most < bound → IsShort links most number
    → Leads links number number → ⊥
no_way_back_within zero links number most within short leads = absurd (omega arith)
no_way_back_within (suc bound) links number most within short leads =
    let next = leads most short in
    let less : next.0 < most = next.1 in
    no_way_back_within bound links number next.0 (omega arith) next.2 leads

-- no number whose ways end leads back to itself
pub no_way_back : (links : List (List ℕ)) (number : ℕ) → Ends links number → Leads links number number → ⊥
no_way_back links number ends leads = no_way_back_within (suc ends.0) links number ends.0 (omega arith) ends.1 leads

-- what leads to a number leads to those that this leads to
pub all_lead_on : (links : List (List ℕ)) (frames : List Frame) (number next : ℕ) → AllLead links frames number
    → Leads links number next → AllLead links frames next
all_lead_on links [] number next all leads = tt
all_lead_on links (frame ∷ rest) number next all leads = (
  leads_on links frame.number number next all.0 leads,
  all_lead_on links rest number next all.1 leads,
)

-- a number that is open leads to those that all open ones lead to
pub open_leads : (links : List (List ℕ)) (frames : List Frame) (number next : ℕ) → IsOpen number frames
    → AllLead links frames next → Leads links number next
open_leads links [] number next is all = elim is [ ]
open_leads links (frame ∷ rest) number next (inl same) all = subst (λ (start : ℕ). Leads links start next) same all.0
open_leads links (frame ∷ rest) number next (inr on) all = open_leads links rest number next on all.1
