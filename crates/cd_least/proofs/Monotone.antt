-- What forms make of elements grows with the sets that these are of.
use Rattle.std.proofs.Common.{subst, List, [], ◌∷◌}
use Rattle.cd_syntax.specs.Name.{Name}
use Rattle.cd_model.specs.AllOf.{AllOf}
use Rattle.cd_model.specs.Thing.{Thing, IsElement, Record, Function}
use Rattle.cd_program.specs.Expr.{Items, Fields}
use Rattle.cd_meaning.specs.Functions.{AllMapInto, IsGiven}
use Rattle.cd_meaning.specs.Records.{IsFieldOf, IsRestOf, IsMergeOf}
use Rattle.cd_meaning.specs.Sequences.{IsListOf, IsItemOf, IsJoinOf}
use Rattle.cd_meaning.specs.Sets.{Set, ◌⊆◌}
use Rattle.cd_meaning.proofs.SequencesFollowed.{items_are_elements}
use Rattle.cd_typing.specs.Results.{IsTupleOf, IsSequenceOf, IsRecordOf, IsXmlOf}
use Rattle.cd_typing.specs.Typ.{Typ, AreIn}
use Rattle.cd_least.specs.Least.{AllWithin}
use Rattle.cd_meaning.proofs.FunctionsMapping.{from_is_element}

-- one of each of more types
are_in_more : (parts others : List Typ) → AllWithin parts others → (ds : List Thing) → AreIn parts ds → AreIn others ds
are_in_more [] [] within [] are = tt
are_in_more [] [] within (d ∷ ds) are = absurd are
are_in_more [] (s ∷ others) within ds are = absurd within
are_in_more (t ∷ parts) [] within ds are = absurd within
are_in_more (t ∷ parts) (s ∷ others) within [] are = absurd are
are_in_more (t ∷ parts) (s ∷ others) within (d ∷ ds) are =
    (are.0, within.0 d are.0 are.1, are_in_more parts others within.1 ds are.2)

module _ (parts others : List Typ) (within : AllWithin parts others) where
  pub tuples_grow : IsTupleOf parts ⊆ IsTupleOf others
  tuples_grow e sound is = (is.0, is.1, are_in_more parts others within (is.0 ∷ is.1) is.2, is.3)

  pub sequences_grow : (all : Items) → IsSequenceOf all parts ⊆ IsSequenceOf all others
  sequences_grow all e sound is = (is.0, is.1, are_in_more parts others within is.0 is.2, is.3, is.4)

  pub records_grow : (fields : Fields) → IsRecordOf fields parts ⊆ IsRecordOf fields others
  records_grow fields e sound is = (is.0, is.1, are_in_more parts others within is.0 is.2, is.3, is.4)

pub xmls_grow : (tag attributes content more rest last : Set) → tag ⊆ more → attributes ⊆ rest → content ⊆ last
    → IsXmlOf tag attributes content ⊆ IsXmlOf more rest last
xmls_grow tag attributes content more rest last one other third e sound is =
    let parts = subst IsElement is.6 sound in
    (is.0, is.1, is.2, one is.0 parts.2 is.3, other is.1 parts.3 is.4, third is.2 parts.4 is.5, is.6)

all_more : (set other : Set) → set ⊆ other → (ds : List Thing) → AllOf IsElement ds → AllOf set ds → AllOf other ds
all_more set other fewer [] sound all = tt
all_more set other fewer (d ∷ ds) sound all = (fewer d sound.0 all.0, all_more set other fewer ds sound.1 all.1)

pub lists_grow : (set other : Set) → set ⊆ other → IsListOf set ⊆ IsListOf other
lists_grow set other fewer d sound list =
    (list.0, list.1, all_more set other fewer list.0 (items_are_elements d list.0 list.1 sound) list.2)

pub items_grow : (set other : Set) → set ⊆ other → IsItemOf set ⊆ IsItemOf other
items_grow set other fewer e sound item = (item.0, item.1, item.2, fewer item.0 item.2 item.3, item.4, item.5)

pub joins_grow : (one other more last : Set) → one ⊆ more → other ⊆ last → IsJoinOf one other ⊆ IsJoinOf more last
joins_grow one other more last first second whole sound is =
    (is.0, is.1, is.2, is.3, is.4, first is.0 is.3 is.5, second is.1 is.4 is.6, is.7, is.8)

pub fields_grow : (label : Name) (set other : Set) → set ⊆ other → IsFieldOf label set ⊆ IsFieldOf label other
fields_grow label set other fewer e sound is = (is.0, (is.1.0, fewer (Record is.0) is.1.0 is.1.1), is.2)

pub rests_grow : (label : Name) (set other : Set) → set ⊆ other → IsRestOf label set ⊆ IsRestOf label other
rests_grow label set other fewer e sound is = (is.0, is.1, is.2, (is.3.0, fewer (Record is.0) is.3.0 is.3.1), is.4)

pub merges_grow : (one other more last : Set) → one ⊆ more → other ⊆ last → IsMergeOf one other ⊆ IsMergeOf more last
merges_grow one other more last first second e sound is = (
  is.0,
  is.1,
  λ label named. let at = is.2 label named in (
    at.0,
    at.1,
    (at.2.0, first (Record at.0) at.2.0 at.2.1),
    (at.3.0, second (Record at.1) at.3.0 at.3.1),
    at.4,
  ),
)

-- what functions give is in each set into which they map what they are given
pub given_into : (functions arguments more rest results : Set) → functions ⊆ more → arguments ⊆ rest → AllMapInto more rest results
    → IsGiven functions arguments ⊆ results
given_into functions arguments more rest results fewer less maps to sound given =
    let element = given.2.0 in
    let from = (from_is_element given.0 element given.1 to given.3).0 in
    (maps.into given.0 (element, fewer (Function given.0) element given.2.1)).into given.1 to given.3 (less given.1 from given.4)
