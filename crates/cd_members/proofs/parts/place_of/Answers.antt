use Rattle.std.proofs.Common.{◌≡◌, ◌∙◌, sym, ap, refl, ℕ, ◌+◌, ◌<◌, List, ◌∷◌, ◌++◌, length, take, drop, get_or, add-one, slice_set}
use Rattle.std.specs.Cmp.Lexicographic.{slice_cmp}
use Rattle.std.specs.Ordering.{nat_cmp}
use Rattle.std.specs.declared.cmp.Ordering.TheVariants.{Equal}
use Rattle.std.proofs.lemmas.List.{at_drop_more, set_split}
use Rattle.cd_syntax.specs.Name.{Name}
use Rattle.cd_elements.specs.declared.shape.ElementId.{ElementId}
use Rattle.cd_members.specs.Inner.RecordFields.{put}
use Rattle.cd_members.proofs.parts.place_of.Goals as goal

-- an element is put in the place of the first field of what is left, where that has its label
put_there : (label : Name) (parts : List (Name × ElementId)) (place : ℕ) (default : Name × ElementId) (id : ElementId)
    → place < length parts → Equal ≡ slice_cmp nat_cmp label (get_or parts place default).0
    → put label id parts ≡ take place parts ++ put label id (drop place parts)
    → put label id parts ≡ slice_set parts place (label, id)
put_there label parts place default id within equal left =
    let rest = drop (place + 1) parts in
    let first : put label id (get_or parts place default ∷ rest) ≡ (label, id) ∷ rest = rw (sym equal) refl in
    let split : slice_set parts place (label, id) ≡ take place parts ++ (label, id) ∷ rest =
    rw add-one (set_split parts place (label, id) within) in
    left ∙ ap (λ all. take place parts ++ all) (at_drop_more (put label id) parts place default within ∙ first) ∙ sym split

pub returns-in-Equal-clause-put : goal.returns-in-Equal-clause-put
returns-in-Equal-clause-put c = λ id. put_there c.args.label.now c.args.parts.now c.loop-place.place c.index-parts-place.result id
    c.loop-place-test.true c.in-Equal.ensures (c.loop-place.invariant id)
