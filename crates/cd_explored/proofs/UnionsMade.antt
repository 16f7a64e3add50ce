-- The members of a union, one by one.
use Rattle.std.proofs.Common.{◌≡◌, ◌<◌, ◌+◌, ℕ, List, [], ◌∷◌, ◌++◌, map, take, get_or, length, sym, ap, subst, ◌∙◌}
use Rattle.std.proofs.lemmas.List.{take_more, map-append}
use Rattle.std.specs.List.{AllZip}
use Rattle.cd_model.proofs.ByNumber.{zip_pushed}
use Rattle.cd_graph.specs.PlainFormula.{plain}
use Rattle.cd_graph.specs.declared.formula.Formula.{Formula as CodeFormula}
use Rattle.cd_explored.specs.declared.givers.Giver.{Giver}
use Rattle.cd_explored.specs.declared.want.Want.{Want}
use Rattle.cd_explored.specs.Inner.Made.{IsMember}
use Rattle.cd_explored.specs.Inner.Plan.{Plan}
use Rattle.cd_explored.specs.Inner.Wanted.{GrowTo}
use Rattle.cd_explored.proofs.GrowingWants.{members_stay}

module _ (plan : Plan) (old new : List Want) (grow : GrowTo old new) (variable : ℕ) where
  pub members_more : (givers : List Giver) (k : ℕ) (giver : Giver) → k < length givers
      → giver ≡ get_or givers k giver → (members after : List CodeFormula) (formula : CodeFormula)
      → after ≡ members ++ formula ∷ []
      → AllZip (IsMember plan old variable) (take k givers) (map plain members)
      → IsMember plan new variable giver (plain formula)
      → AllZip (IsMember plan new variable) (take (k + 1) givers) (map plain after)
  members_more givers k giver below is members after formula put before made =
      let made_so = zip_pushed (IsMember plan new variable) (take k givers) (map plain members) giver
      (plain formula)
      (members_stay plan old new grow variable (take k givers) (map plain members) before) made in
      subst (λ (all : List Giver). AllZip (IsMember plan new variable) all (map plain after))
      (sym (take_more givers k giver below ∙ ap (λ one. take k givers ++ one ∷ []) (sym is)))
      (subst (AllZip (IsMember plan new variable) (take k givers ++ giver ∷ []))
      (sym (ap (map plain) put ∙ map-append plain members (formula ∷ []))) made_so)
