-- A constant alone.
use Rattle.std.proofs.Common.{◌≡◌, ◌↔◌, ◌∙◌, true, ℕ, ℤ, List, map, refl, sym, ap, subst, rules}
use Rattle.std.proofs.Common.{SFits, to_z, of_z}
use Rattle.std.specs.Int.{w128}
use Rattle.std.proofs.lemmas.Int.{to_z-of_z}
use Rattle.cd_syntax.specs.Integer.{IsInteger}
use Rattle.cd_syntax.specs.declared.constant.Constant.{Constant}
use Rattle.cd_syntax.specs.declared.constant.Constant.TheVariants as constant
use Rattle.cd_sets.specs.declared.node_id.NodeId.{NodeId}
use Rattle.cd_model.specs.Formula.{Graph}
use Rattle.cd_model.specs.Membership.{answers}
use Rattle.cd_model.specs.Thing.{Thing, Character, IsElement}
use Rattle.cd_matching.specs.Sequences.{nil, text_of, thing_of}
use Rattle.cd_meaning.specs.Sets.{◌⊆◌, elements_of}
use Rattle.cd_meaning.specs.Sequences.{followed_by}
use Rattle.cd_forms.specs.Inner.Chains.{IsTextBefore}
use Rattle.cd_forms.proofs.Followed.{text_followed}

-- an integer has 128 bits
sized : (n : ℤ) → IsInteger n → SFits w128 n
sized n is = search rules

pub integer_is : (is : Constant) (n : ℤ) → IsElement (thing_of is) → is ≡ constant.Int n
    → to_z w128 (of_z w128 n) ≡ n
integer_is is n element same =
    to_z-of_z w128 n (sized n (subst (λ (k : Constant). IsElement (thing_of k)) same element))

-- a text before the end of a sequence
module _ (graph : Graph) (id : NodeId) (ends : (e : Thing) → answers graph e id true ↔ (e ≡ nil))
    (text : List ℕ) (d : Thing) (same : d ≡ text_of text) where
  pub text_is_before : (λ (e : Thing). e ≡ d) ⊆ IsTextBefore text (elements_of graph id)
  text_is_before e element is =
      (nil, (ends nil).1 refl, is ∙ same ∙ sym (text_followed text))

  pub before_is_text : IsTextBefore text (elements_of graph id) ⊆ (λ (e : Thing). e ≡ d)
  before_is_text e element (last, there, is) =
      is ∙ ap (followed_by (map Character text)) ((ends last).0 there) ∙ text_followed text
      ∙ sym same
