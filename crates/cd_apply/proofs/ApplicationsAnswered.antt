-- What is answered of functions is right.
use Rattle.std.proofs.Common.{◌≡◌, ◌<◌, ◌++◌, [], ◌∷◌, List, Vec, Global, length, ◌↔◌, refl, sym}
use Rattle.std.proofs.Common.{ap, subst}
use Rattle.std.proofs.lemmas.Bool.{true≢false}
use Rattle.cd_sets.specs.declared.node_id.NodeId.{NodeId}
use Rattle.cd_sets.specs.declared.question.Question.{Question}
use Rattle.cd_model.specs.AllOf.{AnyOf}
use Rattle.cd_model.specs.BuiltIns.{built_ins, ARROW}
use Rattle.cd_model.specs.Formula.{Graph, IsIn, IsOutside, nodes}
use Rattle.cd_model.specs.Kinds.{AFunction, kind_of}
use Rattle.cd_model.specs.Thing.{Thing, Function, Closure, IsElement}
use Rattle.cd_model.proofs.Apart.{element_apart}
use Rattle.cd_model.proofs.ApartAtNodes.{nodes_keep}
use Rattle.cd_model.proofs.BuiltIns.{functions_are}
use Rattle.cd_elements.specs.Table.{Names, element_at}
use Rattle.cd_elements.specs.declared.shape.ElementId.{ElementId}
use Rattle.cd_rules.specs.Needs.{question}
use Rattle.cd_verdicts.specs.declared.verdict.Verdict.{Verdict}
use Rattle.cd_verdicts.specs.declared.verdict.Verdict.TheVariants.{Inhabited}
use Rattle.cd_verdicts.specs.Verdicts.{IsExact}
use Rattle.cd_meaning.specs.Sets.{◌⊆◌, elements_of}
use Rattle.cd_meaning.specs.Functions.{IsFunction}
use Rattle.cd_apply.specs.declared.image.Image.{Image}
use Rattle.cd_apply.specs.declared.image.Image.TheVariants.{Fails, Union}
use Rattle.cd_apply.specs.declared.application.Applied.TheVariants.{Results}
use Rattle.cd_apply.specs.declared.application.Applied.TheVariants.{OutsideDomain}
use Rattle.cd_apply.specs.Inner.Applied.{IsApplied}
use Rattle.cd_apply.specs.Inner.FunctionClauses.{FunctionClause, AreClausesOf, MayFailAt}
use Rattle.cd_apply.specs.Inner.ImageUnions.{IsImageUnion, NamesArgument}
use Rattle.cd_apply.specs.Inner.Images.{IsImage}
use Rattle.cd_builders.specs.Unions.{HoldsUnion}
use Rattle.cd_apply.specs.Inner.Results.{IsInOne}
use Rattle.cd_apply.proofs.FunctionsOfClauses.{is_function}
use Rattle.cd_apply.proofs.ImagesByClauses.{given_exactly, outside_exactly, all_map_into}

module _ (graph : Graph) (function argument : NodeId) (table : List Thing)
    (functions : elements_of graph function ⊆ IsFunction) (clauses : List FunctionClause)
    (are : AreClausesOf graph function clauses) (after : Graph) where
  pub results_applied : (questions : List Question)
      → IsImageUnion graph argument clauses questions → (id : NodeId)
      → ((e : Thing) → IsElement e → IsIn after e id ↔ IsInOne graph questions e)
      → id.0 < length after → IsApplied graph function argument after table (Results id)
  results_applied questions image id holds below = record {
    into = all_map_into graph after function argument id functions
        (λ from is inside outside. image.total from is inside
        ((outside_exactly graph function clauses are from is).0 outside))
        (λ to is given. (holds to is).1 ((image.exact to).1
        ((given_exactly graph function clauses are argument to is).0 given)));
    only = λ to is inside. (given_exactly graph function clauses are argument to is).1
        ((image.exact to).0 ((holds to is).0 inside));
    node = below;
    not_function = tt;
    outside = tt;
  }

  pub outside_applied : (id : ElementId) → NamesArgument graph argument table id
      → AnyOf (MayFailAt graph (element_at table id)) clauses
      → IsApplied graph function argument after table (OutsideDomain id)
  outside_applied id names fails = record {
    into = tt;
    only = tt;
    node = tt;
    not_function = tt;
    outside = (
      functions,
      names.0,
      names.1,
      names.2,
      (outside_exactly graph function clauses are (element_at table id) names.1).1 fails,
    );
  }

  -- as the code finds it, in worlds with the same graph
  module _ (image : Image) (found : List Thing) (is : IsImage graph argument found clauses image)
    where
      pub results_as_found : (questions : Vec Question Global) → image ≡ Union questions
          → (first : Graph) → first ≡ graph → (shown : List Question) → shown ≡ questions.items
          → (id : NodeId) → HoldsUnion first shown after id
          → IsApplied graph function argument after table (Results id)
      results_as_found questions same first one shown all id holds =
          results_applied questions.items (subst (IsImage graph argument found clauses) same is) id
          here.exact here.node
        where
          here : HoldsUnion graph questions.items after id
          here = subst (λ (g : Graph). HoldsUnion g questions.items after id) one
              (subst (λ (list : List Question). HoldsUnion first list after id) all holds)

  pub outside_as_found : (image : Image) → IsImage graph argument table clauses image
      → (id : ElementId) → image ≡ Fails id
      → IsApplied graph function argument after table (OutsideDomain id)
  outside_as_found image is id same =
      let fails = subst (IsImage graph argument table clauses) same is in
      outside_applied id fails.0 fails.1

-- the functions are what is in the built-in node of functions
is_of_functions : (e : Thing) → kind_of e ≡ AFunction → IsElement e → IsFunction e
is_of_functions (Function pairs) same is = tt
is_of_functions (Closure function environment) same is = absurd is
is_of_functions _ same is = absurd (true≢false (sym (ap is_function same)))

is_function_kind : (e : Thing) → IsFunction e → kind_of e ≡ AFunction
is_function_kind (Function pairs) is = refl
is_function_kind _ is = absurd is

module _ (graph more : Graph) (begins : graph ≡ built_ins ++ more) (e : Thing) (is : IsElement e)
  where
    pub in_functions : IsIn graph e ARROW → IsFunction e
    in_functions inside = is_of_functions e ((functions_are more e is).0
        (subst (λ (g : Graph). IsIn g e ARROW) begins inside)) is

    pub outside_functions : IsOutside graph e ARROW → IsFunction e → ⊥
    outside_functions outside function =
        element_apart (nodes graph) (nodes_keep graph) e ARROW
        (subst (λ (g : Graph). IsIn g e ARROW) (sym begins)
        ((functions_are more e is).1 (is_function_kind e function))) outside

-- what the verdict says of the functions in a node
module _ (graph : Graph) (begins : (more : Graph) × (graph ≡ built_ins ++ more)) (function : NodeId)
  where
    pub are_functions : (after : Graph) → after ≡ graph
        → ((e : Thing) → IsElement e → IsIn graph e function → IsIn graph e ARROW)
        → elements_of after function ⊆ IsFunction
    are_functions after same within e is inside = in_functions graph begins.0 begins.1 e is
        (within e is (subst (λ (g : Graph). IsIn g e function) same inside))

    pub no_function : (table : List Thing) (asked : Question)
        → asked ≡ question (function ∷ []) (ARROW ∷ []) → (verdict : Verdict) (id : ElementId)
        → verdict ≡ Inhabited id → IsExact graph table asked verdict
        → Names table id × IsElement (element_at table id)
        × elements_of graph function (element_at table id) × (IsFunction (element_at table id) → ⊥)
    no_function table asked same verdict id has exact =
        let e = element_at table id in
        let found = subst (λ (q : Question). IsExact graph table q (Inhabited id)) same
        (subst (IsExact graph table asked) has exact) in (
          found.0,
          found.1,
          found.2.0.0,
          outside_functions graph begins.0 begins.1 e found.1 found.2.1.0,
        )
