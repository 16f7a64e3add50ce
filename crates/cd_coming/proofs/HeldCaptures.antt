-- The types of names hold exactly what the variables of a written pattern capture, where the nodes
-- hold what the variables of a kernel do.
use Rattle.std.proofs.Common.{◌≡◌, ◌<◌, ℕ, zero, suc, Bool, true, false, List, [], ◌∷◌, map}
use Rattle.std.proofs.Common.{length, Option, Some, None, option_map, bytes_eq, if◌then◌else◌}
use Rattle.std.proofs.Common.{refl, sym, ap, subst, ◌∙◌}
use Rattle.std.specs.List.{slice_get}
use Rattle.std.proofs.lemmas.Option.{none-some, same_Some}
use Rattle.cd_sets.specs.declared.node_id.NodeId.{NodeId}
use Rattle.cd_syntax.specs.Name.{Name}
use Rattle.cd_syntax.specs.TypeTree.{Tree}
use Rattle.cd_model.specs.Formula.{Graph}
use Rattle.cd_model.specs.Scope.{Scope}
use Rattle.cd_model.specs.Thing.{Thing, IsElement}
use Rattle.cd_matching.specs.Captures.{Captures}
use Rattle.cd_matching.specs.Kernel.{Kernel, number_of, at_number, by_name, taken}
use Rattle.cd_matching.specs.PlainKernel.{plain_kernel}
use Rattle.cd_matching.specs.Takes.{WrittenTakes}
use Rattle.cd_matching.proofs.TakenCaptures.{option_map_some}
use Rattle.cd_kernel.proofs.VariableNumbers.{number_within}
use Rattle.cd_meaning.specs.Sets.{Set, elements_of}
use Rattle.cd_typing.specs.Branches.{FitsOne, IsFirst, HoldCaptured}
use Rattle.cd_typing.specs.Typ.{Typ, typ, In, type_at}
use Rattle.cd_coming.specs.CapturedTypes.{types_of, HoldNoMore}
use Rattle.cd_explored.specs.Captures.{AreExactCaptures}
use Rattle.cd_sites.specs.Sites.{IsSite}
use Rattle.cd_sites.specs.declared.site.Site.{Site}
use Rattle.cd_filter.proofs.CapturedSound.{elements_captured}
use Rattle.cd_coming.proofs.KernelsCapture.{captured}
use Rattle.cd_sites.proofs.RightTests.{test, right}
use Rattle.cd_sites.proofs.WrittenTaken.{answered, takes_answered, takes_once}

abbrev pub names_in : List (Name × NodeId) → List Name
names_in all = map (λ one. one.0) all

abbrev pub ids_in : List (Name × NodeId) → List NodeId
ids_in all = map (λ one. one.1) all

-- a name has no type and no number, or both, and the type is that of the node with this number
data FoundAt (graph : Graph) (all : List (Name × NodeId)) (name : Name) : Type 0 where
  nowhere : type_at (types_of graph all) name ≡ None → number_of (names_in all) name ≡ None
      → FoundAt graph all name
  somewhere : (number : ℕ) (id : NodeId) → type_at (types_of graph all) name ≡ Some (typ graph id)
      → number_of (names_in all) name ≡ Some number → slice_get (ids_in all) number ≡ Some id
      → FoundAt graph all name

found_at : (graph : Graph) (all : List (Name × NodeId)) (name : Name) → FoundAt graph all name
found_at graph [] name = nowhere refl refl
found_at graph (one ∷ all) name = by_test (bytes_eq one.0 name) refl (found_at graph all name)
  where
    -- what both say by the test
    type_by : (b : Bool) → bytes_eq one.0 name ≡ b → (t : Option Typ)
        → (if b then Some (typ graph one.1) else type_at (types_of graph all) name) ≡ t
        → type_at (types_of graph (one ∷ all)) name ≡ t
    type_by b same t is =
        ap (λ (c : Bool). if c then Some (typ graph one.1) else type_at (types_of graph all) name)
        same ∙ is

    number_by : (b : Bool) → bytes_eq one.0 name ≡ b → (n : Option ℕ)
        → (if b then Some zero else option_map suc (number_of (names_in all) name)) ≡ n
        → number_of (names_in (one ∷ all)) name ≡ n
    number_by b same n is =
        ap (λ (c : Bool). if c then Some zero else option_map suc (number_of (names_in all) name))
        same ∙ is

    by_test : (b : Bool) → bytes_eq one.0 name ≡ b → FoundAt graph all name
        → FoundAt graph (one ∷ all) name
    by_test true same later = somewhere zero one.1
        (type_by true same (Some (typ graph one.1)) refl) (number_by true same (Some zero) refl)
        refl
    by_test false differs (nowhere no_type no_number) =
        nowhere (type_by false differs None no_type)
        (number_by false differs None (ap (option_map suc) no_number))
    by_test false differs (somewhere number id type_is number_is there) =
        somewhere (suc number) id (type_by false differs (Some (typ graph id)) type_is)
        (number_by false differs (Some (suc number)) (ap (option_map suc) number_is)) there

module _ (graph : Graph) (scope : Scope) (written : Tree) (site : Site)
    (is : IsSite graph scope written site) (matched : NodeId) (all : List (Name × NodeId))
    (names : names_in all ≡ (plain_kernel site.kernel.now).variables)
    (exact : AreExactCaptures graph matched (plain_kernel site.kernel.now) (ids_in all)) where
  abbrev kernel : Kernel NodeId
  kernel = plain_kernel site.kernel.now

  abbrev at_root : Thing → Option (Captures ℕ)
  at_root e = taken NodeId (test graph) kernel.nodes e kernel.root

  number_in : (name : Name) (number : Option ℕ) → number_of (names_in all) name ≡ number
      → number_of kernel.variables name ≡ number
  number_in name number same = ap (λ (some : List Name). number_of some name) (sym names) ∙ same

  -- each variable captures an element
  element_captured : (e what : Thing) (captures : Captures ℕ) (variable : ℕ) → IsElement e
      → at_root e ≡ Some captures → captures variable ≡ Some what → IsElement what
  element_captured e what captures variable element takes has =
      elements_captured NodeId (test graph) kernel.nodes (length kernel.variables)
      (λ id. id.0 < site.accepted.first) is.accepted.nodes.sound.nodes variable e element
      kernel.root captures what takes has

  all_captured : (e : Thing) (captures : Captures ℕ) (variable : ℕ)
      → variable < length kernel.variables → at_root e ≡ Some captures
      → (what : Thing) × (captures variable ≡ Some what)
  all_captured e captures variable within takes = let sound = is.accepted.nodes.sound in
      captured NodeId (test graph) kernel.nodes (length kernel.variables) variable
      (λ id. id.0 < site.accepted.first) sound.nodes sound.parts sound.ends e kernel.root captures
      sound.root takes (sound.binds variable within)

  pub hold : HoldCaptured scope (types_of graph all) [] written (elements_of graph matched)
  hold e captures first name =
      by_place (found_at graph all name)
      (option_map_some (by_name kernel.variables) (at_root e) captures
      (takes_once graph scope written site is e (answered graph scope written site is e)
      (Some captures) first.element (takes_answered graph scope written site is e first.element)
      first.takes))
    where
      by_place : FoundAt graph all name
          → (numbered : Captures ℕ) × (at_root e ≡ Some numbered)
          × (by_name kernel.variables numbered ≡ captures)
          → FitsOne (type_at (types_of graph all) name) (captures name)
      by_place (nowhere no_type no_number) (numbered, takes, same) =
          subst (λ (t : Option Typ). FitsOne t (captures name)) (sym no_type)
          (ap (λ (c : Captures Name). c name) (sym same)
          ∙ ap (at_number numbered) (number_in name None no_number))
      by_place (somewhere number id type_is number_is there) (numbered, takes, same) =
          let here = number_in name (Some number) number_is in
          let has = all_captured e numbered number
          (number_within kernel.variables name number here) takes in
          subst (λ (t : Option Typ). FitsOne t (captures name)) (sym type_is) (
            has.0,
            ap (λ (c : Captures Name). c name) (sym same) ∙ ap (at_number numbered) here ∙ has.1,
            (exact number id there (test graph) has.0 (λ one below d sound. right graph one d)
                (element_captured e has.0 numbered number first.element takes has.1)).1
                (e, numbered, first.element, first.in_set, takes, has.1),
          )

  pub hold_no_more : HoldNoMore scope (types_of graph all) written (elements_of graph matched)
  hold_no_more name t d type_is element inside = by_place (found_at graph all name)
    where
      by_place : FoundAt graph all name
          → (e : Thing) × (captures : Captures Name)
          × IsFirst scope [] written (elements_of graph matched) e captures
          × (captures name ≡ Some d)
      by_place (nowhere no_type no_number) = absurd (none-some t (sym no_type ∙ type_is))
      by_place (somewhere number id same number_is there) =
          let found = (exact number id there (test graph) d
          (λ one below d sound. right graph one d) element).0
          (subst (λ (type : Typ). In type d) (same_Some t (typ graph id) (sym type_is ∙ same))
          inside) in
          let named = by_name kernel.variables found.1 in (
            found.0,
            named,
            record {
              element = found.2;
              in_set = found.3;
              earlier = tt;
              takes = subst (WrittenTakes scope written found.0)
                  (ap (option_map (by_name kernel.variables)) found.4)
                  (takes_answered graph scope written site is found.0 found.2);
            },
            ap (at_number found.1) (number_in name (Some number) number_is) ∙ found.5,
          )

-- a set with the same elements
module _ (scope : Scope) (written : Tree) (one other : Set) where
  pub first_in : ((e : Thing) → one e → other e) → (e : Thing) (captures : Captures Name)
      → IsFirst scope [] written one e captures → IsFirst scope [] written other e captures
  first_in within e captures first = record {
    element = first.element;
    in_set = within e first.in_set;
    earlier = first.earlier;
    takes = first.takes;
  }
