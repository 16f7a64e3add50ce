-- The kernel that is made of a pattern without faults is sound.
use Rattle.std.proofs.Common.{◌≡◌, ◌<◌, ◌≤◌, arith, ℕ, suc, true, List, [], ◌∷◌, ◌++◌}
use Rattle.std.proofs.Common.{length, Some, refl, sym, ap, subst, ◌∙◌}
use Rattle.std.specs.List.{slice_get}
use Rattle.std.proofs.lemmas.Bool.{true≢false, or_parts}
use Rattle.std.proofs.lemmas.Option.{same_Some, slice_get_within}
use Rattle.cd_sets.specs.declared.node_id.NodeId.{NodeId}
use Rattle.cd_syntax.specs.Name.{Name}
use Rattle.cd_model.specs.AllOf.{AllOf}
use Rattle.cd_model.specs.BuiltIns.{built_ins}
use Rattle.cd_matching.specs.Kernel.{Kernel, KernelNode, KernelField, Present, Optional, Test, Bind}
use Rattle.cd_matching.specs.Kernel.{Put, Pair, Xml, Record, Both, First, Gather, leads_to}
use Rattle.cd_matching.specs.Kernel.{parts_of, field_nodes, optional_types, variables_of, Binds}
use Rattle.cd_matching.specs.Kernel.{BindDisjoint, IsSoundNode, IsSound, Ends}
use Rattle.cd_matching.specs.Naming.{AreDisjointNames, IsNamed}
use Rattle.cd_matching.specs.Pattern.{Pattern, Sequence}
use Rattle.cd_matching.specs.Variables.{binds}
use Rattle.cd_kernel.specs.Alternatives.{HasAlternatives}
use Rattle.cd_kernel.specs.Copies.{Types, AreTypes, IsAt}
use Rattle.cd_kernel.specs.Making.{the_types, IsKernelOf, IsMade}
use Rattle.cd_kernel.specs.Parts as part
use Rattle.cd_kernel.specs.Parts.{IsPart, HasNoMore}
use Rattle.cd_kernel.specs.WellMade.{IsWellMade}
use Rattle.cd_kernel.proofs.AnyOrder.{all_among, EachTwo}
use Rattle.cd_kernel.proofs.Pieces.{kept_of, Piece, made, Allowed, SubPiece, FieldIs}
use Rattle.cd_kernel.proofs.Pieces.{FieldsBindDisjoint, Shape, IsCopyOf}
use Rattle.cd_kernel.proofs.BindsNoMore.{sub_pieces, binds_no_more}
use Rattle.cd_kernel.proofs.CompletePatterns.{complete}
use Rattle.cd_kernel.proofs.CopyPieces.{row_state, copies_of}
use Rattle.cd_kernel.proofs.PatternPieces.{good}
use Rattle.cd_kernel.proofs.PiecesBind.{pieces_bind}
use Rattle.cd_kernel.proofs.PlainVariables.{Names}
use Rattle.cd_kernel.proofs.VariableNumbers.{number_within, same_numbers}

-- a fact of each thing of a list, by its number
all_by_number : {A : Type 0} (P : A → Type 0) (xs : List A)
    → ((number : ℕ) (x : A) → slice_get xs number ≡ Some x → P x) → AllOf P xs
all_by_number P [] each = tt
all_by_number P (x ∷ xs) each =
    (each 0 x refl, all_by_number P xs (λ number y there. each (suc number) y there))

module _ {T : Type 0} (IsType : T → Type 0) (types : Types T) (variables : List Name)
    (nodes : List (KernelNode T)) (are_types : AreTypes IsType types) where
  abbrev a_piece : Names → ℕ → Type 0
  a_piece = Piece IsType types variables nodes

  two_disjoint : (first second : Names) (one other : ℕ) → a_piece first one → a_piece second other
      → AreDisjointNames first second → (variable : ℕ) → Binds nodes variable one
      → Binds nodes variable other → ⊥
  two_disjoint first second one other p q apart variable binds_one binds_other =
      let x = binds_no_more IsType types variables nodes are_types variable one binds_one first p in
      let y = binds_no_more IsType types variables nodes are_types variable other binds_other second
      q in
      true≢false (sym y.2 ∙ ap second (sym (same_numbers variables x.0 y.0 variable x.1 y.1))
      ∙ apart x.0 x.2)

  pair_disjoint : (first second : Names) (one other : ℕ) → a_piece first one → a_piece second other
      → AreDisjointNames first second → BindDisjoint nodes (one ∷ other ∷ [])
  pair_disjoint first second one other p q apart = (
    λ variable bound. (two_disjoint first second one other p q apart variable bound, tt),
    (λ variable bound. tt, tt),
  )

  within : (bound : Names) (all : List ℕ)
      → AllOf (Allowed IsType types variables nodes bound) all
      → AllOf (λ variable. variable < length variables) all
  within bound [] allowed = tt
  within bound (variable ∷ rest) ((name, is_number, h), allowed) =
      (number_within variables name variable is_number, within bound rest allowed)

  one_disjoint : (label : Name) (number : ℕ) (fields : List (Name × KernelField T))
      → AllOf (FieldsBindDisjoint IsType types variables nodes (label, Present number)) fields
      → (variable : ℕ) → Binds nodes variable number
      → AllOf (λ other. Binds nodes variable other → ⊥) (field_nodes fields)
  one_disjoint label number [] all variable bound = tt
  one_disjoint label number ((name, Present other) ∷ fields) ((a, b, p, q, apart), all) variable bound
      = (
        two_disjoint a b number other p q apart variable bound,
        one_disjoint label number fields all variable bound,
      )
  one_disjoint label number ((name, Optional type) ∷ fields) all variable bound =
      one_disjoint label number fields all.1 variable bound

  fields_disjoint : (fields : List (Name × KernelField T))
      → EachTwo (FieldsBindDisjoint IsType types variables nodes) fields
      → BindDisjoint nodes (field_nodes fields)
  fields_disjoint [] two = tt
  fields_disjoint ((label, Present number) ∷ fields) two =
      (one_disjoint label number fields two.0, fields_disjoint fields two.1)
  fields_disjoint ((label, Optional type) ∷ fields) two = fields_disjoint fields two.1

  fields_types : (bound : Names) (fields : List (Name × KernelField T))
      → AllOf (FieldIs IsType types variables nodes bound) fields
      → AllOf IsType (optional_types fields)
  fields_types bound [] all = tt
  fields_types bound ((label, Present number) ∷ fields) all = fields_types bound fields all.1
  fields_types bound ((label, Optional type) ∷ fields) all =
      (all.0, fields_types bound fields all.1)

  sound_node : (bound : Names) (node : KernelNode T)
      → AllOf (Allowed IsType types variables nodes bound) (variables_of node)
      → Shape IsType types variables nodes bound node
      → IsSoundNode nodes (length variables) IsType node
  sound_node bound (Test type) allowed shape = shape
  sound_node bound (Bind variable) allowed shape = (within bound (variable ∷ []) allowed).0
  sound_node bound (Put variable constant) allowed shape =
      ((within bound (variable ∷ []) allowed).0, shape)
  sound_node bound (Pair one other) allowed (a, b, p, q, apart, sub) =
      pair_disjoint a b one other p q apart
  sound_node bound (Xml one other last) allowed (a, b, c, p, q, r, apart, too, sub) = (
    λ variable binds_one. (
      two_disjoint a b one other p q (λ name h. (or_parts (b name) (c name) (apart name h)).0)
          variable binds_one,
      (
        two_disjoint a c one last p r (λ name h. (or_parts (b name) (c name) (apart name h)).1)
            variable binds_one,
        tt,
      ),
    ),
    pair_disjoint b c other last q r too,
  )
  sound_node bound (Record fields more) allowed (labels, all, apart) =
      (labels, fields_disjoint fields apart, fields_types bound fields all)
  sound_node bound (Both one other) allowed (a, b, p, q, apart, sub) =
      pair_disjoint a b one other p q apart
  sound_node bound (First one other) allowed (a, b, p, q, same, sub) = λ variable. (
    λ h. let found = binds_no_more IsType types variables nodes are_types variable one h a p in
        pieces_bind IsType types variables nodes are_types b other q found.0 variable found.1
        (sym (same found.0) ∙ found.2),
    λ h. let found = binds_no_more IsType types variables nodes are_types variable other h b q in
        pieces_bind IsType types variables nodes are_types a one p found.0 variable found.1
        (same found.0 ∙ found.2),
  )
  sound_node bound (Gather variable one other) allowed
      (a, b, p, q, apart, sub, (name, is_number, has)) = (
        (within bound (variable ∷ []) allowed).0,
        pair_disjoint a b one other p q apart,
        (λ h. two_disjoint a b one other p q apart variable h
            (pieces_bind IsType types variables nodes are_types b other q name variable is_number
            has)),
        pieces_bind IsType types variables nodes are_types b other q name variable is_number has,
      )

  parts_are : (number : ℕ) → IsPart IsType types variables nodes number
      → (bound : Names) × a_piece bound number
  parts_are _ (part.made keeps p number is named fits others) =
      (kept_of keeps (binds p), made keeps p number (is, named, complete IsType p fits others))
  parts_are _ (part.state keeps r copies copy root place number of are items named fits others one
      is_item is_number) =
      let found = row_state IsType types variables nodes keeps r copy
      (all_among (IsCopyOf IsType types variables nodes keeps r) copies copy
      (copies_of IsType types variables nodes are_types keeps r copies root are named
      (complete IsType (Sequence r) fits others) items)
      one) place number of is_number is_item in (_, found.2)
  parts_are _ (part.next number next_number node is there one) =
      let piece = parts_are number is in
      let fine = good IsType types variables nodes are_types piece.0 number piece.1 in
      let found = all_among (SubPiece IsType types variables nodes piece.0)
      (leads_to node ++ parts_of node) next_number
      (sub_pieces IsType types variables nodes are_types piece.0 node
      (subst (Shape IsType types variables nodes piece.0)
      (same_Some fine.0 node (sym fine.1 ∙ there)) fine.3)) one in (found.0, found.1)

  piece_within : (bound : Names) (number : ℕ) → a_piece bound number → number < length nodes
  piece_within bound number piece =
      let fine = good IsType types variables nodes are_types bound number piece in
      slice_get_within nodes number fine.0 fine.1

  all_within : (bound : Names) (all : List ℕ)
      → AllOf (SubPiece IsType types variables nodes bound) all
      → AllOf (λ number. number < length nodes) all
  all_within bound [] all = tt
  all_within bound (number ∷ rest) ((part, piece, sub), all) =
      (piece_within part number piece, all_within bound rest all)

  module _ (parts : (number : ℕ) → number < length nodes
      → IsPart IsType types variables nodes number) where
    shape_at : (number : ℕ) (node : KernelNode T) → IsAt nodes number node
        → (bound : Names) × AllOf (Allowed IsType types variables nodes bound) (variables_of node)
        × Shape IsType types variables nodes bound node
    shape_at number node there =
        let piece = parts_are number (parts number (slice_get_within nodes number node there)) in
        let fine = good IsType types variables nodes are_types piece.0 number piece.1 in
        let same = same_Some fine.0 node (sym fine.1 ∙ there) in (
          piece.0,
          subst (λ (n : KernelNode T). AllOf (Allowed IsType types variables nodes piece.0)
              (variables_of n)) same fine.2,
          subst (Shape IsType types variables nodes piece.0) same fine.3,
        )

    each_sound : AllOf (IsSoundNode nodes (length variables) IsType) nodes
    each_sound = all_by_number (IsSoundNode nodes (length variables) IsType) nodes
        (λ number node there. let shape = shape_at number node there in
        sound_node shape.0 node shape.1 shape.2)

    each_within : AllOf
        (λ node. AllOf (λ number. number < length nodes) (leads_to node ++ parts_of node)) nodes
    each_within = all_by_number
        (λ node. AllOf (λ number. number < length nodes) (leads_to node ++ parts_of node)) nodes
        (λ number node there. let shape = shape_at number node there in
        all_within shape.0 (leads_to node ++ parts_of node)
        (sub_pieces IsType types variables nodes are_types shape.0 node shape.2))

pub made_is_sound : {T : Type 0} (IsType : T → Type 0) (types : Types T) (p : Pattern T)
    (kernel : Kernel T) → AreTypes IsType types
    → IsKernelOf types kernel.variables kernel.nodes (λ name. true) p kernel.root
    → ((number : ℕ) → number < length kernel.nodes
    → Ends kernel.nodes (length kernel.nodes) number)
    → IsNamed p → IsWellMade IsType p → HasAlternatives p → HasNoMore IsType types p kernel
    → IsSound IsType kernel
made_is_sound IsType types p kernel are_types is ends named fits others no_more = record {
  root = piece_within IsType types kernel.variables kernel.nodes are_types
      (kept_of (λ name. true) (binds p)) kernel.root piece;
  parts = each_within IsType types kernel.variables kernel.nodes are_types no_more.parts;
  nodes = each_sound IsType types kernel.variables kernel.nodes are_types no_more.parts;
  ends = ends;
  binds = λ variable within. let found = no_more.variables variable within in
      pieces_bind IsType types kernel.variables kernel.nodes are_types
      (kept_of (λ name. true) (binds p)) kernel.root piece found.0 variable found.1 found.2;
}
  where
    piece : Piece IsType types kernel.variables kernel.nodes (kept_of (λ name. true) (binds p))
        kernel.root
    piece = made (λ name. true) p kernel.root (is, named, complete IsType p fits others)

-- where a graph has the built-in nodes at least
pub kernels_are_sound : (n : ℕ) (p : Pattern NodeId) (kernel : Kernel NodeId)
    → length built_ins ≤ n → IsMade p kernel → IsNamed p → IsWellMade (λ id. id.0 < n) p
    → HasAlternatives p → HasNoMore (λ id. id.0 < n) the_types p kernel
    → IsSound (λ id. id.0 < n) kernel
kernels_are_sound n p kernel long is named fits others no_more =
    made_is_sound (λ id. id.0 < n) the_types p kernel (are_types n long) is.made is.ends named fits
    others no_more
  where
    are_types : (n : ℕ) → 14 ≤ n → (13 < n) × (1 < n) × (0 < n)
    are_types n long = (omega (arith, long), omega (arith, long), omega (arith, long))
