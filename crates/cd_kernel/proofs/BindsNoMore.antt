-- A node binds no variables but those of what it is made of.
use Rattle.std.proofs.Common.{ℕ, ◌||◌, List, [], ◌∷◌, ◌++◌}
use Rattle.std.proofs.Common.{sym, subst, ◌∙◌}
use Rattle.std.proofs.lemmas.Bool.{or_left, or_right}
use Rattle.std.proofs.lemmas.Option.{same_Some}
use Rattle.cd_syntax.specs.Name.{Name}
use Rattle.cd_model.specs.AllOf.{AllOf}
use Rattle.cd_matching.specs.Kernel.{KernelNode, KernelField, Present, Optional, Test, Bind, Put}
use Rattle.cd_matching.specs.Kernel.{Pair, Xml, Record, Both, First, Gather, leads_to, parts_of}
use Rattle.cd_matching.specs.Kernel.{field_nodes, variables_of, Binds, itself, further}
use Rattle.cd_kernel.specs.Copies.{Types, AreTypes}
use Rattle.cd_kernel.proofs.AnyOrder.{all_among}
use Rattle.cd_kernel.proofs.PlainVariables.{Names}
use Rattle.cd_kernel.proofs.Pieces.{Piece}
use Rattle.cd_kernel.proofs.Pieces.{Allowed, SubPiece, FieldIs, Shape}
use Rattle.cd_kernel.proofs.PatternPieces.{good}

module _ {T : Type 0} (IsType : T → Type 0) (types : Types T) (variables : List Name)
    (nodes : List (KernelNode T)) where
  abbrev a_piece : Names → ℕ → Type 0
  a_piece = Piece IsType types variables nodes

  abbrev is_field : Names → Name × KernelField T → Type 0
  is_field = FieldIs IsType types variables nodes

  abbrev is_allowed : Names → ℕ → Type 0
  is_allowed = Allowed IsType types variables nodes

  abbrev sub_piece : Names → ℕ → Type 0
  sub_piece = SubPiece IsType types variables nodes

  module _ (are_types : AreTypes IsType types) where
    -- the nodes that it leads to are pieces
    field_pieces : (bound : Names) (fields : List (Name × KernelField T))
        → AllOf (is_field bound) fields → AllOf (sub_piece bound) (field_nodes fields)
    field_pieces bound [] all = tt
    field_pieces bound ((label, Present number) ∷ fields) all =
        (all.0, field_pieces bound fields all.1)
    field_pieces bound ((label, Optional type) ∷ fields) all = field_pieces bound fields all.1

    pub sub_pieces : (bound : Names) (node : KernelNode T)
        → Shape IsType types variables nodes bound node
        → AllOf (sub_piece bound) (leads_to node ++ parts_of node)
    sub_pieces bound (Test type) shape = tt
    sub_pieces bound (Bind variable) shape = tt
    sub_pieces bound (Put variable constant) shape = tt
    sub_pieces bound (Pair one other) (a, b, p, q, apart, sub) = (
      (a, p, λ name h. sub name (or_left (a name) (b name) h)),
      ((b, q, λ name h. sub name (or_right (a name) (b name) h)), tt),
    )
    sub_pieces bound (Xml one other last) (a, b, c, p, q, r, apart, too, sub) = (
      (a, p, λ name h. sub name (or_left (a name) (b name || c name) h)),
      (
        (
          b,
          q,
          λ name h. sub name (or_right (a name) (b name || c name)
              (or_left (b name) (c name) h)),
        ),
        (
          (
            c,
            r,
            λ name h. sub name (or_right (a name) (b name || c name)
                (or_right (b name) (c name) h)),
          ),
          tt,
        ),
      ),
    )
    sub_pieces bound (Record fields more) (labels, all, apart) = field_pieces bound fields all
    sub_pieces bound (Both one other) (a, b, p, q, apart, sub) = (
      (a, p, λ name h. sub name (or_left (a name) (b name) h)),
      ((b, q, λ name h. sub name (or_right (a name) (b name) h)), tt),
    )
    sub_pieces bound (First one other) (a, b, p, q, same, sub) =
        ((a, p, sub), ((b, q, λ name h. sub name (same name ∙ h)), tt))
    sub_pieces bound (Gather variable one other) (a, b, p, q, apart, sub, has) = (
      (a, p, λ name h. sub name (or_left (a name) (b name) h)),
      ((b, q, λ name h. sub name (or_right (a name) (b name) h)), tt),
    )

    -- by induction on how it binds
    pub binds_no_more : (variable number : ℕ) → Binds nodes variable number → (bound : Names)
        → a_piece bound number → is_allowed bound variable
    binds_no_more variable _ (itself number node there one) bound piece =
        let fine = good IsType types variables nodes are_types bound number piece in
        all_among (is_allowed bound) (variables_of node) variable
        (subst (λ (n : KernelNode T). AllOf (is_allowed bound) (variables_of n))
        (same_Some fine.0 node (sym fine.1 ∙ there)) fine.2) one
    binds_no_more variable _ (further number next node there one on) bound piece =
        let fine = good IsType types variables nodes are_types bound number piece in
        let part = all_among (sub_piece bound) (leads_to node ++ parts_of node) next
        (sub_pieces bound node (subst (Shape IsType types variables nodes bound)
        (same_Some fine.0 node (sym fine.1 ∙ there)) fine.3)) one in
        let found = binds_no_more variable next on part.0 part.1 in
        (found.0, found.1, part.2 found.0 found.2)
