-- The node of each piece: it is what the piece is made of.
use Rattle.std.proofs.Common.{◌≡◌, ℕ, Bool, true, false, ◌||◌, ◌&&◌, List, [], ◌∷◌}
use Rattle.std.proofs.Common.{refl, sym, ap, subst, ◌∙◌, bytes_eq}
use Rattle.std.proofs.lemmas.Bool.{or_left, or_right, and_parts, or_parts, and_from}
use Rattle.cd_syntax.specs.Name.{Name}
use Rattle.cd_syntax.specs.declared.constant.Constant.TheVariants as constant
use Rattle.cd_model.specs.AllOf.{AllOf}
use Rattle.cd_matching.specs.Kernel.{KernelNode, KernelField, Present, Optional, Test, Bind, Put}
use Rattle.cd_matching.specs.Kernel.{Pair, Xml, Record, Both, First, variables_of}
use Rattle.cd_matching.specs.Naming.{AreDisjointNames, FieldsDisjoint, AreNamedDisjoint}
use Rattle.cd_matching.specs.Naming.{AreNamedAs, AreNamedFields}
use Rattle.cd_matching.specs.Pattern as pattern
use Rattle.cd_matching.specs.Pattern.{Pattern, Patterns, NoPattern, APattern, Fields, NoField}
use Rattle.cd_matching.specs.Pattern.{Regular, Regulars, NoRegular, ARegular, Sequence}
use Rattle.cd_matching.specs.Variables.{binds, all_bind, fields_bind}
use Rattle.cd_matching.specs.Variables.{regular_binds}
use Rattle.cd_matching.proofs.NilIsElement.{nil_is_element}
use Rattle.cd_kernel.specs.Copies.{Types, AreTypes}
use Rattle.cd_kernel.specs.Making.{IsChainOr, IsPut, AreKernelsOf, AreFieldsOf}
use Rattle.cd_kernel.proofs.ChainPieces.{GoodPiece, BindInTurn, both_good, first_good}
use Rattle.cd_kernel.proofs.CompletePatterns.{AreComplete, AreCompleteFields}
use Rattle.cd_kernel.proofs.AnyOrder.{all_reordered, EachTwo, two_reordered}
use Rattle.cd_kernel.proofs.PlainVariables.{Names, either}
use Rattle.cd_kernel.proofs.VariableNumbers.{name_itself}
use Rattle.cd_kernel.proofs.Pieces.{Within, disjoint_turned, kept_of, kept_within, kept_either}
use Rattle.cd_kernel.proofs.Pieces.{kept_three, kept_disjoint, any_of, copies_bind, ItemMade, Piece}
use Rattle.cd_kernel.proofs.Pieces.{test_of, put_of, made, both_of, first_of, puts_of, state_of}
use Rattle.cd_kernel.proofs.Pieces.{move_of, Allowed, FieldIs, FieldsBindDisjoint, Shape, Good}
use Rattle.cd_kernel.proofs.Pieces.{wider}
use Rattle.cd_kernel.proofs.CopyPieces.{good_puts, good_move, good_state, good_joined, copies_of}
use Rattle.cd_kernel.proofs.CopyPieces.{copies_within}

module _ {T : Type 0} (IsType : T → Type 0) (types : Types T) (variables : List Name)
    (nodes : List (KernelNode T)) where
  abbrev a_piece : Names → ℕ → Type 0
  a_piece = Piece IsType types variables nodes

  abbrev is_good : Names → ℕ → Type 0
  is_good = Good IsType types variables nodes

  abbrev made_item : Names → Pattern T → ℕ → Type 0
  made_item = ItemMade IsType types variables nodes

  abbrev is_field : Names → Name × KernelField T → Type 0
  is_field = FieldIs IsType types variables nodes

  abbrev bind_disjoint : (one other : Name × KernelField T) → Type 0
  bind_disjoint = FieldsBindDisjoint IsType types variables nodes

  abbrev is_allowed : Names → ℕ → Type 0
  is_allowed = Allowed IsType types variables nodes

  module _ (are_types : AreTypes IsType types) where
    -- variables
    good_put : (b : Bool) (keeps : Names) (name : Name) (node : ℕ → KernelNode T) (number : ℕ)
        → keeps name ≡ b → IsPut types variables nodes b name node number
        → ((variable : ℕ) → (variables_of (node variable) ≡ variable ∷ [])
        × Shape IsType types variables nodes (kept_of keeps (bytes_eq name)) (node variable))
        → is_good (kept_of keeps (bytes_eq name)) number
    good_put true keeps name node number is (variable, is_number, there) plain = (
      node variable,
      there,
      subst (AllOf (is_allowed (kept_of keeps (bytes_eq name)))) (sym (plain variable).0) (
        (name, is_number, and_from (keeps name) (bytes_eq name name) is (name_itself name)),
        tt,
      ),
      (plain variable).1,
    )
    good_put false keeps name node number is there plain =
        (Test types.any, there, tt, are_types.1)

    -- fields
    fields_are : (keeps bound : Names) (fields : Fields T) (written : List (Name × KernelField T))
        → AreFieldsOf types variables nodes keeps fields written → AreNamedFields fields
        → AreCompleteFields IsType fields → Within (kept_of keeps (fields_bind fields)) bound
        → AllOf (is_field bound) written
    fields_are keeps bound NoField written same named fits within =
        subst (AllOf (is_field bound)) (sym same) tt
    fields_are keeps bound (pattern.Present label p rest) written (number, others, same, is, are)
        named fits within = subst (AllOf (is_field bound)) (sym same) (
          (
            kept_of keeps (binds p),
            made keeps p number (is, named.0, fits.0),
            λ name h. within name (kept_within keeps (binds p) (either (binds p) (fields_bind rest))
                (λ other. or_left (binds p other) (fields_bind rest other)) name h),
          ),
          fields_are keeps bound rest others are named.1 fits.1
              (λ name h. within name
              (kept_within keeps (fields_bind rest) (either (binds p) (fields_bind rest))
              (λ other. or_right (binds p other) (fields_bind rest other)) name h)),
        )
    fields_are keeps bound (pattern.Optional label type rest) written (others, same, are) named
        fits within = subst (AllOf (is_field bound)) (sym same)
        (fits.0, fields_are keeps bound rest others are named fits.1 within)

    one_field_disjoint : (keeps first : Names) (label : Name) (number : ℕ)
        → a_piece (kept_of keeps first) number
        → (fields : Fields T) (written : List (Name × KernelField T))
        → AreFieldsOf types variables nodes keeps fields written → AreNamedFields fields
        → AreCompleteFields IsType fields → AreDisjointNames first (fields_bind fields)
        → AllOf (bind_disjoint (label, Present number)) written
    one_field_disjoint keeps first label number piece NoField written same named fits apart =
        subst (AllOf (bind_disjoint (label, Present number))) (sym same) tt
    one_field_disjoint keeps first label number piece (pattern.Present name p rest) written
        (other, others, same, is, are) named fits apart =
        subst (AllOf (bind_disjoint (label, Present number))) (sym same) (
          (
            kept_of keeps first,
            kept_of keeps (binds p),
            piece,
            made keeps p other (is, named.0, fits.0),
            kept_disjoint keeps first (binds p)
                (λ variable h. (or_parts (binds p variable) (fields_bind rest variable)
                (apart variable h)).0),
          ),
          one_field_disjoint keeps first label number piece rest others are named.1 fits.1
              (λ variable h. (or_parts (binds p variable) (fields_bind rest variable)
              (apart variable h)).1),
        )
    one_field_disjoint keeps first label number piece (pattern.Optional name type rest) written
        (others, same, are) named fits apart =
        subst (AllOf (bind_disjoint (label, Present number))) (sym same)
        (tt, one_field_disjoint keeps first label number piece rest others are named fits.1 apart)

    absent_disjoint : (label : Name) (type : T) (written : List (Name × KernelField T))
        → AllOf (bind_disjoint (label, Optional type)) written
    absent_disjoint label type [] = tt
    absent_disjoint label type ((name, Present number) ∷ written) =
        (tt, absent_disjoint label type written)
    absent_disjoint label type ((name, Optional other) ∷ written) =
        (tt, absent_disjoint label type written)

    fields_disjoint : (keeps : Names) (fields : Fields T) (written : List (Name × KernelField T))
        → AreFieldsOf types variables nodes keeps fields written → AreNamedFields fields
        → AreCompleteFields IsType fields → FieldsDisjoint fields → EachTwo bind_disjoint written
    fields_disjoint keeps NoField written same named fits apart =
        subst (EachTwo bind_disjoint) (sym same) tt
    fields_disjoint keeps (pattern.Present label p rest) written (number, others, same, is, are) named
        fits apart = subst (EachTwo bind_disjoint) (sym same) (
          one_field_disjoint keeps (binds p) label number (made keeps p number (is, named.0, fits.0))
              rest
              others are named.1 fits.1 apart.0,
          fields_disjoint keeps rest others are named.1 fits.1 apart.1,
        )
    fields_disjoint keeps (pattern.Optional label type rest) written (others, same, are) named fits
        apart = subst (EachTwo bind_disjoint) (sym same)
        (absent_disjoint label type others, fields_disjoint keeps rest others are named fits.1 apart)

    disjoint_either_way : (one other : Name × KernelField T) → bind_disjoint one other
        → bind_disjoint other one
    disjoint_either_way (label, Present number) (name, Present other) (a, b, p, q, apart) =
        (b, a, q, p, disjoint_turned a b apart)
    disjoint_either_way (label, Present number) (name, Optional type) apart = tt
    disjoint_either_way (label, Optional type) (name, Present number) apart = tt
    disjoint_either_way (label, Optional type) (name, Optional other) apart = tt

    -- what some patterns bind
    abbrev bounds_of : (keeps : Names) → Patterns T → List Names
    bounds_of keeps NoPattern = []
    bounds_of keeps (APattern p rest) = kept_of keeps (binds p) ∷ bounds_of keeps rest

    bounds_are : (keeps : Names) (all : Patterns T) (name : Name)
        → any_of (bounds_of keeps all) name ≡ kept_of keeps (all_bind all) name
    bounds_are keeps NoPattern name = by_bool (keeps name)
      where
        by_bool : (k : Bool) → false ≡ (k && false)
        by_bool true = refl
        by_bool false = refl
    bounds_are keeps (APattern p rest) name =
        ap ((keeps name && binds p name) ||◌) (bounds_are keeps rest name)
        ∙ by_bool (keeps name) (binds p name) (all_bind rest name)
      where
        by_bool : (k a b : Bool) → ((k && a) || (k && b)) ≡ (k && (a || b))
        by_bool true a b = refl
        by_bool false a b = refl

    good_both : (bounds : List Names) (numbers : List ℕ) (number : ℕ)
        → IsChainOr types variables nodes Both types.any numbers number
        → BindInTurn IsType types variables nodes bounds numbers → is_good (any_of bounds) number
    good_both [] [] number there are = (Test types.any, there, tt, are_types.1)
    good_both (bound ∷ more) [] number there are = absurd are
    good_both bounds (first ∷ rest) number chain are =
        both_good IsType types variables nodes (first ∷ rest) number chain bounds are

    -- patterns
    mutual
      good_made : (keeps : Names) (p : Pattern T) (number : ℕ) → made_item keeps p number
          → is_good (kept_of keeps (binds p)) number
      good_made keeps (pattern.OfType type) number (there, named, fits) =
          (Test type, there, tt, fits)
      good_made keeps (pattern.Bind name) number (there, named, fits) =
          good_put (keeps name) keeps name Bind number refl there (λ variable. (refl, tt))
      good_made keeps (pattern.Default name constant) number (there, named, fits) =
          good_put (keeps name) keeps name (λ variable. Put variable constant) number refl there
          (λ variable. (refl, fits))
      good_made keeps (pattern.Pair p q) number ((one, other, there, a, b), named, fits) = (
        Pair one other,
        there,
        tt,
        (
          kept_of keeps (binds p),
          kept_of keeps (binds q),
          made keeps p one (a, named.1, fits.0),
          made keeps q other (b, named.2, fits.1),
          kept_disjoint keeps (binds p) (binds q) named.0,
          λ name. kept_either (keeps name) (binds p name) (binds q name),
        ),
      )
      good_made keeps (pattern.Xml p q r) number
          ((one, other, last, there, a, b, c), named, fits) = (
            Xml one other last,
            there,
            tt,
            (
              kept_of keeps (binds p),
              kept_of keeps (binds q),
              kept_of keeps (binds r),
              made keeps p one (a, named.2, fits.0),
              made keeps q other (b, named.3, fits.1),
              made keeps r last (c, named.4, fits.2),
              λ name h. by_kept (keeps name) (binds q name) (binds r name)
                  (named.0 name (and_parts (keeps name) (binds p name) h).1),
              kept_disjoint keeps (binds q) (binds r) named.1,
              λ name. kept_three (keeps name) (binds p name) (binds q name) (binds r name),
            ),
          )
        where
          by_kept : (k b c : Bool) → (b || c) ≡ false → ((k && b) || (k && c)) ≡ false
          by_kept true b c h = h
          by_kept false b c h = refl
      good_made keeps (pattern.Record fields more) number
          ((written, rising, there, order, labels, apart, are), named, fits) = (
            Record rising more,
            there,
            tt,
            (
              labels,
              all_reordered (is_field (kept_of keeps (fields_bind fields))) written rising order
                  (fields_are keeps (kept_of keeps (fields_bind fields)) fields written are named.2
                  fits
                  (λ name h. h)),
              two_reordered bind_disjoint disjoint_either_way written rising order
                  (fields_disjoint keeps fields written are named.2 fits named.1),
            ),
          )
      good_made keeps (pattern.Both all) number ((numbers, are, chain), named, fits) =
          wider IsType types variables nodes (any_of (bounds_of keeps all))
          (kept_of keeps (all_bind all)) (λ name h. sym (bounds_are keeps all name) ∙ h) number
          (good_both (bounds_of keeps all) numbers number chain
          (in_turn keeps all numbers are named fits))
      good_made keeps (pattern.First NoPattern) number (([], are, there), named, fits) =
          (Test types.empty, there, tt, are_types.2)
      good_made keeps (pattern.First NoPattern) number ((first ∷ rest, are, chain), named, fits) =
          absurd are
      good_made keeps (pattern.First (APattern p rest)) number (([], are, there), named, fits) =
          absurd are
      good_made keeps (pattern.First (APattern p rest)) number
          ((one ∷ others, are, chain), named, fits) =
          wider IsType types variables nodes (kept_of keeps (binds p))
          (kept_of keeps (all_bind (APattern p rest)))
          (kept_within keeps (binds p) (all_bind (APattern p rest))
          (λ name. or_left (binds p name) (all_bind rest name))) number
          (first_good IsType types variables nodes (kept_of keeps (binds p)) (one ∷ others) number
          chain (
            (
              made keeps p one (are.0, named.0, fits.0),
              good_made keeps p one (are.0, named.0, fits.0),
            ),
            alike keeps (binds p) rest others are.1 named.1 fits.1,
          ))
      good_made keeps (pattern.Sequence r) number ((copies, are, items), named, fits) =
          let of = copies_of IsType types variables nodes are_types keeps r copies number are named
          fits items in
          wider IsType types variables nodes (copies_bind keeps r copies)
          (kept_of keeps (regular_binds r))
          (copies_within IsType types variables nodes are_types keeps r copies of) number
          (good_joined IsType types variables nodes are_types keeps r copies number are.joined
          of are.disjoint)

      -- the members of a Both, and those of a First, which bind the same
      in_turn : (keeps : Names) (all : Patterns T) (numbers : List ℕ)
          → AreKernelsOf types variables nodes keeps all numbers → AreNamedDisjoint all
          → AreComplete IsType all
          → BindInTurn IsType types variables nodes (bounds_of keeps all) numbers
      in_turn keeps NoPattern [] are named fits = tt
      in_turn keeps NoPattern (number ∷ numbers) are named fits = absurd are
      in_turn keeps (APattern p rest) [] are named fits = absurd are
      in_turn keeps (APattern p rest) (number ∷ numbers) are named fits = (
        (
          made keeps p number (are.0, named.1, fits.0),
          good_made keeps p number (are.0, named.1, fits.0),
        ),
        (λ name h. bounds_are keeps rest name
            ∙ kept_disjoint keeps (binds p) (all_bind rest) named.0 name h),
        in_turn keeps rest numbers are.1 named.2 fits.1,
      )

      alike : (keeps bound : Names) (all : Patterns T) (numbers : List ℕ)
          → AreKernelsOf types variables nodes keeps all numbers → AreNamedAs bound all
          → AreComplete IsType all
          → AllOf (GoodPiece IsType types variables nodes (kept_of keeps bound)) numbers
      alike keeps bound NoPattern [] are named fits = tt
      alike keeps bound NoPattern (number ∷ numbers) are named fits = absurd are
      alike keeps bound (APattern p rest) [] are named fits = absurd are
      alike keeps bound (APattern p rest) (number ∷ numbers) are named fits = (
        subst (λ (b : Names). GoodPiece IsType types variables nodes (kept_of keeps b) number)
            (λ i name. named.0 name i) (
              made keeps p number (are.0, named.1, fits.0),
              good_made keeps p number (are.0, named.1, fits.0),
            ),
        alike keeps bound rest numbers are.1 named.2 fits.1,
      )

    pub good : (bound : Names) (number : ℕ) → a_piece bound number → is_good bound number
    good _ _ (test_of type number there is) = (Test type, there, tt, is)
    good _ _ (put_of name variable number is_number there) =
        (Put variable constant.Nil, there, ((name, is_number, name_itself name), tt), nil_is_element)
    good _ _ (made keeps p number is) = good_made keeps p number is
    good _ _ (both_of first second one other number there p q apart) =
        (Both one other, there, tt, (first, second, p, q, apart, λ name h. h))
    good _ _ (first_of bound one other number there p q) =
        (First one other, there, tt, (bound, bound, p, q, (λ name. refl), λ name h. h))
    good _ _ (puts_of type names number there is distinct) =
        good_puts IsType types variables nodes type names number there is distinct
    good _ _ (state_of keeps r copy plain moves number of there fits has) =
        good_state IsType types variables nodes are_types keeps r copy plain moves number of there
        fits has
    good _ _ (move_of keeps r copy plain move number of there fits) =
        good_move IsType types variables nodes are_types keeps r copy plain move number of there
        fits
