-- What is in a type of sequences of one type, and in a record type of one field.
use Rattle.std.proofs.Common.{◌≡◌, ℕ, Bool, true, false, List, [], ◌∷◌, length, inl, refl, sym, ap, subst, bytes_eq, if◌then◌else◌}
use Rattle.cd_syntax.specs.Name.{Name}
use Rattle.cd_syntax.specs.declared.type_tree.Post.TheVariants as post
use Rattle.cd_model.specs.AllOf.{AllOf}
use Rattle.cd_model.specs.Language.{item, turns}
use Rattle.cd_model.specs.Thing.{Thing, NoField, Field}
use Rattle.cd_model.specs.Types.{Answers, FieldOf, field_of, Presentation, Mapping, Item, Repeat, Sequences, Listed}
use Rattle.cd_model.specs.Types.{reader, items, labelled, with_item, are_in, fits, chosen, answers}
use Rattle.cd_matching.specs.Sequences.{sequence_of}

module _ {X : Type 0} (at : Presentation X) (closed : ℕ → Mapping X) where
  -- things as what they answer
  abbrev answered : List Thing → List (Answers X)
  answered [] = []
  answered (d ∷ rest) = answers at closed d ∷ answered rest

  items_answered : (things : List Thing) → items at closed (sequence_of things) ≡ Listed (answered things)
  items_answered [] = refl
  items_answered (d ∷ rest) = ap (with_item (answers at closed d)) (items_answered rest)

  in_turns : (x : X) (d : Thing) (rest : List Thing) → answers at closed d x true → AllOf (λ e. answers at closed e x true) rest
      → turns (length (answered (d ∷ rest))) (item (λ (is : Answers X). is x)) (answered (d ∷ rest)) true
  in_turns x d [] is are = (is, refl)
  in_turns x d (e ∷ rest) is are = inl (is, in_turns x e rest are.0 are.1)

  -- a sequence of things of a type
  pub sequence_in : (x : X) (things : List Thing) → AllOf (λ e. answers at closed e x true) things
      → reader at closed (sequence_of things) (Sequences (Repeat (Item x) post.Star)) true
  sequence_in x [] are = refl
  sequence_in x (d ∷ rest) are =
      subst (λ all. are_in (with_item (answers at closed d) all) (fits (Repeat (Item x) post.Star)) true)
      (sym (items_answered rest)) (in_turns x d rest are.0 are.1)

  -- a record of one field answers rightly at each label
  pub one_field : (name : Name) (v : Thing) (field : FieldOf X) (rest : X) → answers at closed v field.type true
      → (label : Name) → labelled at closed (Field name v NoField) label (field_of ((name, field) ∷ []) rest label) true
  one_field name v field rest is label = by_test (bytes_eq name label)
    where
      by_test : (same : Bool)
          → chosen same
          (answers at closed v (if same then field else record { optional = true; type = rest }).type true)
          ((if same then field else record { optional = true; type = rest }).optional ≡ true)
      by_test true = is
      by_test false = refl
