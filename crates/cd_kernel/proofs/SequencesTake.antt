-- The copies of a sequence take it in the first way, and together have what that gives.
use Rattle.std.proofs.Common.{◌≡◌, ℕ, Bool, true, false, not, ◌||◌, ◌&&◌, List, [], ◌∷◌}
use Rattle.std.proofs.Common.{map, Option, Some, None, option_map, refl, sym, ap, ap₂}
use Rattle.std.proofs.Common.{◌∙◌, if◌then◌else◌}
use Rattle.std.proofs.lemmas.Bool.{true≢false, or_left, or_right}
use Rattle.cd_syntax.specs.Name.{Name}
use Rattle.cd_model.specs.AllOf.{AllOf}
use Rattle.cd_model.specs.Thing.{Thing}
use Rattle.cd_matching.specs.Captures.{Captures, or_else, both}
use Rattle.cd_matching.specs.Kernel.{KernelNode}
use Rattle.cd_matching.specs.Pattern as pattern
use Rattle.cd_matching.specs.Pattern.{Pattern, Patterns, NoPattern, APattern, Fields, NoField}
use Rattle.cd_matching.specs.Pattern.{Regular, Regulars, NoRegular, ARegular}
use Rattle.cd_matching.specs.Sequences.{sequence_of, items}
use Rattle.cd_matching.specs.Take.{captures_of, take_items}
use Rattle.cd_matching.specs.Take.{ways}
use Rattle.cd_matching.specs.Variables.{is_gathered}
use Rattle.cd_matching.specs.Ways.{Way}
use Rattle.cd_moves.specs.Automaton.{first_moves, once, run_whole}
use Rattle.cd_kernel.specs.Copies.{Types, is_among, Copy, in_a_group, one_is_plain, IsCopy}
use Rattle.cd_kernel.specs.Copies.{AreJoined}
use Rattle.cd_kernel.specs.Making.{inner, AreCopies}
use Rattle.cd_kernel.proofs.AnyOrder.{both_none}
use Rattle.cd_kernel.proofs.ChainsTake.{all_take, chain_of_both}
use Rattle.cd_kernel.proofs.ItemsByNumber.{ItemsHave, item_has}
use Rattle.cd_kernel.proofs.KeptCaptures.{kept}
use Rattle.cd_kernel.proofs.OrElse.{or_else_none}
use Rattle.cd_kernel.proofs.RunsWhole.{runs_first}
use Rattle.cd_kernel.proofs.StatesTake.{AreRight, of_copy, of_run, takes_named, TakesKept}
use Rattle.cd_kernel.proofs.StatesTake.{states_take}

module _ {T : Type 0} (test : T → Thing → Bool) (types : Types T) (variables : List Name)
    (nodes : List (KernelNode T)) (right : AreRight test types nodes) where
  abbrev taken_named : Thing → ℕ → Option (Captures Name)
  taken_named = takes_named test types variables nodes

  abbrev IsAlike : (Name → Bool) → Pattern T → ℕ → Type 0
  IsAlike = TakesKept test types variables nodes

  module _ (keeps : Name → Bool) where
    abbrev held : Option (Captures Name) → Option (Captures Name)
    held = option_map (kept keeps)

    module _ (r : Regular T) where
      abbrev in_copy : Copy → Name → Bool
      in_copy = inner keeps r

      abbrev copies_have : List Copy → Way → Captures Name
      copies_have [] way name = None
      copies_have (copy ∷ copies) way name =
          or_else (of_copy copy.group (in_copy copy) way name) (copies_have copies way name)

      abbrev runs : List Thing → Option Way
      runs all = run_whole T test r all

      abbrev all_run : List Copy → Option (List Thing) → Option (Captures Name)
      all_run copies None = None
      all_run copies (Some all) = option_map (copies_have copies) (runs all)

      joined_run : (copy : Copy) (copies : List Copy) (o : Option (List Thing))
          → both (of_run copy.group (in_copy copy) runs o) (all_run copies o)
          ≡ all_run (copy ∷ copies) o
      joined_run copy copies None = refl
      joined_run copy copies (Some all) = by_run (runs all)
        where
          by_run : (w : Option Way) → both (option_map (of_copy copy.group (in_copy copy)) w)
              (option_map (copies_have copies) w) ≡ option_map (copies_have (copy ∷ copies)) w
          by_run None = refl
          by_run (Some way) = refl

      last_run : (copy : Copy) (o : Option (List Thing))
          → of_run copy.group (in_copy copy) runs o ≡ all_run (copy ∷ []) o
      last_run copy None = refl
      last_run copy (Some all) = by_run (runs all)
        where
          by_run : (w : Option Way) → option_map (of_copy copy.group (in_copy copy)) w
              ≡ option_map (copies_have (copy ∷ [])) w
          by_run None = refl
          by_run (Some way) = λ i. Some (λ name.
              sym (or_else_none (of_copy copy.group (in_copy copy) way name)) i)

      module _ (d : Thing) where
        abbrev CopyTakes : Copy → Type 0
        CopyTakes copy = taken_named d copy.start
            ≡ of_run copy.group (in_copy copy) runs (items d)

        starts_take : (copy : Copy) (copies : List Copy) → AllOf CopyTakes (copy ∷ copies)
            → all_take test types variables nodes right d
            (map (λ one. one.start) (copy ∷ copies))
            ≡ all_run (copy ∷ copies) (items d)
        starts_take copy [] each =
            both_none (taken_named d copy.start) ∙ each.0 ∙ last_run copy (items d)
        starts_take copy (next ∷ copies) each =
            ap₂ both each.0 (starts_take next copies each.1) ∙ joined_run copy (next ∷ copies) (items d)

        copies_take : (copies : List Copy) (number : ℕ) → one_is_plain copies ≡ true
            → AreJoined types variables nodes copies number → AllOf CopyTakes copies
            → taken_named d number ≡ all_run copies (items d)
        copies_take [] number plain joined each = absurd (true≢false (sym plain))
        copies_take (copy ∷ copies) number plain joined each =
            chain_of_both test types variables nodes right d (map (λ one. one.start) (copy ∷ copies))
            number joined ∙ starts_take copy copies each

      -- what the copies have of one variable
      module _ (way : Way) (name : Name) where
        abbrev grouped : Bool → Bool → Option Thing
        grouped g b =
            if g then Some (sequence_of (way.gathered name)) else if b then way.plain name else None

        abbrev unbound : Bool
        unbound = keeps name && not (is_gathered r name)

        one_more : (g h a b k : Bool) → (g ≡ true → k ≡ false) → (h ≡ true → k ≡ false)
            → or_else (grouped g (a && k)) (grouped h (b && k))
            ≡ grouped (g || h) ((a || b) && k)
        one_more true h a b k one other = refl
        one_more false true true b true one other = absurd (true≢false (other refl))
        one_more false true true b false one other = refl
        one_more false true false b k one other = refl
        one_more false false true true true one other = again (way.plain name)
          where
            again : (o : Option Thing) → or_else o o ≡ o
            again None = refl
            again (Some x) = refl
        one_more false false true false true one other = or_else_none (way.plain name)
        one_more false false true true false one other = refl
        one_more false false true false false one other = refl
        one_more false false false b k one other = refl

        copies_name : (copies : List Copy) → (in_a_group copies name ≡ true → unbound ≡ false)
            → copies_have copies way name
            ≡ grouped (in_a_group copies name) (one_is_plain copies && unbound)
        copies_name [] hides = refl
        copies_name (copy ∷ copies) hides =
            ap (or_else (of_copy copy.group (in_copy copy) way name))
            (copies_name copies
            (λ h. hides (or_right (is_among copy.group name) (in_a_group copies name) h)))
            ∙ one_more (is_among copy.group name) (in_a_group copies name) copy.plain
            (one_is_plain copies) unbound
            (λ h. hides (or_left (is_among copy.group name) (in_a_group copies name) h))
            (λ h. hides (or_right (is_among copy.group name) (in_a_group copies name) h))

        hidden_by : (k g : Bool) → (k && g) ≡ true → (k && not g) ≡ false
        hidden_by true true h = refl
        hidden_by true false h = absurd (true≢false (sym h))
        hidden_by false g h = refl

        whole_name : (k g : Bool) → grouped (k && g) (true && (k && not g))
            ≡ (if k then if g then Some (sequence_of (way.gathered name)) else way.plain name
            else None)
        whole_name true true = refl
        whole_name true false = refl
        whole_name false g = refl

        all_name : (copies : List Copy) (number : ℕ)
            → AreCopies types variables nodes keeps r copies number
            → copies_have copies way name
            ≡ kept keeps (captures_of (is_gathered r) way) name
        all_name copies number are =
            copies_name copies
            (λ h. hidden_by (keeps name) (is_gathered r name) (sym (are.groups name) ∙ h))
            ∙ ap₂ (λ (g p : Bool). grouped g (p && unbound)) (are.groups name) are.plain
            ∙ whole_name (keeps name) (is_gathered r name)

      abbrev pub ItemsAlike : Copy → Type 0
      ItemsAlike copy = ItemsHave (IsAlike (in_copy copy)) copy.items r 0

      module _ (copies : List Copy) (number : ℕ)
          (are : AreCopies types variables nodes keeps r copies number) where
        hidden : (p k g : Bool) → (k && g) ≡ true → (p && (k && not g)) ≡ false
        hidden true true true h = refl
        hidden true true false h = absurd (true≢false (sym h))
        hidden true false g h = refl
        hidden false k g h = refl

        in_group : (some : List Copy)
            → ((name : Name) → in_a_group some name ≡ true → in_a_group copies name ≡ true)
            → (d : Thing) → AllOf (IsCopy types variables nodes r) some → AllOf ItemsAlike some
            → AllOf (CopyTakes d) some
        in_group [] within d each alike = tt
        in_group (copy ∷ some) within d each alike = (
          states_take test types variables nodes right r copy (in_copy copy) each.0
              (λ name h. hidden copy.plain (keeps name) (is_gathered r name)
              (sym (are.groups name)
              ∙ within name (or_left (is_among copy.group name) (in_a_group some name) h)))
              (item_has (IsAlike (in_copy copy)) copy.items r alike.0) d (once (first_moves r 0))
              copy.start each.0.starts,
          in_group some
              (λ name h. within name (or_right (is_among copy.group name) (in_a_group some name) h))
              d each.1 alike.1,
        )

        pub sequence_alike : AllOf ItemsAlike copies → IsAlike keeps (pattern.Sequence r) number
        sequence_alike alike d =
            copies_take d copies number are.plain are.joined
            (in_group copies (λ name h. h) d are.each alike) ∙ by_items (items d)
          where
            by_way : (w : Option Way) → option_map (copies_have copies) w
                ≡ held (option_map (captures_of (is_gathered r)) w)
            by_way None = refl
            by_way (Some way) = λ i. Some (λ name. all_name way name copies number are i)

            by_items : (o : Option (List Thing)) → all_run copies o
                ≡ held (take_items (is_gathered r) (ways T test r) o)
            by_items None = refl
            by_items (Some all) = by_way (runs all)
                ∙ ap (λ w. held (option_map (captures_of (is_gathered r)) w))
                (runs_first T test r all are.apart)
