-- A node takes what the pattern takes that it is made of, with the same captures.
use Rattle.std.proofs.Common.{◌≡◌, ℕ, ◌+◌, Bool, true, false, List, [], ◌∷◌}
use Rattle.std.proofs.Common.{Option, Some, option_map, refl, sym, ap, ap₂}
use Rattle.std.proofs.Common.{◌∙◌}
use Rattle.cd_syntax.specs.Name.{Name}
use Rattle.cd_model.specs.Thing as thing
use Rattle.cd_model.specs.Thing.{Thing}
use Rattle.cd_model.proofs.Ones.{each_weaker}
use Rattle.cd_matching.specs.Captures as captures
use Rattle.cd_matching.specs.Captures.{Captures, or_else, both, if_so}
use Rattle.cd_matching.specs.Kernel as kernel
use Rattle.cd_matching.specs.Kernel.{KernelNode, KernelField, Present, Optional, Bind, Put, Pair}
use Rattle.cd_matching.specs.Kernel.{Xml, Record, on_field, on_fields, is_named, taken, taken_at}
use Rattle.cd_matching.specs.Pattern as pattern
use Rattle.cd_matching.specs.Pattern.{Pattern, Patterns, NoPattern, APattern, Fields, NoField}
use Rattle.cd_matching.specs.Pattern.{Regular, Regulars, NoRegular, ARegular}
use Rattle.cd_matching.specs.Sequences.{thing_of}
use Rattle.cd_matching.specs.Take.{take, take_all, take_first}
use Rattle.cd_moves.specs.Automaton.{items_in}
use Rattle.cd_kernel.specs.Copies.{Types, IsAt}
use Rattle.cd_kernel.specs.Making.{inner, IsPut, IsKernelOf, AreKernelsOf, AreFieldsOf}
use Rattle.cd_kernel.specs.Making.{AreItemsOf, AreItemsOfAll}
use Rattle.cd_kernel.proofs.CapturesByName.{named, named_both, named_just}
use Rattle.cd_kernel.proofs.ChainsTake.{all_take, one_takes, both_takes, first_takes}
use Rattle.cd_kernel.proofs.ItemsByNumber.{ItemsHave, AllItemsHave}
use Rattle.cd_kernel.proofs.KeptCaptures.{kept, kept_both, kept_or, kept_so, kept_one}
use Rattle.cd_kernel.proofs.StatesTake.{AreRight, takes_named, TakesKept}
use Rattle.cd_kernel.proofs.StatesTake.{unfolds_at, takes_test}
use Rattle.cd_kernel.proofs.RecordsTake.{FieldsAlike, record_alike}
use Rattle.cd_kernel.proofs.SequencesTake.{ItemsAlike, sequence_alike}

module _ {T : Type 0} (test : T → Thing → Bool) (types : Types T) (variables : List Name)
    (nodes : List (KernelNode T)) (right : AreRight test types nodes) where
  abbrev taken_named : Thing → ℕ → Option (Captures Name)
  taken_named = takes_named test types variables nodes

  abbrev take_it : Pattern T → Thing → Option (Captures Name)
  take_it = take T test

  abbrev IsAlike : (Name → Bool) → Pattern T → ℕ → Type 0
  IsAlike = TakesKept test types variables nodes

  by_rule : (d : Thing) (number : ℕ) (node : KernelNode T) → IsAt nodes number node
      → taken T test nodes d number
      ≡ kernel.by_node T test nodes d (kernel.apart_of T test nodes d) (taken T test nodes d)
      (Some node)
  by_rule = unfolds_at test types variables nodes right

  -- variables
  puts_one : (b : Bool) (keeps : Name → Bool) (name : Name) (node : ℕ → KernelNode T) (number : ℕ)
      → keeps name ≡ b → IsPut types variables nodes b name node number → (d x : Thing)
      → ((variable : ℕ) → IsAt nodes number (node variable)
      → taken T test nodes d number ≡ Some (kernel.just variable x))
      → taken_named d number ≡ Some (kept keeps (captures.just name x))
  puts_one true keeps name node number is_kept (variable, is_number, there) d x by_node =
      ap (named variables) (by_node variable there) ∙ named_just variables name variable x is_number
      ∙ ap Some (sym (kept_one keeps name x true is_kept))
  puts_one false keeps name node number is_kept there d x by_node =
      takes_test test types variables nodes right d number types.any there
      ∙ ap if_so (right.any d) ∙ ap Some (sym (kept_one keeps name x false is_kept))

  module _ (keeps : Name → Bool) where
    abbrev held : Option (Captures Name) → Option (Captures Name)
    held = option_map (kept keeps)

    -- pairs
    pair_alike : (p q : Pattern T) (number one other : ℕ) → IsAt nodes number (Pair one other)
        → IsAlike keeps p one → IsAlike keeps q other → IsAlike keeps (pattern.Pair p q) number
    pair_alike p q number one other there a b d =
        ap (named variables) (by_rule d number (Pair one other) there) ∙ by_thing d
      where
        by_thing : (d : Thing)
            → named variables (kernel.apart_of T test nodes d (Pair one other))
            ≡ held (take_it (pattern.Pair p q) d)
        by_thing (thing.Pair first second) =
            named_both variables (taken T test nodes first one) (taken T test nodes second other)
            ∙ ap₂ both (a first) (b second)
            ∙ sym (kept_both keeps (take_it p first) (take_it q second))
        by_thing (thing.Integer n) = refl
        by_thing (thing.Character c) = refl
        by_thing (thing.Atom name) = refl
        by_thing (thing.Xml tag attributes content) = refl
        by_thing (thing.Record fields) = refl
        by_thing (thing.Function pairs) = refl
        by_thing (thing.Closure function environment) = refl

    -- XML things
    xml_alike : (p q r : Pattern T) (number one other last : ℕ)
        → IsAt nodes number (Xml one other last) → IsAlike keeps p one → IsAlike keeps q other
        → IsAlike keeps r last → IsAlike keeps (pattern.Xml p q r) number
    xml_alike p q r number one other last there a b c d =
        ap (named variables) (by_rule d number (Xml one other last) there) ∙ by_thing d
      where
        by_thing : (d : Thing)
            → named variables (kernel.apart_of T test nodes d (Xml one other last))
            ≡ held (take_it (pattern.Xml p q r) d)
        by_thing (thing.Xml tag attributes content) =
            named_both variables (taken T test nodes tag one)
            (both (taken T test nodes attributes other) (taken T test nodes content last))
            ∙ ap₂ both (a tag)
            (named_both variables (taken T test nodes attributes other)
            (taken T test nodes content last) ∙ ap₂ both (b attributes) (c content)
            ∙ sym (kept_both keeps (take_it q attributes) (take_it r content)))
            ∙ sym (kept_both keeps (take_it p tag)
            (both (take_it q attributes) (take_it r content)))
        by_thing (thing.Integer n) = refl
        by_thing (thing.Character c) = refl
        by_thing (thing.Atom name) = refl
        by_thing (thing.Pair first second) = refl
        by_thing (thing.Record fields) = refl
        by_thing (thing.Function pairs) = refl
        by_thing (thing.Closure function environment) = refl

  -- by recursion on the pattern
  mutual
    pub kernels_take : (keeps : Name → Bool) (p : Pattern T) (number : ℕ)
        → IsKernelOf types variables nodes keeps p number → IsAlike keeps p number
    kernels_take keeps (pattern.OfType type) number there = λ d.
        takes_test test types variables nodes right d number type there
        ∙ sym (kept_so keeps (test type d))
    kernels_take keeps (pattern.Bind name) number there = λ d.
        puts_one (keeps name) keeps name Bind number refl there d d
        (λ variable node. by_rule d number (Bind variable) node)
    kernels_take keeps (pattern.Default name constant) number there = λ d.
        puts_one (keeps name) keeps name (λ variable. Put variable constant) number refl there d
        (thing_of constant) (λ variable node. by_rule d number (Put variable constant) node)
    kernels_take keeps (pattern.Pair p q) number (one, other, there, a, b) =
        pair_alike keeps p q number one other there (kernels_take keeps p one a)
        (kernels_take keeps q other b)
    kernels_take keeps (pattern.Xml p q r) number (one, other, last, there, a, b, c) =
        xml_alike keeps p q r number one other last there (kernels_take keeps p one a)
        (kernels_take keeps q other b) (kernels_take keeps r last c)
    kernels_take keeps (pattern.Record fields more) number
        (written, rising, there, order, labels, apart, are) =
        record_alike test types variables nodes right keeps fields more number written rising there
        order apart
        (fields_alike keeps fields written are)
    kernels_take keeps (pattern.Both all) number (numbers, are, chain) = λ d.
        both_takes test types variables nodes right d numbers number chain
        ∙ all_take_alike keeps all numbers are d
    kernels_take keeps (pattern.First all) number (numbers, are, chain) = λ d.
        first_takes test types variables nodes right d numbers number chain
        ∙ one_takes_alike keeps all numbers are d
    kernels_take keeps (pattern.Sequence r) number (copies, are, each) =
        sequence_alike test types variables nodes right keeps r copies number are
        (each_weaker (λ copy. AreItemsOf types variables nodes (inner keeps r copy) copy.items r 0)
        (ItemsAlike test types variables nodes right keeps r)
        (λ copy. items_alike (inner keeps r copy) copy.items r 0) copies each)

    all_take_alike : (keeps : Name → Bool) (all : Patterns T) (numbers : List ℕ)
        → AreKernelsOf types variables nodes keeps all numbers → (d : Thing)
        → all_take test types variables nodes right d numbers
        ≡ option_map (kept keeps) (take_all T test all d)
    all_take_alike keeps NoPattern [] are = λ d. sym (kept_so keeps true)
    all_take_alike keeps NoPattern (number ∷ numbers) are = absurd are
    all_take_alike keeps (APattern p rest) [] are = absurd are
    all_take_alike keeps (APattern p rest) (number ∷ numbers) are = λ d.
        ap₂ both (kernels_take keeps p number are.0 d) (all_take_alike keeps rest numbers are.1 d)
        ∙ sym (kept_both keeps (take_it p d) (take_all T test rest d))

    one_takes_alike : (keeps : Name → Bool) (all : Patterns T) (numbers : List ℕ)
        → AreKernelsOf types variables nodes keeps all numbers → (d : Thing)
        → one_takes test types variables nodes right d numbers
        ≡ option_map (kept keeps) (take_first T test all d)
    one_takes_alike keeps NoPattern [] are = λ d. refl
    one_takes_alike keeps NoPattern (number ∷ numbers) are = absurd are
    one_takes_alike keeps (APattern p rest) [] are = absurd are
    one_takes_alike keeps (APattern p rest) (number ∷ numbers) are = λ d.
        ap₂ or_else (kernels_take keeps p number are.0 d)
        (one_takes_alike keeps rest numbers are.1 d)
        ∙ sym (kept_or keeps (take_it p d) (take_first T test rest d))

    fields_alike : (keeps : Name → Bool) (fields : Fields T)
        (written : List (Name × KernelField T))
        → AreFieldsOf types variables nodes keeps fields written
        → FieldsAlike test types variables nodes keeps fields written
    fields_alike keeps NoField written same = same
    fields_alike keeps (pattern.Present label p rest) written (number, others, same, a, b) =
        (number, others, same, kernels_take keeps p number a, fields_alike keeps rest others b)
    fields_alike keeps (pattern.Optional label type rest) written (others, same, b) =
        (others, same, fields_alike keeps rest others b)

    items_alike : (keeps : Name → Bool) (numbers : List ℕ) (r : Regular T) (before : ℕ)
        → AreItemsOf types variables nodes keeps numbers r before
        → ItemsHave (IsAlike keeps) numbers r before
    items_alike keeps numbers pattern.Nothing before are = tt
    items_alike keeps numbers (pattern.Item p) before (number, there, are) =
        (number, there, kernels_take keeps p number are)
    items_alike keeps numbers (pattern.Seq all) before are = all_alike keeps numbers all before are
    items_alike keeps numbers (pattern.Alt all) before are = all_alike keeps numbers all before are
    items_alike keeps numbers (pattern.Repeat r post) before are =
        items_alike keeps numbers r before are
    items_alike keeps numbers (pattern.Capture name r) before are =
        items_alike keeps numbers r before are

    all_alike : (keeps : Name → Bool) (numbers : List ℕ) (all : Regulars T) (before : ℕ)
        → AreItemsOfAll types variables nodes keeps numbers all before
        → AllItemsHave (IsAlike keeps) numbers all before
    all_alike keeps numbers NoRegular before are = tt
    all_alike keeps numbers (ARegular first rest) before are = (
      items_alike keeps numbers first before are.0,
      all_alike keeps numbers rest (before + items_in first) are.1,
    )
