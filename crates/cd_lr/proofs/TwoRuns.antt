-- Two runs, each at its own depth, over tokens that begin alike: where this one stops, the other one does not end.
use Rattle.std.proofs.Common.{◌≡◌, ◌-◌, ℕ, zero, suc, List, [], ◌∷◌, ◌++◌, length, refl, sym, ap, subst, ◌∙◌, arith, length-append}
use Rattle.std.specs.Prelude.{◌<◌, ◌≤◌, true, false, Bool}
use Rattle.cd_lr.specs.Grammar.{Grammar, fits}
use Rattle.cd_lr.specs.Automaton.{Action, Shift, Reduce, Accept, Refuse, Automaton, Cell, Config, Next, On, Done, Wrong, TooDeep, popped, state_of, room_of, look, pushed, shifted, shift, done, act, step, Reaches, here, on}
use Rattle.cd_lr.proofs.Depths.{fits_less}

-- stacks that differ in their rooms alone
module _ {Value : Type 0} (Fit : (room other : ℕ) → Type 0) where
  pub data Alike : List (Cell Value) → List (Cell Value) → Type 0 where
    empty : Alike [] []
    both_have : (state room room' : ℕ) (v : Value) (stack stack' : List (Cell Value)) → Fit room room'
        → Alike stack stack'
        → Alike (record { state = state; room = room; value = v } ∷ stack)
        (record { state = state; room = room'; value = v } ∷ stack')

  same_state : (stack stack' : List (Cell Value)) → Alike stack stack' → state_of stack ≡ state_of stack'
  same_state _ _ empty = refl
  same_state _ _ (both_have state room room' v stack stack' fit alike) = refl

  popped_alike : (n : ℕ) (values : List Value) (stack stack' : List (Cell Value)) → Alike stack stack'
      → ((popped n values stack).0 ≡ (popped n values stack').0)
      × Alike (popped n values stack).1 (popped n values stack').1
  popped_alike zero values stack stack' alike = (refl, alike)
  popped_alike (suc n) values _ _ empty = (refl, empty)
  popped_alike (suc n) values _ _ (both_have state room room' v stack stack' fit alike) =
      popped_alike n (v ∷ values) stack stack' alike

-- lists that end, or begin with the same token
pub data SameHeads {Token : Type 0} : List Token → List Token → Type 0 where
  both_end : SameHeads [] []
  both_begin : (t : Token) (later others : List Token) → SameHeads (t ∷ later) (t ∷ others)

module _ {Token Value : Type 0} (g : Grammar Token Value) (m : Automaton) (Fit : (room other : ℕ) → Type 0)
    (kept_fit : (room other opens : ℕ) → Fit room other → Fit (room - opens) (other - opens))
    (most other : ℕ) (fit : Fit most other) where
  rooms_fit : (stack stack' : List (Cell Value)) → Alike Fit stack stack'
      → Fit (room_of most stack) (room_of other stack')
  rooms_fit _ _ empty = fit
  rooms_fit _ _ (both_have state room room' v stack stack' fits alike) = fits

  pushed_alike : (p : ℕ) (found found' : List Value × List (Cell Value)) → found.0 ≡ found'.0
      → Alike Fit found.1 found'.1 → Alike Fit (pushed g m most p found) (pushed g m other p found')
  pushed_alike p found found' same alike =
      subst (λ s. Alike Fit (pushed g m most p found) (cell (m.goto s (g.left p)) (g.build p found'.0) ∷ found'.1))
      (same_state Fit found.1 found'.1 alike)
      (subst (λ vs. Alike Fit (pushed g m most p found)
      (cell (m.goto (state_of found.1) (g.left p)) (g.build p vs) ∷ found'.1)) same
      (both_have (m.goto (state_of found.1) (g.left p)) (room_of most found.1) (room_of other found'.1)
      (g.build p found.0) found.1 found'.1 (rooms_fit found.1 found'.1 alike) alike))
    where
      cell : (state : ℕ) (v : Value) → Cell Value
      cell s v = record { state = s; room = room_of other found'.1; value = v }

  -- a step leaves no more tokens than there were, and one that takes a token fewer
  after_shifted : (fit : Bool) (opens state : ℕ) (one : Token) (stack : List (Cell Value)) (rest : List Token)
      (d : Config Token Value) → shifted g m most fit opens state one stack rest ≡ On d → rest ≡ d.rest
  after_shifted true opens state one stack rest d is =
      let top : Cell Value = record { state = state; room = room_of most stack - opens; value = g.value one } in
      let same : record { stack = top ∷ stack; rest = rest } ≡ d = cc in
      ap (λ c. c.rest) same
  after_shifted false opens state one stack rest d is = absurd cc

  after_shift : (opens state : ℕ) (stack : List (Cell Value)) (rest : List Token) (d : Config Token Value)
      → shift g m most opens state stack rest ≡ On d → length d.rest < length rest
  after_shift opens state stack [] d is = absurd cc
  after_shift opens state stack (one ∷ rest) d is =
      let fit = fits (g.free one) opens (room_of most stack) in
      let same = ap length (after_shifted fit opens state one stack rest d is) in
      omega (arith, same)

  done_goes_not_on : (stack : List (Cell Value)) (d : Config Token Value) → done g m most stack ≡ On d → ⊥
  done_goes_not_on [] d is = cc
  done_goes_not_on (cell ∷ []) d is = cc
  done_goes_not_on (cell ∷ second ∷ stack) d is = cc

  after_act : (action : Action) (stack : List (Cell Value)) (rest : List Token) (d : Config Token Value)
      → act g m most action stack rest ≡ On d → length d.rest ≤ length rest
  after_act (Shift opens state) stack rest d is =
      let less = after_shift opens state stack rest d is in omega (arith, less)
  after_act (Reduce p) stack rest d is =
      let stack' = pushed g m most p (popped (length (g.right p)) [] stack) in
      let same : record { stack = stack'; rest = rest } ≡ d = cc in
      let lengths = ap (λ c. length c.rest) same in
      omega (arith, lengths)
  after_act Accept stack rest d is = absurd (done_goes_not_on stack d is)
  after_act Refuse stack rest d is = absurd cc

  less_left : (c e : Config Token Value) → Reaches g m most c e → length e.rest ≤ length c.rest
  less_left _ _ (here c) = omega arith
  less_left _ e (on c d e' is more) =
      let one = after_act (m.action (state_of c.stack) (look g m most c.rest)) c.stack c.rest d is in
      let then = less_left d e more in
      omega (arith, one, then)

  same_look : (rest others : List Token) → SameHeads rest others → look g m most rest ≡ look g m other others
  same_look _ _ both_end = refl
  same_look _ _ (both_begin t later others) = refl

  -- what stops this run stops the other one
  wrong_too : (action : Action) (stack stack' : List (Cell Value)) → Alike Fit stack stack'
      → (rest others : List Token) → SameHeads rest others → act g m most action stack rest ≡ Wrong
      → act g m other action stack' others ≡ Wrong
  wrong_too (Shift opens state) stack stack' alike _ _ both_end is = refl
  wrong_too (Shift opens state) stack stack' alike _ _ (both_begin t later others) is =
      absurd (not_wrong (fits (g.free t) opens (room_of most stack)) is)
    where
      not_wrong : (fit : Bool) → shifted g m most fit opens state t stack later ≡ Wrong → ⊥
      not_wrong true is = cc
      not_wrong false is = cc
  wrong_too (Reduce p) stack stack' alike rest others heads is = absurd cc
  wrong_too Accept stack stack' alike rest others heads is = by stack stack' alike is
    where
      by : (stack stack' : List (Cell Value)) → Alike Fit stack stack' → done g m most stack ≡ Wrong
          → done g m other stack' ≡ Wrong
      by _ _ empty is = refl
      by _ _ (both_have state room room' v _ _ fits empty) is = absurd cc
      by _ _ (both_have state room room' v _ _ fits (both_have state' one one' v' stack stack' fits' alike)) is = refl
  wrong_too Refuse stack stack' alike rest others heads is = refl

  deep_too : ((room room' : ℕ) → Fit room room' → room' ≤ room)
      → (action : Action) (stack stack' : List (Cell Value)) → Alike Fit stack stack'
      → (rest others : List Token) → SameHeads rest others → act g m most action stack rest ≡ TooDeep
      → act g m other action stack' others ≡ TooDeep
  deep_too less_room (Shift opens state) stack stack' alike _ _ both_end is = absurd cc
  deep_too less_room (Shift opens state) stack stack' alike _ _ (both_begin t later others) is =
      by (fits (g.free t) opens (room_of most stack)) refl is
    where
      by : (fit : Bool) → fits (g.free t) opens (room_of most stack) ≡ fit
          → shifted g m most fit opens state t stack later ≡ TooDeep
          → shift g m other opens state stack' (t ∷ others) ≡ TooDeep
      by true was is = absurd cc
      by false was is =
          let less = less_room (room_of most stack) (room_of other stack') (rooms_fit stack stack' alike) in
          ap (λ fit. shifted g m other fit opens state t stack' others)
          (fits_less (g.free t) opens (room_of most stack) (room_of other stack') less was)
  deep_too less_room (Reduce p) stack stack' alike rest others heads is = absurd cc
  deep_too less_room Accept stack stack' alike rest others heads is = absurd (not_deep stack is)
    where
      not_deep : (stack : List (Cell Value)) → done g m most stack ≡ TooDeep → ⊥
      not_deep [] is = cc
      not_deep (cell ∷ []) is = cc
      not_deep (cell ∷ second ∷ stack) is = cc
  deep_too less_room Refuse stack stack' alike rest others heads is = absurd cc

  module _ (later others : List Token) (heads : SameHeads later others) where
    -- the configurations before so many tokens, and then these
    pub record Same (c d : Config Token Value) : Type 0 where
      pub stacks : Alike Fit c.stack d.stack
      pub prefix : List Token
      pub left : c.rest ≡ prefix ++ later
      pub right : d.rest ≡ prefix ++ others

    -- the other run goes on alike, unless it has no room
    abbrev Follows : Config Token Value → Next Token Value → Type 0
    Follows c (On d) = Same c d
    Follows c TooDeep = Unit {0}
    Follows c _ = ⊥

    follow_shifted : (fit fit' : Bool) (opens state : ℕ) (one : Token) (stack stack' : List (Cell Value))
        (prefix : List Token) (d : Config Token Value) → Alike Fit stack stack'
        → shifted g m most fit opens state one stack (prefix ++ later) ≡ On d
        → Follows d (shifted g m other fit' opens state one stack' (prefix ++ others))
    follow_shifted true true opens state one stack stack' prefix d alike is =
        let top : Cell Value = record { state = state; room = room_of most stack - opens; value = g.value one } in
        let same : record { stack = top ∷ stack; rest = prefix ++ later } ≡ d = cc in
        subst (λ c. Follows c (shifted g m other true opens state one stack' (prefix ++ others))) same record {
          stacks = both_have state (room_of most stack - opens) (room_of other stack' - opens) (g.value one) stack
              stack' (kept_fit (room_of most stack) (room_of other stack') opens (rooms_fit stack stack' alike)) alike;
          prefix = prefix;
          left = refl;
          right = refl;
        }
    follow_shifted true false opens state one stack stack' prefix d alike is = tt
    follow_shifted false fit' opens state one stack stack' prefix d alike is = absurd cc

    follow_act : (action : Action) (stack stack' : List (Cell Value)) (prefix : List Token) (d : Config Token Value)
        → Alike Fit stack stack' → act g m most action stack (prefix ++ later) ≡ On d → length later ≤ length d.rest
        → Follows d (act g m other action stack' (prefix ++ others))
    follow_act (Shift opens state) stack stack' [] d alike is long =
        let less = after_shift opens state stack later d is in absurd (omega (arith, less, long))
    follow_act (Shift opens state) stack stack' (one ∷ prefix) d alike is long =
        follow_shifted (fits (g.free one) opens (room_of most stack)) (fits (g.free one) opens (room_of other stack'))
        opens state one stack stack' prefix d alike is
    follow_act (Reduce p) stack stack' prefix d alike is long =
        let found = popped (length (g.right p)) [] stack in
        let found' = popped (length (g.right p)) [] stack' in
        let same : record { stack = pushed g m most p found; rest = prefix ++ later } ≡ d = cc in
        let both = popped_alike Fit (length (g.right p)) [] stack stack' alike in
        subst (λ c. Follows c (act g m other (Reduce p) stack' (prefix ++ others))) same record {
          stacks = pushed_alike p found found' both.0 both.1;
          prefix = prefix;
          left = refl;
          right = refl;
        }
    follow_act Accept stack stack' prefix d alike is long = absurd (done_goes_not_on stack d is)
    follow_act Refuse stack stack' prefix d alike is long = absurd cc

    heads_after : (prefix : List Token) → SameHeads (prefix ++ later) (prefix ++ others)
    heads_after [] = heads
    heads_after (one ∷ prefix) = both_begin one (prefix ++ later) (prefix ++ others)

    abbrev action_of : Config Token Value → Action
    action_of c = m.action (state_of c.stack) (look g m most c.rest)

    -- what the other run does is what it does with the action of this one
    as_here : (c d : Config Token Value) (same : Same c d)
        → step g m other d ≡ act g m other (action_of c) d.stack (same.prefix ++ others)
    as_here c d same =
        let heads = heads_after same.prefix in
        ap (λ rest. act g m other (m.action (state_of d.stack) (look g m other rest)) d.stack rest) same.right
        ∙ ap (λ k. act g m other (m.action (state_of d.stack) k) d.stack (same.prefix ++ others))
        (sym (ap (look g m most) same.left ∙ same_look (same.prefix ++ later) (same.prefix ++ others) heads))
        ∙ ap (λ state. act g m other (m.action state (look g m most c.rest)) d.stack (same.prefix ++ others))
        (sym (same_state Fit c.stack d.stack same.stacks))

    follow : (c d e : Config Token Value) → Same c d → step g m most c ≡ On e → length later ≤ length e.rest
        → Follows e (step g m other d)
    follow c d e same is long =
        subst (Follows e) (sym (as_here c d same))
        (follow_act (action_of c) c.stack d.stack same.prefix e same.stacks
        (ap (act g m most (action_of c) c.stack) (sym same.left) ∙ is) long)

    -- it neither goes on nor ends
    abbrev IsStop : Next Token Value → Type 0
    IsStop Wrong = Unit {0}
    IsStop TooDeep = Unit {0}
    IsStop _ = ⊥

    race : (c e d f : Config Token Value) (v : Value) → Reaches g m most c e → e.rest ≡ later → Same c d
        → Reaches g m other d f → step g m other f ≡ Done v
        → ((d : Config Token Value) → Same e d → IsStop (step g m other d)) → ⊥
    race _ _ d f v (here c) last same comes ends stop = at_end d f comes ends (stop d same)
      where
        at_end : (d f : Config Token Value) → Reaches g m other d f → step g m other f ≡ Done v
            → IsStop (step g m other d) → ⊥
        at_end _ _ (here d) ends stops = subst IsStop ends stops
        at_end _ f (on d next f' is more) ends stops = subst IsStop is stops
    race _ e d f v (on c c' e' is more) last same comes ends stop =
        let long = less_left c' e more in
        let lengths = ap length last in
        goes d f comes ends (follow c d c' same is (omega (arith, long, lengths)))
        (λ d f same comes ends. race c' e d f v more last same comes ends stop)
      where
        goes : (d f : Config Token Value) → Reaches g m other d f → step g m other f ≡ Done v
            → Follows c' (step g m other d)
            → ((d f : Config Token Value) → Same c' d → Reaches g m other d f → step g m other f ≡ Done v → ⊥) → ⊥
        goes _ _ (here d) ends follows again = subst (Follows c') ends follows
        goes _ f (on d d' f' is' more') ends follows again = again d' f (subst (Follows c') is' follows) more' ends

    -- with no token before these
    no_prefix : (prefix : List Token) → prefix ++ later ≡ later → prefix ≡ []
    no_prefix [] is = refl
    no_prefix (one ∷ prefix) is =
        let lengths : length (one ∷ prefix ++ later) ≡ length later = ap length is in
        let parts = length-append prefix later in
        absurd (omega (arith, lengths, parts))

    at_stop : (e d : Config Token Value) → Same e d → e.rest ≡ later
        → step g m other d ≡ act g m other (action_of e) d.stack others
    at_stop e d same last =
        let none = no_prefix same.prefix (sym same.left ∙ last) in
        as_here e d same ∙ ap (λ prefix. act g m other (action_of e) d.stack (prefix ++ others)) none

    stops_here : (e : Config Token Value) → e.rest ≡ later → (next : Next Token Value) → step g m most e ≡ next
        → act g m most (action_of e) e.stack later ≡ next
    stops_here e last next is = ap (act g m most (action_of e) e.stack) (sym last) ∙ is

    -- where this run finds the next token wrong, the other one does not end
    pub none_past_wrong : (c e d f : Config Token Value) (v : Value) → Same c d → Reaches g m most c e → e.rest ≡ later
        → step g m most e ≡ Wrong → Reaches g m other d f → step g m other f ≡ Done v → ⊥
    none_past_wrong c e d f v same comes last is others_come ends =
        race c e d f v comes last same others_come ends stop
      where
        stop : (d : Config Token Value) → Same e d → IsStop (step g m other d)
        stop d same =
            subst IsStop (sym (at_stop e d same last
            ∙ wrong_too (action_of e) e.stack d.stack same.stacks later others heads (stops_here e last Wrong is))) tt

    -- where this run has no room, the other one, which has no more, does not end
    pub none_past_deep : ((room room' : ℕ) → Fit room room' → room' ≤ room)
        → (c e d f : Config Token Value) (v : Value) → Same c d → Reaches g m most c e → e.rest ≡ later
        → step g m most e ≡ TooDeep → Reaches g m other d f → step g m other f ≡ Done v → ⊥
    none_past_deep less_room c e d f v same comes last is others_come ends =
        race c e d f v comes last same others_come ends stop
      where
        stop : (d : Config Token Value) → Same e d → IsStop (step g m other d)
        stop d same =
            subst IsStop (sym (at_stop e d same last
            ∙ deep_too less_room (action_of e) e.stack d.stack same.stacks later others heads
            (stops_here e last TooDeep is))) tt
