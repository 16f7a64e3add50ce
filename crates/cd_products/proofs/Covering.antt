-- What holds all that another formula holds, by the formulas alone.
use Rattle.std.proofs.Common.{◌≡◌, ◌<◌, ◌++◌, ◌&&◌, Bool, true, false, not, ℕ, ℤ, List, []}
use Rattle.std.proofs.Common.{◌∷◌, map, length, inl, inr, refl, sym, ap, subst, ◌∙◌, true≢false}
use Rattle.cd_sets.specs.declared.node_id.NodeId.{NodeId}
use Rattle.cd_sets.specs.declared.interval.Interval.{Interval}
use Rattle.cd_sets.specs.Interval as integers
use Rattle.cd_sets.specs.Characters.{CharInterval, holds_character, HoldsNoCharacter}
use Rattle.cd_sets.specs.Atoms as atoms
use Rattle.std.specs.Char.{IsScalar}
use Rattle.cd_syntax.specs.Name.{Name, IsLabel}
use Rattle.cd_model.specs.Formula as formula
use Rattle.cd_model.specs.Formula.{Formula, Formulas, NoFormula, AFormula, Graph, IsWithin}
use Rattle.cd_model.specs.Formula.{And, Or, Pair, Xml, Arrow, formula_at}
use Rattle.cd_model.specs.Membership.{holds}
use Rattle.cd_model.specs.Thing as thing
use Rattle.cd_model.specs.Thing.{Thing}
use Rattle.cd_model.proofs.FormulasAmongMore.{formula_kept}
use Rattle.cd_products.specs.Inner.Covering.{Asker, AnElement, AValue, read_by, HoldsToo}
use Rattle.cd_products.specs.Keeping.{AreValuesWithin}

pub itself : (f : Formula) → HoldsToo f f
itself f asker held = held

-- of nothing, and of everything
pub nothing : (f : Formula) → HoldsToo formula.Nothing f
nothing f asker held = absurd (true≢false held)

pub everything : (f : Formula) → HoldsToo f formula.Everything
everything f asker held = refl

-- one of some, and all of them
pub first_of_all : (first : Formula) (rest : Formulas) (f : Formula) → HoldsToo first f
    → HoldsToo (And (AFormula first rest)) f
first_of_all first rest f too asker held = too asker held.0

pub later_of_all : (first : Formula) (rest : Formulas) (f : Formula) → HoldsToo (And rest) f
    → HoldsToo (And (AFormula first rest)) f
later_of_all first rest f too asker held = too asker held.1

pub none_of : (f : Formula) → HoldsToo (Or NoFormula) f
none_of f asker held = absurd held

pub each_of : (first : Formula) (rest : Formulas) (f : Formula) → HoldsToo first f
    → HoldsToo (Or rest) f → HoldsToo (Or (AFormula first rest)) f
each_of first rest f here later asker (inl held) = here asker held
each_of first rest f here later asker (inr held) = later asker held

pub in_none : (f : Formula) → HoldsToo f (And NoFormula)
in_none f asker held = tt

pub in_each : (first : Formula) (rest : Formulas) (f : Formula) → HoldsToo f first
    → HoldsToo f (And rest) → HoldsToo f (And (AFormula first rest))
in_each first rest f here later asker held = (here asker held, later asker held)

pub in_first : (first : Formula) (rest : Formulas) (f : Formula) → HoldsToo f first
    → HoldsToo f (Or (AFormula first rest))
in_first first rest f too asker held = inl (too asker held)

pub in_later : (first : Formula) (rest : Formulas) (f : Formula) → HoldsToo f (Or rest)
    → HoldsToo f (Or (AFormula first rest))
in_later first rest f too asker held = inr (too asker held)

-- what is in no less than the first is in the second
left_out : (a b c : Bool) → c ≡ (a && not b) → c ≡ false → a ≡ true → b ≡ true
left_out true true c is none a = refl
left_out true false c is none a = absurd (true≢false (sym is ∙ none))
left_out false b c is none a = absurd (true≢false (sym a))

module _ (set all less : List Interval) (is : (z : ℤ)
    → integers.holds less z ≡ (integers.holds set z && not (integers.holds all z)))
    (none : integers.HoldsNothing less) where
  pub integers_in : HoldsToo (formula.Ints set) (formula.Ints all)
  integers_in (AnElement graph (thing.Integer z) sort) held =
      left_out (integers.holds set z) (integers.holds all z) (integers.holds less z) (is z) (none z) held
  integers_in (AnElement graph (thing.Character c) sort) held = held
  integers_in (AnElement graph (thing.Atom name) sort) held = held
  integers_in (AnElement graph (thing.Pair first second) sort) held = held
  integers_in (AnElement graph (thing.Xml tag attributes content) sort) held = held
  integers_in (AnElement graph (thing.Record fields) sort) held = held
  integers_in (AnElement graph (thing.Function pairs) sort) held = held
  integers_in (AnElement graph (thing.Closure function environment) sort) held = held
  integers_in (AValue graph interfaces (thing.Integer z) sort) held =
      left_out (integers.holds set z) (integers.holds all z) (integers.holds less z) (is z) (none z) held
  integers_in (AValue graph interfaces (thing.Character c) sort) held = held
  integers_in (AValue graph interfaces (thing.Atom name) sort) held = held
  integers_in (AValue graph interfaces (thing.Pair first second) sort) held = held
  integers_in (AValue graph interfaces (thing.Xml tag attributes content) sort) held = held
  integers_in (AValue graph interfaces (thing.Record fields) sort) held = held
  integers_in (AValue graph interfaces (thing.Function pairs) sort) held = held
  integers_in (AValue graph interfaces (thing.Closure function environment) sort) held = held

module _ (set all less : List CharInterval) (is : (c : ℕ) → IsScalar c
    → holds_character less c ≡ (holds_character set c && not (holds_character all c)))
    (none : HoldsNoCharacter less) where
  character_in : (c : ℕ) → IsScalar c → holds_character set c ≡ true → holds_character all c ≡ true
  character_in c within =
      left_out (holds_character set c) (holds_character all c) (holds_character less c) (is c within)
      (none c within)

  pub characters_in : HoldsToo (formula.Chars set) (formula.Chars all)
  characters_in (AnElement graph (thing.Character c) sort) held = character_in c sort held
  characters_in (AnElement graph (thing.Integer z) sort) held = held
  characters_in (AnElement graph (thing.Atom name) sort) held = held
  characters_in (AnElement graph (thing.Pair first second) sort) held = held
  characters_in (AnElement graph (thing.Xml tag attributes content) sort) held = held
  characters_in (AnElement graph (thing.Record fields) sort) held = held
  characters_in (AnElement graph (thing.Function pairs) sort) held = held
  characters_in (AnElement graph (thing.Closure function environment) sort) held = held
  characters_in (AValue graph interfaces (thing.Character c) sort) held = character_in c sort held
  characters_in (AValue graph interfaces (thing.Integer z) sort) held = held
  characters_in (AValue graph interfaces (thing.Atom name) sort) held = held
  characters_in (AValue graph interfaces (thing.Pair first second) sort) held = held
  characters_in (AValue graph interfaces (thing.Xml tag attributes content) sort) held = held
  characters_in (AValue graph interfaces (thing.Record fields) sort) held = held
  characters_in (AValue graph interfaces (thing.Function pairs) sort) held = held
  characters_in (AValue graph interfaces (thing.Closure function environment) sort) held = held

atom : (name : Name) → IsLabel name → atoms.IsAtom name
atom [] is = is
atom (c ∷ name) is = is

module _ (set all less : atoms.Atoms) (is : (name : List ℕ)
    → atoms.holds less name ≡ (atoms.holds set name && not (atoms.holds all name)))
    (none : atoms.HoldsNoAtom less) where
  atom_in : (name : Name) → IsLabel name → atoms.holds set name ≡ true
      → atoms.holds all name ≡ true
  atom_in name sort =
      left_out (atoms.holds set name) (atoms.holds all name) (atoms.holds less name) (is name)
      (none name (atom name sort))

  pub atoms_in : HoldsToo (formula.Atoms set) (formula.Atoms all)
  atoms_in (AnElement graph (thing.Atom name) sort) held = atom_in name sort held
  atoms_in (AnElement graph (thing.Integer z) sort) held = held
  atoms_in (AnElement graph (thing.Character c) sort) held = held
  atoms_in (AnElement graph (thing.Pair first second) sort) held = held
  atoms_in (AnElement graph (thing.Xml tag attributes content) sort) held = held
  atoms_in (AnElement graph (thing.Record fields) sort) held = held
  atoms_in (AnElement graph (thing.Function pairs) sort) held = held
  atoms_in (AnElement graph (thing.Closure function environment) sort) held = held
  atoms_in (AValue graph interfaces (thing.Atom name) sort) held = atom_in name sort held
  atoms_in (AValue graph interfaces (thing.Integer z) sort) held = held
  atoms_in (AValue graph interfaces (thing.Character c) sort) held = held
  atoms_in (AValue graph interfaces (thing.Pair first second) sort) held = held
  atoms_in (AValue graph interfaces (thing.Xml tag attributes content) sort) held = held
  atoms_in (AValue graph interfaces (thing.Record fields) sort) held = held
  atoms_in (AValue graph interfaces (thing.Function pairs) sort) held = held
  atoms_in (AValue graph interfaces (thing.Closure function environment) sort) held = held

-- so nodes are within each other
pub of_equal : {f f' g g' : Formula} → f ≡ f' → g ≡ g' → HoldsToo f g → HoldsToo f' g'
of_equal {f} {f'} {g} {g'} same same' too =
    subst (λ f. HoldsToo f g') same (subst (λ g. HoldsToo f g) same' too)

pub nodes_within : (graph : Graph) (one other : NodeId)
    → HoldsToo (formula_at graph one) (formula_at graph other) → IsWithin graph one other
nodes_within graph one other too e sort inside = too (AnElement graph e sort) inside

pub values_within : (graph : Graph) (one other : NodeId) → one.0 < length graph
    → other.0 < length graph → HoldsToo (formula_at graph one) (formula_at graph other)
    → AreValuesWithin graph one other
values_within graph one other below within too more interfaces v sound of sort inside =
    let asker : Asker = AValue (graph ++ more) interfaces v sort in
    subst (λ f. holds (read_by asker) f true) (formula_kept graph more other.0 within)
    (too asker (subst (λ f. holds (read_by asker) f true)
    (sym (formula_kept graph more one.0 below)) inside))
