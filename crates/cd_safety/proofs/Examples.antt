-- The premises of safety can be met: the program `let fun main (Int -> Int) x -> x` is accepted.
use Rattle.std.proofs.Common.{◌≡◌, ◌+◌, Bool, true, false, ◌||◌, List, [], ◌∷◌, ◌++◌, inl, Some, None}
use Rattle.std.proofs.Common.{if◌then◌else◌, refl, sym, ap, subst, ◌∙◌, length, codes, bytes_eq, lit<, true≢false}
use Rattle.std.proofs.lemmas.Option.{same_Some}
use Rattle.std.proofs.lemmas.Slice.Eq.{bytes_eq-Decides}
use Rattle.cd_syntax.specs.declared.builtin.BuiltinName.TheVariants as builtin
use Rattle.cd_syntax.specs.Name.{Name, IsLabel, is_word}
use Rattle.cd_model.specs.BuiltIns.{built_ins, node, INT, DATA}
use Rattle.cd_model.specs.Formula as formula
use Rattle.cd_model.specs.Formula.{Formula, Graph, IsGraph, formula_at, holds, in_node, nodes}
use Rattle.cd_model.specs.Membership.{reader}
use Rattle.cd_model.specs.Scope.{Scope}
use Rattle.cd_model.specs.Thing.{Thing, Function, IsElement, IsData}
use Rattle.cd_model.specs.Types.{no_closure}
use Rattle.cd_model.specs.Written.{in_written}
use Rattle.cd_model.proofs.BuiltIns.{elements_are_sound, data_are}
use Rattle.cd_model.proofs.BuiltInsStand.{built_in_stands}
use Rattle.cd_model.proofs.FormulasAmongMore.{graph_with_more}
use Rattle.cd_model.proofs.SoundBuiltIns.{built_ins_are_sound}
use Rattle.cd_matching.specs.Captures.{Captures, just}
use Rattle.cd_matching.specs.Pattern as pattern
use Rattle.cd_matching.specs.Pattern.{Pattern}
use Rattle.cd_matching.specs.Take.{take}
use Rattle.cd_matching.specs.Takes.{WrittenTakes, IsRight}
use Rattle.cd_matching.specs.PatternsAlike.{Alike}
use Rattle.cd_meaning.specs.Sets.{◌⊆◌}
use Rattle.cd_program.specs.Expr.{Expr, expr, Variable, NoBranch, ABranch}
use Rattle.cd_typing.specs.Branches.{FitsOne, Fit, Cover}
use Rattle.cd_typing.specs.Interfaces.{Arrow, AllArrows, AreWritten, IsIntersection}
use Rattle.cd_typing.specs.Kept.{Kept, Anything, Matches}
use Rattle.cd_typing.specs.Rules.{FunctionHas}
use Rattle.cd_typing.specs.Typ.{Typ, typ, In, IsType, BuiltIn, Types}
use Rattle.cd_typing.specs.Typed.{scope_of, IsTypedWithin}
use Rattle.cd_typing.proofs.Subsets.{itself}
use Rattle.cd_safety.specs.Accepted.{IsAccepted}
use Rattle.cd_safety.specs.Examples.{int_tree, x_tree, identity, identity_program}
use Rattle.cd_safety.specs.HoldsAs.{HoldsAs}
use Rattle.cd_safety.specs.SafeProgram.{IsMain}
use Rattle.cd_safety.specs.TypedClosure.{CapturesItsNames}
use Rattle.cd_safety.proofs.Applied.{maps_at}
use Rattle.cd_safety.proofs.BuiltInElements.{integer_here}
use Rattle.cd_safety.proofs.ClosuresTyped.{maps_into}
use Rattle.cd_safety.proofs.GraphsJoined.{behind, later_holds}

abbrev pub scope : Scope
scope = scope_of identity_program

-- the integers, and the functions from integers to integers
abbrev pub int : Typ
int = typ built_ins INT

int_is : IsType int
int_is = record { more = []; begins = refl; sound = built_ins_are_sound; is_node = lit< tt }

abbrev arrow_graph : Graph
arrow_graph = built_ins ++ (formula.Arrow INT INT ∷ [])

abbrev self : Typ
self = typ arrow_graph (node (length built_ins + 0))

arrow_graph_is : IsGraph arrow_graph
arrow_graph_is = graph_with_more built_ins (formula.Arrow INT INT ∷ []) built_ins_are_sound ((lit< tt, lit< tt), tt)

self_is : IsType self
self_is = record { more = formula.Arrow INT INT ∷ []; begins = refl; sound = arrow_graph_is; is_node = lit< tt }

is_arrow : formula_at arrow_graph self.id ≡ formula.Arrow INT INT
is_arrow = behind built_ins (formula.Arrow INT INT ∷ []) 0

int_holds : HoldsAs arrow_graph INT int
int_holds = later_holds built_ins arrow_graph (record { more = formula.Arrow INT INT ∷ []; is = refl; sound = arrow_graph_is })
    built_ins_are_sound INT (lit< tt)

abbrev arrows : List Arrow
arrows = record { argument = int; result = int } ∷ []

pub arrows_are : AreWritten scope (record { takes = int_tree; gives = int_tree } ∷ []) arrows
arrows_are = let stands = built_in_stands [] scope (record { from = 0; to = 0 }) builtin.Int in ((int_is, stands), (int_is, stands), tt)

within : In self ⊆ AllArrows arrows
within e element inside = by_kind e (subst (λ form. holds (reader arrow_graph e) form true) is_arrow inside)
  where
    by_kind : (e : Thing) → holds (reader arrow_graph e) (formula.Arrow INT INT) true → AllArrows arrows e
    by_kind (Function pairs) maps = (pairs, refl, (maps_into arrow_graph INT INT int int int_holds int_holds pairs maps, tt))
    by_kind _ maps = absurd cc

whole : AllArrows arrows ⊆ In self
whole e element all = subst (In self) (sym all.1)
    (subst (λ form. holds (reader arrow_graph (Function all.0)) form true) (sym is_arrow) (maps_at arrow_graph INT INT all.0 (record {
      total = λ from fails inside. all.2.0.total from fails ((int_holds.elements from true).0 inside);
      into = λ from to pair inside. (int_holds.elements to true).1 (all.2.0.into from to pair ((int_holds.elements from true).0 inside));
    })))

intersection : IsIntersection arrows self
intersection = record { is_type = self_is; within = within; whole = whole }

-- the pattern takes each element, and captures it
x_takes : (e : Thing) → WrittenTakes scope x_tree e (Some (just (codes "x") e))
x_takes e = record { tested = pattern.Bind (codes "x"); right = refl; gives = refl }

x_captures : (e : Thing) (captures : Captures Name) → WrittenTakes scope x_tree e (Some captures) → just (codes "x") e ≡ captures
x_captures e captures takes = by_pattern takes.tested takes.right takes.gives
  where
    by_pattern : (tested : Pattern (Thing → Bool)) → Alike (IsRight in_written IsElement)
        (pattern.Bind (codes "x")) tested → take (Thing → Bool) (λ test. test) tested e ≡ Some captures → just (codes "x") e ≡ captures
    by_pattern (pattern.Bind name) right gives =
        ap (λ name. just name e) right ∙ same_Some (just name e) captures gives
    by_pattern _ right gives = absurd right

abbrev own : Types
own = (codes "x", int) ∷ []

fits : (e : Thing) → In int e → Fit own (just (codes "x") e)
fits e inside name = by_test (bytes_eq (codes "x") name)
  where
    by_test : (c : Bool) → FitsOne (if c then Some int else None) (if c then Some e else None)
    by_test true = (e, refl, inside)
    by_test false = refl

abbrev types : Types
types = (codes "main", self) ∷ []

int_in_data : In int ⊆ BuiltIn DATA
int_in_data e element inside =
    let n = integer_here e element inside in
    (data_are [] no_closure e (elements_are_sound e element)).1 (subst IsData (sym n.1) tt)

abbrev x_alone : Expr
x_alone = expr (record { from = 0; to = 0 }) (Variable (codes "x"))

-- the pattern takes all integers
abbrev covers : Type 0
covers = Cover scope (ABranch x_tree x_alone NoBranch) (In int)

pub all_taken : covers
all_taken e element inside = inl (just (codes "x") e, x_takes e)

module _ (kept : Kept) (matches : Matches kept (x_tree ∷ []) (In int) covers) where
  has_type : FunctionHas kept scope types identity self
  has_type = (
    arrows,
    self,
    arrows_are,
    intersection,
    (
      (
        matches,
        (
          λ e captures first. (
            own,
            int,
            (int_is, tt),
            λ d caught come. subst (λ found. Fit own found) (x_captures d caught come.takes) (fits d come.in_set),
            int_is,
            (int, refl, itself (In int)),
            itself (In int),
          ),
          tt,
        ),
      ),
      tt,
    ),
    itself (In self),
  )

  pub has_types : IsTypedWithin kept identity_program
  has_types = record {
    types = types;
    declared = (refl, (arrows, arrows_are, intersection), tt);
    functions = ((self, (arrows, arrows_are, intersection), has_type), tt);
    main = (λ same. (arrows, arrows_are, (int_in_data, tt)), tt);
  }

pub label : (name : Name) → is_word name ≡ true → bytes_eq name (codes "_") ≡ false → IsLabel name
label name word other = (word, λ same. true≢false (sym ((bytes_eq-Decides name (codes "_")).1 same) ∙ other))

captures_its_name : CapturesItsNames scope x_tree
captures_its_name name = by_test (bytes_eq (codes "x") name)
  where
    by_test : (c : Bool) → c ≡ (c || false)
    by_test true = refl
    by_test false = refl

pub identity_is_accepted : IsAccepted identity_program
identity_is_accepted = record {
  typed = has_types Anything all_taken;
  well_made = (
    tt,
    (
      tt,
      (
        label (codes "main") refl refl,
        (λ same. absurd cc),
        (tt, tt, tt),
        (λ same. absurd cc),
        (label (codes "x") refl refl, label (codes "x") refl refl, tt),
      ),
      tt,
    ),
  );
  kinds = (((tt, tt), tt), tt);
  patterns = (
    (
      record { graph = built_ins; sound = built_ins_are_sound; p = pattern.Bind (codes "x"); resolved = refl; constants = tt },
      tt,
      tt,
    ),
    tt,
  );
  names = ((captures_its_name, tt, tt), tt);
  guarded = (((tt, tt), tt), tt);
  places = (tt, tt);
}

pub identity_is_main : IsMain identity_program identity
identity_is_main = record { declared = refl; found = refl }
