-- The program `let fun main (Int -> Int) x -> x` has types where integers are kept for its match, and stays within them. It has none where
-- truth values are kept, and leaves these.
use Rattle.std.proofs.Common.{◌≡◌, Bool, true, false, List, [], ◌∷◌, inl, inr, Some, refl, codes, pos, arith}
use Rattle.std.proofs.lemmas.Int.{ints}
use Rattle.cd_model.specs.AllOf.{AllOf}
use Rattle.cd_model.specs.BuiltIns.{built_ins, BOOL}
use Rattle.cd_model.specs.Formula.{nodes}
use Rattle.cd_model.specs.Interfaces.{Interfaces, admits}
use Rattle.cd_model.specs.Thing.{Thing, Integer, Atom, NoField, Field, IsElement}
use Rattle.cd_model.specs.Types.{closure_maps}
use Rattle.cd_model.proofs.BuiltIns.{integers_are, bools_are}
use Rattle.cd_model.proofs.Ones.{each_weaker}
use Rattle.cd_matching.specs.Captures.{just}
use Rattle.cd_matching.specs.Pattern as pattern
use Rattle.cd_typing.specs.Interfaces.{Arrow, IsWritten, AreWritten}
use Rattle.cd_typing.specs.Kept.{IsKept}
use Rattle.cd_typing.specs.Operators.{truth}
use Rattle.cd_typing.specs.Typ.{Typ, typ, In}
use Rattle.cd_typing.specs.Typed.{IsTypedWithin}
use Rattle.cd_typing.proofs.Subsets.{itself}
use Rattle.cd_evaluation.specs.ProgramInterfaces.{interfaces_of}
use Rattle.cd_evaluation.specs.Runs.{Done, Result}
use Rattle.cd_safety.specs.ComesWithin.{IsExpected, StaysWithin}
use Rattle.cd_safety.specs.Examples.{int_tree, x_tree, identity, identity_program, integers_kept, truths_kept}
use Rattle.cd_safety.specs.SafeProgram.{ComesTo}
use Rattle.cd_safety.proofs.BuiltInElements.{integer_in, truth_here}
use Rattle.cd_safety.proofs.Examples.{scope, int, arrows_are, all_taken, label, has_types, identity_is_main}

pub integers_come : IsTypedWithin integers_kept identity_program
integers_come = has_types integers_kept (inl (refl, itself (In int)), all_taken)

pub atom_is_unexpected : (interfaces : Interfaces) → IsExpected interfaces integers_kept x_tree (Atom (codes "a")) → ⊥
atom_is_unexpected interfaces (inl kept) =
    let is = (integers_are [] (closure_maps (nodes built_ins) (admits interfaces)) (Atom (codes "a")) (label (codes "a") refl refl)).0 kept.1 in
    absurd cc
atom_is_unexpected interfaces (inr none) = none

abbrev zero_thing : Thing
zero_thing = Integer (pos 0)

zero_is : IsElement zero_thing
zero_is = grind (arith, ints)

zero_is_no_truth : (b : Bool) → zero_thing ≡ truth b → ⊥
zero_is_no_truth true same = absurd cc
zero_is_no_truth false same = absurd cc

zero_is_written : (t : Typ) → IsWritten scope int_tree t → In t zero_thing
zero_is_written t is = (is.1.elements zero_thing true zero_is).1
    ((arrows_are.0.1.elements zero_thing true zero_is).0 (integer_in (pos 0) zero_is))

no_truths_alone : (all : List Arrow) → AreWritten scope (record { takes = int_tree; gives = int_tree } ∷ []) all
    → AllOf (λ arrow. IsKept (record { patterns = x_tree ∷ []; matched = typ built_ins BOOL } ∷ []) (x_tree ∷ []) (In arrow.argument)) all
    → ⊥
no_truths_alone [] are kept = are
no_truths_alone (arrow ∷ rest) are (inl within, later) =
    let found = truth_here zero_thing (within.1 zero_thing zero_is (zero_is_written arrow.argument are.0)) in
    zero_is_no_truth found.0 found.1
no_truths_alone (arrow ∷ rest) are (inr none, later) = none

pub truths_are_too_few : IsTypedWithin truths_kept identity_program → ⊥
truths_are_too_few typing = let has = typing.functions.0.2 in
    no_truths_alone has.0 has.2 (each_weaker _ _ (λ arrow is. is.0.0) has.0 has.4)

-- it comes to 0 on the document 0, and its pattern takes 0
abbrev zero_left : Result
zero_left = record { outcome = Done zero_thing; left = 0 }

zero_comes : ComesTo identity_program identity zero_thing 1 zero_left
zero_comes = (
  Some (Field (codes "x") zero_thing NoField),
  inl (
    zero_is,
    Some (just (codes "x") zero_thing),
    record { tested = pattern.Bind (codes "x"); right = refl; gives = refl },
    refl,
  ),
  refl,
)

zero_is_unexpected : (interfaces : Interfaces) → IsExpected interfaces truths_kept x_tree zero_thing → ⊥
zero_is_unexpected interfaces (inl kept) =
    (bools_are [] (closure_maps (nodes built_ins) (admits interfaces)) zero_thing).0 kept.1
zero_is_unexpected interfaces (inr none) = none

pub leaves_truths : StaysWithin truths_kept identity_program → ⊥
leaves_truths stays =
    let within = stays identity identity_is_main (record { takes = int_tree; gives = int_tree }) (inl refl) zero_thing
    (record { element = zero_is; plain = tt }) ((arrows_are.0.1.elements zero_thing true zero_is).0 (integer_in (pos 0) zero_is))
    1 zero_left zero_comes in
    zero_is_unexpected (interfaces_of identity_program) within.1.0
