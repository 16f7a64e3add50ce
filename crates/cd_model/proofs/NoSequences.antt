-- No formula asks whether a thing is a sequence: that is a head of written types alone.
use Rattle.std.proofs.Common.{◌≡◌, Bool, refl}
use Rattle.cd_model.specs.Formula as formula
use Rattle.cd_model.specs.Formula.{FormulaOf, at_formula}
use Rattle.cd_model.specs.Types.{Answers, Reader, Items, with_sequences}

module _ {X : Type 0} (items : Items (Answers X)) (read : Reader X) where
  same_at : (is : FormulaOf X) (answer : Bool) → at_formula (with_sequences items read) is answer ≡ at_formula read is answer
  same_at (formula.Ints set) answer = refl
  same_at (formula.Chars set) answer = refl
  same_at (formula.Atoms set) answer = refl
  same_at (formula.Pair a b) answer = refl
  same_at (formula.Xml a b c) answer = refl
  same_at (formula.Record a b) answer = refl
  same_at (formula.Arrow a b) answer = refl
  same_at _ answer = refl

  pub no_sequences : at_formula (with_sequences items read) ≡ at_formula read
  no_sequences = λ i is answer. same_at is answer i
