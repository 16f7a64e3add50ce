use Rattle.std.proofs.Common.{◌≡◌, sym, subst, ◌∷◌, MatchOption}
use Rattle.cd_syntax.specs.Signs.{BeginsWith}
use Rattle.cd_syntax.specs.declared.sign.Sign.{Sign as ASign}
use Rattle.cd_lex.specs.Inner.Standing.{IsSignTo}
use Rattle.cd_lex.proofs.SignPrefixes.{either_stands}
use Rattle.cd_lex.proofs.SignPrefixes as sign
use Rattle.cd_lex.proofs.signs.read_sign.Goals as goal

pub returns-in-58 : goal.returns-in-58
returns-in-58 c = subst (λ first. MatchOption c.after_colon.result
    ((c.after_colon.new.cursor ≡ c.args.cursor.now) × ((is : ASign)
    → BeginsWith (first ∷ c.args.cursor.now) is → ⊥))
    (λ is. IsSignTo (first ∷ c.args.cursor.now) is c.after_colon.new.cursor)) (sym c.in-58.is) c.after_colon.ensures

pub returns-in-60 : goal.returns-in-60
returns-in-60 c = either_stands _ _ _ _ _ _ _ _ sign.less c.in-60.is c.either-sign.ensures

pub returns-in-62 : goal.returns-in-62
returns-in-62 c = either_stands _ _ _ _ _ _ _ _ sign.greater c.in-62.is c.either-sign-in-62.ensures

pub returns-in-61 : goal.returns-in-61
returns-in-61 c = either_stands _ _ _ _ _ _ _ _ sign.equal c.in-61.is c.either-sign-in-61.ensures

pub returns-in-33 : goal.returns-in-33
returns-in-33 c = either_stands _ _ _ _ _ _ _ _ sign.splice c.in-33.is c.either-sign-in-33.ensures

pub returns-in-63 : goal.returns-in-63
returns-in-63 c = either_stands _ _ _ _ _ _ _ _ sign.question c.in-63.is c.either-sign-in-63.ensures

pub returns-in-43 : goal.returns-in-43
returns-in-43 c = either_stands _ _ _ _ _ _ _ _ sign.plus c.in-43.is c.either-sign-in-43.ensures

pub returns-in-38 : goal.returns-in-38
returns-in-38 c = either_stands _ _ _ _ _ _ _ _ sign.and c.in-38.is c.either-sign-in-38.ensures

pub returns-in-124 : goal.returns-in-124
returns-in-124 c = either_stands _ _ _ _ _ _ _ _ sign.or c.in-124.is c.either-sign-in-124.ensures

pub returns-in-59 : goal.returns-in-59
returns-in-59 c = either_stands _ _ _ _ _ _ _ _ sign.semicolon c.in-59.is c.either-sign-in-59.ensures

pub returns-in-46 : goal.returns-in-46
returns-in-46 c = either_stands _ _ _ _ _ _ _ _ sign.dot c.in-46.is c.either-sign-in-46.ensures

pub returns-in-47 : goal.returns-in-47
returns-in-47 c = either_stands _ _ _ _ _ _ _ _ sign.slash c.in-47.is c.either-sign-in-47.ensures
