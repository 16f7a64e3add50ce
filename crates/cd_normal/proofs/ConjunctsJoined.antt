-- One conjunct more is joined with the others.
use Rattle.std.proofs.Common.{◌≡◌, ℕ, suc, ◌+◌, ◌<◌, List, ◌∷◌, ◌++◌, map, drop, length, get_or, drop-cons, append_assoc, sym, ap, ap₂, ◌∙◌, arith}
use Rattle.std.specs.declared.alloc.Global.{Global}
use Rattle.std.specs.declared.vec.Vec.{Vec}
use Rattle.cd_rules.specs.Dnf.{Conjunct, joined}
use Rattle.cd_normal.specs.declared.literal.Literal.{Literal}
use Rattle.cd_normal.specs.Inner.PlainConjunct.{plain_conjunct, plain_conjuncts}

pub one_joined : (conjuncts : List (Vec Literal Global)) (index : ℕ) (item : Vec Literal Global) → item ≡ get_or conjuncts index item
    → index < length conjuncts → (conjunct : Conjunct) → conjunct ≡ plain_conjunct item.items → (others all more whole : List Conjunct)
    → more ≡ all ++ map (λ other. conjunct ++ other) others
    → all ++ joined (plain_conjuncts (drop index conjuncts)) others ≡ whole
    → more ++ joined (plain_conjuncts (drop (index + 1) conjuncts)) others ≡ whole
one_joined conjuncts index item is within conjunct same others all more whole grown so_far =
    ap (λ more. more ++ joined (plain_conjuncts (drop (index + 1) conjuncts)) others) grown
    ∙ append_assoc all (map (λ other. conjunct ++ other) others) (joined (plain_conjuncts (drop (index + 1) conjuncts)) others)
    ∙ ap (λ conjunct. all ++ (map (λ other. conjunct ++ other) others ++ joined (plain_conjuncts (drop (index + 1) conjuncts)) others)) same
    ∙ sym (ap (λ left. all ++ joined (plain_conjuncts left) others) next) ∙ so_far
  where
    place : suc index ≡ index + 1
    place = omega arith

    next : drop index conjuncts ≡ item ∷ drop (index + 1) conjuncts
    next = drop-cons conjuncts index item within ∙ ap₂ (λ one place. one ∷ drop place conjuncts) (sym is) place
