-- Names that lead back to themselves.
use Rattle.std.proofs.Common.{false, [], ◌∷◌, codes, refl, arith}
use Rattle.cd_syntax.specs.TypeTree.{NoSign}
use Rattle.cd_model.specs.Guarded.{IsGuarded, IsOneOf, IsSigned, LeadsTo}
use Rattle.cd_model.specs.Guarded as guarded
use Rattle.cd_model.specs.Scope.{Scope, Declared}
use Rattle.cd_model.specs.WrittenExamples as written
use Rattle.cd_model.specs.WrittenExamples.{named}

pub in_union : IsGuarded written.in_union → ⊥
in_union is_guarded = is_guarded (guarded.LeadsTo.in_union [] written.in_union.scope _ (named (codes "X")) written.in_union
    (guarded.IsOneOf.first _ _) (guarded.LeadsTo.named [] written.in_union.scope (codes "X") written.in_union refl))

pub in_difference : IsGuarded written.in_difference → ⊥
in_difference is_guarded = is_guarded (guarded.LeadsTo.in_signed [] written.in_difference.scope written.int
    (named (codes "X")) _ written.in_difference (guarded.IsSigned.first false _ NoSign)
    (guarded.LeadsTo.named [] written.in_difference.scope (codes "X") written.in_difference refl))

-- what stands under the inner `where`, and the name that it declares
abbrev within : Scope
within = written.one (codes "B") (named (codes "A")) ∷ written.through_where.scope

abbrev inner : Declared
inner = record { name = codes "B"; scope = within; tree = named (codes "A") }

pub through_where : IsGuarded written.through_where → ⊥
through_where is_guarded = is_guarded (guarded.LeadsTo.under_where [] written.through_where.scope (named (codes "B")) _
    written.through_where (guarded.LeadsTo.through_name [] within (codes "B") inner written.through_where refl (omega arith)
    (guarded.LeadsTo.named [] within (codes "A") written.through_where refl)))
