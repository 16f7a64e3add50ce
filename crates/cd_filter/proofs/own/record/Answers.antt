use Rattle.std.proofs.Common.{None, map, sym, subst}
use Rattle.cd_model.specs.Formula.{AreRisingLabels}
use Rattle.cd_matching.specs.PlainKernel.{plain_kernel_field}
use Rattle.cd_filter.proofs.BatchSound.{fields_rise}
use Rattle.cd_filter.proofs.own.record.Goals as goal

pub of-requires : goal.of-requires
of-requires c = subst (AreRisingLabels None) (sym c.in_ok-named_fields.ensures)
    (fields_rise c.args.first None (map plain_kernel_field c.args.fields.now) c.requires)
