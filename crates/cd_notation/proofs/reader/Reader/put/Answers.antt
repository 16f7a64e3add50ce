use Rattle.std.proofs.Common.{◌∙◌, ap, refl, ◌∷◌}
use Rattle.cd_notation.proofs.Putting.{putting_starts, puts_whole, stands_by, stands_in, puts_on, xml_fits}
use Rattle.cd_notation.proofs.reader.Reader.put.Goals as goal

pub loop-form-init : goal.loop-form-init
loop-form-init c = putting_starts _ _ _

pub returns-in_default-clause-stands : goal.returns-in_default-clause-stands
returns-in_default-clause-stands c = λ is trees at are.
    stands_by _ _ _ _ _ _ _ refl refl refl (puts_whole _ _ _ _ _ _ c.in_default.ensures (c.loop-form.invariant.going is trees at are))

pub returns-in_default-form : goal.returns-in_default-form
returns-in_default-form c = record {
  stands = λ is trees at are.
      stands_in _ _ c.loop-form.self _ _ _ c.loop-form.value _ c.in-Some.ensures.1 c.in_default-form.not-Content refl c.in_ok-push.ensures.added refl c.after.ensures
      (c.loop-form.invariant.going is trees at are);
  grows = c.loop-form.invariant.grows;
}

pub xml-requires : goal.xml-requires
xml-requires c =
    let top = c.in-Some.ensures.1 ∙ ap (λ one. one ∷ c.in-Some.ensures.0) c.in-Content.is in
    let fits = xml_fits _ _ _ _ _ _ _ _ _ c.loop-form.invariant c.requires.within c.requires.forms top in
    record {
      tag = fits.tag_within;
      attributes = fits.attributes_within;
      content = fits.value_within;
      atom = fits.atom;
      fields = fits.fields;
    }

pub loop-form-preserved : goal.loop-form-preserved
loop-form-preserved c =
    let top = c.in-Some.ensures.1 ∙ ap (λ one. one ∷ c.in-Some.ensures.0) c.in-Content.is in
    puts_on _ _ _ _ c.loop-form.self _ _ _ _ c.in-Content.tag c.in-Content.attributes _ c.loop-form.invariant top (c.drop_top.ensures _ _ c.in-Some.ensures.1) refl refl
    c.in_ok-value.ensures.grows c.in_ok-value.ensures.added c.in_ok-value.ensures.number
