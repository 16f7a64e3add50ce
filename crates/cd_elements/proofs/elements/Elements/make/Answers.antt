use Rattle.cd_elements.proofs.Inserting.{shapes_after, elements_added, number_of_element}
use Rattle.cd_elements.proofs.elements.Elements.make.Goals as goal

-- the shapes are sound with one more
pub invariant_of-self : goal.invariant_of-self
invariant_of-self c =
    let old = c.args.self.now in
    let put = c.insert_full.ensures in
    record {
      sound = shapes_after c.insert_full.result old.shapes.keys c.insert_full.new.self.keys c.args.shape old.sound
          c.requires c.know_ranges.ensures put.keys put.err;
    }

pub returns-clause-made : goal.returns-clause-made
returns-clause-made c =
    let old = c.args.self.now in
    let stored = c.in_ok-number.ensures.stored in
    number_of_element old.shapes.keys c.insert_full.new.self.keys c.args.shape old.sound c.requires
    c.in_ok-number.ensures.keys c.in_ok-number.number stored.0 c.know_ranges.ensures stored.1 stored.2

pub returns-clause-grows : goal.returns-clause-grows
returns-clause-grows c =
    let old = c.args.self.now in
    elements_added old.shapes.keys c.insert_full.new.self.keys c.args.shape old.sound c.requires c.in_ok-number.ensures.keys
