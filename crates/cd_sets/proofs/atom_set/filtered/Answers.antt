use Rattle.std.proofs.Common.{subst, sym, ap, List, ◌∙◌, String, Global, Vec}
use Rattle.cd_sets.specs.Atoms.{AreAtoms, is_listed, texts}
use Rattle.cd_sets.proofs.ListedAtoms.{name_is_atom, are_none, keeps_next, leaves_next}
use Rattle.cd_sets.proofs.atom_set.filtered.Goals as goal
use Rattle.cd_sets.proofs.atom_set.filtered.Goals.{then-is_among-kept+in_ok-add, else-is_among-kept}

pub add-requires-clause-atom : goal.add-requires-clause-atom
add-requires-clause-atom c =
    name_is_atom _ c.args.first.now.items c.loop-name.name-index c.name-item.result c.as_str-text.result.now
    c.deref-name-items.ensures.value c.loop-name-test.true c.name-item.is c.as_str-text.ensures.value c.requires

pub loop-name-init : goal.loop-name-init
loop-name-init c = record {
  atoms = subst (λ (all : List (String Global)). AreAtoms (texts all)) (sym c.new-all.ensures.items) are_none;
  exact = λ q. ap (λ (all : List (String Global)). is_listed (texts all) q) c.new-all.ensures.items;
}

pub loop-name-preserved : goal.loop-name-preserved
loop-name-preserved c = elim c.if-is_among-kept.branch [
  | then-is_among-kept+in_ok-add w ↦ record {
    atoms = subst (λ (all : Vec (String Global) Global). AreAtoms (texts all.items)) (sym w.all-is) w.in_ok-add.ensures.atoms;
    exact = λ q. ap (λ (all : Vec (String Global) Global). is_listed (texts all.items) q) w.all-is
        ∙ keeps_next _ c.args.first.now.items c.loop-name.all.items w.add.new.names.items (texts c.args.second.now.items)
        c.args.kept c.is_among.result c.loop-name.name-index c.name-item.result c.as_str-text.result.now
        c.deref-name-items.ensures.value c.loop-name-test.true c.name-item.is c.as_str-text.ensures.value
        c.is_among.ensures w.if-is_among-kept.true c.loop-name.invariant.exact w.in_ok-add.ensures.exact q;
  }
  | else-is_among-kept w ↦ record {
    atoms = subst (λ (all : Vec (String Global) Global). AreAtoms (texts all.items)) (sym w.all-is) c.loop-name.invariant.atoms;
    exact = λ q. ap (λ (all : Vec (String Global) Global). is_listed (texts all.items) q) w.all-is
        ∙ leaves_next _ c.args.first.now.items c.loop-name.all.items (texts c.args.second.now.items)
        c.args.kept c.is_among.result c.loop-name.name-index c.name-item.result c.as_str-text.result.now
        c.deref-name-items.ensures.value c.loop-name-test.true c.name-item.is c.as_str-text.ensures.value
        c.is_among.ensures w.if-is_among-kept.false c.loop-name.invariant.exact q;
  }
]
