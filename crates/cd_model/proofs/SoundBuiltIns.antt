-- The built-in nodes are a graph, and words other than `_` are names of atoms.
use Rattle.std.proofs.Common.{◌≡◌, ◌<◌, ◌∙◌, IsTrue, false, codes, bytes_eq, refl, sym, lit<, true≢false}
use Rattle.std.proofs.lemmas.Slice.Eq.{bytes_eq-Decides}
use Rattle.cd_syntax.specs.Name.{Name, IsLabel, is_word}
use Rattle.cd_model.specs.BuiltIns.{built_ins}
use Rattle.cd_model.specs.Formula.{IsGraph}

pub a_label : (name : Name) → IsTrue (is_word name) → bytes_eq name (codes "_") ≡ false
    → IsLabel name
a_label name word other =
    (word, λ same. true≢false (sym ((bytes_eq-Decides name (codes "_")).1 same) ∙ other))

pub nil_is_label : IsLabel (codes "nil")
nil_is_label = a_label (codes "nil") refl refl

pub built_ins_are_sound : IsGraph built_ins
built_ins_are_sound =
    let is_false : IsLabel (codes "false") = a_label (codes "false") refl refl in
    let is_true : IsLabel (codes "true") = a_label (codes "true") refl refl in
    let is_nil = nil_is_label in
    let empty : 0 < 14 = lit< tt in
    let any : 1 < 14 = lit< tt in
    let char : 3 < 14 = lit< tt in
    let atom : 5 < 14 = lit< tt in
    let string : 7 < 14 = lit< tt in
    let data_node : 12 < 14 = lit< tt in
    assumption
