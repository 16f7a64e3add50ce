-- Later and later worlds whose graphs are ready.
use Rattle.std.proofs.Common.{◌≡◌, sym, subst}
use Rattle.cd_model.specs.Formula.{IsGraph}
use Rattle.cd_typing.proofs.Later.{later_still}
use Rattle.cd_empty.specs.Growth.{Grows}
use Rattle.cd_empty.specs.Seen.{Seen, graph_of}
use Rattle.cd_empty.proofs.GrowingWorlds.{to_itself, and_further}
use Rattle.cd_check.specs.declared.base.Base.{Base}
use Rattle.cd_check.specs.Inner.Environment.{Nodes}
use Rattle.cd_check.specs.Inner.Ready.{IsReady, IsAfter}
use Rattle.cd_check.proofs.Itself.{later_itself}
use Rattle.cd_check.proofs.ReadyLater.{ready_later, later_of}

module _ (base : Base) (locals : Nodes) where
  pub after_none : (world : Seen) → IsReady base (graph_of world) locals → IsAfter base locals world world
  after_none world ready = record { grows = to_itself world; later = later_itself (graph_of world) ready.sound; ready = ready }

  pub after_both : (one two three : Seen) → IsAfter base locals one two → IsAfter base locals two three → IsAfter base locals one three
  after_both one two three first second = record {
    grows = and_further one two three first.grows second.grows;
    later = later_still (graph_of one) (graph_of two) (graph_of three) first.later second.later;
    ready = second.ready;
  }

  -- the world grew
  pub after_grown : (one two three : Seen) → IsAfter base locals one two → Grows two three → IsGraph (graph_of three) → IsAfter base locals one three
  after_grown one two three first grows sound =
      let later = later_of two three grows sound in
      after_both one two three first (record {
        grows = grows;
        later = later;
        ready = ready_later base (graph_of two) (graph_of three) later locals first.ready;
      })

  pub after_start : (one two : Seen) → IsReady base (graph_of one) locals → Grows one two → IsGraph (graph_of two) → IsAfter base locals one two
  after_start one two ready grows sound = after_grown one one two (after_none one ready) grows sound

  -- the world grew, and its graph stayed
  pub after_same : (one two three : Seen) → IsAfter base locals one two → graph_of three ≡ graph_of two → Grows two three → IsAfter base locals one three
  after_same one two three first same grows = after_grown one two three first grows (subst IsGraph (sym same) first.ready.sound)

  -- the world grew, and then again, while its graph stayed
  pub after_step : (one two three : Seen) → IsReady base (graph_of one) locals → Grows one two → IsGraph (graph_of two)
      → graph_of three ≡ graph_of two → Grows two three → IsAfter base locals one three
  after_step one two three ready grows sound same further = after_same one two three
      (after_start one two ready grows sound) same further

  -- ready for some variables, and so for others
  pub after_others : (all : Nodes) (one two : Seen) → IsReady base (graph_of one) locals → IsAfter base all one two → IsAfter base locals one two
  after_others all one two ready after = record {
    grows = after.grows;
    later = after.later;
    ready = ready_later base (graph_of one) (graph_of two) after.later locals ready;
  }

  pub after_all : (all : Nodes) (one two three : Seen) → IsReady base (graph_of one) locals → Grows one two → IsGraph (graph_of two)
      → IsAfter base all two three → IsAfter base locals one three
  after_all all one two three ready grows sound after =
      let first = after_start one two ready grows sound in
      after_both one two three first (after_others all two three first.ready after)
