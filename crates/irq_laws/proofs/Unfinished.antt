-- What one more entry makes of the unfinished threads.
use Rattle.std.proofs.Common.{◌≡◌, Bool, false, not, ◌&&◌, List, ◌∷◌, arith}
use Rattle.irq_base.specs.declared.numbers.DevNo.{DevNo}
use Rattle.irq_base.specs.declared.devices.DeviceDef.{DeviceDef}
use Rattle.irq_base.specs.declared.lines.LineDef.{LineDef}
use Rattle.irq_base.specs.declared.entries.Entry.{Entry}
use Rattle.irq_base.specs.declared.entries.Entry.TheVariants as by
use Rattle.irq_base.specs.declared.entries.ThreadEntry.TheVariants as threads
use Rattle.irq_model.specs.Places.{stands, since}
use Rattle.irq_model.specs.Kinds.{same_dev, links_dev, wakes, is_cleared_finish}
use Rattle.irq_model.specs.Links.{linking_flags}
use Rattle.irq_model.specs.Threads.{is_unfinished, is_some_unfinished, is_other_unfinished}
use Rattle.irq_model.proofs.Same.{same_both}
use Rattle.irq_laws.proofs.Lists.{any_ext}

moved : (o s t b : Bool) → s ≡ t → (o && (not s && b)) ≡ (not t && (o && b))
moved o s t b h = grind arith

-- once d gives its bit up, the bits that are left are other devices'
pub others_left : (def : LineDef) (x : DevNo) (unmask : Bool) (past : List Entry)
    → is_some_unfinished def (by.Thread x (threads.Finish false unmask) ∷ past) ≡ is_other_unfinished def past x
others_left def x unmask past =
    any_ext (λ (y : DeviceDef). is_unfinished (by.Thread x (threads.Finish false unmask) ∷ past) y.dev)
    (λ y. not (same_dev x y.dev) && is_unfinished past y.dev) def.devices
    (λ y. moved (linking_flags past y.dev).oneshot (same_dev y.dev x) (same_dev x y.dev)
    (stands (wakes y.dev) (is_cleared_finish y.dev) (since (links_dev y.dev) past)) (same_both y.dev x))
