use Rattle.std.proofs.Common.{◌≡◌, ◌+◌, [], drop, sym, ap, ◌∙◌, arith}
use Rattle.std.proofs.lemmas.List.{nil_from_length, length-drop}
use Rattle.plain_line.specs.Looked.{is_thread_due, lower_of}
use Rattle.plain_line.proofs.Lowest.{lowest_of, lowest_found}
use Rattle.plain_line.proofs.looking.lowest_thread.Goals as goal

pub loop-i-preserved : goal.loop-i-preserved
loop-i-preserved c =
    let p = is_thread_due c.args.def.now c.args.past.now in
    let rest = drop (c.loop-i.i + 1) c.args.def.now.devices in
    let here = c.device_at-device.ensures in
    let due = c.in_ok-due.ensures in
    c.loop-i.invariant
    ∙ (ap (lowest_of p c.loop-i.lowest) here
    ∙ ap (λ o. lowest_of p o rest) (ap (lower_of c.loop-i.lowest c.device_at-device.result.dev) (sym due) ∙ sym c.lower-lowest.ensures))

pub returns : goal.returns
returns c =
    let devices = c.args.def.now.devices in
    let none_left : drop c.loop-i.i devices ≡ [] = nil_from_length (drop c.loop-i.i devices) (length-drop c.loop-i.i devices ∙ omega arith) in
    let p = is_thread_due c.args.def.now c.args.past.now in
    lowest_found c.args.def.now c.args.past.now c.loop-i.lowest
    (sym (c.loop-i.invariant ∙ ap (lowest_of p c.loop-i.lowest) none_left))
