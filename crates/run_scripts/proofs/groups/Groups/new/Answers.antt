use Rattle.std.proofs.Common.{◌≡◌, ◌+◌, ◌++◌, [], ◌∷◌, length, take, sym, ap, ◌∙◌, arith}
use Rattle.std.proofs.lemmas.List.{length-take}
use Rattle.std.specs.List.{list_any}
use Rattle.irq_model.specs.Lines.{is_device}
use Rattle.device_table.specs.Rows.{at}
use Rattle.device_table.proofs.Steps.{none_left, own_next}
use Rattle.run_scripts.specs.Groups.{items_at, span_of, spans_from}
use Rattle.run_scripts.proofs.Grouping.{take_item, take_past}
use Rattle.run_scripts.proofs.Laying.{both_of, laid_items, laid_spans, items_last, spans_last, spans_none, items_few, found, within}
use Rattle.run_scripts.proofs.groups.Groups.new.Goals as goal
use Rattle.run_scripts.proofs.groups.Groups.new.Goals.{in-Some+in_ok-add_device, in_default}

pub add_device-requires-clause-absent : goal.add_device-requires-clause-absent
add_device-requires-clause-absent g c =
    let xs = c.args.devices.now in
    ap (λ t. at t c.in-Some.device.dev) c.loop-i.invariant.spans
    ∙ spans_none c.args.list.now 0 (take c.loop-i.i xs) c.in-Some.device.dev
    (own_next xs c.loop-i.i c.in-Some.device c.requires.distinct (sym c.in-Some.ensures))

pub add_device-requires-clause-room : goal.add_device-requires-clause-room
add_device-requires-clause-room g c =
    let xs = c.args.devices.now in
    omega (
      arith,
      ap length c.loop-i.invariant.items,
      items_few c.args.list.now (take c.loop-i.i xs) c.requires.short,
      length-take c.loop-i.i xs,
      c.requires.few,
      c.requires.short,
    )

pub loop-i-preserved : goal.loop-i-preserved
loop-i-preserved g c =
    let xs = c.args.devices.now in
    let cs = c.args.list.now in
    let done = take c.loop-i.i xs in
    let was = c.loop-i.invariant in
    elim c.match-get.branch [
      | in-Some+in_ok-add_device w ↦
          let x = w.in-Some.device in
          let more = sym (take_item xs c.loop-i.i x (sym w.in-Some.ensures)) in
          let long : length c.loop-i.items.items ≡ 0 + length (laid_items cs done) = omega (arith, ap length was.items) in
          record {
            items =
                ap (λ v. v.items) w.items-is
                ∙ (w.in_ok-add_device.ensures.items ∙ (ap (λ ys. ys ++ both_of cs x.dev) was.items
                ∙ (sym (items_last cs done x) ∙ ap (laid_items cs) more)));
            spans =
                w.spans-is
                ∙ (w.in_ok-add_device.ensures.spans
                ∙ (ap (λ t. t ++ (x.dev, spans_from (length c.loop-i.items.items) cs x.dev) ∷ []) was.spans
                ∙ (ap (λ m. laid_spans cs 0 done ++ (x.dev, spans_from m cs x.dev) ∷ []) long
                ∙ (sym (spans_last cs 0 done x) ∙ ap (laid_spans cs 0) more))));
          }
      | in_default w ↦ none_left xs c.loop-i.i (omega (arith, c.loop-i-test.true, c.len-i-end.ensures)) (sym w.in_default.ensures)
    ]

pub invariant_of-result : goal.invariant_of-result
invariant_of-result g c = λ d part.
    rw (c.loop-i.invariant.items, c.loop-i.invariant.spans) (within c.args.list.now (take c.loop-i.i c.args.devices.now) d part)

pub returns : goal.returns
returns g c = λ d part there.
    let xs = c.args.devices.now in
    let cs = c.args.list.now in
    let done = take c.loop-i.i xs in
    let all : done ≡ xs = take_past xs c.loop-i.i (omega (arith, c.loop-i-test.false, c.len-i-end.ensures)) in
    ap (λ ys. items_at ys (span_of c.loop-i.spans d part)) c.loop-i.invariant.items
    ∙ (ap (λ t. items_at (laid_items cs done) (span_of t d part)) c.loop-i.invariant.spans
    ∙ found cs done d part (ap (λ ys. list_any (is_device d) ys) all ∙ there))
