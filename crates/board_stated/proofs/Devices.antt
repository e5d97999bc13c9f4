-- One more device meets its rule after those before it.
use Rattle.std.proofs.Common.{◌≡◌, ◌<◌, true, false, List, [], refl, ap, ◌∙◌}
use Rattle.std.specs.List.{list_any}
use Rattle.std.proofs.lemmas.Bool.{not-false}
use Rattle.irq_base.specs.declared.devices.DeviceDef.{DeviceDef}
use Rattle.irq_base.specs.declared.devices.Kind.{Kind}
use Rattle.irq_base.specs.declared.devices.Kind.TheVariants as kinds
use Rattle.irq_base.specs.declared.numbers.DevNo.{DevNo}
use Rattle.board_def.specs.Find.{last_item, last_device}
use Rattle.domain_rules.specs.Domains.{EachAfter}
use Rattle.board_def.specs.Rules.{has_line, IsDeviceAfter}
use Rattle.board_def.specs.Runs.{answers_wake, fits_wakes}
use Rattle.board_def.specs.Seen.{BoardSeen}
use Rattle.board_def.proofs.Rising.{all_below, last_number}
use Rattle.board_def.specs.declared.rows.ToldRow.{ToldRow}
use Rattle.board_words.specs.declared.statements.DeviceWords.{DeviceWords}
use Rattle.board_words.specs.declared.statements.Statement.TheVariants as statements
use Rattle.board_stated.specs.FaultsAfter.{is_misplaced, is_not_there}
use Rattle.board_stated.specs.Sound.{IsWellFormed, is_new_kind}
use Rattle.board_stated.specs.Stated.{device_of_words}
use Rattle.board_stated.proofs.Ascending.{last_below}

no_wake : (dev : DevNo) (told : List ToldRow) → told ≡ [] → list_any (answers_wake dev) told ≡ false
no_wake dev told none = ap (list_any (answers_wake dev)) none

-- without answers no told device has a thread
new_fits : (kind : Kind) → is_new_kind kind ≡ true → fits_wakes false kind ≡ true
new_fits (kinds.Told true) new = absurd cc
new_fits (kinds.Told false) new = refl
new_fits kinds.Direct new = refl
new_fits kinds.Check new = refl
new_fits kinds.Null new = refl
new_fits kinds.Stuck new = refl
new_fits kinds.Odd new = refl

pub device_after : (b : BoardSeen) (d : DeviceWords) → IsWellFormed (statements.Device d) → EachAfter (IsDeviceAfter b) b.devices → b.told ≡ []
    → is_misplaced b (statements.Device d) ≡ false → is_not_there b (statements.Device d) ≡ false
    → IsDeviceAfter b b.devices (device_of_words d)
device_after b d formed each none placed there = record {
  number = formed.0;
  rises = all_below (λ x. x.dev.0) b.devices d.dev.0 (λ i x at. (each i x at).rises)
      (last_number (λ (x : DeviceDef). x.dev) (λ n. n.0 < d.dev.0) (last_item b.devices)
      (last_below (λ n. n.0) d.dev.0 (last_device b.devices) placed));
  line = not-false (has_line b.lines d.line) there;
  thread = ap (λ w. fits_wakes w d.kind) (no_wake d.dev b.told none) ∙ new_fits d.kind formed.1;
}
