-- Placings that are told, one after another.
use Rattle.std.proofs.Common.{◌≡◌, ℕ, List, [], ◌++◌, refl, ap, ◌∙◌, sym, subst, append_assoc, append-nil}
use Rattle.std.proofs.lemmas.Grind.{flat_map-append}
use Rattle.irq_base.specs.declared.numbers.CpuNo.{CpuNo}
use Rattle.irq_base.specs.declared.numbers.LineNo.{LineNo}
use Rattle.notifiers.specs.Told.{Notice, Told}
use Rattle.notifiers.proofs.Calls.{told_more}
use Rattle.irq_hotplug.specs.Notices.{TellsMore, notice_of, notices_of}
use Rattle.irq_hotplug.specs.declared.rows.FleetRow.{FleetRow}

module _ {N : Type 0} (tells : N → LineNo → CpuNo → ℕ → N → Type 0) where
  abbrev Tell : N → N → List FleetRow → List FleetRow → Type 0
  Tell h k before now = TellsMore (λ placings. Told tells placings h k) before now

  -- nothing is said
  pub none_told : (before now : List FleetRow) (h : N) → now ≡ before → Tell h h before now
  none_told before now h is = record { rows = []; said = is ∙ sym (append-nil before); placings = refl }

  -- some are told, and then more
  pub tells_on : (before between now : List FleetRow) (h k m : N) → Tell h k before between → Tell k m between now → Tell h m before now
  tells_on before between now h k m first then =
      record {
        rows = first.rows ++ then.rows;
        said = then.said ∙ ap (λ (xs : List FleetRow). xs ++ then.rows) first.said ∙ append_assoc before first.rows then.rows;
        placings = subst (λ (placings : List Notice). Told tells placings h m) (sym (flat_map-append notice_of first.rows then.rows))
            (told_more tells (notices_of first.rows) (notices_of then.rows) h k m first.placings then.placings);
      }

  -- what was said before was told, and then more
  pub told_after : (before now : List FleetRow) (h k m : N) → Told tells (notices_of before) h k → Tell k m before now → Told tells (notices_of now) h m
  told_after before now h k m first then =
      subst (λ (placings : List Notice). Told tells placings h m)
      (sym (ap notices_of then.said ∙ flat_map-append notice_of before then.rows))
      (told_more tells (notices_of before) (notices_of then.rows) h k m first then.placings)
