use Rattle.std.proofs.Common.{◌≡◌, ℕ, ◌∙◌, List, ap, map, refl, string_bytes, subst, sym, Bor}
use Rattle.std.specs.Global.{Global}
use Rattle.std.specs.declared.string.String.{String}
use Rattle.callbacks.specs.Heard.{Heard}
use Rattle.notifiers.specs.Told.{Told}
use Rattle.program_io.proofs.Forms.{not_text}
use Rattle.program_io.specs.Arguments.{AreText, IsRefusal}
use Rattle.program_io.specs.declared.arguments.ArgumentsRefused.{ArgumentsRefused}
use Rattle.irq_top.proofs.Forms.{of_text, without_memory, without_text}
use Rattle.irq_top.proofs.arguments.command.Goals as goal

pub returns-in-Ok-lend-clause-does : goal.returns-in-Ok-lend-clause-does
returns-in-Ok-lend-clause-does g c =
    of_text (λ runs. Heard g.H.Handler.hears runs c.args.handlers.now c.irq_main.new.handlers) (g.D.SharedHandler.gave c.args.shared.now)
    (λ placings. Told g.N.Notifier.tells placings c.args.notify.now c.irq_main.new.notify) g.M.Line.IrqLine.may_want
    (c.irq_main.new.src ≡ c.args.src.now) c.args.args (g.S.Source.left c.args.src.now) (g.S.Source.left c.irq_main.new.src)
    c.irq_main.result.reports.reports (g.O.Sink.written c.args.out.now) (g.O.Sink.written c.irq_main.new.out) c.irq_main.result.ending
    (map (λ (w : Bor (List ℕ)). w.now) c.as_slice-words.result.now)
    (subst (λ (ws : List (List ℕ)). AreText c.args.args ws)
    (sym (ap (λ (ws : List (Bor (List ℕ))). map (λ (w : Bor (List ℕ)). w.now) ws) c.as_slice-words.ensures.value
    ∙ (c.in-Ok-lend.ensures ∙ ap (λ (ws : List (String Global)). map string_bytes ws) c.as_slice.ensures.value)))
    c.in-Ok.ensures.words)
    c.irq_main.ensures.usage c.irq_main.ensures.unasked c.irq_main.ensures.uncalled c.irq_main.ensures.unread c.irq_main.ensures.does
    c.irq_main.ensures.wanted

pub returns-in-Ok-clause-does : goal.returns-in-Ok-clause-does
returns-in-Ok-clause-does g c =
    without_memory (λ runs. Heard g.H.Handler.hears runs c.args.handlers.now c.args.handlers.now) (g.D.SharedHandler.gave c.args.shared.now)
    (λ placings. Told g.N.Notifier.tells placings c.args.notify.now c.args.notify.now) g.M.Line.IrqLine.may_want
    (c.args.src.now ≡ c.args.src.now) c.args.args (g.S.Source.left c.args.src.now) (g.S.Source.left c.args.src.now)
    c.end_early.result.reports.reports (g.O.Sink.written c.args.out.now) (g.O.Sink.written c.args.out.now) refl refl refl
    c.end_early.ensures.reports c.end_early.result.ending c.end_early.ensures.ending

pub returns-in-Err-NotText-clause-does : goal.returns-in-Err-NotText-clause-does
returns-in-Err-NotText-clause-does g c =
    without_text (λ runs. Heard g.H.Handler.hears runs c.args.handlers.now c.args.handlers.now) (g.D.SharedHandler.gave c.args.shared.now)
    (λ placings. Told g.N.Notifier.tells placings c.args.notify.now c.args.notify.now) g.M.Line.IrqLine.may_want
    (c.args.src.now ≡ c.args.src.now) c.args.args (g.S.Source.left c.args.src.now) (g.S.Source.left c.args.src.now)
    c.end_early-in-Err-NotText.result.reports.reports (g.O.Sink.written c.args.out.now) (g.O.Sink.written c.args.out.now) refl refl refl
    c.end_early-in-Err-NotText.ensures.reports c.end_early-in-Err-NotText.result.ending (not_text c.args.args
    (subst (λ (r : ArgumentsRefused). IsRefusal c.args.args r) c.in-Err-NotText.field-0-is c.in-Err-NotText.ensures.refused))
    c.end_early-in-Err-NotText.ensures.ending

pub returns-clause-does : goal.returns-clause-does
returns-clause-does g c =
    without_memory (λ runs. Heard g.H.Handler.hears runs c.args.handlers.now c.args.handlers.now) (g.D.SharedHandler.gave c.args.shared.now)
    (λ placings. Told g.N.Notifier.tells placings c.args.notify.now c.args.notify.now) g.M.Line.IrqLine.may_want
    (c.args.src.now ≡ c.args.src.now) c.args.args (g.S.Source.left c.args.src.now) (g.S.Source.left c.args.src.now)
    c.end_early-in-Err-NoMemory.result.reports.reports (g.O.Sink.written c.args.out.now) (g.O.Sink.written c.args.out.now) refl refl refl
    c.end_early-in-Err-NoMemory.ensures.reports c.end_early-in-Err-NoMemory.result.ending c.end_early-in-Err-NoMemory.ensures.ending
