use Rattle.std.proofs.Common.{◌≡◌, ℕ, ◌∙◌, List, ap, map, refl, string_bytes, subst, sym, Bor}
use Rattle.std.specs.Global.{Global}
use Rattle.std.specs.declared.string.String.{String}
use Rattle.callbacks.specs.Heard.{Heard}
use Rattle.program_io.proofs.Forms.{not_text}
use Rattle.program_io.specs.Arguments.{AreText, IsRefusal}
use Rattle.program_io.specs.declared.arguments.ArgumentsRefused.{ArgumentsRefused}
use Rattle.explore_top.proofs.Forms.{of_text, without_memory, without_text}
use Rattle.explore_top.proofs.commands.command.Goals as goal

pub returns-in-Ok-lend-clause-does : goal.returns-in-Ok-lend-clause-does
returns-in-Ok-lend-clause-does g c =
    of_text (λ runs. Heard g.H.Handler.hears runs c.args.handlers.now c.explore_main.new.handlers) (c.explore_main.new.src ≡ c.args.src.now)
    (c.explore_main.new.handlers ≡ c.args.handlers.now) (g.S.Source.left c.args.src.now) (g.S.Source.left c.explore_main.new.src)
    (g.O.Sink.written c.args.out.now) (g.O.Sink.written c.explore_main.new.out) c.explore_main.result c.args.args
    (map (λ (w : Bor (List ℕ)). w.now) c.as_slice-in-Ok-lend.result.now)
    (subst (λ (ws : List (List ℕ)). AreText c.args.args ws)
    (sym (ap (λ (ws : List (Bor (List ℕ))). map (λ (w : Bor (List ℕ)). w.now) ws) c.as_slice-in-Ok-lend.ensures.value
    ∙ (c.in-Ok-lend.ensures ∙ ap (λ (ws : List (String Global)). map string_bytes ws) c.as_slice.ensures.value)))
    c.in-Ok.ensures.words)
    c.explore_main.ensures.usage c.explore_main.ensures.unread c.explore_main.ensures.unheard c.explore_main.ensures.does

pub returns-in-Ok-clause-does : goal.returns-in-Ok-clause-does
returns-in-Ok-clause-does g c =
    without_memory (λ runs. Heard g.H.Handler.hears runs c.args.handlers.now c.args.handlers.now) (c.args.src.now ≡ c.args.src.now)
    (c.args.handlers.now ≡ c.args.handlers.now) (g.S.Source.left c.args.src.now) (g.S.Source.left c.args.src.now)
    (g.O.Sink.written c.args.out.now) (g.O.Sink.written c.args.out.now) c.ended.result c.args.args refl refl refl c.ended.ensures.ending

pub returns-in-Err-NotText-clause-does : goal.returns-in-Err-NotText-clause-does
returns-in-Err-NotText-clause-does g c =
    without_text (λ runs. Heard g.H.Handler.hears runs c.args.handlers.now c.args.handlers.now) (c.args.src.now ≡ c.args.src.now)
    (c.args.handlers.now ≡ c.args.handlers.now) (g.S.Source.left c.args.src.now) (g.S.Source.left c.args.src.now)
    (g.O.Sink.written c.args.out.now) (g.O.Sink.written c.args.out.now) c.ended-in-Err-NotText.result c.args.args refl refl refl
    (not_text c.args.args
    (subst (λ (r : ArgumentsRefused). IsRefusal c.args.args r) c.in-Err-NotText.field-0-is c.in-Err-NotText.ensures.refused))
    c.ended-in-Err-NotText.ensures.ending

pub returns-clause-does : goal.returns-clause-does
returns-clause-does g c =
    without_memory (λ runs. Heard g.H.Handler.hears runs c.args.handlers.now c.args.handlers.now) (c.args.src.now ≡ c.args.src.now)
    (c.args.handlers.now ≡ c.args.handlers.now) (g.S.Source.left c.args.src.now) (g.S.Source.left c.args.src.now)
    (g.O.Sink.written c.args.out.now) (g.O.Sink.written c.args.out.now) c.ended-in-Err-NoMemory.result c.args.args refl refl refl
    c.ended-in-Err-NoMemory.ensures.ending
