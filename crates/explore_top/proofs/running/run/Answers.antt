use Rattle.std.proofs.Common.{◌≡◌, None, ap, refl, subst, sym}
use Rattle.std.specs.Io.Buffered.{writer_contents}
use Rattle.callbacks.specs.Heard.{Heard}
use Rattle.explore_words.specs.Words.{Asks}
use Rattle.program_io.proofs.Streams.{keeps_std, keeps_unbuffered, unbuffered}
use Rattle.program_io.specs.Arguments.{IsForm}
use Rattle.program_io.specs.Streams.{KeepsStdStreams}
use Rattle.explore_top.proofs.Forms.{of_streams, same_reader, without_memory}
use Rattle.explore_top.specs.Ending.{end_seen}
use Rattle.explore_top.specs.declared.ending.Ending.{Ending}
use Rattle.explore_top.specs.declared.ending.Ending.TheVariants as endings
use Rattle.explore_top.proofs.running.run.Goals as goal

pub returns-in-Ok-clause-does : goal.returns-in-Ok-clause-does
returns-in-Ok-clause-does g c =
    of_streams (IsForm Asks c.args.args) (λ runs. Heard g.H.Handler.hears runs c.args.handlers.now c.command-end.new.handlers)
    (c.command-end.new.handlers ≡ c.args.handlers.now) (g.R.Read.remaining c.command-end.new.src.reader)
    (writer_contents g.O.Write.contents c.command-end.new.out.writer) c.command-end.result (c.command-end.new.src ≡ c.new-input.result)
    (c.command-end.new.src.reader ≡ c.args.input) (g.R.Read.remaining c.new-input.result.reader) (g.R.Read.remaining c.args.input)
    (writer_contents g.O.Write.contents c.in-Ok.output.writer) (g.O.Write.contents c.args.output)
    (same_reader c.command-end.new.src c.new-input.result c.args.input c.new-input.ensures.reader)
    (ap g.R.Read.remaining c.new-input.ensures.reader)
    (unbuffered g.O.Write.contents c.in-Ok.output.writer c.args.output c.in-Ok.ensures.inner c.in-Ok.ensures.empty) c.command-end.ensures.does

pub returns-in-Ok-clause-keeps : goal.returns-in-Ok-clause-keeps
returns-in-Ok-clause-keeps g c =
    keeps_std (end_seen c.command-end.result) g.O.Write.contents c.args.output g.E.Write.contents c.args.error c.without_buffer-error.result
    c.command-end.new.err c.without_buffer-error.ensures.inner c.without_buffer-error.ensures.empty c.without_buffer-error.ensures.counts
    c.new-input.result c.command-end.new.src c.in-Ok.output c.command-end.new.out c.new-input.ensures.counts c.in-Ok.ensures.inner
    c.in-Ok.ensures.empty c.in-Ok.ensures.counts c.command-end.ensures.keeps

pub returns-in-Err-clause-does : goal.returns-in-Err-clause-does
returns-in-Err-clause-does g c =
    without_memory (λ runs. Heard g.H.Handler.hears runs c.args.handlers.now c.args.handlers.now) (c.new-input.result.reader ≡ c.args.input)
    (c.args.handlers.now ≡ c.args.handlers.now) (g.R.Read.remaining c.args.input) (g.R.Read.remaining c.new-input.result.reader)
    (g.O.Write.contents c.args.output) (g.O.Write.contents c.args.output) c.ended.result c.args.args refl c.new-input.ensures.reader refl
    c.ended.ensures.ending

pub returns-in-Err-clause-keeps : goal.returns-in-Err-clause-keeps
returns-in-Err-clause-keeps g c =
    subst (λ (e : Ending). KeepsStdStreams (end_seen e) c.new-input.result.faults g.O.Write.contents c.args.output None g.E.Write.contents
    c.args.error c.ended.new.err) (sym c.ended.ensures.ending)
    (keeps_unbuffered (end_seen endings.NoMemory) g.O.Write.contents c.args.output g.E.Write.contents c.args.error c.without_buffer-error.result
    c.ended.new.err c.without_buffer-error.ensures.inner c.without_buffer-error.ensures.empty c.without_buffer-error.ensures.counts
    c.new-input.result.faults c.new-input.ensures.counts (record { unprinted = refl; unread = refl; unwritten = refl; told = refl })
    c.ended.ensures.tells)
