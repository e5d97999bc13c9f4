use Rattle.std.proofs.Common.{sym, ◌∙◌}
use Rattle.std.proofs.lemmas.Result.{err_from_is_err_and}
use Rattle.board_words.specs.Keywords.{call_text}
use Rattle.board_words.specs.Seen.{words_left}
use Rattle.board_words.specs.Statements.{call_of}
use Rattle.board_words.specs.declared.keywords.CallWord.TheVariants as words
use Rattle.board_words.specs.declared.statements.CallWords.TheVariants as calls
use Rattle.board_words.proofs.Order.{outcome_ok, outcome_err}
use Rattle.board_words.proofs.calls.read_call.Goals as goal

pub returns-in_err-dev-in-Free : goal.returns-in_err-dev-in-Free
returns-in_err-dev-in-Free c =
    let p = err_from_is_err_and c.from_residual.result c.from_residual.ensures.1 in
    rw (c.in-Free.is, p.1, p.2) (outcome_err _ _ (call_of (call_text words.Free) (words_left c.args.words)) _ (sym c.in_err-dev-in-Free.was ∙ c.dev.ensures))

pub returns-in_err-dev-in-Ask : goal.returns-in_err-dev-in-Ask
returns-in_err-dev-in-Ask c =
    let p = err_from_is_err_and c.from_residual-in_err-dev-in-Ask.result c.from_residual-in_err-dev-in-Ask.ensures.1 in
    rw (c.in-Ask.is, p.1, p.2) (outcome_err _ _ (call_of (call_text words.Ask) (words_left c.args.words)) _
    (sym c.in_err-dev-in-Ask.was ∙ c.dev-in-Ask.ensures))

pub returns-in_err-line-in-Disable : goal.returns-in_err-line-in-Disable
returns-in_err-line-in-Disable c =
    let p = err_from_is_err_and c.from_residual-in_err-line-in-Disable.result c.from_residual-in_err-line-in-Disable.ensures.1 in
    rw (c.in-Disable.is, p.1, p.2) (outcome_err _ _ (call_of (call_text words.Disable) (words_left c.args.words)) _
    (sym c.in_err-line-in-Disable.was ∙ c.line.ensures))

pub returns-in_err-line-in-DisableNosync : goal.returns-in_err-line-in-DisableNosync
returns-in_err-line-in-DisableNosync c =
    let p = err_from_is_err_and c.from_residual-in_err-line-in-DisableNosync.result c.from_residual-in_err-line-in-DisableNosync.ensures.1 in
    rw (c.in-DisableNosync.is, p.1, p.2) (outcome_err _ _
    (call_of (call_text words.DisableNosync) (words_left c.args.words)) _
    (sym c.in_err-line-in-DisableNosync.was ∙ c.line-in-DisableNosync.ensures))

pub returns-in_err-line-in-Enable : goal.returns-in_err-line-in-Enable
returns-in_err-line-in-Enable c =
    let p = err_from_is_err_and c.from_residual-in_err-line-in-Enable.result c.from_residual-in_err-line-in-Enable.ensures.1 in
    rw (c.in-Enable.is, p.1, p.2) (outcome_err _ _ (call_of (call_text words.Enable) (words_left c.args.words)) _
    (sym c.in_err-line-in-Enable.was ∙ c.line-in-Enable.ensures))

pub returns-in_err-line-in-Sync : goal.returns-in_err-line-in-Sync
returns-in_err-line-in-Sync c =
    let p = err_from_is_err_and c.from_residual-in_err-line-in-Sync.result c.from_residual-in_err-line-in-Sync.ensures.1 in
    rw (c.in-Sync.is, p.1, p.2) (outcome_err _ _ (call_of (call_text words.Sync) (words_left c.args.words)) _
    (sym c.in_err-line-in-Sync.was ∙ c.line-in-Sync.ensures))

pub returns-in_ok-dev-in-Free : goal.returns-in_ok-dev-in-Free
returns-in_ok-dev-in-Free c = rw c.in-Free.is (outcome_ok (λ x. calls.Free x) _ _ _ (sym c.in_ok-dev-in-Free.was ∙ c.dev.ensures))

pub returns-in_ok-dev-in-Ask : goal.returns-in_ok-dev-in-Ask
returns-in_ok-dev-in-Ask c = rw c.in-Ask.is (outcome_ok (λ x. calls.Ask x) _ _ _ (sym c.in_ok-dev-in-Ask.was ∙ c.dev-in-Ask.ensures))

pub returns-in_ok-line-in-Disable : goal.returns-in_ok-line-in-Disable
returns-in_ok-line-in-Disable c = rw c.in-Disable.is (outcome_ok (λ x. calls.Disable x) _ _ _ (sym c.in_ok-line-in-Disable.was ∙ c.line.ensures))

pub returns-in_ok-line-in-DisableNosync : goal.returns-in_ok-line-in-DisableNosync
returns-in_ok-line-in-DisableNosync c = rw c.in-DisableNosync.is
    (outcome_ok (λ x. calls.DisableNosync x) _ _ _ (sym c.in_ok-line-in-DisableNosync.was
    ∙ c.line-in-DisableNosync.ensures))

pub returns-in_ok-line-in-Enable : goal.returns-in_ok-line-in-Enable
returns-in_ok-line-in-Enable c = rw c.in-Enable.is (outcome_ok (λ x. calls.Enable x) _ _ _ (sym c.in_ok-line-in-Enable.was ∙ c.line-in-Enable.ensures))

pub returns-in_ok-line-in-Sync : goal.returns-in_ok-line-in-Sync
returns-in_ok-line-in-Sync c = rw c.in-Sync.is (outcome_ok (λ x. calls.Sync x) _ _ _ (sym c.in_ok-line-in-Sync.was ∙ c.line-in-Sync.ensures))

pub returns-in_err-line-in-SyncHard : goal.returns-in_err-line-in-SyncHard
returns-in_err-line-in-SyncHard c =
    let p = err_from_is_err_and c.from_residual-in_err-line-in-SyncHard.result c.from_residual-in_err-line-in-SyncHard.ensures.1 in
    rw (c.in-SyncHard.is, p.1, p.2) (outcome_err _ _ (call_of (call_text words.SyncHard) (words_left c.args.words)) _
    (sym c.in_err-line-in-SyncHard.was ∙ c.line-in-SyncHard.ensures))

pub returns-in_ok-line-in-SyncHard : goal.returns-in_ok-line-in-SyncHard
returns-in_ok-line-in-SyncHard c = rw c.in-SyncHard.is
    (outcome_ok (λ x. calls.SyncHard x) _ _ _ (sym c.in_ok-line-in-SyncHard.was ∙ c.line-in-SyncHard.ensures))

pub returns-in_err-line-in-DisableHard : goal.returns-in_err-line-in-DisableHard
returns-in_err-line-in-DisableHard c =
    let p = err_from_is_err_and c.from_residual-in_err-line-in-DisableHard.result c.from_residual-in_err-line-in-DisableHard.ensures.1 in
    rw (c.in-DisableHard.is, p.1, p.2) (outcome_err _ _ (call_of (call_text words.DisableHard) (words_left c.args.words)) _
    (sym c.in_err-line-in-DisableHard.was ∙ c.line-in-DisableHard.ensures))

pub returns-in_ok-line-in-DisableHard : goal.returns-in_ok-line-in-DisableHard
returns-in_ok-line-in-DisableHard c = rw c.in-DisableHard.is
    (outcome_ok (λ x. calls.DisableHard x) _ _ _ (sym c.in_ok-line-in-DisableHard.was ∙ c.line-in-DisableHard.ensures))

pub returns-in_err-dev-in-Wake : goal.returns-in_err-dev-in-Wake
returns-in_err-dev-in-Wake c =
    let p = err_from_is_err_and c.from_residual-in_err-dev-in-Wake.result c.from_residual-in_err-dev-in-Wake.ensures.1 in
    rw (c.in-Wake.is, p.1, p.2) (outcome_err _ _ (call_of (call_text words.Wake) (words_left c.args.words)) _
    (sym c.in_err-dev-in-Wake.was ∙ c.dev-in-Wake.ensures))

pub returns-in_ok-dev-in-Wake : goal.returns-in_ok-dev-in-Wake
returns-in_ok-dev-in-Wake c = rw c.in-Wake.is (outcome_ok (λ x. calls.Wake x) _ _ _ (sym c.in_ok-dev-in-Wake.was ∙ c.dev-in-Wake.ensures))

pub returns-in_err-dev-in-Quiet : goal.returns-in_err-dev-in-Quiet
returns-in_err-dev-in-Quiet c =
    let p = err_from_is_err_and c.from_residual-in_err-dev-in-Quiet.result c.from_residual-in_err-dev-in-Quiet.ensures.1 in
    rw (c.in-Quiet.is, p.1, p.2) (outcome_err _ _ (call_of (call_text words.Quiet) (words_left c.args.words)) _
    (sym c.in_err-dev-in-Quiet.was ∙ c.dev-in-Quiet.ensures))

pub returns-in_ok-dev-in-Quiet : goal.returns-in_ok-dev-in-Quiet
returns-in_ok-dev-in-Quiet c = rw c.in-Quiet.is (outcome_ok (λ x. calls.Quiet x) _ _ _ (sym c.in_ok-dev-in-Quiet.was ∙ c.dev-in-Quiet.ensures))

pub returns-in_err-dev-in-Arm : goal.returns-in_err-dev-in-Arm
returns-in_err-dev-in-Arm c =
    let p = err_from_is_err_and c.from_residual-in_err-dev-in-Arm.result c.from_residual-in_err-dev-in-Arm.ensures.1 in
    rw (c.in-Arm.is, p.1, p.2) (outcome_err _ _ (call_of (call_text words.Arm) (words_left c.args.words)) _
    (sym c.in_err-dev-in-Arm.was ∙ c.dev-in-Arm.ensures))

pub returns-in_ok-dev-in-Arm : goal.returns-in_ok-dev-in-Arm
returns-in_ok-dev-in-Arm c = rw c.in-Arm.is (outcome_ok (λ x. calls.Arm x) _ _ _ (sym c.in_ok-dev-in-Arm.was ∙ c.dev-in-Arm.ensures))

pub returns-in_err-dev-in-Serve : goal.returns-in_err-dev-in-Serve
returns-in_err-dev-in-Serve c =
    let p = err_from_is_err_and c.from_residual-in_err-dev-in-Serve.result c.from_residual-in_err-dev-in-Serve.ensures.1 in
    rw (c.in-Serve.is, p.1, p.2) (outcome_err _ _ (call_of (call_text words.Serve) (words_left c.args.words)) _
    (sym c.in_err-dev-in-Serve.was ∙ c.dev-in-Serve.ensures))

pub returns-in_ok-dev-in-Serve : goal.returns-in_ok-dev-in-Serve
returns-in_ok-dev-in-Serve c = rw c.in-Serve.is (outcome_ok (λ x. calls.Serve x) _ _ _ (sym c.in_ok-dev-in-Serve.was ∙ c.dev-in-Serve.ensures))
