-- The draft of a board is the board but for its log limit, which no statement's fault looks at.
use Rattle.std.proofs.Common.{◌≡◌, Bool, ◌||◌, List, [], ◌∷◌, refl, ap, ◌∙◌}
use Rattle.std.specs.List.{list_any}
use Rattle.board_stated.specs.FaultsAfter.{is_misplaced, is_not_there, names_nothing, picks_nothing, has_bad_parent}
use Rattle.board_stated.specs.FaultsAfter.{has_bad_unlazy, has_bad_mask, has_bad_run, is_one_too_many}
use Rattle.board_stated.specs.Sections.{writer_of}
use Rattle.board_stated.specs.Sound.{draft_of}
use Rattle.board_def.specs.Seen.{BoardSeen}
use Rattle.board_stated.specs.Stated.{board_of, with_call, with_statement}
use Rattle.board_stated.specs.declared.writers.Writer.{Writer}
use Rattle.board_stated.specs.declared.writers.Writer.TheVariants as writers
use Rattle.board_words.specs.declared.statements.CallWords.{CallWords}
use Rattle.board_words.specs.declared.statements.CallWords.TheVariants as words
use Rattle.irq_base.specs.declared.entries.Actor.{Actor}
use Rattle.irq_base.specs.declared.entries.Actor.TheVariants as actors
use Rattle.board_words.specs.declared.statements.PickWord.{PickWord}
use Rattle.board_words.specs.declared.statements.Statement.{Statement}
use Rattle.board_words.specs.declared.statements.Statement.TheVariants as statements
use Rattle.board_text.specs.Kept.{drafted, log_after, Agrees}
use Rattle.board_text.specs.declared.reader.Reader.{Reader}

-- one more statement

call_drafted : (whose : Writer) (c : CallWords) (b : BoardSeen)
    → record (with_call whose c b) { log = 1 } ≡ record (with_call whose c (record b { log = 1 })) { log = 1 }
call_drafted writers.Nobody c b = refl
call_drafted writers.Driver c b = refl
call_drafted (writers.Runs dev part) c b = refl

pub draft_more : (past : List Statement) (s : Statement) → draft_of (s ∷ past) ≡ drafted (writer_of past) s (draft_of past)
draft_more past (statements.Board version) = refl
draft_more past (statements.Cpus cpus) = refl
draft_more past (statements.Spurious window limit) = refl
draft_more past (statements.Log log) = refl
draft_more past (statements.Domain d) = refl
draft_more past (statements.Line l) = refl
draft_more past (statements.Device d) = refl
draft_more past (statements.Answers dev part answers) = refl
draft_more past (statements.Runs dev part) = refl
draft_more past (statements.Driver driver) = refl
draft_more past (statements.Call c) = call_drafted (writer_of past) c (board_of past)
draft_more past (statements.Picks picks) = refl

calls_drafted : (whose : Writer) (c : CallWords) (b : BoardSeen) → (with_call whose c b).calls ≡ (with_call whose c (record b { log = 1 })).calls
calls_drafted writers.Nobody c b = refl
calls_drafted writers.Driver c b = refl
calls_drafted (writers.Runs dev part) c b = refl

pub calls_more : (past : List Statement) (s : Statement) → (board_of (s ∷ past)).calls ≡ (with_statement (writer_of past) s (draft_of past)).calls
calls_more past (statements.Board version) = refl
calls_more past (statements.Cpus cpus) = refl
calls_more past (statements.Spurious window limit) = refl
calls_more past (statements.Log log) = refl
calls_more past (statements.Domain d) = refl
calls_more past (statements.Line l) = refl
calls_more past (statements.Device d) = refl
calls_more past (statements.Answers dev part answers) = refl
calls_more past (statements.Runs dev part) = refl
calls_more past (statements.Driver driver) = refl
calls_more past (statements.Call c) = calls_drafted (writer_of past) c (board_of past)
calls_more past (statements.Picks picks) = refl

log_of_call : (whose : Writer) (c : CallWords) (b : BoardSeen) → (with_call whose c b).log ≡ b.log
log_of_call writers.Nobody c b = refl
log_of_call writers.Driver c b = refl
log_of_call (writers.Runs dev part) c b = refl

pub log_more : (past : List Statement) (s : Statement) → (board_of (s ∷ past)).log ≡ log_after (board_of past).log s
log_more past (statements.Board version) = refl
log_more past (statements.Cpus cpus) = refl
log_more past (statements.Spurious window limit) = refl
log_more past (statements.Log log) = refl
log_more past (statements.Domain d) = refl
log_more past (statements.Line l) = refl
log_more past (statements.Device d) = refl
log_more past (statements.Answers dev part answers) = refl
log_more past (statements.Runs dev part) = refl
log_more past (statements.Driver driver) = refl
log_more past (statements.Call c) = log_of_call (writer_of past) c (board_of past)
log_more past (statements.Picks picks) = refl

-- the tests on the draft

misplaced_same : (past : List Statement) (s : Statement) → is_misplaced (draft_of past) s ≡ is_misplaced (board_of past) s
misplaced_same past (statements.Line l) = refl
misplaced_same past (statements.Device d) = refl
misplaced_same past (statements.Driver driver) = refl
misplaced_same past _ = refl

pub names_same : (past : List Statement) (c : CallWords) → names_nothing (draft_of past) c ≡ names_nothing (board_of past) c
names_same past (words.Request dev flags twice) = refl
names_same past (words.Free dev) = refl
names_same past (words.Ask dev) = refl
names_same past (words.Disable line) = refl
names_same past (words.DisableNosync line) = refl
names_same past (words.Enable line) = refl
names_same past (words.Sync line) = refl
names_same past (words.Affinity line mask) = refl
names_same past (words.Moment line at) = refl
names_same past (words.SyncHard line) = refl
names_same past (words.DisableHard line) = refl
names_same past (words.Wake dev) = refl
names_same past (words.Quiet dev) = refl
names_same past (words.Arm dev) = refl
names_same past (words.Serve dev) = refl

pick_same : (past : List Statement) (who : Actor) → picks_nothing (draft_of past) who ≡ picks_nothing (board_of past) who
pick_same past (actors.Thread dev) = refl
pick_same past (actors.Cpu cpu) = refl
pick_same past (actors.Driver driver) = refl

picks_same : (past : List Statement) (picks : List PickWord)
    → list_any (λ p. picks_nothing (draft_of past) p.who) picks
    ≡ list_any (λ p. picks_nothing (board_of past) p.who) picks
picks_same past [] = refl
picks_same past (p ∷ ps) = both (picks_nothing (draft_of past) p.who) (picks_nothing (board_of past) p.who) _ _ (pick_same past p.who) (picks_same past ps)
  where
    both : (a b x y : Bool) → a ≡ b → x ≡ y → (a || x) ≡ (b || y)
    both a b x y e f = cc

not_there_same : (past : List Statement) (s : Statement) → is_not_there (draft_of past) s ≡ is_not_there (board_of past) s
not_there_same past (statements.Domain d) = refl
not_there_same past (statements.Line l) = refl
not_there_same past (statements.Device d) = refl
not_there_same past (statements.Answers dev part answers) = refl
not_there_same past (statements.Runs dev part) = refl
not_there_same past (statements.Call c) = names_same past c
not_there_same past (statements.Picks picks) = picks_same past picks
not_there_same past _ = refl

parent_same : (past : List Statement) (s : Statement) → has_bad_parent (draft_of past) s ≡ has_bad_parent (board_of past) s
parent_same past (statements.Domain d) = refl
parent_same past _ = refl

unlazy_same : (past : List Statement) (s : Statement) → has_bad_unlazy (draft_of past) s ≡ has_bad_unlazy (board_of past) s
unlazy_same past (statements.Line l) = refl
unlazy_same past _ = refl

mask_same : (past : List Statement) (s : Statement) → has_bad_mask (draft_of past) s ≡ has_bad_mask (board_of past) s
mask_same past (statements.Line l) = refl
mask_same past _ = refl

run_same : (past : List Statement) (whose : Writer) (s : Statement) → has_bad_run whose (draft_of past) s ≡ has_bad_run whose (board_of past) s
run_same past whose (statements.Answers dev part answers) = refl
run_same past whose (statements.Runs dev part) = refl
run_same past (writers.Runs dev part) (statements.Call c) = refl
run_same past writers.Nobody (statements.Call c) = refl
run_same past writers.Driver (statements.Call c) = refl
run_same past whose _ = refl

room_same : (past : List Statement) (whose : Writer) (s : Statement) → is_one_too_many whose (draft_of past) s ≡ is_one_too_many whose (board_of past) s
room_same past whose (statements.Domain d) = refl
room_same past whose (statements.Line l) = refl
room_same past whose (statements.Device d) = refl
room_same past whose (statements.Answers dev part answers) = refl
room_same past whose (statements.Driver driver) = refl
room_same past writers.Nobody (statements.Call c) = refl
room_same past writers.Driver (statements.Call c) = refl
room_same past (writers.Runs dev part) (statements.Call c) = refl
room_same past whose (statements.Picks picks) = refl
room_same past whose _ = refl

-- and on the reader's board

pub misplaced_read : (past : List Statement) (r : Reader) (s : Statement) → Agrees past r → is_misplaced r.board s ≡ is_misplaced (board_of past) s
misplaced_read past r s h = ap (λ b. is_misplaced b s) h.board ∙ misplaced_same past s

pub not_there_read : (past : List Statement) (r : Reader) (s : Statement) → Agrees past r → is_not_there r.board s ≡ is_not_there (board_of past) s
not_there_read past r s h = ap (λ b. is_not_there b s) h.board ∙ not_there_same past s

pub parent_read : (past : List Statement) (r : Reader) (s : Statement) → Agrees past r → has_bad_parent r.board s ≡ has_bad_parent (board_of past) s
parent_read past r s h = ap (λ b. has_bad_parent b s) h.board ∙ parent_same past s

pub unlazy_read : (past : List Statement) (r : Reader) (s : Statement) → Agrees past r → has_bad_unlazy r.board s ≡ has_bad_unlazy (board_of past) s
unlazy_read past r s h = ap (λ b. has_bad_unlazy b s) h.board ∙ unlazy_same past s

pub mask_read : (past : List Statement) (r : Reader) (s : Statement) → Agrees past r → has_bad_mask r.board s ≡ has_bad_mask (board_of past) s
mask_read past r s h = ap (λ b. has_bad_mask b s) h.board ∙ mask_same past s

pub run_read : (past : List Statement) (r : Reader) (s : Statement) → Agrees past r
    → has_bad_run r.writer r.board s ≡ has_bad_run (writer_of past) (board_of past) s
run_read past r s h = ap (λ b. has_bad_run r.writer b s) h.board ∙ (run_same past r.writer s ∙ ap (λ w. has_bad_run w (board_of past) s) h.writer)

pub room_read : (past : List Statement) (r : Reader) (s : Statement) → Agrees past r
    → is_one_too_many r.writer r.board s ≡ is_one_too_many (writer_of past) (board_of past) s
room_read past r s h =
    ap (λ b. is_one_too_many r.writer b s) h.board ∙ (room_same past r.writer s ∙ ap (λ w. is_one_too_many w (board_of past) s) h.writer)
