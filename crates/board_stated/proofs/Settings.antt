-- A board keeps its rules with other settings of the machine that keep theirs.
use Rattle.std.proofs.Common.{◌≡◌, ℕ, ◌*◌, ◌<◌, ◌≤◌, All, List, [], ◌∷◌, length, refl, sym, subst, arith}
use Rattle.std.proofs.lemmas.List.Elements.{All-same, All-nil}
use Rattle.irq_base.specs.declared.entries.Actor.{Actor}
use Rattle.irq_base.specs.declared.entries.Actor.TheVariants as actors
use Rattle.board_def.specs.Rules.{IsLineAfter, IsDeviceAfter, IsCallAfter, IsActorOf, IsBoard}
use Rattle.board_def.specs.Seen.{BoardSeen}
use Rattle.board_def.proofs.Grows.{each_from, all_from}
use Rattle.domain_rules.specs.Domains.{EachAfter}
use Rattle.board_words.specs.declared.statements.Statement.{Statement}
use Rattle.board_words.specs.declared.statements.Statement.TheVariants as statements
use Rattle.board_stated.specs.Sound.{IsWellFormed, IsSound}
use Rattle.board_stated.specs.Sections.{writer_of}
use Rattle.board_stated.specs.Stated.{with_call, with_statement, board_of}
use Rattle.board_stated.specs.declared.writers.Writer.{Writer}
use Rattle.board_stated.specs.declared.writers.Writer.TheVariants as writers
use Rattle.board_words.specs.declared.statements.CallWords.{CallWords}
use Rattle.board_stated.proofs.Ascending.{each_of_none}
use Rattle.board_stated.proofs.Reached.{NoRows}

-- the board with other settings
abbrev set : BoardSeen → ℕ → ℕ → ℕ → ℕ → ℕ → BoardSeen
set b version cpus window limit log = record b { version = version; cpus = cpus; window = window; limit = limit; log = log }

-- of the rules of rows only those of lines and picks look at a setting: the number of processors
set_kept : (b : BoardSeen) (version cpus window limit log : ℕ) → IsBoard b → (1 ≤ cpus) × (cpus ≤ 32) → (window ≤ 1000000) × (limit < window)
    → (1 ≤ log) × (log ≤ 1000000) → log * length b.lines ≤ 4000000 → EachAfter (IsLineAfter (set b version cpus window limit log)) b.lines
    → All (IsActorOf (set b version cpus window limit log)) b.picks → IsBoard (set b version cpus window limit log)
set_kept b version cpus window limit log board some spurious logged entries lines picks =
    let next = set b version cpus window limit log in
    record {
      some_cpu = some.0;
      few_cpus = some.1;
      small_window = spurious.0;
      limit = spurious.1;
      some_log = logged.0;
      small_log = logged.1;
      few_domains = board.few_domains;
      few_lines = board.few_lines;
      few_devices = board.few_devices;
      few_drivers = board.few_drivers;
      few_calls = board.few_calls;
      few_picks = board.few_picks;
      entries = entries;
      domains = board.domains;
      lines = lines;
      devices = each_from (IsDeviceAfter b) (IsDeviceAfter next)
          (λ earlier x p. record { number = p.number; rises = p.rises; line = p.line; thread = p.thread })
          b.devices board.devices;
      told = board.told;
      runs = board.runs;
      drivers = board.drivers;
      calls = each_from (IsCallAfter b) (IsCallAfter next)
          (λ earlier e p. record { driver = p.driver; in_order = p.in_order; line = p.line; device = p.device; owner = p.owner }) b.calls board.calls;
      picks = picks;
    }

pub cpus_kept : (b : BoardSeen) (cpus : ℕ) → NoRows b → IsBoard b → IsWellFormed (statements.Cpus cpus) → IsBoard (record b { cpus = cpus })
cpus_kept b cpus none board fits =
    let next : BoardSeen = record b { cpus = cpus } in
    set_kept b b.version cpus b.window b.limit b.log board fits (board.small_window, board.limit) (board.some_log, board.small_log) board.entries
    (each_of_none (IsLineAfter next) b.lines none.0) (All-same (IsActorOf next) b.picks [] none.1 (All-nil (IsActorOf next)))

-- ---- with the same processors

same_actor : (b : BoardSeen) (version window limit log : ℕ) (a : Actor) → IsActorOf b a → IsActorOf (set b version b.cpus window limit log) a
same_actor b version window limit log (actors.Thread dev) h = h
same_actor b version window limit log (actors.Cpu cpu) h = h
same_actor b version window limit log (actors.Driver driver) h = h

counts_kept : (b : BoardSeen) (version window limit log : ℕ) → IsBoard b → (window ≤ 1000000) × (limit < window) → (1 ≤ log) × (log ≤ 1000000)
    → log * length b.lines ≤ 4000000 → IsBoard (set b version b.cpus window limit log)
counts_kept b version window limit log board spurious logged entries =
    let next = set b version b.cpus window limit log in
    set_kept b version b.cpus window limit log board (board.some_cpu, board.few_cpus) spurious logged entries
    (each_from (IsLineAfter b) (IsLineAfter next)
    (λ earlier row p. record { number = p.number; rises = p.rises; domain = p.domain; unlazy = p.unlazy; mask = p.mask }) b.lines board.lines)
    (all_from (IsActorOf b) (IsActorOf next) (same_actor b version window limit log) b.picks board.picks)

pub spurious_kept : (b : BoardSeen) (window limit : ℕ) → IsBoard b → IsWellFormed (statements.Spurious window limit)
    → IsBoard (record b { window = window; limit = limit })
spurious_kept b window limit board fits = counts_kept b b.version window limit b.log board fits (board.some_log, board.small_log) board.entries

pub version_kept : (b : BoardSeen) (version : ℕ) → IsBoard b → IsBoard (record b { version = version })
version_kept b version board = counts_kept b version b.window b.limit b.log board (board.small_window, board.limit)
    (board.some_log, board.small_log) board.entries

-- ---- the log limit

log_of_call : (whose : Writer) (c : CallWords) (b : BoardSeen) → (with_call whose c b).log ≡ b.log
log_of_call writers.Nobody c b = refl
log_of_call writers.Driver c b = refl
log_of_call (writers.Runs dev part) c b = refl

log_more : (whose : Writer) (s : Statement) (b : BoardSeen) → IsWellFormed s → (1 ≤ b.log) × (b.log ≤ 1000000)
    → (1 ≤ (with_statement whose s b).log) × ((with_statement whose s b).log ≤ 1000000)
log_more whose (statements.Board version) b fits h = h
log_more whose (statements.Cpus cpus) b fits h = h
log_more whose (statements.Spurious window limit) b fits h = h
log_more whose (statements.Log log) b fits h = fits
log_more whose (statements.Domain d) b fits h = h
log_more whose (statements.Line l) b fits h = h
log_more whose (statements.Device d) b fits h = h
log_more whose (statements.Answers dev part answers) b fits h = h
log_more whose (statements.Runs dev part) b fits h = h
log_more whose (statements.Driver driver) b fits h = h
log_more whose (statements.Call c) b fits h = subst (λ n. (1 ≤ n) × (n ≤ 1000000)) (sym (log_of_call whose c b)) h
log_more whose (statements.Picks picks) b fits h = h

pub log_range : (past : List Statement) → IsSound past → (1 ≤ (board_of past).log) × ((board_of past).log ≤ 1000000)
log_range [] sound = (omega arith, omega arith)
log_range (s ∷ past) sound = log_more (writer_of past) s (board_of past) sound.1 (log_range past sound.0)

-- a board whose rules hold at the least log limit keeps them at its own
pub log_kept : (b : BoardSeen) → IsBoard (record b { log = 1 }) → (1 ≤ b.log) × (b.log ≤ 1000000) → b.log * length b.lines ≤ 4000000 → IsBoard b
log_kept b board log entries = counts_kept (record b { log = 1 }) b.version b.window b.limit b.log board (board.small_window, board.limit) log entries
