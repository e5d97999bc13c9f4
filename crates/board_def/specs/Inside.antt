-- What is seen of a board's fields.
use Rattle.board_def.specs.Seen.{BoardSeen}
use Rattle.board_def.specs.declared.board.Board.TheInside.{Inside}

abbrev pub board_seen : Inside → BoardSeen
board_seen b =
    record {
      version = b.version;
      cpus = b.cpus;
      window = b.window;
      limit = b.limit;
      log = b.log;
      domains = b.domains;
      lines = b.lines;
      devices = b.devices;
      told = b.told.items;
      runs = b.runs.items;
      drivers = b.drivers;
      calls = b.calls.items;
      picks = b.picks.items;
    }
