-- What the versions of texts have.
use Rattle.std.specs.Prelude.{ℕ, Bool, nat_le}

-- the call `moment`
abbrev pub has_moments : ℕ → Bool
has_moments version = nat_le 2 version

-- what handlers and threads call and answer, and the kinds and options of devices that go with it
abbrev pub has_runs : ℕ → Bool
has_runs version = nat_le 3 version
