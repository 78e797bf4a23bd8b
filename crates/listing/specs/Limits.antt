-- How much of a file is looked at.
use Rattle.std.specs.Prelude.{ℕ}

-- How many bytes a recording may have.
abbrev pub recording_limit : ℕ
recording_limit = 65536
