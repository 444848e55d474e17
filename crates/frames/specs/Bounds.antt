-- What the code's constants have to be: a line of at most 4,096 characters, and a session's store of 16,384 bytes.
use Rattle.std.specs.Prelude.{◌≡◌}
use Rattle.frames.specs.declared.TheConstants.{MOST_CHARACTERS, MOST_STORE}

pub record TheBounds : Type 0 where
  pub characters : MOST_CHARACTERS ≡ 4096
  pub store : MOST_STORE ≡ 16384
