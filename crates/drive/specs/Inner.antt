-- Names for what inner functions promise of a condition's record: whether its timers are set, within their bound. Nothing outside this crate cites them.
use Rattle.std.specs.Prelude.{Bool, not, ◌&&◌, ℕ, leb, eqb}
use Rattle.drive.specs.declared.Setting.{Setting}
use Rattle.drive.specs.declared.Record.{Record}

-- The timer is not zero and not above the bound.
abbrev pub set_within : ℕ → Setting → Bool
set_within top s = not (eqb s.timer.0 0) && leb s.timer.0 top

abbrev pub timers_set : ℕ → Record → Bool
timers_set top r = set_within top r.default && set_within top r.saved && set_within top r.current
