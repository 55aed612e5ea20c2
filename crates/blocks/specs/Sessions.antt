-- The format page, "Set-up": a block from `unit`, or from `make`, to `end`. Assumes nothing.
use Rattle.std.specs.Prelude.{Bool, true, false, cond, Option, Some, None, is_some, option_map}
use Rattle.std.specs.Option.{unwrap_or}
use Rattle.drive.specs.declared.Edition.{Edition}
use Rattle.drive.specs.declared.Edition.TheVariants.{Draft}
use Rattle.unit.specs.Units.{blank}
use Rattle.unit.specs.declared.Unit.{Unit}
use Rattle.asked.specs.declared.Line.{Line}
use Rattle.asked.specs.declared.Line.TheVariants.{Blank, Asks, Sets, Tells, Opens, Makes, Closes, Shows, Tables}
use Rattle.asked.specs.declared.Part.{Part}
use Rattle.asked.specs.declared.Part.TheVariants.{Settings}
use Rattle.blocks.specs.Parts.{set_part}
use Rattle.blocks.specs.declared.Block.{Block}
use Rattle.blocks.specs.declared.Block.TheVariants.{UnitBlock, MakeBlock}
use Rattle.blocks.specs.declared.Session.{Session}

abbrev pub session : Unit → Option Block → Option Unit → Session
session u block planned = record { unit = u; block = block; planned = planned }

-- "A run starts with an all-zero unit: nothing supported, Active."
abbrev pub start_session : Session
start_session = session (blank Draft) None (Some (blank Draft))

abbrev pub with_unit : Unit → Session → Session
with_unit u s = session u s.block s.planned

abbrev pub is_open : Option Block → Bool
is_open block = is_some block

-- "`unit` opens a block"; "what is not given is zero, none or empty".
abbrev pub opened : Session → Session
opened s = session s.unit (Some UnitBlock) (Some (blank Draft))

-- "`make E`, E 0 or 1, then lines `m` .. (what is not given is zero, the last holds), up to `end`": planned is the unit that manufacture makes.
abbrev pub opened_make : Edition → Session → Session
opened_make e s = session s.unit (Some MakeBlock) (Some (blank e))

-- "A bad line in a block makes the whole block `error`": nothing is planned any more.
abbrev pub spoilt : Session → Session
spoilt s = session s.unit s.block None

abbrev pub with_part : Session → Part → Session
with_part s p = session s.unit s.block (option_map (set_part p) s.planned)

-- The parts of a record are lines of a `unit` block, what the maker says of a condition is one of a `make` block: "bad lines as in a `unit` block".
abbrev pub takes_parts : Option Block → Bool
takes_parts None = false
takes_parts (Some UnitBlock) = true
takes_parts (Some MakeBlock) = false

abbrev pub takes_told : Option Block → Bool
takes_told None = false
takes_told (Some UnitBlock) = false
takes_told (Some MakeBlock) = true

-- "Bad lines: any that is not listed here (calls, `show`, `table`, a second `unit`, `end` with more words: the block stays open)". A line that
-- closes the block is not asked about.
abbrev pub after_line : Option Line → Session → Session
after_line (Some Blank) s = s
after_line (Some (Sets p)) s = cond (takes_parts s.block) (with_part s p) (spoilt s)
after_line (Some (Tells c r)) s = cond (takes_told s.block) (with_part s (Settings c r)) (spoilt s)
after_line (Some (Asks c)) s = spoilt s
after_line (Some Opens) s = spoilt s
after_line (Some (Makes e)) s = spoilt s
after_line (Some Closes) s = spoilt s
after_line (Some Shows) s = spoilt s
after_line (Some Tables) s = spoilt s
after_line None s = spoilt s

-- A block's end, with the unit that it leaves.
abbrev pub closed_with : Unit → Session → Session
closed_with u s = session u None s.planned

-- "The block replaces the whole record"; a bad line in it: "the record stays as it was".
abbrev pub closed : Session → Session
closed s = closed_with (unwrap_or s.planned s.unit) s
