-- The format page, request (vi)'s lines: "`ed 0` or `ed 1` (published)", "`make E`, E 0 or 1". Assumes nothing.
use Rattle.std.specs.Prelude.{Bool, cond}
use Rattle.drive.specs.declared.Edition.{Edition}
use Rattle.drive.specs.declared.Edition.TheVariants.{Draft, Published}

abbrev pub edition_from : Bool → Edition
edition_from published = cond published Published Draft
