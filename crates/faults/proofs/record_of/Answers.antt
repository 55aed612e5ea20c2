-- The condition of a place begins at sixteen times the place.
use Rattle.std.proofs.Common.{sym, ap, ◌∙◌, arith}
use Rattle.pages.specs.Readings.{record_from}
use Rattle.pages.proofs.Words.{place_start}
use Rattle.faults.proofs.record_of.Goals as goal

pub returns : goal.returns
returns c = c.record_from.ensures ∙ ap (record_from c.args.page.now) (sym (place_start c.args.place (omega arith)))
