-- After so many turns the page is that of the records so far: one turn is `page_more`.
use Rattle.std.proofs.Common.{◌≡◌, take}
use Rattle.pages.specs.Logs.{log_bytes}
use Rattle.pages.proofs.log_page.Given as goal

abbrev pub invariant-loop-place : goal.invariant-loop-place
invariant-loop-place l = l.page ≡ log_bytes (take l.place l.fn.records)
