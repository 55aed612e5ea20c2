-- The first byte follows the flag; the others are given.
use Rattle.senses.specs.Senses.{sense_bytes}
use Rattle.senses.proofs.sense_bytes.Goals as goal

pub returns-then-deferred : goal.returns-then-deferred
unfolding sense_bytes
returns-then-deferred c = rw c.if-deferred.true

pub returns-else-deferred : goal.returns-else-deferred
unfolding sense_bytes
returns-else-deferred c = rw c.if-deferred.false
