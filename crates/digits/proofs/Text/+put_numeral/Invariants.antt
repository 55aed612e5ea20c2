-- It calls itself at k - 1, so its measure is k.
use Rattle.digits.proofs.Text.+put_numeral.Given as goal

abbrev pub decreases-put_numeral : goal.decreases-put_numeral
decreases-put_numeral l = l.k
