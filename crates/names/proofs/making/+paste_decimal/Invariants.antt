use Rattle.names.proofs.making.+paste_decimal.Given as goal

abbrev pub decreases-paste_decimal : goal.decreases-paste_decimal
decreases-paste_decimal l = l.n
