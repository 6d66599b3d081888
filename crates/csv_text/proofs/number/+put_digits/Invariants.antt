-- The measure of `csv_text::number::put_digits` is the number.
use Rattle.csv_text.proofs.number.+put_digits.Given as goal

abbrev pub decreases-put_digits : goal.decreases-put_digits
decreases-put_digits l = l.n
