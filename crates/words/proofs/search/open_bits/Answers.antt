-- `words::search::open_bits` meets its contract. Assumes nothing.
use Rattle.words.proofs.OpenWords.{open_word}
use Rattle.words.proofs.search.open_bits.Goals as goal

pub returns : goal.returns
returns c =
    let j = c.args.j in
    open_word c.args.words.now c.args.marks.now j (c.shared_slice_known-1.given j).fits (c.shared_slice_known-2-1.given j).fits
