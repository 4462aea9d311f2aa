use Rattle.book.proofs.Laws.{image_reads, held_good, images_differ}
use Rattle.book.proofs.Values.{opened_if}
use Rattle.book.proofs.layout.read_book.Goals as goal

pub returns : goal.returns
returns c =
    let o = c.read_whole.ensures in
    record { book = opened_if c.args.words.now c.read_whole.result o; opened = o; back = image_reads; good = held_good; differ = images_differ }
