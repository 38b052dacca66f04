-- The page as the code comes to it: by what refuses the input, and by the counts of a book's entries.
use Rattle.std.specs.Prelude.{ℕ, List, [], ◌∷◌}
use Rattle.words.specs.Lists.{joined}
use Rattle.pages.specs.Tally.{line, blocks_word, held_word, free_word, waiting_word, references_word}
use Rattle.counter.specs.declared.counts.Counts.{Counts}

-- the five lines, one by one and as the page that they are
abbrev pub count_lines : ℕ → Counts → List (List ℕ)
count_lines n t =
    line blocks_word n
    ∷ line held_word t.held
    ∷ line free_word t.free
    ∷ line waiting_word t.waiting
    ∷ line references_word t.references
    ∷ []

unfoldable pub counts_page : ℕ → Counts → List ℕ
counts_page n t = joined (count_lines n t)

-- the bytes that a page has room in: the longest page of a book of at most 65,536 bytes has 65 (`longest_page` in proofs/Case.antt)
abbrev pub page_room : ℕ
page_room = 80
