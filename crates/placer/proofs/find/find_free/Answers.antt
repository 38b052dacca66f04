-- From the cursor up, else below it.
use borrow.Author.Rules.{rules}
use mathlib.Core.Path.{sym, ap₂, ◌∙◌}
use Prim.Native.Nat.{ℕ}
use Rattle.book.specs.Book.{is_free}
use Rattle.book.specs.Layout.{book_of}
use Rattle.finder.specs.Answers.{found_of}
use Rattle.placer.specs.Search.{place_in}
use Rattle.placer.proofs.Finding.{free-found}
use Rattle.placer.proofs.find.find_free.Goals as goal

pub returns : goal.returns
returns c =
    let x = book_of c.args.book.now in
    let n = c.blocks-n.ensures ∙ sym c.requires.holds.sized.entries in
    let up = c.first_free.ensures ∙ ap₂ (λ (i n : ℕ). found_of (place_in is_free x.entries i n)) c.cursor-cursor.ensures n in
    free-found x.entries x.cursor _ _ _ up (λ q. search rules) c.or_else.ensures
