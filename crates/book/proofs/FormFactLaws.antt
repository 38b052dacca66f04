-- Laws of specs/FormFacts.antt.
-- What a call knows of a book in form.
use Prim.Native.Nat.{ℕ, ◌<◌}
use mathlib.Core.Path.{◌≡◌}
use mathlib.Core.List.{List}
use lib.ListN.{get_or}
use Rattle.book.specs.Layout.{current, book_of}
use Rattle.book.specs.Form.{form_as, form_number}
use Rattle.book.proofs.Clauses.{book-parts}
use Rattle.book.proofs.SizesIn.{sizes_as_lem}
use Rattle.book.proofs.FormBytes.{holds_as, book_as}
use Rattle.book.specs.FormFacts.{FormFactsAs, FormFacts}

pub facts_as : (g : ℕ) (b : List ℕ) → ((i : ℕ) → get_or b i 0 < 256) → form_as g b ≡ 0 → FormFactsAs g b
facts_as g b small e =
    let f = book_as g b e in
    record {
      holds = holds_as g b small e;
      layout = (sizes_as_lem g (book_of b).sizes f.0).layout;
      parts = book-parts (book_of b) f.1;
    }

pub form-facts : (b : List ℕ) → ((i : ℕ) → get_or b i 0 < 256) → form_number b ≡ 0 → FormFacts b
form-facts b small e = facts_as current b small e
