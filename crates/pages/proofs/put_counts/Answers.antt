-- `put_counts`: after each call, the lines that follow are left to store.
use Prim.Native.Nat.{ℕ}
use mathlib.Core.Path.{refl}
use mathlib.Core.List.{List}
use native.Mathlib.Omega.{arith}
use lib.ListN.{drop}
use Rattle.words.proofs.LayingLaws.{Left, left-all, left-room, left-more, left-none}
use Rattle.words.specs.Lists.{joined}
use Rattle.pages.specs.Tally.{line, blocks_word, held_word, free_word, waiting_word, references_word}
use Rattle.counter.specs.declared.counts.Counts.{Counts}
use Rattle.pages.specs.Pages.{count_lines, counts_page}
use Rattle.pages.proofs.put_counts.Goals as goal

-- the lines from k on, as bytes
abbrev from : ℕ → Counts → ℕ → List ℕ
from n t k = joined (drop k (count_lines n t))

-- they are left to store
abbrev LeftFrom : List ℕ → ℕ → Counts → ℕ → List ℕ → ℕ → Type 0
LeftFrom page n t k out at = Left page 0 (counts_page n t) out at (from n t k)

pub put_line-held_at-requires : goal.put_line-held_at-requires
unfolding counts_page
put_line-held_at-requires c =
    let a = c.args in
    let whole : LeftFrom a.page.now a.n a.t 0 c.args.page.now 0 = left-all (omega (arith, c.requires)) in
    left-room whole (line blocks_word a.n) (from a.n a.t 1) refl

pub put_line-free_at-requires : goal.put_line-free_at-requires
unfolding counts_page
put_line-free_at-requires c =
    let a = c.args in
    let whole : LeftFrom a.page.now a.n a.t 0 c.args.page.now 0 = left-all (omega (arith, c.requires)) in
    let line1 : LeftFrom a.page.now a.n a.t 1 c.put_line-held_at.new.page c.put_line-held_at.result =
    left-more whole (line blocks_word a.n) (from a.n a.t 1) refl c.put_line-held_at.ensures
    in
    left-room line1 (line held_word a.t.held) (from a.n a.t 2) refl

pub put_line-waiting_at-requires : goal.put_line-waiting_at-requires
unfolding counts_page
put_line-waiting_at-requires c =
    let a = c.args in
    let whole : LeftFrom a.page.now a.n a.t 0 c.args.page.now 0 = left-all (omega (arith, c.requires)) in
    let line1 : LeftFrom a.page.now a.n a.t 1 c.put_line-held_at.new.page c.put_line-held_at.result =
    left-more whole (line blocks_word a.n) (from a.n a.t 1) refl c.put_line-held_at.ensures
    in
    let line2 : LeftFrom a.page.now a.n a.t 2 c.put_line-free_at.new.page c.put_line-free_at.result =
    left-more line1 (line held_word a.t.held) (from a.n a.t 2) refl c.put_line-free_at.ensures
    in
    left-room line2 (line free_word a.t.free) (from a.n a.t 3) refl

pub put_line-references_at-requires : goal.put_line-references_at-requires
unfolding counts_page
put_line-references_at-requires c =
    let a = c.args in
    let whole : LeftFrom a.page.now a.n a.t 0 c.args.page.now 0 = left-all (omega (arith, c.requires)) in
    let line1 : LeftFrom a.page.now a.n a.t 1 c.put_line-held_at.new.page c.put_line-held_at.result =
    left-more whole (line blocks_word a.n) (from a.n a.t 1) refl c.put_line-held_at.ensures
    in
    let line2 : LeftFrom a.page.now a.n a.t 2 c.put_line-free_at.new.page c.put_line-free_at.result =
    left-more line1 (line held_word a.t.held) (from a.n a.t 2) refl c.put_line-free_at.ensures
    in
    let line3 : LeftFrom a.page.now a.n a.t 3 c.put_line-waiting_at.new.page c.put_line-waiting_at.result =
    left-more line2 (line free_word a.t.free) (from a.n a.t 3) refl c.put_line-waiting_at.ensures
    in
    left-room line3 (line waiting_word a.t.waiting) (from a.n a.t 4) refl

pub put_line-requires : goal.put_line-requires
unfolding counts_page
put_line-requires c =
    let a = c.args in
    let whole : LeftFrom a.page.now a.n a.t 0 c.args.page.now 0 = left-all (omega (arith, c.requires)) in
    let line1 : LeftFrom a.page.now a.n a.t 1 c.put_line-held_at.new.page c.put_line-held_at.result =
    left-more whole (line blocks_word a.n) (from a.n a.t 1) refl c.put_line-held_at.ensures
    in
    let line2 : LeftFrom a.page.now a.n a.t 2 c.put_line-free_at.new.page c.put_line-free_at.result =
    left-more line1 (line held_word a.t.held) (from a.n a.t 2) refl c.put_line-free_at.ensures
    in
    let line3 : LeftFrom a.page.now a.n a.t 3 c.put_line-waiting_at.new.page c.put_line-waiting_at.result =
    left-more line2 (line free_word a.t.free) (from a.n a.t 3) refl c.put_line-waiting_at.ensures
    in
    let line4 : LeftFrom a.page.now a.n a.t 4 c.put_line-references_at.new.page c.put_line-references_at.result =
    left-more line3 (line waiting_word a.t.waiting) (from a.n a.t 4) refl c.put_line-references_at.ensures
    in
    left-room line4 (line references_word a.t.references) (from a.n a.t 5) refl

pub returns : goal.returns
unfolding counts_page
returns c =
    let a = c.args in
    let whole : LeftFrom a.page.now a.n a.t 0 c.args.page.now 0 = left-all (omega (arith, c.requires)) in
    let line1 : LeftFrom a.page.now a.n a.t 1 c.put_line-held_at.new.page c.put_line-held_at.result =
    left-more whole (line blocks_word a.n) (from a.n a.t 1) refl c.put_line-held_at.ensures
    in
    let line2 : LeftFrom a.page.now a.n a.t 2 c.put_line-free_at.new.page c.put_line-free_at.result =
    left-more line1 (line held_word a.t.held) (from a.n a.t 2) refl c.put_line-free_at.ensures
    in
    let line3 : LeftFrom a.page.now a.n a.t 3 c.put_line-waiting_at.new.page c.put_line-waiting_at.result =
    left-more line2 (line free_word a.t.free) (from a.n a.t 3) refl c.put_line-waiting_at.ensures
    in
    let line4 : LeftFrom a.page.now a.n a.t 4 c.put_line-references_at.new.page c.put_line-references_at.result =
    left-more line3 (line waiting_word a.t.waiting) (from a.n a.t 4) refl c.put_line-references_at.ensures
    in
    let line5 : LeftFrom a.page.now a.n a.t 5 c.put_line.new.page c.put_line.result =
    left-more line4 (line references_word a.t.references) (from a.n a.t 5) refl c.put_line.ensures
    in
    left-none line5 refl
