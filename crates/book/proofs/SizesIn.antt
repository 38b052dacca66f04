-- The layout number, and N, L, S and J within what document 01 allows, as facts.
use Prim.Native.Nat.{ℕ, ◌≤◌}
use mathlib.Core.Path.{◌≡◌}
use mathlib.Core.Bool.{true, ◌&&◌}
use lib.Dec.{leb, eqb}
use borrow.Author.Tests.{leb-true, eqb-true, le-leb, eq-eqb}
use Rattle.words.proofs.ChoiceLaws.{and_true}
use Rattle.book.specs.Book.{Sizes}
use Rattle.book.specs.Layout.{current}
use Rattle.book.specs.Form.{between, sizes_as, sizes_ok}
use Rattle.book.specs.FormFacts.{SizesIn}

between-facts : (low high k : ℕ) → between low high k ≡ true → (low ≤ k) × (k ≤ high)
unfolding between
between-facts low high k e = let t = and_true (leb low k) (leb k high) e in (leb-true low k t.0, leb-true k high t.1)

pub sizes_as_lem : (g : ℕ) (z : Sizes) → sizes_as g z ≡ true → SizesIn g z
unfolding sizes_as
sizes_as_lem g z e =
    let k = eqb z.layout g in
    let n = between 1 4096 z.n in
    let l = between 1 1024 z.l in
    let s = between 1 1024 z.s in
    let j = between 1 16384 z.j in
    let t₁ = and_true (k && n && l && s) j e in
    let t₂ = and_true (k && n && l) s t₁.0 in
    let t₃ = and_true (k && n) l t₂.0 in
    let t₄ = and_true k n t₃.0 in
    let fn = between-facts 1 4096 z.n t₄.1 in
    let fl = between-facts 1 1024 z.l t₃.1 in
    let fs = between-facts 1 1024 z.s t₂.1 in
    let fj = between-facts 1 16384 z.j t₁.1 in
    record {
      layout = eqb-true z.layout g t₄.0;
      n₀ = fn.0;
      n = fn.1;
      l₀ = fl.0;
      l = fl.1;
      s₀ = fs.0;
      s = fs.1;
      j₀ = fj.0;
      j = fj.1;
    }

pub sizes-facts : (z : Sizes) → sizes_ok z ≡ true → SizesIn current z
sizes-facts z e = sizes_as_lem current z e

pub sizes_in_lem : (g : ℕ) (z : Sizes) → SizesIn g z → sizes_as g z ≡ true
unfolding sizes_as between
sizes_in_lem g z h =
    rw (
      eq-eqb z.layout g h.layout,
      le-leb 1 z.n h.n₀,
      le-leb z.n 4096 h.n,
      le-leb 1 z.l h.l₀,
      le-leb z.l 1024 h.l,
      le-leb 1
          z.s h.s₀,
      le-leb z.s 1024 h.s,
      le-leb 1 z.j h.j₀,
    )
    (le-leb z.j 16384 h.j)
