-- Collect on entries and on the plain store's blocks, side by side, where the test of each held entry is that its block is not marked.
use Prim.Native.Nat.{ℕ, suc, ◌+◌, ◌<◌}
use mathlib.Core.Path.{◌≡◌, refl, sym, ap₂, ◌∙◌}
use mathlib.Core.Bool.{Bool, true, false, not, ◌&&◌, ◌||◌}
use mathlib.Core.List.{List, [], ◌∷◌, map}
use native.Mathlib.Nat.{add-zero, add-suc, suc-add}
use native.Mathlib.Omega.{arith}
use lib.Dec.{ltb, eqb}
use lib.ListN.{length, take, drop}
use Rattle.words.specs.Blocks.{block_size}
use Rattle.words.specs.Choice.{when◌then◌else◌}
use Rattle.words.proofs.ChoiceLaws.{and_true, true_and, not_both}
use Rattle.words.specs.Lists.{all, those, count_of, differ, same}
use Rattle.book.specs.Book.{Entry, entry_at}
use Rattle.book.specs.Next.{made_free}
use Rattle.model.specs.Collect.{is_over, swept_entry}
use Rattle.claims.proofs.claims.CollectLaws.{over-was-held}
use Rattle.model.specs.Plain.{Block, free, held, is_free, swept, swept_count}
use Rattle.model.specs.Sides.{blocks_in}
use Rattle.claims.proofs.agreement.BlocksIn.{block_of}

-- ---- one entry

pub over-held : (t : ℕ) (e : Entry) → e.held ≡ true → is_over t e ≡ (eqb e.count 0 && ltb e.expiry t)
unfolding is_over
over-held t e h = rw h

pub after-count : (t : ℕ) (e : Entry) → (swept_entry t e).count ≡ e.count
unfolding swept_entry made_free
after-count t e = go (is_over t e)
  where
    go : (o : Bool) → (when o then made_free e else e).count ≡ e.count
    go true = refl
    go false = refl

pub after-expiry : (t : ℕ) (e : Entry) → (swept_entry t e).expiry ≡ e.expiry
unfolding swept_entry made_free
after-expiry t e = go (is_over t e)
  where
    go : (o : Bool) → (when o then made_free e else e).expiry ≡ e.expiry
    go true = refl
    go false = refl

pub after-held : (t : ℕ) (e : Entry) → (swept_entry t e).held ≡ (e.held && not (is_over t e))
unfolding swept_entry made_free
after-held t e = go (is_over t e) e.held refl
  where
    go : (o h : Bool) → e.held ≡ h → (when o then made_free e else e).held ≡ (h && not o)
    go true true f = refl
    go true false f = refl
    go false true f = f
    go false false f = f

-- ---- blocks

after_block : (t : ℕ) (e : Entry) (c : List ℕ) (m : Bool) → (e.held ≡ true → is_over t e ≡ not m)
    → (when m then block_of e c else free) ≡ block_of (swept_entry t e) c
unfolding swept_entry made_free
after_block t e c m f = go (is_over t e) e.held m refl refl f
  where
    go : (o h m : Bool) → is_over t e ≡ o → e.held ≡ h → (h ≡ true → o ≡ not m)
        → (when m then (when h then held e.print c else free) else free) ≡ block_of (when o then made_free e else e) c
    go true true true a b f = absurd (not_both true refl (f refl))
    go true true false a b f = refl
    go true false m a b f = absurd (not_both e.held (over-was-held t e a) b)
    go false true true a b f = rw b
    go false true false a b f = absurd (not_both false (f refl) refl)
    go false false true a b f = rw b
    go false false false a b f = rw b

pub swept-blocks : (mark : ℕ → Bool) (t i : ℕ) (es : List Entry) (pool : List ℕ)
    → ((j : ℕ) → j < length es → (entry_at es j).held ≡ true → is_over t (entry_at es j) ≡ not (mark (i + j)))
    → swept mark i (blocks_in es pool) ≡ blocks_in (map (swept_entry t) es) pool
swept-blocks mark t i [] pool f = refl
swept-blocks mark t i (e ∷ es) pool f =
    ap₂ (λ (b : Block) (bs : List Block). b ∷ bs)
    (after_block t e (take block_size pool) (mark i) (λ h. rw add-zero at (f 0 (omega arith) h)))
    (swept-blocks mark t (suc i) es (drop block_size pool) (λ j k h. rw (suc-add i j, ← (add-suc i j)) (f (suc j) (omega arith) h)))

-- ---- how many

pub swept-count : (mark : ℕ → Bool) (t i : ℕ) (es : List Entry) (pool : List ℕ)
    → ((j : ℕ) → j < length es → (entry_at es j).held ≡ true → is_over t (entry_at es j) ≡ not (mark (i + j)))
    → swept_count mark i (blocks_in es pool) ≡ count_of (is_over t) es
swept-count mark t i [] pool f = refl
swept-count mark t i (e ∷ es) pool f =
    rw (swept-count mark t (suc i) es (drop block_size pool) (λ j k h. rw (suc-add i j, ← (add-suc i j)) (f (suc j) (omega arith) h)))
    (go (is_over t e) e.held (mark i) refl refl (λ h. rw add-zero at (f 0 (omega arith) h)))
  where
    go : (o h m : Bool) → is_over t e ≡ o → e.held ≡ h → (e.held ≡ true → is_over t e ≡ not m)
        → (when is_free (when h then held e.print (take block_size pool) else free) || m then 0 else 1) + count_of (is_over t) es
        ≡ (when o then suc (count_of (is_over t) es) else count_of (is_over t) es)
    go o false m a b f = rw (no o a b) (omega arith)
      where
        no : (o : Bool) → is_over t e ≡ o → e.held ≡ false → o ≡ false
        no true a b = absurd (not_both e.held (over-was-held t e a) b)
        no false a b = refl
    go o true true a b f = rw (sym a ∙ f b) (omega arith)
    go o true false a b f = rw (sym a ∙ f b) (omega arith)

-- ---- fingerprints: those that stay held differ

abbrev pub held_prints : List Entry → List (List ℕ)
held_prints es = map (λ e. e.print) (those (λ e. e.held) es)

-- of an entry and the others
all_held : (f : List ℕ → Bool) (e : Entry) (es : List Entry) → all f (held_prints (e ∷ es)) ≡ true → all f (held_prints es) ≡ true
all_held f e es h = go e.held h
  where
    go : (t : Bool) → all f (map (λ e. e.print) (when t then e ∷ those (λ e. e.held) es else those (λ e. e.held) es)) ≡ true
        → all f (held_prints es) ≡ true
    go true h = (and_true (f e.print) (all f (held_prints es)) h).1
    go false h = h

after-all : (f : List ℕ → Bool) (t : ℕ) (es : List Entry) → all f (held_prints es) ≡ true → all f (held_prints (map (swept_entry t) es)) ≡ true
unfolding swept_entry made_free
after-all f t [] h = refl
after-all f t (e ∷ es) h = go (is_over t e) e.held refl h (after-all f t es (all_held f e es h))
  where
    go : (o k : Bool) → e.held ≡ k
        → all f (map (λ e. e.print) (when k then e ∷ those (λ e. e.held) es else those (λ e. e.held) es)) ≡ true
        → all f (held_prints (map (swept_entry t) es)) ≡ true
        → all f (held_prints ((when o then made_free e else e) ∷ map (swept_entry t) es)) ≡ true
    go true k b h ih = ih
    go false true b h ih = rw b (true_and (f e.print) _ (and_true (f e.print) (all f (held_prints es)) h).0 ih)
    go false false b h ih = rw b ih

pub after-differ : (t : ℕ) (es : List Entry) → differ (held_prints es) ≡ true → differ (held_prints (map (swept_entry t) es)) ≡ true
unfolding swept_entry made_free
after-differ t [] h = refl
after-differ t (e ∷ es) h = go (is_over t e) e.held refl h (after-differ t es)
  where
    go : (o k : Bool) → e.held ≡ k
        → differ (map (λ e. e.print) (when k then e ∷ those (λ e. e.held) es else those (λ e. e.held) es)) ≡ true
        → (differ (held_prints es) ≡ true → differ (held_prints (map (swept_entry t) es)) ≡ true)
        → differ (held_prints ((when o then made_free e else e) ∷ map (swept_entry t) es)) ≡ true
    go true true b h ih = ih (and_true (all (λ y. not (same e.print y)) (held_prints es)) (differ (held_prints es)) h).1
    go true false b h ih = ih h
    go false true b h ih =
        let w = and_true (all (λ y. not (same e.print y)) (held_prints es)) (differ (held_prints es)) h in
        rw b
        (true_and (all (λ y. not (same e.print y)) (held_prints (map (swept_entry t) es))) (differ (held_prints (map (swept_entry t) es)))
        (after-all (λ y. not (same e.print y)) t es w.0)
        (ih w.1))
    go false false b h ih = rw b (ih h)
